use Rattle.std.proofs.Common.{◌*◌, ap, ◌∙◌, sym, Ok}
use Rattle.std.proofs.lemmas.Result.{err_from_is_err_and}
use Rattle.mix_load.proofs.Loads.{fails-flat, fails-fork, fails-pef, loads}
use Rattle.mix_load.proofs.loader.load.Goals as goal

pub returns-in_err-none-clause-is : goal.returns-in_err-none-clause-is
returns-in_err-none-clause-is c =
    let p = err_from_is_err_and c.from_residual.result c.from_residual.ensures.1 in
    rw (p.1, p.2) (λ real. absurd (real c.in_err-none.ensures.memory))

pub returns-in_err-flat-clause-is : goal.returns-in_err-flat-clause-is
returns-in_err-flat-clause-is c =
    let p = err_from_is_err_and c.from_residual-in_err-flat.result c.from_residual-in_err-flat.ensures.1 in
    rw (p.1, p.2) (λ real. fails-flat c.args.files.now c.args.main (1024 * c.args.kib) c.in_ok-none.none _
    c.in_ok-none.ensures.is (c.in_err-flat.ensures.is real))

pub returns-in_err-fork-clause-is : goal.returns-in_err-fork-clause-is
returns-in_err-fork-clause-is c =
    let p = err_from_is_err_and c.from_residual-in_err-fork.result c.from_residual-in_err-fork.ensures.1 in
    rw (p.1, p.2) (λ real. fails-fork c.args.files.now c.args.main (1024 * c.args.kib) c.in_ok-none.none c.in_ok-flat.flat _
    c.in_ok-none.ensures.is c.in_ok-flat.ensures.is (c.in_err-fork.ensures.is real))

pub returns-in_err-whole-clause-is : goal.returns-in_err-whole-clause-is
returns-in_err-whole-clause-is c =
    let p = err_from_is_err_and c.from_residual-in_err-whole.result c.from_residual-in_err-whole.ensures.1 in
    rw (p.1, p.2) (λ real. fails-pef c.args.files.now c.args.main (1024 * c.args.kib) c.in_ok-none.none c.in_ok-flat.flat c.in_ok-fork.fork _
    c.in_ok-none.ensures.is c.in_ok-flat.ensures.is c.in_ok-fork.ensures.is (c.in_err-whole.ensures.is real))

pub returns-clause-is : goal.returns-clause-is
returns-clause-is c =
    loads c.args.files.now c.args.main (1024 * c.args.kib) c.in_ok-none.none c.in_ok-flat.flat c.in_ok-fork.fork c.in_ok-whole.whole
    c.in_ok-none.ensures.is c.in_ok-flat.ensures.is c.in_ok-fork.ensures.is c.in_ok-whole.ensures.is
    ∙ ap Ok (sym c.program.ensures.is)
