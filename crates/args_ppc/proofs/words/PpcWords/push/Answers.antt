use Rattle.std.proofs.Common.{◌+◌, ◌-◌, drop, replicate, sym, ap, ◌∙◌, arith}
use Rattle.std.proofs.lemmas.List.{drop-drop, drop-replicate, drop-set-lt}
use Rattle.args_ppc.proofs.words.PpcWords.push.Goals as goal

pub returns-clause-rest : goal.returns-clause-rest
returns-clause-rest c =
    let count = c.args.self.now.count in
    drop-set-lt (count + 1) c.args.self.now.value count c.args.word (omega arith)
    ∙ sym (drop-drop 1 count c.args.self.now.value)
    ∙ ap (drop 1) c.requires.rest
    ∙ drop-replicate 1 (13 - count) 0
    ∙ ap (λ n. replicate n 0) (omega arith)
