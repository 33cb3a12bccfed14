use Rattle.std.proofs.Common.{◌≡◌, ℕ, ◌+◌, ◌≤◌, List, length, sym, ap, ◌∙◌}
use Rattle.std.proofs.lemmas.Result.{err_from_is_err_and}
use Rattle.big_memory.proofs.Lists.{length-put}
use Rattle.big_memory.specs.Memory.{Memory, with_bytes}
use Rattle.mix_load.proofs.sections.put_pattern.Goals as goal

fits : (base total room : ℕ) (xs ys : List ℕ) → ys ≡ xs → length xs ≡ total → base + total ≤ room → base + length ys ≤ room
fits base total room xs ys same len le = rw (same, len) le

pub returns-in_err-bytes-clause-refusal : goal.returns-in_err-bytes-clause-refusal
returns-in_err-bytes-clause-refusal c =
    let p = err_from_is_err_and c.from_residual.result c.from_residual.ensures.1 in
    rw (p.1, p.2) (λ real. c.in_err-bytes.ensures.refusal real)

pub returns-in_err-bytes-clause-memory : goal.returns-in_err-bytes-clause-memory
returns-in_err-bytes-clause-memory c =
    let p = err_from_is_err_and c.from_residual.result c.from_residual.ensures.1 in
    rw p.1 tt

pub returns-in_err-bytes-clause-size : goal.returns-in_err-bytes-clause-size
returns-in_err-bytes-clause-size c =
    let p = err_from_is_err_and c.from_residual.result c.from_residual.ensures.1 in
    rw p.1 tt

pub fix-requires : goal.fix-requires
fix-requires c = fits c.args.base c.args.section.total (length c.args.ram.now.bytes) _ _ c.deref.ensures.value c.in_ok-bytes.ensures.len c.requires.fits

pub returns-clause-refusal : goal.returns-clause-refusal
returns-clause-refusal c = c.in_ok-bytes.ensures.refusal

pub returns-clause-memory : goal.returns-clause-memory
returns-clause-memory c = c.fix.ensures ∙ ap (λ (bytes : List ℕ). with_bytes c.args.base bytes c.args.ram.now) (c.deref.ensures.value ∙ c.in_ok-bytes.ensures.is)

pub returns-clause-size : goal.returns-clause-size
returns-clause-size c = sym (ap (λ (bytes : List ℕ). length bytes) c.in_ok-bytes.ensures.is) ∙ c.in_ok-bytes.ensures.len

pub returns-clause-len : goal.returns-clause-len
returns-clause-len c =
    ap (λ (m : Memory). length m.bytes) c.fix.ensures
    ∙ length-put c.args.base c.deref.result.now c.args.ram.now.bytes
    (fits c.args.base c.args.section.total (length c.args.ram.now.bytes) _ _ c.deref.ensures.value c.in_ok-bytes.ensures.len c.requires.fits)
