use Rattle.std.proofs.Common.{◌==◌, arith, sym, ap, ◌∙◌}
use Rattle.std.proofs.lemmas.Nat.Bits.{shr_and_one}
use Rattle.big_memory.proofs.Packed.{length-marks, get_or-marks_at}
use Rattle.big_memory.proofs.marks.is_marked.Goals as goal

pub bounds-guard-unit : goal.bounds-guard-unit
bounds-guard-unit c = omega (arith, length-marks c.args.guard.now)

pub returns : goal.returns
returns c = ap (λ bit. bit == 1) (shr_and_one _ _) ∙ sym (get_or-marks_at c.args.guard.now c.args.unit c.requires)
