use Rattle.std.proofs.Common.{ap, ◌∙◌}
use Rattle.std.proofs.lemmas.List.{take-replicate}
use Rattle.big_memory.specs.Memory.{with_bytes}
use Rattle.switch_frame.proofs.frames.put_zeros.Goals as goal

pub returns-in_default : goal.returns-in_default
returns-in_default c =
    c.fix-in_default.ensures ∙ ap (λ ys. with_bytes c.args.lo ys c.args.ram.now) (take-replicate c.args.size 192 0 c.requires.small)
