-- A flag is a bit.
use Rattle.std.proofs.Common.{◌==◌, ap, ◌∙◌}
use Rattle.std.specs.Int.RustNames.{bit_and}
use Rattle.routine_desc.proofs.Bits.{bit-test}
use Rattle.routine_desc.proofs.flags.RoutineFlags.is_in.Goals as goal

pub returns : goal.returns
returns c =
    c.contains.ensures tt ∙ ap (λ f. bit_and f c.args.self.0 == c.args.self.0) (c.from_bits_retain.ensures tt)
    ∙ bit-test c.args.flags c.args.self.0 c.requires
