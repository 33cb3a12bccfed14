-- The counts of faults over several calls.
use Rattle.std.proofs.Common.{Option, None, Some, refl, ◌∙◌, subst}
use Rattle.mix_io.specs.Counts.{Rose}
use Rattle.toolbox.specs.Blames.{BlamesOnly, Calm, Counts}
use Rattle.toolbox.specs.declared.broken.Broken.{Broken}
use Rattle.toolbox.specs.declared.broken.Broken.TheVariants.{Input, Output, Trace}

pub calm-first : (x : Counts) → Calm x x
calm-first x = record { input = refl; out = refl; trace = refl }

pub blamed-after : (broken : Option Broken) (x y z : Counts) → Calm x y → BlamesOnly broken y z → BlamesOnly broken x z
blamed-after None x y z calm more = record { input = more.input ∙ calm.input; out = more.out ∙ calm.out; trace = more.trace ∙ calm.trace }
blamed-after (Some Input) x y z calm more =
    record { input = subst (λ n. Rose n z.input) calm.input more.input; out = more.out ∙ calm.out; trace = more.trace ∙ calm.trace }
blamed-after (Some Output) x y z calm more =
    record { input = more.input ∙ calm.input; out = subst (λ n. Rose n z.out) calm.out more.out; trace = more.trace ∙ calm.trace }
blamed-after (Some Trace) x y z calm more =
    record { input = more.input ∙ calm.input; out = more.out ∙ calm.out; trace = subst (λ n. Rose n z.trace) calm.trace more.trace }
