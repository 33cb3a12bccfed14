use Rattle.std.proofs.Common.{◌≡◌, ◌<◌, ◌≤◌, ◌^◌, length}
use Rattle.pef_reloc.specs.Pattern.{number_after}
use Rattle.pef_reloc.specs.inner.Pattern.{number_in}
use Rattle.pef_reloc.proofs.number.read_number.Given as goal

abbrev pub invariant-loop-rest : goal.invariant-loop-rest
invariant-loop-rest l = record { same : number_after l.value l.rest ≡ number_in l.from; small : l.value < 2 ^ 32; less : length l.rest ≤ length l.from }

abbrev pub decreases-loop-rest : goal.decreases-loop-rest
decreases-loop-rest l = length l.rest
