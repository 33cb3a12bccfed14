-- So many steps are left, so many crossings were counted, and so many frames are live.
use Rattle.std.proofs.Common.{◌≡◌, length}
use Rattle.switch_frame.specs.Records.{isa_of}
use Rattle.mixed_machine.specs.laws.Crossings.{Counting}
use Rattle.mixed_machine.specs.Machine.{IsWhole, callers_of, flat}
use Rattle.mix_top.specs.Samples.{nothing}
use Rattle.mix_top.proofs.sample_run.count_crossings.Given as goal

abbrev pub decreases-steps : goal.decreases-steps
decreases-steps l = l.left

abbrev pub invariant-steps : goal.invariant-steps
invariant-steps l = record {
  frames : l.frames ≡ length (callers_of l.machine.body);
  whole : IsWhole l.machine.body (isa_of l.machine.active);
  counting : Counting l.steps l.left (flat l.initial.machine.body l.initial.machine.active nothing) (flat l.machine.body l.machine.active nothing) l.calls l.returns;
}
