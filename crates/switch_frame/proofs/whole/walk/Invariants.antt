use Rattle.std.proofs.Common.{◌≡◌, ◌-◌}
use Rattle.switch_frame.specs.Checks.{walk}
use Rattle.switch_frame.proofs.whole.walk.Given as goal

abbrev pub invariant-frames : goal.invariant-frames
invariant-frames l = walk l.ram l.main 256 0 l.fn.active l.top ≡ walk l.ram l.main (256 - l.count) l.count l.callee l.lo
