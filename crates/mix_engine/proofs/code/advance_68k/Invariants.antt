-- The steps done so far are the code's own.
use Rattle.std.proofs.Common.{◌≡◌, ◌-◌, ◌<◌, ◌≤◌}
use Rattle.mix_bits.specs.declared.isa.Isa.TheVariants.{M68 as set_m68}
use Rattle.switch_frame.specs.declared.active.Active.TheVariants.{M68}
use Rattle.mixed_machine.specs.Machine.{IsWhole}
use Rattle.m68_core.specs.Fetch.{places_of}
use Rattle.mix_engine.specs.inner.Cores.{AreOwn}
use Rattle.mix_engine.proofs.code.advance_68k.Given as goal

abbrev pub decreases-codes : goal.decreases-codes
decreases-codes l = l.count

abbrev pub invariant-codes : goal.invariant-codes
invariant-codes l =
    record {
      whole : IsWhole l.body set_m68;
      some : 0 < l.count;
      fewer : l.count ≤ l.initial.count;
      rest : l.left ≡ 1;
      places : l.places ≡ places_of l.body.ram;
      own : AreOwn (l.initial.count - l.count) (M68 l.initial.regs) (M68 l.regs) l.initial.body l.body;
    }
