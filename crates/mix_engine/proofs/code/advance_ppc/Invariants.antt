-- The steps done so far are the code's own.
use Rattle.std.proofs.Common.{◌≡◌, ◌-◌, ◌<◌, ◌≤◌}
use Rattle.mix_bits.specs.declared.isa.Isa.TheVariants.{Ppc as set_ppc}
use Rattle.switch_frame.specs.declared.active.Active.TheVariants.{Ppc}
use Rattle.mixed_machine.specs.Machine.{IsWhole}
use Rattle.ppc_core.specs.Fetch.{places_of}
use Rattle.mix_engine.specs.inner.Cores.{AreOwn}
use Rattle.mix_engine.proofs.code.advance_ppc.Given as goal

abbrev pub decreases-codes : goal.decreases-codes
decreases-codes l = l.count

abbrev pub invariant-codes : goal.invariant-codes
invariant-codes l =
    record {
      whole : IsWhole l.body set_ppc;
      some : 0 < l.count;
      fewer : l.count ≤ l.initial.count;
      rest : l.left ≡ 1;
      places : l.places ≡ places_of l.body.ram;
      own : AreOwn (l.initial.count - l.count) (Ppc l.initial.regs) (Ppc l.regs) l.initial.body l.body;
    }
