-- What a step keeps beside the machine.
use Rattle.std.specs.Prelude.{◌≡◌, ℕ, Bool, true, false, List, ◌∷◌, length}
use Rattle.switch_frame.specs.declared.active.Active.{Active}
use Rattle.switch_frame.specs.Records.{isa_of}
use Rattle.host_heap.specs.declared.block.Block.{Block}
use Rattle.dev_rack.specs.Accounts.{Accounts}
use Rattle.toolbox.specs.CallsClauses.{counts_beside}
use Rattle.mixed_machine.specs.declared.stop.Stop.{Stop}
use Rattle.mixed_machine.specs.CountsClauses.{Blames}
use Rattle.mixed_machine.specs.Machine.{IsWhole}
use Rattle.mixed_machine.specs.OutsideClauses.{At}
use Rattle.mixed_machine.specs.RunsClauses.{Runs}
use Rattle.mix_engine.specs.declared.machine.Machine.{Machine}
use Rattle.mix_debug.specs.declared.history.History.{History}
use Rattle.mix_debug.specs.WrittenBack.{olds_of}
use Rattle.mix_debug.specs.Changes.{runs_from}
use Rattle.mix_debug.specs.Entries.{Entry}
use Rattle.mix_debug.specs.inner.Entries.{block_between, frame_between}
use Rattle.mix_debug.specs.Pasts.{entries_in}
use Rattle.mix_debug.specs.Machines.{earlier}
use Rattle.mix_debug.specs.CostsClauses.{cost_between, fitting}
use Rattle.mix_debug.specs.Trails.{history_room}
use Rattle.mix_debug.specs.TrailsClauses.{is_done}
use Rattle.mix_debug.specs.Histories.{IsHistory}

-- what is kept of a step that led from registers, frames, bytes and blocks to a machine
unfoldable pub entry_of : Active → ℕ → List ℕ → List Block → Machine → Entry
entry_of file top bytes blocks new =
    record {
      head = record {
        file = file;
        top = top;
        frame = frame_between top new.body.top (isa_of file) (isa_of new.active);
        block = block_between blocks new.body.heap.blocks;
        runs = length (runs_from 0 bytes new.body.ram.bytes);
        olds = length (olds_of (runs_from 0 bytes new.body.ram.bytes));
      };
      runs = runs_from 0 bytes new.body.ram.bytes;
    }

-- a step from one machine to another is kept beside them, with as many earlier ones as there is room for; one that is not
-- done changes neither the machine nor what is kept
abbrev pub KeepsBeside : Bool → Machine → Machine → History → History → Type 0
KeepsBeside true old new before after =
    earlier new (entries_in after.past) ≡ fitting history_room (record { machine = old; cost = cost_between old new } ∷ earlier old (entries_in before.past))
KeepsBeside false old new before after = (new ≡ old) × (entries_in after.past ≡ entries_in before.past)

-- a step of a machine, with what is kept beside it; how it stopped, and what the outside tells before and after
pub record Advances (old new : Machine) (before after : History) (from to : At) (stop : Stop) : Type 0 where
  pub whole : IsWhole new.body (isa_of new.active)
  pub history : IsHistory new after
  pub run : Runs 1 from to stop
  pub blames : Blames stop (counts_beside from.outside from.trace) (counts_beside to.outside to.trace)
  pub devices : Accounts from.outside.rack to.outside.rack
  pub keeps : KeepsBeside (is_done stop) old new before after
