-- Kept calls and what is passed to them, as the definitions have them.
use Rattle.std.specs.Prelude.{ℕ, List, Result, Ok, Err}
use Rattle.big_memory.specs.declared.refusals.Access.{Access}
use Rattle.proc_info.specs.Views.{signature}
use Rattle.args_m68.specs.Arguments.{words_of}
use Rattle.switch_frame.specs.declared.active.Active.{Active}
use Rattle.switch_frame.specs.Files.{at_pc}
use Rattle.mode_switch.specs.declared.wanted.Call.{Call}
use Rattle.mode_switch.specs.declared.wanted.Wanted.{Wanted}
use Rattle.mode_switch.specs.declared.wanted.Wanted.TheVariants.{Calls, Jumps, Refuses}
use Rattle.mode_switch.specs.declared.passed.Passed.{Passed}
use Rattle.mode_switch.specs.Wanted.{Crossing, Want}
use Rattle.mode_switch.specs.Wanted.Want.{Calls as IsCall, Jumps as IsJump, Refuses as IsRefusal}
use Rattle.mode_switch.specs.Passed.{Passage}

abbrev pub crossing : Call → Crossing
crossing call =
    record { kind = call.kind; info = call.info; sig = signature call.sig; selector = call.selector; passes = call.passes; target = call.target }

abbrev pub wanted_of : Wanted → Want
wanted_of (Calls call) = IsCall (crossing call)
wanted_of (Jumps target) = IsJump target
wanted_of (Refuses fault) = IsRefusal fault

-- what is passed, beside the caller as it goes on behind the call
abbrev pub args_of : Passed → List ℕ
args_of p = words_of p.args

abbrev pub passage : Active → Passed → Passage
passage caller p = record { caller = caller; entry = p.entry; args = args_of p }

abbrev pub answered : Active → Result Passed Access → Result Passage Access
answered caller (Ok p) = Ok (passage caller p)
answered caller (Err e) = Err e

-- the caller at the pc behind its call
abbrev pub going_on : Active → Result ℕ Access → Result Active Access
going_on active (Ok pc) = Ok (at_pc pc active)
going_on active (Err e) = Err e
