-- A step at a gate: a return into the innermost suspended caller, or the end of the program.
use Rattle.std.specs.Prelude.{ℕ, ◌==◌, Bool, ◌&&◌, if◌then◌else◌, List, [], ◌∷◌, Result, Ok, Err}
use Rattle.mix_bits.specs.declared.isa.Isa.{Isa}
use Rattle.mix_bits.specs.declared.fault.FaultKind.TheVariants.{Unmatched}
use Rattle.mix_bits.specs.Isas.{is_isa}
use Rattle.big_memory.specs.declared.refusals.Access.{Access}
use Rattle.big_memory.specs.Map.{exit_gate, return_gate}
use Rattle.proc_info.specs.Signature.{Signature, signature_in}
use Rattle.switch_frame.specs.declared.active.Active.{Active}
use Rattle.switch_frame.specs.Sets.{callee_isa}
use Rattle.switch_frame.specs.Files.{pc_of, sp_of}
use Rattle.switch_frame.specs.Records.{Record, isa_of}
use Rattle.mode_switch.specs.Returned.{Returned, given_back}
use Rattle.call_trace.specs.Lines.{ret_line}
use Rattle.mixed_machine.specs.State.{State, seen, with_seen}
use Rattle.mixed_machine.specs.Next.{Next, faults, access_fault, traced}
use Rattle.mixed_machine.specs.Next.Next.{Goes, Exits}

-- another stack pointer or set than the one expected
abbrev pub unmatched : State → ℕ → Next
unmatched s expected = faults s Unmatched (sp_of s.active) expected

-- the caller goes on behind the call, with the result in its place. A result that is stored is stored while the
-- frame is live; then the frame is given up
abbrev pub leaves_with : State → List Record → Signature → Result Returned Access → Next
leaves_with s outer sig (Ok d) =
    Goes (record (with_seen d.memory s) { active = d.file; callers = outer }) (traced (ret_line sig d.value))
leaves_with s outer sig (Err e) = access_fault s e

-- by the signature of the call: every live frame's procInfo has one
unfoldable pub leaves : State → Record → List Record → Next
leaves s r outer =
    leaves_with s outer (signature_in r.info) (given_back (seen s) (signature_in r.info) s.active r.caller)

-- whether a callee is at its return gate, with the stack pointer that is expected of it
abbrev pub is_return : Active → Record → Bool
is_return active r = (pc_of active == return_gate (isa_of active)) && (is_isa (callee_isa r.kind) (isa_of active) && (sp_of active == r.want))

-- whether the main program is at its exit gate, with the stack pointer that is expected of it
abbrev pub is_exit : Isa → ℕ → Active → Bool
is_exit main start_sp active = (pc_of active == exit_gate (isa_of active)) && (is_isa main (isa_of active) && (sp_of active == start_sp))

abbrev pub at_gate_of : State → List Record → Next
at_gate_of s [] = if is_exit s.main s.start_sp s.active then Exits 0 else unmatched s s.start_sp
at_gate_of s (r ∷ outer) = if is_return s.active r then leaves s r outer else unmatched s r.want

unfoldable pub at_gate : State → Next
at_gate s = at_gate_of s s.callers
