-- What code wants when it switches modes: 68K code by a routine descriptor at its pc, PowerPC code by the host function
-- CallUniversalProc (Inside Macintosh: PowerPC System Software, chapter 2; the order of the tests is this project's own).
use Rattle.std.specs.Prelude.{ℕ, ◌==◌, Bool, true, false, not, ◌&&◌, if◌then◌else◌, List, [], ◌∷◌, Option, Some, None, unwrap_or, Result, Ok, Err}
use Rattle.std.specs.Option.{ok_or}
use Rattle.std.specs.Result.{result_map_both}
use Rattle.mix_bits.specs.Results.{◌>>=◌}
use Rattle.mix_bits.specs.declared.fault.Fault.{Fault}
use Rattle.mix_bits.specs.declared.fault.FaultKind.TheVariants.{BadDesc as IsBadDesc, Info as IsInfo, Mismatch, NoRecord}
use Rattle.mix_bits.specs.declared.isa.Isa.{Isa}
use Rattle.mix_bits.specs.declared.isa.Isa.TheVariants.{M68 as set_m68, Ppc as set_ppc}
use Rattle.mix_bits.specs.declared.size.Size.TheVariants.{Two}
use Rattle.big_memory.specs.declared.refusals.Access.{Access}
use Rattle.mix_bits.specs.Faults.{fault_at}
use Rattle.big_memory.specs.Faults.{fault_of}
use Rattle.big_memory.specs.Memory.{Memory, loaded}
use Rattle.proc_info.specs.Codes.{bad_info_code, is_dispatched}
use Rattle.proc_info.specs.Signature.{Signature, signature_in, signature_of}
use Rattle.routine_desc.specs.declared.record.Rec.{Rec}
use Rattle.routine_desc.specs.declared.record.BadDesc.{BadDesc}
use Rattle.routine_desc.specs.declared.record.BadDesc.TheVariants.{Access as IsAccess}
use Rattle.routine_desc.specs.RefusalCodes.{bad_desc_code}
use Rattle.routine_desc.specs.Layout.{has_flag, mixed_mode_magic}
use Rattle.routine_desc.specs.Read.{desc_of}
use Rattle.routine_desc.specs.Choice.{choice}
use Rattle.m68_isa.specs.declared.registers.Regs68.{Regs68}
use Rattle.ppc_isa.specs.declared.registers.RegsPpc.{RegsPpc}
use Rattle.args_m68.specs.Gather.{selector_in as selector_in_68k}
use Rattle.args_ppc.specs.Words.{selector_in as selector_in_ppc}
use Rattle.switch_frame.specs.declared.kind.Kind.{Kind}
use Rattle.switch_frame.specs.declared.kind.Kind.TheVariants.{PpcToM68}
use Rattle.switch_frame.specs.Sets.{kind_of}
use Rattle.mode_switch.specs.declared.wanted.Target.{Target}
use Rattle.mode_switch.specs.declared.wanted.Target.TheVariants.{Code, Vector}

-- a call that suspends its caller: the selector is cut to its size, and there is one where the convention is dispatched;
-- `passes` says whether the callee gets it
pub record Crossing : Type 0 where
  pub kind : Kind
  pub info : ℕ
  pub sig : Signature
  pub selector : Option ℕ
  pub passes : Bool
  pub target : Target

-- the address of a target
abbrev pub address_of : Target → ℕ
address_of (Code address) = address
address_of (Vector address) = address

-- the target of a routine: code where it is 68K code, and else a vector of two longs, the code and its TOC (PowerPC) or
-- its A5 (CFM-68K)
abbrev pub target_by : Isa → Bool → ℕ → Target
target_by set_m68 false address = Code address
target_by set_m68 true address = Vector address
target_by set_ppc cfm address = Vector address

abbrev pub target_of : Rec → Target
target_of rec = target_by rec.isa rec.cfm rec.target

-- the selector that the callee gets
abbrev pub passed_selector : Crossing → Option ℕ
passed_selector c = if c.passes then c.selector else None

-- code wants to make a call, or to go on elsewhere in its own set, or it can't have what it wants
pub data Want : Type 0 where
  Calls : (crossing : Crossing) → Want
  Jumps : (target : ℕ) → Want
  Refuses : (fault : Fault) → Want

abbrev pub settled : Result Want Fault → Want
settled (Ok want) = want
settled (Err fault) = Refuses fault

-- the fault of a descriptor at an address
abbrev pub bad_desc : ℕ → ℕ → BadDesc → Fault
bad_desc pc at bad = record { kind = IsBadDesc; pc = pc; detail = at; also = bad_desc_code bad }

-- the selector of a dispatched call in 68K code, at whose A7 the return address is, or the refusal of its bytes
abbrev pub selector_68k : Signature → Regs68 → Memory → Result (Option ℕ) Access
selector_68k sig r m = if is_dispatched sig.conv then (selector_in_68k sig r m >>= λ v. Ok (Some v)) else Ok None

-- all records of a descriptor have one convention and one selector size, so the first one tells
abbrev pub selector_among_68k : List Rec → Regs68 → Memory → Result (Option ℕ) Access
selector_among_68k [] r m = Ok None
selector_among_68k (first ∷ others) r m = selector_68k (signature_in first.info) r m

-- the selector of a dispatched call by CallUniversalProc
abbrev pub selector_ppc : Signature → RegsPpc → Option ℕ
selector_ppc sig r = if is_dispatched sig.conv then Some (selector_in_ppc sig r) else None

abbrev pub selector_among_ppc : List Rec → RegsPpc → Option ℕ
selector_among_ppc [] r = None
selector_among_ppc (first ∷ others) r = selector_ppc (signature_in first.info) r

-- the record that was chosen
abbrev pub taken : ℕ → Option ℕ → Option Rec → Result Rec Fault
taken pc selector rec = ok_or rec (fault_at pc NoRecord (unwrap_or selector 0))

-- the call of a record by code of a set
abbrev pub call_of_record : Isa → Rec → Option ℕ → Crossing
call_of_record caller rec selector =
    record {
      kind = kind_of caller rec.isa;
      info = rec.info;
      sig = signature_in rec.info;
      selector = selector;
      passes = is_dispatched (signature_in rec.info).conv && not (has_flag rec.flags 8);
      target = target_of rec;
    }

-- what code at pc wants at the descriptor at an address, of whose records it takes what it does
abbrev pub wants_desc : Memory → ℕ → ℕ → (List Rec → Result Want Fault) → Result Want Fault
wants_desc m pc at takes = result_map_both (λ records. records) (bad_desc pc at) (desc_of m at) >>= takes

-- 68K code

-- code of its own set is gone on with, without a call; what has a vector is called
abbrev pub goes_by : Target → Rec → Option ℕ → Want
goes_by (Code address) rec selector = Jumps address
goes_by (Vector address) rec selector = Calls (call_of_record set_m68 rec selector)

abbrev pub takes_68k : Memory → Regs68 → List Rec → Result Want Fault
takes_68k m r records =
    result_map_both (λ selector. selector) (fault_of r.pc) (selector_among_68k records r m) >>= λ selector.
    taken r.pc selector (choice records set_m68 selector) >>= λ rec.
    Ok (goes_by (target_of rec) rec selector)

-- the descriptor stands at pc
abbrev pub wants_68k : Memory → Regs68 → Want
wants_68k m r = settled (wants_desc m r.pc r.pc (takes_68k m r))

-- PowerPC code, with a universal pointer and a procInfo

-- raw 68K code at the pointer
abbrev pub raw_call : RegsPpc → ℕ → ℕ → Signature → Crossing
raw_call r pointer info sig =
    record { kind = PpcToM68; info = info; sig = sig; selector = selector_ppc sig r; passes = is_dispatched sig.conv; target = Code pointer }

abbrev pub wants_raw : RegsPpc → ℕ → ℕ → Result Want Fault
wants_raw r pointer info =
    result_map_both (λ sig. sig) (λ bad. record { kind = IsInfo; pc = r.pc; detail = info; also = bad_info_code bad })
    (signature_of info) >>= λ sig. Ok (Calls (raw_call r pointer info sig))

-- a descriptor at the pointer
abbrev pub matched : ℕ → ℕ → ℕ → Result (Unit {0}) Fault
matched pc info found = if info == found then Ok tt else Err (record { kind = Mismatch; pc = pc; detail = info; also = found })

abbrev pub called_by : ℕ → ℕ → Option ℕ → Rec → Result Want Fault
called_by pc info selector rec = matched pc info rec.info >>= λ same. Ok (Calls (call_of_record set_ppc rec selector))

abbrev pub takes_by : RegsPpc → ℕ → List Rec → Option ℕ → Result Want Fault
takes_by r info records selector = taken r.pc selector (choice records set_ppc selector) >>= called_by r.pc info selector

abbrev pub takes_ppc : RegsPpc → ℕ → List Rec → Result Want Fault
takes_ppc r info records = takes_by r info records (selector_among_ppc records r)

-- the word at the pointer tells which of them stands there
abbrev pub wants_word : Memory → RegsPpc → ℕ → ℕ → Result ℕ Access → Result Want Fault
wants_word m r pointer info (Ok word) =
    if word == mixed_mode_magic then wants_desc m r.pc pointer (takes_ppc r info) else wants_raw r pointer info
wants_word m r pointer info (Err access) = Err (bad_desc r.pc pointer IsAccess)

abbrev pub wants_ppc : Memory → RegsPpc → ℕ → ℕ → Want
wants_ppc m r pointer info = settled (wants_word m r pointer info (loaded m pointer Two))
