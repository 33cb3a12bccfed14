-- What every wanted call meets.
use Rattle.std.proofs.Common.{◌≡◌, ℕ, ◌≤◌, ◌==◌, Bool, true, false, if◌then◌else◌, List, [], ◌∷◌, length, Option, Some, None, is_some, Result, Ok, Err, arith, ap, ◌∙◌, refl}
use Rattle.std.specs.List.{Contains}
use Rattle.std.proofs.lemmas.List.Elements.{All-contains_itself, All-head}
use Rattle.mix_bits.specs.Results.{◌>>=◌}
use Rattle.mix_bits.specs.declared.fault.Fault.{Fault}
use Rattle.mix_bits.specs.declared.isa.Isa.{Isa}
use Rattle.mix_bits.specs.declared.isa.Isa.TheVariants.{M68 as set_m68, Ppc as set_ppc}
use Rattle.mix_bits.specs.declared.size.Size.TheVariants.{Two}
use Rattle.big_memory.specs.declared.refusals.Access.{Access}
use Rattle.big_memory.specs.Memory.{Memory, loaded}
use Rattle.proc_info.specs.declared.bad_info.BadInfo.{BadInfo}
use Rattle.proc_info.specs.Codes.{is_dispatched}
use Rattle.proc_info.specs.Signature.{Signature, signature_in, signature_of}
use Rattle.routine_desc.specs.declared.record.Rec.{Rec}
use Rattle.routine_desc.specs.declared.record.BadDesc.{BadDesc}
use Rattle.routine_desc.specs.Choice.{choice}
use Rattle.routine_desc.specs.Layout.{mixed_mode_magic}
use Rattle.routine_desc.specs.Read.{desc_of}
use Rattle.routine_desc.proofs.Held.{holds-records, infos-signed, records-alike}
use Rattle.routine_desc.proofs.Takes.{takes-record}
use Rattle.m68_isa.specs.declared.registers.Regs68.{Regs68}
use Rattle.ppc_isa.specs.declared.registers.RegsPpc.{RegsPpc}
use Rattle.args_m68.specs.Gather.{selector_in as selector_in_68k}
use Rattle.args_ppc.specs.Words.{selector_in as selector_in_ppc}
use Rattle.switch_frame.specs.Sets.{caller_isa, kind_of}
use Rattle.mode_switch.specs.declared.wanted.Target.{Target}
use Rattle.mode_switch.specs.declared.wanted.Target.TheVariants.{Code, Vector}
use Rattle.mode_switch.specs.Wanted.{Want, call_of_record, goes_by, matched, raw_call, selector_68k, selector_ppc, settled, taken, takes_68k, takes_by, takes_ppc, target_of, wants_68k, wants_ppc, wants_raw, wants_word}
use Rattle.mode_switch.specs.inner.Parts.{described, loaded_or_fault, raw_signature, wants_desc_ppc}
use Rattle.mode_switch.specs.laws.Wanted.{Means}
use Rattle.mode_switch.specs.laws.Laws.{MeansWhatItWants}
use Rattle.mode_switch.specs.Wanted.Want.{Calls}

-- a refusal means nothing, and a chain means what its rest does
means_after : {A : Type 0} (set : Isa) (x : Result A Fault) (f : A → Result Want Fault) → ((v : A) → x ≡ Ok v → Means set (settled (f v))) → Means set (settled (x >>= f))
means_after set (Ok v) f h = h v refl
means_after set (Err e) f h = tt

-- the parts that are done
raw_is : (pc info : ℕ) (x : Result Signature BadInfo) (sig : Signature) → raw_signature pc info x ≡ Ok sig → x ≡ Ok sig
raw_is pc info (Ok s) sig h = let e : s ≡ sig = cc in ap Ok e
raw_is pc info (Err e) sig h = absurd (cc)

taken_is : (pc : ℕ) (selector : Option ℕ) (o : Option Rec) (rec : Rec) → taken pc selector o ≡ Ok rec → o ≡ Some rec
taken_is pc selector (Some r) rec h = let e : r ≡ rec = cc in ap Some e
taken_is pc selector None rec h = absurd (cc)

-- there is a selector where the convention is dispatched
some_68k : (pc : ℕ) (d : Bool) (x : Result ℕ Access) (selector : Option ℕ) → loaded_or_fault pc (if d then (x >>= λ v. Ok (Some v)) else Ok None) ≡ Ok selector → is_some selector ≡ d
some_68k pc true (Ok v) selector h = let e : selector ≡ Some v = cc in ap is_some e
some_68k pc true (Err e) selector h = absurd (cc)
some_68k pc false x selector h = let e : selector ≡ None = cc in ap is_some e

some_if : (d : Bool) (v : ℕ) → is_some (if d then Some v else None) ≡ d
some_if true v = refl
some_if false v = refl

-- the call of a record of a descriptor
caller-of : (set isa : Isa) → caller_isa (kind_of set isa) ≡ set
caller-of set_m68 set_m68 = refl
caller-of set_m68 set_ppc = refl
caller-of set_ppc set_m68 = refl
caller-of set_ppc set_ppc = refl

means-record : (set : Isa) (m : Memory) (a : ℕ) (records : List Rec) (first rec : Rec) (selector : Option ℕ)
    → desc_of m a ≡ Ok records → Contains records first → is_some selector ≡ is_dispatched (signature_in first.info).conv → choice records set selector ≡ Some rec
    → Means set (Calls (call_of_record set rec selector))
means-record set m a records first rec selector read among some chosen =
    let also : Contains records rec = takes-record records set selector rec chosen in
    let like = records-alike m a records first rec read among also in
    record { caller = caller-of set rec.isa; signature = infos-signed m a records rec read also; selector = some ∙ ap is_dispatched like.conv }

-- 68K code
means-goes : (m : Memory) (a : ℕ) (records : List Rec) (first rec : Rec) (selector : Option ℕ) (target : Target)
    → desc_of m a ≡ Ok records → Contains records first → is_some selector ≡ is_dispatched (signature_in first.info).conv → choice records set_m68 selector ≡ Some rec
    → Means set_m68 (goes_by target rec selector)
means-goes m a records first rec selector (Code address) read among some chosen = refl
means-goes m a records first rec selector (Vector address) read among some chosen =
    means-record set_m68 m a records first rec selector read among some chosen

means-takes_68k : (m : Memory) (r : Regs68) (records : List Rec) → desc_of m r.pc ≡ Ok records → Means set_m68 (settled (takes_68k m r records))
means-takes_68k m r [] read = let few : 1 ≤ length {A = Rec} [] = (holds-records m r.pc [] read).0 in absurd (omega arith)
means-takes_68k m r (first ∷ rest) read =
    let records = first ∷ rest in
    let among : Contains records first = All-head (Contains records) first rest (All-contains_itself records) in
    means_after set_m68 (loaded_or_fault r.pc (selector_68k (signature_in first.info) r m))
    (λ selector. taken r.pc selector (choice records set_m68 selector) >>= λ rec. Ok (goes_by (target_of rec) rec selector))
    (λ selector selector_is. means_after set_m68 (taken r.pc selector (choice records set_m68 selector))
    (λ rec. Ok (goes_by (target_of rec) rec selector))
    (λ taker taker_is. means-goes m r.pc records first taker selector (target_of taker) read among
    (some_68k r.pc (is_dispatched (signature_in first.info).conv) (selector_in_68k (signature_in first.info) r m) selector selector_is)
    (taken_is r.pc selector (choice records set_m68 selector) taker taker_is)))

means-described_68k : (m : Memory) (r : Regs68) (d : Result (List Rec) BadDesc) → desc_of m r.pc ≡ d → Means set_m68 (settled (described r.pc r.pc d >>= λ records. takes_68k m r records))
means-described_68k m r (Ok records) read = means-takes_68k m r records read
means-described_68k m r (Err bad) read = tt

pub meant-68k : (m : Memory) (r : Regs68) → Means set_m68 (wants_68k m r)
meant-68k m r = means-described_68k m r (desc_of m r.pc) refl

-- PowerPC code
means-takes_by : (m : Memory) (r : RegsPpc) (pointer info : ℕ) (records : List Rec) (first : Rec) (selector : Option ℕ)
    → desc_of m pointer ≡ Ok records → Contains records first → is_some selector ≡ is_dispatched (signature_in first.info).conv
    → Means set_ppc (settled (takes_by r info records selector))
means-takes_by m r pointer info records first selector read among some =
    means_after set_ppc (taken r.pc selector (choice records set_ppc selector))
    (λ rec. matched r.pc info rec.info >>= λ same. Ok (Calls (call_of_record set_ppc rec selector)))
    (λ taker taker_is. means_after set_ppc (matched r.pc info taker.info) (λ same. Ok (Calls (call_of_record set_ppc taker selector)))
    (λ same same_is. means-record set_ppc m pointer records first taker selector read among some
    (taken_is r.pc selector (choice records set_ppc selector) taker taker_is)))

means-takes_ppc : (m : Memory) (r : RegsPpc) (pointer info : ℕ) (records : List Rec) → desc_of m pointer ≡ Ok records → Means set_ppc (settled (takes_ppc r info records))
means-takes_ppc m r pointer info [] read = let few : 1 ≤ length {A = Rec} [] = (holds-records m pointer [] read).0 in absurd (omega arith)
means-takes_ppc m r pointer info (first ∷ rest) read =
    let records = first ∷ rest in
    let among : Contains records first = All-head (Contains records) first rest (All-contains_itself records) in
    means-takes_by m r pointer info records first (selector_ppc (signature_in first.info) r) read among (some_if (is_dispatched (signature_in first.info).conv) (selector_in_ppc (signature_in first.info) r))

means-described_ppc : (m : Memory) (r : RegsPpc) (pointer info : ℕ) (d : Result (List Rec) BadDesc) → desc_of m pointer ≡ d → Means set_ppc (settled (described r.pc pointer d >>= λ records. takes_ppc r info records))
means-described_ppc m r pointer info (Ok records) read = means-takes_ppc m r pointer info records read
means-described_ppc m r pointer info (Err bad) read = tt

means-raw : (r : RegsPpc) (pointer info : ℕ) → Means set_ppc (settled (wants_raw r pointer info))
means-raw r pointer info =
    means_after set_ppc (raw_signature r.pc info (signature_of info)) (λ sig. Ok (Calls (raw_call r pointer info sig)))
    (λ sig sig_is. record { caller = refl; signature = raw_is r.pc info (signature_of info) sig sig_is; selector = some_if (is_dispatched sig.conv) (selector_in_ppc sig r) })

means-if : (b : Bool) (x y : Result Want Fault) → Means set_ppc (settled x) → Means set_ppc (settled y) → Means set_ppc (settled (if b then x else y))
means-if true x y here there = here
means-if false x y here there = there

means-word : (m : Memory) (r : RegsPpc) (pointer info : ℕ) (w : Result ℕ Access) → Means set_ppc (settled (wants_word m r pointer info w))
means-word m r pointer info (Ok word) =
    means-if (word == mixed_mode_magic) (wants_desc_ppc m r pointer info) (wants_raw r pointer info)
    (means-described_ppc m r pointer info (desc_of m pointer) refl) (means-raw r pointer info)
means-word m r pointer info (Err access) = tt

pub meant-ppc : (m : Memory) (r : RegsPpc) (pointer info : ℕ) → Means set_ppc (wants_ppc m r pointer info)
meant-ppc m r pointer info = means-word m r pointer info (loaded m pointer Two)

pub means-wanted : MeansWhatItWants
means-wanted = (meant-68k, meant-ppc)
