-- The step at a gate, from what its parts answer.
use Rattle.std.proofs.Common.{◌≡◌, true, false, List, [], ◌∷◌, drop, suc, length, Some, Result, refl, sym, ap, ◌∙◌, subst}
use Rattle.std.specs.Prelude.{if◌then◌else◌}
use Rattle.mix_bits.specs.declared.isa.Isa.{Isa}
use Rattle.mix_bits.specs.declared.fault.Fault.{Fault as AFault}
use Rattle.mix_io.specs.Streams.{Output}
use Rattle.mix_io.specs.laws.Streams.{NothingGrows}
use Rattle.big_memory.specs.declared.refusals.Access.{Access}
use Rattle.big_memory.specs.Memory.{Memory}
use Rattle.big_memory.specs.StoresClauses.{OnlyFree}
use Rattle.proc_info.specs.Signature.{Signature}
use Rattle.switch_frame.specs.declared.active.Active.{Active}
use Rattle.switch_frame.specs.declared.held.Held.{Held}
use Rattle.switch_frame.specs.Records.{Record, isa_of}
use Rattle.switch_frame.specs.RecordsClauses.{held_of, record_of}
use Rattle.switch_frame.specs.Chain.{cleared}
use Rattle.switch_frame.specs.Innermost.{IsInnermost}
use Rattle.switch_frame.specs.Calls.{active_set}
use Rattle.switch_frame.specs.CallsClauses.{innermost}
use Rattle.toolbox.specs.Effects.{Around}
use Rattle.mode_switch.specs.Returned.{Returned, given_back}
use Rattle.mixed_machine.specs.declared.body.Body.{Body}
use Rattle.mixed_machine.specs.declared.did.Did.{Did}
use Rattle.mixed_machine.specs.declared.did.Did.TheVariants.{Fault}
use Rattle.mixed_machine.specs.State.{State, seen, with_seen}
use Rattle.mixed_machine.specs.Next.{Next}
use Rattle.mixed_machine.specs.Next.Next.{Exits, Faults}
use Rattle.mixed_machine.specs.Leave.{at_gate, at_gate_of, is_exit, is_return, leaves, leaves_with, unmatched}
use Rattle.mixed_machine.specs.Machine.{IsWhole, callers_of, flat, memory_of}
use Rattle.mix_engine.specs.inner.Does.{Does}
use Rattle.mix_engine.specs.laws.Laws.{AreLaws}
use Rattle.mix_engine.specs.inner.Changes.{IsChanged}
use Rattle.mix_engine.specs.inner.Frames.{IsResumed}
use Rattle.mix_engine.proofs.Changed.{changed, seen-is}
use Rattle.mix_engine.proofs.Doing.{does-refused}
use Rattle.mix_engine.proofs.Framing.{same-bounds, state-is}

-- a step at a gate where no caller is suspended
pub gate-exits : (s : State) → s.callers ≡ [] → true ≡ is_exit s.main s.start_sp s.active → at_gate s ≡ Exits 0
unfolding at_gate
gate-exits s none here = ap (at_gate_of s) none ∙ ap (λ b. if b then Exits 0 else unmatched s s.start_sp) (sym here)

pub gate-stays : (s : State) → s.callers ≡ [] → false ≡ is_exit s.main s.start_sp s.active → at_gate s ≡ unmatched s s.start_sp
unfolding at_gate
gate-stays s none here = ap (at_gate_of s) none ∙ ap (λ b. if b then Exits 0 else unmatched s s.start_sp) (sym here)

-- and where one is
pub gate-returns : (s : State) (r : Record) (outer : List Record) → s.callers ≡ r ∷ outer → true ≡ is_return s.active r → at_gate s ≡ leaves s r outer
unfolding at_gate
gate-returns s r outer callers here = ap (at_gate_of s) callers ∙ ap (λ b. if b then leaves s r outer else unmatched s r.want) (sym here)

pub gate-waits : (s : State) (r : Record) (outer : List Record) → s.callers ≡ r ∷ outer → false ≡ is_return s.active r → at_gate s ≡ unmatched s r.want
unfolding at_gate
gate-waits s r outer callers here = ap (at_gate_of s) callers ∙ ap (λ b. if b then leaves s r outer else unmatched s r.want) (sym here)

-- the innermost caller
pub first-is : (held : Held) (rs : List Record) → Some held ≡ innermost rs → rs ≡ record_of held ∷ drop 1 rs
first-is held [] is = cc
first-is held (r ∷ rs) is = let same : held ≡ held_of r (suc (length rs)) = cc in ap (λ h. record_of h ∷ rs) (sym same)

-- a machine in which a result was stored while the frame is live
pub given : AreLaws → (b : Body) (ram : Memory) (set : Isa) → IsWhole b set → OnlyFree b.ram ram → IsChanged b (record b { ram = ram }) set
given laws b ram set whole free = changed laws b ram b.heap set whole free (same-bounds b.heap)

pub given-whole : AreLaws → (b : Body) (ram : Memory) (set : Isa) → IsWhole b set → OnlyFree b.ram ram
    → IsWhole (record b { ram = ram }) (active_set b.main (callers_of (record b { ram = ram })))
given-whole laws b ram set whole free =
    let all = (given laws b ram set whole free).whole in subst (IsWhole (record b { ram = ram })) all.active all

pub given-innermost : AreLaws → (b : Body) (ram : Memory) (set : Isa) (held : Held) (outer : List Record) → IsWhole b set → OnlyFree b.ram ram → callers_of b ≡ record_of held ∷ outer
    → IsInnermost held.lo held.hi (callers_of (record b { ram = ram }))
given-innermost laws b ram set held outer whole free first =
    subst (IsInnermost held.lo held.hi) (sym ((given laws b ram set whole free).callers ∙ first)) (refl, refl)

same-first : (xs : List Record) (r s : Record) (rs ss : List Record) → xs ≡ r ∷ rs → xs ≡ s ∷ ss → r ≡ s
same-first xs r s rs ss one other = cc

same-rest : (xs : List Record) (r s : Record) (rs ss : List Record) → xs ≡ r ∷ rs → xs ≡ s ∷ ss → rs ≡ ss
same-rest xs r s rs ss one other = cc

-- then its frame was given up, and its caller goes on
pub record IsBack (b new : Body) (ram : Memory) (before file : Active) (popped : Record) (outer : List Record) : Type 0 where
  pub whole : IsWhole new (isa_of file)
  pub callers : callers_of b ≡ popped ∷ callers_of new
  pub state : (around : Around) → flat new file around ≡ record (with_seen ram (flat b before around)) { active = file; callers = outer }

pub goes-back : AreLaws → (b new : Body) (ram : Memory) (before file : Active) (held : Held) (popped : Record) (outer : List Record)
    → IsWhole b (isa_of before) → callers_of b ≡ record_of held ∷ outer → OnlyFree b.ram ram → isa_of file ≡ isa_of held.caller
    → IsResumed (record b { ram = ram }) new popped → IsBack b new ram before file popped outer
unfolding memory_of
goes-back laws b new ram before file held popped outer whole first free set back =
    let mid : Body = record b { ram = ram } in
    let change : IsChanged b mid (isa_of before) = given laws b ram (isa_of before) whole free in
    let callers : callers_of b ≡ popped ∷ callers_of new = sym change.callers ∙ back.callers in
    let same : record_of held ≡ popped = same-first (callers_of b) (record_of held) popped outer (callers_of new) first callers in
    let rests : outer ≡ callers_of new = same-rest (callers_of b) (record_of held) popped outer (callers_of new) first callers in
    record {
      whole = subst (IsWhole new) (sym (set ∙ ap (λ (r : Record). isa_of r.caller) same)) back.whole;
      callers = callers;
      state = λ around. state-is b new before file file around (cleared ram.bytes (callers_of b)) outer back.rest (back.memory ∙ ap (cleared ram.bytes) change.callers) (sym rests) refl;
    }

-- what is given back by what is seen
pub gives-by : AreLaws → (b : Body) (before caller : Active) (around : Around) (sig : Signature) (outer : List Record) (r : Result Returned Access) → IsWhole b (isa_of before)
    → given_back b.ram sig before caller ≡ r
    → leaves_with (flat b before around) outer sig (given_back (seen (flat b before around)) sig before caller) ≡ leaves_with (flat b before around) outer sig r
gives-by laws b before caller around sig outer r whole is =
    ap (leaves_with (flat b before around) outer sig) (ap (λ m. given_back m sig before caller) (seen-is laws b (isa_of before) whole) ∙ is)

-- a refusal leaves all as it was
pub refused-back : NothingGrows → (x : State → Next) (did : Did) (cell : AFault) (b : Body) (ram : Memory) (active : Active) (a : Output) → did ≡ Fault → ram ≡ b.ram
    → IsWhole b (isa_of active) → ((around : Around) → x (flat b active around) ≡ Faults cell) → Does x did cell b (record b { ram = ram }) active active a a
refused-back grows x did cell b ram active a did_is same whole is =
    subst (λ m. Does x did cell b (record b { ram = m }) active active a a) (sym same) (does-refused grows x did cell b active a did_is whole is)
