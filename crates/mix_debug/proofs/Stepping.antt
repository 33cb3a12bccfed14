-- One step of a whole machine: what it did, or that it did nothing.
use Rattle.std.proofs.Common.{◌≡◌, ℕ, suc, ◌-◌, ◌<◌, ◌≤◌, Bool, true, false, List, [], ◌++◌, length, Option, Some, None, arith, ap, sym, subst, ◌∙◌, refl}
use Rattle.std.proofs.lemmas.Bool.{le-ltb}
use Rattle.mix_bits.specs.declared.isa.Isa.{Isa}
use Rattle.mix_bits.specs.declared.isa.Isa.TheVariants.{M68, Ppc}
use Rattle.switch_frame.specs.declared.active.Active.{Active}
use Rattle.switch_frame.specs.Chain.{Chain, outer_of, view}
use Rattle.switch_frame.specs.Program.{start_sp_of}
use Rattle.switch_frame.specs.Records.{isa_of}
use Rattle.switch_frame.proofs.Beside.{view_is_memory}
use Rattle.switch_frame.proofs.Marked.{marks_same}
use Rattle.toolbox.specs.Calls.{IsLeft}
use Rattle.toolbox.specs.Effects.{Around}
use Rattle.host_heap.specs.Space.{Space}
use Rattle.mixed_machine.specs.declared.body.Body.{Body}
use Rattle.mixed_machine.specs.declared.stop.Stop.{Stop}
use Rattle.mixed_machine.specs.declared.stop.Stop.TheVariants.{Exit, Fault, Limit, ReadFault, OutFault, TraceFault}
use Rattle.mixed_machine.specs.State.{State}
use Rattle.mixed_machine.specs.Next.{Next}
use Rattle.mixed_machine.specs.Next.Next.{Exits, Faults, Goes}
use Rattle.mixed_machine.specs.Step.{step}
use Rattle.mixed_machine.specs.laws.StepLaws.{CallersMove, HeapMoves, IsKind, Kind}
use Rattle.mixed_machine.specs.Exec.{GoesTo, How, Leads, exec_to, goes_on, is_back, rests}
use Rattle.mixed_machine.specs.Exec.End.{Ended}
use Rattle.mixed_machine.specs.Exec.How.{Exited, Faulted, Limited}
use Rattle.mixed_machine.specs.Machine.{IsWhole, callers_of, flat, memory_of}
use Rattle.mixed_machine.specs.OutsideClauses.{At, Over}
use Rattle.mixed_machine.specs.inner.Outside.{answers_between, state_of}
use Rattle.toolbox.specs.Calls.{around_at}
use Rattle.mixed_machine.specs.RunsClauses.{Runs, sinks_of}
use Rattle.mixed_machine.specs.Runs.{Sinks, Stops}
use Rattle.mixed_machine.proofs.StepKinds.{steps-are_kinds}
use Rattle.mixed_machine.proofs.Runs.{no-steps}
use Rattle.mix_engine.specs.declared.machine.Machine.{Machine}
use Rattle.mix_debug.specs.Machines.{IsSound}
use Rattle.mix_debug.specs.TrailsClauses.{is_done}

-- a machine out of its parts
abbrev made : Active → List ℕ → List Bool → Space → ℕ → ℕ → Isa → ℕ → Machine
made file bytes marks heap top a5 main start =
    record { active = file; body = record { ram = record { bytes = bytes; marks = marks }; heap = heap; top = top; a5 = a5; main = main; start_sp = start } }

-- machines with the same parts are the same
pub same-machine : (m n : Machine) → n.active ≡ m.active → n.body.ram.bytes ≡ m.body.ram.bytes → n.body.ram.marks ≡ m.body.ram.marks → n.body.heap ≡ m.body.heap → n.body.top ≡ m.body.top
    → n.body.a5 ≡ m.body.a5 → n.body.main ≡ m.body.main → n.body.start_sp ≡ m.body.start_sp → n ≡ m
same-machine m n file bytes marks heap top a5 main start =
    ap (λ x. made x n.body.ram.bytes n.body.ram.marks n.body.heap n.body.top n.body.a5 n.body.main n.body.start_sp) file
    ∙ ap (λ x. made m.active x n.body.ram.marks n.body.heap n.body.top n.body.a5 n.body.main n.body.start_sp) bytes
    ∙ ap (λ x. made m.active m.body.ram.bytes x n.body.heap n.body.top n.body.a5 n.body.main n.body.start_sp) marks
    ∙ ap (λ x. made m.active m.body.ram.bytes m.body.ram.marks x n.body.top n.body.a5 n.body.main n.body.start_sp) heap
    ∙ ap (λ x. made m.active m.body.ram.bytes m.body.ram.marks m.body.heap x n.body.a5 n.body.main n.body.start_sp) top
    ∙ ap (λ x. made m.active m.body.ram.bytes m.body.ram.marks m.body.heap m.body.top x n.body.main n.body.start_sp) a5
    ∙ ap (λ x. made m.active m.body.ram.bytes m.body.ram.marks m.body.heap m.body.top m.body.a5 x n.body.start_sp) main
    ∙ ap (λ x. made m.active m.body.ram.bytes m.body.ram.marks m.body.heap m.body.top m.body.a5 m.body.main x) start

-- the memory of a whole machine is as long as its start tells
pub long-by-start : (main : Isa) (start m n : ℕ) → 131072 ≤ m → 131072 ≤ n → start ≡ start_sp_of main m → start ≡ start_sp_of main n → n ≡ m
long-by-start M68 start m n here there first then = omega (arith, first, then)
long-by-start Ppc start m n here there first then = omega (arith, first, then, here, there)

-- a machine whose chain is told by its callers
told-chain : (b c : Body) → callers_of c ≡ callers_of b → Chain c.ram c.top (callers_of c) → Chain c.ram c.top (callers_of b)
told-chain b c same chain = subst (Chain c.ram c.top) same chain

pub bytes-told : (b : Body) (set : Isa) → IsWhole b set → view (memory_of b) (callers_of b) ≡ b.ram.bytes
unfolding memory_of
bytes-told b set whole = view_is_memory b.ram b.top (callers_of b) whole.chain.links

-- whole machines that stand for the same state are the same
pub same-state : (m n : Machine) (r s : Around) → IsSound m → IsSound n → flat n.body n.active s ≡ flat m.body m.active r → n ≡ m
same-state m n r s here there same =
    let callers : callers_of n.body ≡ callers_of m.body = ap (λ (t : State). t.callers) same in
    let memory : memory_of n.body ≡ memory_of m.body = ap (λ (t : State). t.memory) same in
    let bytes : n.body.ram.bytes ≡ m.body.ram.bytes =
    sym (bytes-told n.body (isa_of n.active) there) ∙ ap (λ xs. view xs (callers_of n.body)) memory ∙ ap (view (memory_of m.body)) callers ∙ bytes-told m.body (isa_of m.active) here in
    let marks : n.body.ram.marks ≡ m.body.ram.marks = marks_same n.body.ram m.body.ram n.body.top m.body.top (callers_of m.body) (told-chain m.body n.body callers there.chain) here.chain (ap length bytes) in
    let top : n.body.top ≡ m.body.top = there.chain.links.first ∙ ap outer_of callers ∙ sym here.chain.links.first in
    same-machine m n (ap (λ (t : State). t.active) same) bytes marks (ap (λ (t : State). t.heap) same) top
    (ap (λ (t : State). t.a5) same) (ap (λ (t : State). t.main) same) (ap (λ (t : State). t.start_sp) same)

-- what one step came to
never-below : (s : State) → is_back 0 s ≡ false
never-below s = le-ltb (length s.callers) 0 (omega arith)

-- a run of one step, by its step
first-goes : (b : Bool) (x : Next) (s t : State) (left : ℕ) → b ≡ false → goes_on b x s 0 (exec_to 0 0) ≡ Ended Limited t left → GoesTo x t
unfolding exec_to
first-goes true x s t left not ends = absurd (let e : true ≡ false = not in cc)
first-goes false (Goes u effects) s t left not ends =
    let at : rests (is_back 0 u) u ≡ Ended Limited u 0 = ap (λ b. rests b u) (never-below u) in
    let both : Ended Limited u 0 ≡ Ended Limited t left = sym at ∙ ends in
    sym (same-end u t 0 left both)
  where
    same-end : (u t : State) (m n : ℕ) → Ended Limited u m ≡ Ended Limited t n → u ≡ t
    same-end u t m n e = cc
first-goes false (Exits code) s t left not ends = absurd (let e : Ended (Exited code) s 0 ≡ Ended Limited t left = ends in cc)
first-goes false (Faults fault) s t left not ends = absurd (let e : Ended (Faulted fault) s 1 ≡ Ended Limited t left = ends in cc)

first-exits : (b : Bool) (x : Next) (s t : State) (left code : ℕ) → b ≡ false → goes_on b x s 0 (exec_to 0 0) ≡ Ended (Exited code) t left → t ≡ s
unfolding exec_to
first-exits true x s t left code not ends = absurd (let e : true ≡ false = not in cc)
first-exits false (Goes u effects) s t left code not ends =
    let at : rests (is_back 0 u) u ≡ Ended Limited u 0 = ap (λ b. rests b u) (never-below u) in
    absurd (let e : Ended Limited u 0 ≡ Ended (Exited code) t left = sym at ∙ ends in cc)
first-exits false (Exits other) s t left code not ends = let e : Ended (Exited other) s 0 ≡ Ended (Exited code) t left = ends in cc
first-exits false (Faults fault) s t left code not ends = absurd (let e : Ended (Faulted fault) s 1 ≡ Ended (Exited code) t left = ends in cc)

first-faults : (b : Bool) (x : Next) (s t : State) (left : ℕ) (how : How) (fault : Rattle.mix_bits.specs.declared.fault.Fault.Fault) → how ≡ Faulted fault → b ≡ false → goes_on b x s 0 (exec_to 0 0) ≡ Ended how t left → t ≡ s
unfolding exec_to
first-faults true x s t left how fault is not ends = absurd (let e : true ≡ false = not in cc)
first-faults false (Goes u effects) s t left how fault is not ends =
    let at : rests (is_back 0 u) u ≡ Ended Limited u 0 = ap (λ b. rests b u) (never-below u) in
    absurd (let e : Ended Limited u 0 ≡ Ended (Faulted fault) t left = sym at ∙ ends ∙ ap (λ h. Ended h t left) is in cc)
first-faults false (Exits code) s t left how fault is not ends = absurd (let e : Ended (Exited code) s 0 ≡ Ended (Faulted fault) t left = ends ∙ ap (λ h. Ended h t left) is in cc)
first-faults false (Faults other) s t left how fault is not ends = let e : Ended (Faulted other) s 1 ≡ Ended how t left = ends in cc

one-step : (how : How) (s t : State) (left : ℕ) → exec_to 0 1 s ≡ Ended how t left → goes_on (is_back 0 s) (step s) s 0 (exec_to 0 0) ≡ Ended how t left
unfolding exec_to
one-step how s t left ends = ends

goes-kind : (x : Next) (s t : State) → IsKind s x → GoesTo x t → Kind s t
goes-kind (Goes u effects) s t kind goes = subst (Kind s) (sym goes) kind
goes-kind (Exits code) s t kind goes = absurd goes
goes-kind (Faults fault) s t kind goes = absurd goes

none-left : (left : ℕ) → left < 1 → 1 - suc left ≡ 0
none-left left few = omega (arith, few)

all-left : (left : ℕ) → 0 < left → 1 - left ≡ 0
all-left left some = omega (arith, some)

-- a step that is done is the definition's
pub step-goes : (stop : Stop) (left : ℕ) (s t : State) (old new : Sinks) → is_done stop ≡ true → Stops 0 1 left s t old new stop → GoesTo (step s) t
step-goes (Exit code) left s t old new done stops = absurd (let e : false ≡ true = done in cc)
step-goes (Fault fault) left s t old new done stops = absurd (let e : false ≡ true = done in cc)
step-goes Limit left s t old new done stops = first-goes (is_back 0 s) (step s) s t left (never-below s) (one-step Limited s t left stops.ends)
step-goes ReadFault left s t old new done stops = absurd (let e : false ≡ true = done in cc)
step-goes OutFault left s t old new done stops = absurd (let e : false ≡ true = done in cc)
step-goes TraceFault left s t old new done stops =
    let few : left < 1 = stops.fewer in
    let same : s ≡ stops.last = no-steps 0 s stops.last (subst (λ j. Leads 0 j s stops.last) (none-left left few) stops.leads) in
    subst (λ u. GoesTo (step u) t) (sym same) stops.goes

step-done : (stop : Stop) (left : ℕ) (s t : State) (old new : Sinks) → is_done stop ≡ true → Stops 0 1 left s t old new stop → Kind s t
step-done stop left s t old new done stops = goes-kind (step s) s t (steps-are_kinds s) (step-goes stop left s t old new done stops)

step-still : (stop : Stop) (left : ℕ) (s t : State) (old new : Sinks) → is_done stop ≡ false → Stops 0 1 left s t old new stop → t ≡ s
step-still (Exit code) left s t old new still stops = first-exits (is_back 0 s) (step s) s t left code (never-below s) (one-step (Exited code) s t left stops.ends)
step-still (Fault fault) left s t old new still stops = first-faults (is_back 0 s) (step s) s t left (Faulted fault) fault refl (never-below s) (one-step (Faulted fault) s t left stops.ends)
step-still Limit left s t old new still stops = absurd (let e : true ≡ false = still in cc)
step-still ReadFault left s t old new still stops =
    let some : 0 < left = stops.some in
    sym (no-steps 0 s t (subst (λ j. Leads 0 j s t) (all-left left some) stops.leads))
step-still OutFault left s t old new still stops =
    let some : 0 < left = stops.some in
    sym (no-steps 0 s t (subst (λ j. Leads 0 j s t) (all-left left some) stops.leads))
step-still TraceFault left s t old new still stops = absurd (let e : true ≡ false = still in cc)

-- some states of which a claim holds
left-of : (told : Option (List ℕ)) → (after : List ℕ) × IsLeft told after
left-of None = ([], tt)
left-of (Some bytes) = (bytes, refl)

pub record Somewhere (P : State → State → Type 0) (a b : At) : Type 0 where
  pub before : List ℕ
  pub after : List ℕ
  pub holds : P (state_of a before (answers_between a b ++ [])) (state_of b after [])

pub somewhere : (P : State → State → Type 0) (a b : At) → Over P a b → Somewhere P a b
somewhere P a b over =
    let end = left-of b.outside.input.left in
    let start = over.told end.0 end.1 in
    record { before = start.0; after = end.0; holds = over.each start.0 end.0 [] start.2 }

-- what a step that is done did
pub record Followed (b c : Body) : Type 0 where
  pub callers : CallersMove (callers_of b) (callers_of c)
  pub heap : HeapMoves b.heap c.heap
  pub main : c.main ≡ b.main
  pub a5 : c.a5 ≡ b.a5
  pub start_sp : c.start_sp ≡ b.start_sp

pub followed : (a b : At) (stop : Stop) → is_done stop ≡ true → Runs 1 a b stop → Followed a.body b.body
followed a b stop done runs =
    let at = somewhere (λ s t. Stops 0 1 runs.left s t (sinks_of a) (sinks_of b) stop) a b runs.run in
    let kind = step-done stop runs.left (state_of a at.before (answers_between a b ++ [])) (state_of b at.after []) (sinks_of a) (sinks_of b) done at.holds in
    record { callers = kind.callers; heap = kind.heap; main = kind.main; a5 = kind.a5; start_sp = kind.start_sp }

-- one that is not done did nothing
pub still : (m n : Machine) (a b : At) (stop : Stop) → a.body ≡ m.body → a.active ≡ m.active → b.body ≡ n.body → b.active ≡ n.active
    → is_done stop ≡ false → IsSound m → IsSound n → Runs 1 a b stop → n ≡ m
still m n a b stop at_body at_file on_body on_file done here there runs =
    let at = somewhere (λ s t. Stops 0 1 runs.left s t (sinks_of a) (sinks_of b) stop) a b runs.run in
    let same = step-still stop runs.left (state_of a at.before (answers_between a b ++ [])) (state_of b at.after []) (sinks_of a) (sinks_of b) done at.holds in
    let r : Around = around_at a.outside at.before (answers_between a b ++ []) in
    let s : Around = around_at b.outside at.after [] in
    let first : flat a.body a.active r ≡ flat m.body m.active r = ap (λ c. flat c a.active r) at_body ∙ ap (λ f. flat m.body f r) at_file in
    let last : flat b.body b.active s ≡ flat n.body n.active s = ap (λ c. flat c b.active s) on_body ∙ ap (λ f. flat n.body f s) on_file in
    same-state m n r s here there (sym last ∙ same ∙ first)
