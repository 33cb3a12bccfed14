-- What a step may change, by the rule that it follows.
use Rattle.std.proofs.Common.{◌≡◌, ℕ, ◌%◌, ◌==◌, Bool, true, false, not, if◌then◌else◌, List, [], ◌∷◌, Option, Some, None, Result, Ok, Err, refl, inl, inr}
use Rattle.m68_isa.specs.declared.registers.Regs68.{Regs68}
use Rattle.ppc_isa.specs.declared.registers.RegsPpc.{RegsPpc}
use Rattle.big_memory.specs.declared.refusals.Access.{Access}
use Rattle.big_memory.specs.Map.{is_gate, in_gate_page}
use Rattle.big_memory.specs.Memory.{Memory}
use Rattle.big_memory.specs.Steps.{After}
use Rattle.big_memory.specs.Steps.After.{Goes as GoesOn, Leaves as LeavesSet, Stops as StopsAt}
use Rattle.m68_effects.specs.Step.{stepped as stepped_68k}
use Rattle.ppc_integer.specs.Effects.{stepped as stepped_ppc}
use Rattle.proc_info.specs.Signature.{Signature, signature_in}
use Rattle.routine_desc.specs.Layout.{mixed_mode_magic}
use Rattle.switch_frame.specs.declared.active.Active.{Active}
use Rattle.switch_frame.specs.declared.active.Active.TheVariants.{M68, Ppc}
use Rattle.switch_frame.specs.declared.full.Full.{Full}
use Rattle.switch_frame.specs.declared.full.Full.TheVariants.{Frames, Outside, Crossed, Stack}
use Rattle.switch_frame.specs.Records.{Record}
use Rattle.mode_switch.specs.Passed.{Passage, passed}
use Rattle.mode_switch.specs.Returned.{Returned, given_back}
use Rattle.mode_switch.specs.Wanted.{Crossing, Want, wants_68k, wants_ppc}
use Rattle.mode_switch.specs.Wanted.Want.{Calls, Jumps, Refuses}
use Rattle.host_heap.specs.Space.{Space}
use Rattle.host_heap.specs.Place.{begins_at, freed, place_for}
use Rattle.host_heap.proofs.Keeps.{freed-none}
use Rattle.toolbox.specs.declared.function.Function.{Function}
use Rattle.toolbox.specs.declared.function.Function.TheVariants.{UnloadSeg}
use Rattle.toolbox.specs.declared.values.Operands.{Operands}
use Rattle.toolbox.specs.Functions.{function_at, trap_number}
use Rattle.toolbox.specs.Registers.{operands_of}
use Rattle.toolbox.specs.Effects.{Resources, Effect, effect, made_at, moved_unless, takes_from}
use Rattle.toolbox.specs.Effects.Effect.{Gives, Crosses as CrossesInto, Leaves as LeavesWith, Refuses as Refused}
use Rattle.toolbox.specs.Host.{Host, Hosted, host, settled}
use Rattle.toolbox.specs.Host.Hosted.{Goes as HostGoes, Crosses, Leaves, Stops}
use Rattle.mixed_machine.specs.State.{State, seen}
use Rattle.mixed_machine.specs.Next.{Next}
use Rattle.mixed_machine.specs.Leave.{at_gate, at_gate_of, is_exit, is_return, leaves, leaves_with}
use Rattle.mixed_machine.specs.Enter.{crosses, enters, enters_in, enters_with}
use Rattle.mixed_machine.specs.Host.{host_of, hosted_by, hosts, traps, traps_to, universal}
use Rattle.mixed_machine.specs.Step.{after_68k, after_ppc, step, step_68k, step_of, step_ppc}
use Rattle.mixed_machine.specs.laws.StepLaws.{HeapMoves, IsKind, StepsAreKinds}

-- a test chooses between two steps of a kind
either : (s : State) (b : Bool) (x y : Next) → IsKind s x → IsKind s y → IsKind s (if b then x else y)
either s true x y first second = first
either s false x y first second = second

-- calls

full-kind : (s : State) (c : Crossing) (full : Full) → IsKind s (enters_in s c (Err full))
full-kind s c Frames = tt
full-kind s c (Outside sp) = tt
full-kind s c (Crossed lo) = tt
full-kind s c (Stack sp) = tt

with-kind : (s : State) (c : Crossing) (range : ℕ × ℕ) (found : Result Passage Access) → IsKind s (enters_with s c range found)
with-kind s c range (Ok p) =
    record { callers = inr (inl (_, refl)); heap = inl refl; main = refl; a5 = refl; start_sp = refl }
with-kind s c range (Err e) = tt

in-kind : (s : State) (c : Crossing) (room : Result (ℕ × ℕ) Full) → IsKind s (enters_in s c room)
in-kind s c (Ok range) = with-kind s c range (passed (seen s) s.a5 s.active c)
in-kind s c (Err full) = full-kind s c full

enters-kind : (s : State) (c : Crossing) → IsKind s (enters s c)
unfolding enters
enters-kind s c = in-kind s c _

crosses-kind : (s : State) (want : Want) → IsKind s (crosses s want)
crosses-kind s (Calls c) = enters-kind s c
crosses-kind s (Jumps pc) = record { callers = inl refl; heap = inl refl; main = refl; a5 = refl; start_sp = refl }
crosses-kind s (Refuses fault) = tt

-- returns

given-kind : (s : State) (r : Record) (outer : List Record) (sig : Signature) (given : Result Returned Access) → s.callers ≡ r ∷ outer → IsKind s (leaves_with s outer sig given)
given-kind s r outer sig (Ok d) is =
    record { callers = inr (inr (r, is)); heap = inl refl; main = refl; a5 = refl; start_sp = refl }
given-kind s r outer sig (Err e) is = tt

leaves-kind : (s : State) (r : Record) (outer : List Record) → s.callers ≡ r ∷ outer → IsKind s (leaves s r outer)
unfolding leaves
leaves-kind s r outer is = given-kind s r outer (signature_in r.info) (given_back (seen s) (signature_in r.info) s.active r.caller) is

gate-of_kind : (s : State) (callers : List Record) → s.callers ≡ callers → IsKind s (at_gate_of s callers)
gate-of_kind s [] is = either s (is_exit s.main s.start_sp s.active) _ _ tt tt
gate-of_kind s (r ∷ outer) is = either s (is_return s.active r) _ _ (leaves-kind s r outer is) tt

gate-kind : (s : State) → IsKind s (at_gate s)
unfolding at_gate
gate-kind s = gate-of_kind s s.callers refl

-- host calls

-- a call that goes on has moved the heap so
abbrev MovesHeap : Resources → Effect → Type 0
MovesHeap r (Gives after x effects) = HeapMoves r.heap after.heap
MovesHeap r (CrossesInto pointer info) = Unit {0}
MovesHeap r (LeavesWith code) = Unit {0}
MovesHeap r (Refused access) = Unit {0}

none-moves : (s : Space) → HeapMoves s s
none-moves s = inl refl

either-moves : (r : Resources) (b : Bool) (x y : Effect) → MovesHeap r x → MovesHeap r y → MovesHeap r (if b then x else y)
either-moves r true x y first second = first
either-moves r false x y first second = second

made-moves : (r : Resources) (size : ℕ) (memory : ℕ → Memory) (place : Option ℕ) → place_for r.heap size ≡ place → MovesHeap r (made_at r size memory place)
made-moves r size memory None is = inl refl
made-moves r size memory (Some a) is = inr (inl (size, a, is, refl))

freed-moves : (s : Space) (a : ℕ) (there : Bool) → begins_at s.blocks a ≡ there → HeapMoves s (freed s a)
freed-moves s a true is = inr (inr (a, is, refl))
freed-moves s a false is = inl (freed-none s a is)

frees-moves : (s : Space) (a : ℕ) → HeapMoves s (freed s a)
frees-moves s a = freed-moves s a (begins_at s.blocks a) refl

moved-moves : (r : Resources) (moved : Memory) (refused : Option Access) → MovesHeap r (moved_unless r moved refused)
moved-moves r moved None = inl refl
moved-moves r moved (Some e) = tt

takes-moves : (r : Resources) (input : List ℕ) → MovesHeap r (takes_from r input)
takes-moves r [] = inl refl
takes-moves r (byte ∷ left) = inl refl

makes-moves : (r : Resources) (size : ℕ) (memory : ℕ → Memory) → MovesHeap r (made_at r size memory (place_for r.heap size))
makes-moves r size memory = made-moves r size memory (place_for r.heap size) refl

ruleset moves = (makes-moves, frees-moves, moved-moves, takes-moves, either-moves, none-moves)

effect-moves : (f : Function) (o : Operands) (r : Resources) → MovesHeap r (effect f o r)
effect-moves UnloadSeg o r = inl refl
effect-moves f o r = search moves

abbrev HostMoves : Host → Hosted → Type 0
HostMoves h (HostGoes after effects) = HeapMoves h.resources.heap after.resources.heap
HostMoves h (Crosses pointer info) = Unit {0}
HostMoves h (Leaves code) = Unit {0}
HostMoves h (Stops fault) = Unit {0}

settled-moves : (f : Function) (h : Host) (x : Effect) → MovesHeap h.resources x → HostMoves h (settled f h.active x)
settled-moves f h (Gives r x effects) moves = moves
settled-moves f h (CrossesInto pointer info) moves = tt
settled-moves f h (LeavesWith code) moves = tt
settled-moves f h (Refused access) moves = tt

host-moves : (index : ℕ) (h : Host) → HostMoves h (host index h)
unfolding host
host-moves index h =
    settled-moves (function_at index) h _ (effect-moves (function_at index) (operands_of (function_at index) h.active) h.resources)

hosted-kind : (s : State) (crossing : ℕ → ℕ → Next) (x : Hosted) → ((pointer info : ℕ) → IsKind s (crossing pointer info)) → HostMoves (host_of s) x → IsKind s (hosted_by crossing s x)
hosted-kind s crossing (HostGoes h effects) each moves =
    record { callers = inl refl; heap = moves; main = refl; a5 = refl; start_sp = refl }
hosted-kind s crossing (Crosses pointer info) each moves = each pointer info
hosted-kind s crossing (Leaves code) each moves = tt
hosted-kind s crossing (Stops fault) each moves = tt

universal-kind : (s : State) (active : Active) (pointer info : ℕ) → IsKind s (universal s active pointer info)
universal-kind s (M68 r) pointer info = crosses-kind s (Jumps pointer)
universal-kind s (Ppc r) pointer info = crosses-kind s (wants_ppc (seen s) r pointer info)

hosts-kind : (s : State) (index : ℕ) → IsKind s (hosts s index)
unfolding hosts
hosts-kind s index =
    hosted-kind s (universal s s.active) (host index (host_of s)) (universal-kind s s.active) (host-moves index (host_of s))

to-kind : (s : State) (word : ℕ) (index : Option ℕ) → IsKind s (traps_to s word index)
to-kind s word None = tt
to-kind s word (Some index) = hosts-kind s index

traps-kind : (s : State) (r : Regs68) (word : ℕ) → IsKind s (traps s r word)
unfolding traps
traps-kind s r word =
    either s (word == mixed_mode_magic) _ _ (crosses-kind s (wants_68k (seen s) r)) (to-kind s word (trap_number word))

-- steps

after-kind_68k : (s : State) (r : Regs68) (x : After Regs68) → IsKind s (after_68k s r x)
after-kind_68k s r (GoesOn next memory) = record { callers = inl refl; heap = inl refl; main = refl; a5 = refl; start_sp = refl }
after-kind_68k s r (LeavesSet word) = traps-kind s r word
after-kind_68k s r (StopsAt fault) = tt

after-kind_ppc : (s : State) (r : RegsPpc) (x : After RegsPpc) → IsKind s (after_ppc s r x)
after-kind_ppc s r (GoesOn next memory) = record { callers = inl refl; heap = inl refl; main = refl; a5 = refl; start_sp = refl }
after-kind_ppc s r (LeavesSet index) = hosts-kind s index
after-kind_ppc s r (StopsAt fault) = tt

kind_68k : (s : State) (r : Regs68) → IsKind s (step_68k s r)
unfolding step_68k
kind_68k s r =
    either s (r.pc % 2 == 1) _ _ tt
    (either s (is_gate r.pc) _ _ (gate-kind s) (either s (in_gate_page r.pc) _ _ tt (after-kind_68k s r (stepped_68k r (seen s)))))

kind_ppc : (s : State) (r : RegsPpc) → IsKind s (step_ppc s r)
unfolding step_ppc
kind_ppc s r =
    either s (not (r.pc % 4 == 0)) _ _ tt (either s (is_gate r.pc) _ _ (gate-kind s) (after-kind_ppc s r (stepped_ppc r (seen s))))

of-kind : (s : State) (active : Active) → IsKind s (step_of s active)
of-kind s (M68 r) = kind_68k s r
of-kind s (Ppc r) = kind_ppc s r

pub steps-are_kinds : StepsAreKinds
unfolding step
steps-are_kinds s = of-kind s s.active
