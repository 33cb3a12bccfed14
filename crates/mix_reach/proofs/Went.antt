-- Where a step stores, by the rule that it follows.
use Rattle.std.proofs.Common.{◌≡◌, ◌⊎◌, ℕ, suc, ◌+◌, ◌-◌, ◌*◌, ◌%◌, ◌≤◌, ◌==◌, Bool, true, false, if◌then◌else◌, List, [], ◌∷◌, ◌++◌, length, drop, replicate, slice_index, is_some, nat_lt, zero, length-append, Option, Some, None, Result, Ok, Err, arith, ap, sym, subst, ◌∙◌, refl, inl, inr}
use Rattle.std.specs.Prelude.{MatchOption, not}
use Rattle.std.proofs.lemmas.List.{length-take, length-replicate}
use Rattle.mix_bits.specs.Results.{◌>>=◌}
use Rattle.mix_bits.specs.Addresses.{onward}
use Rattle.mix_bits.specs.declared.size.Size.{Size}
use Rattle.mix_bits.specs.declared.size.Size.TheVariants.{Four}
use Rattle.m68_isa.specs.declared.registers.Regs68.{Regs68}
use Rattle.m68_isa.specs.declared.instructions.Decoded68.{Decoded68}
use Rattle.m68_isa.specs.declared.instructions.Decoded68.TheVariants.{Op, LineA, LineF, Privileged, Illegal, Short}
use Rattle.m68_isa.specs.Decode.{decoded as decoded_68k}
use Rattle.ppc_isa.specs.declared.registers.RegsPpc.{RegsPpc}
use Rattle.ppc_isa.specs.declared.instruction.InstrPpc.{InstrPpc}
use Rattle.ppc_isa.specs.Rows.{decoded as decoded_ppc}
use Rattle.big_memory.specs.declared.refusals.Access.{Access}
use Rattle.big_memory.specs.declared.refusals.Access.TheVariants.{Outside as IsOutside}
use Rattle.big_memory.specs.laws.Laws.{Passes}
use Rattle.big_memory.proofs.Lists.{put-nil}
use Rattle.big_memory.proofs.Guarded.{passes}
use Rattle.big_memory.specs.Lists.{part, put}
use Rattle.big_memory.specs.Map.{host_code, in_gate_page, is_gate}
use Rattle.big_memory.specs.Memory.{Memory, copied, copy_refusal, filled, floor_of, in_memory, loaded, refusal, with_bytes}
use Rattle.big_memory.specs.Stores.{stored_value}
use Rattle.big_memory.specs.Steps.{After}
use Rattle.big_memory.specs.Steps.After.{Goes as GoesOn, Leaves as LeavesSet, Stops as StopsAt}
use Rattle.m68_ea.specs.Words.{words_at}
use Rattle.m68_effects.specs.Parts.{Effect, after}
use Rattle.m68_effects.specs.Rows.{effect as effect_68k}
use Rattle.m68_effects.specs.Step.{runs_decoded as runs_decoded_68k, stepped as stepped_68k}
use Rattle.ppc_integer.specs.Effects.{at_gate_page, runs as runs_ppc, runs_decoded as runs_decoded_ppc, stepped as stepped_ppc}
use Rattle.big_memory.specs.Steps.{after_load}
use Rattle.proc_info.specs.declared.param.Param.{Param}
use Rattle.proc_info.specs.Signature.{Signature, signature_in}
use Rattle.routine_desc.specs.Build.{image}
use Rattle.routine_desc.specs.Layout.{mixed_mode_magic}
use Rattle.args_m68.specs.declared.places.Place.{Place}
use Rattle.args_m68.specs.declared.places.Place.TheVariants.{Data, Address}
use Rattle.proc_info.specs.declared.conv.Route.{Route}
use Rattle.proc_info.specs.declared.conv.Route.TheVariants.{PascalStack, CStack, Registers}
use Rattle.args_m68.specs.Gather.{values_at as values_at_68k}
use Rattle.proc_info.specs.Routes.{route_of}
use Rattle.args_m68.specs.Places.{next_base, place_of, result_place, widths}
use Rattle.args_m68.specs.Results.{after_call, with_result as with_result_68k}
use Rattle.args_m68.specs.Values.{Given as Given68, above_sp, put_at, value_at as value_at_68k}
use Rattle.args_ppc.specs.Words.{value_at as value_at_ppc, values_at as values_at_ppc}
use Rattle.switch_frame.specs.declared.active.Active.{Active}
use Rattle.switch_frame.specs.declared.active.Active.TheVariants.{M68, Ppc}
use Rattle.switch_frame.specs.declared.full.Full.{Full}
use Rattle.switch_frame.specs.declared.full.Full.TheVariants.{Frames, Outside, Crossed, Stack as StackFull}
use Rattle.switch_frame.specs.Calls.{room_of}
use Rattle.switch_frame.specs.Chain.{Chain, cleared}
use Rattle.big_memory.specs.Lists.{zeros}
use Rattle.switch_frame.specs.Files.{sp_of}
use Rattle.switch_frame.specs.Records.{Record}
use Rattle.switch_frame.specs.Sets.{callee_isa}
use Rattle.switch_frame.proofs.Pieces.{length-zeros}
use Rattle.switch_frame.proofs.Places.{room_is_place}
use Rattle.mode_switch.proofs.Callees.{begins-at_stack, fills-stack}
use Rattle.mode_switch.specs.Callee.{below, stack_of}
use Rattle.mode_switch.specs.Passed.{Passage, behind, entry_at, gathered, passed}
use Rattle.mode_switch.specs.Returned.{Given, Returned, given_back, put_result, result_at}
use Rattle.mode_switch.specs.Wanted.{Crossing, Want, passed_selector, wants_68k, wants_ppc}
use Rattle.mode_switch.specs.Wanted.Want.{Calls, Jumps, Refuses}
use Rattle.host_heap.specs.SpaceClauses.{HasNone, IsLowest}
use Rattle.host_heap.specs.Space.{Space, block_limit, rounded}
use Rattle.host_heap.proofs.Lowest.{lowest_fit-lowest}
use Rattle.host_heap.specs.Place.{place_for, taken, lowest_fit}
use Rattle.toolbox.specs.declared.function.Function.{Function}
use Rattle.toolbox.specs.declared.function.Function.TheVariants.{NewRoutineDescriptor, NewFatRoutineDescriptor, DisposeRoutineDescriptor, CallUniversalProc, NewPtr, NewPtrClear, DisposePtr, BlockMove, ExitToShell, GetByte, PutBlock, ExitWith}
use Rattle.toolbox.specs.declared.values.Operands.{Operands}
use Rattle.toolbox.specs.Functions.{function_at, trap_number}
use Rattle.toolbox.specs.Registers.{operands_of}
use Rattle.toolbox.specs.Effects.{Resources, Effect as HostEffect, effect as effect_host, made_at, moved_unless, takes_from}
use Rattle.toolbox.specs.Effects.Effect.{Gives, Crosses as CrossesInto, Leaves as LeavesWith, Refuses as Refused}
use Rattle.toolbox.specs.Host.{Host, Hosted, host, settled}
use Rattle.toolbox.specs.Host.Hosted.{Goes as HostGoes, Crosses, Leaves, Stops}
use Rattle.mixed_machine.specs.State.{State, seen}
use Rattle.mixed_machine.specs.Next.{Next}
use Rattle.mixed_machine.specs.Next.Next.{Goes, Exits, Faults}
use Rattle.mixed_machine.specs.Leave.{at_gate, at_gate_of, is_exit, is_return, leaves, leaves_with}
use Rattle.mixed_machine.specs.Enter.{crosses, entered, enters, enters_in, enters_with, sp_in, suspended}
use Rattle.mixed_machine.specs.Host.{after_host, host_of, hosted_by, hosts, traps, traps_to, universal}
use Rattle.mixed_machine.specs.Step.{after_68k, after_ppc, step, step_68k, step_of, step_ppc}
use Rattle.mix_reach.specs.declared.reach.Reach.{Reach}
use Rattle.mix_reach.specs.declared.reach.Stores.{Stores}
use Rattle.mix_reach.specs.laws.Ranges.{Beside, filling, nothing, plain, range}
use Rattle.mix_reach.specs.laws.Rows68.{stores as stores_68k}
use Rattle.mix_reach.specs.laws.RowsPpc.{stores as stores_ppc}
use Rattle.mix_reach.specs.laws.Laws.{MakesNone}
use Rattle.mix_reach.specs.laws.Steps.{decoded_stores, function_stores, host_stores, next_stores, word_decoded, word_stores}
use Rattle.mix_reach.proofs.Leaving.{IsShort, Stores as IsLeft, put-beside, stay, stores, wider}
use Rattle.mix_reach.proofs.Effects68.{Kept}
use Rattle.mix_reach.proofs.Rows68.{rows as rows_68k}
use Rattle.mix_reach.proofs.RowsPpc.{AfterKept, rows as rows_ppc}

-- a state that a machine stands for
pub record IsTold (s : State) : Type 0 where
  pub top : ℕ
  pub chain : Chain (seen s) top s.callers
  pub beside : s.memory ≡ cleared (seen s).bytes s.callers
  pub heap : s.heap.high ≤ length (seen s).bytes

told-short : (s : State) → IsTold s → IsShort (seen s)
told-short s told = record { most = told.chain.links.ram.most }

-- memory as it is seen has changed beside a range, and no frame was made or given up
pub record Changed (w : Reach) (s t : State) : Type 0 where
  pub bytes : List ℕ
  pub beside : Beside w (seen s).bytes bytes
  pub memory : t.memory ≡ cleared bytes s.callers

-- in a block that was made
pub record InBlock (filled : ℕ) (s t : State) : Type 0 where
  pub size : ℕ
  pub place : ℕ
  pub found : place_for s.heap size ≡ Some place
  pub made : t.heap ≡ taken s.heap size
  pub changed : Changed (range place filled) s t

-- a frame was made: what was stored ends where it ends
pub record Suspended (s t : State) : Type 0 where
  pub first : Record
  pub bytes : List ℕ
  pub callers : t.callers ≡ first ∷ s.callers
  pub memory : t.memory ≡ put (sp_of t.active) bytes s.memory
  pub ends : sp_of t.active + length bytes ≡ first.hi
  pub begins : sp_of t.active ≤ first.lo
  pub within : first.hi ≤ length (seen s).bytes
  pub heap : t.heap ≡ s.heap

-- a frame was given up, and a result may have been stored
pub record Resumed (s t : State) : Type 0 where
  pub first : Record
  pub callers : s.callers ≡ first ∷ t.callers
  pub changed : Changed (range (onward (sp_of t.active) 0) 4) s t
  pub heap : t.heap ≡ s.heap

pub data Went (w : Stores) (s t : State) : Type 0 where
  Stayed : (callers : t.callers ≡ s.callers) (heap : MakesNone s.heap t.heap) (changed : Changed w.reach s t) → Went w s t
  Took : (callers : t.callers ≡ s.callers) (block : InBlock w.filled s t) → Went w s t
  Entered : (frame : Suspended s t) → Went w s t
  Left : (frame : Resumed s t) → Went w s t

abbrev pub IsWent : Stores → State → Next → Type 0
IsWent w s (Goes t effects) = Went w s t
IsWent w s (Exits code) = Unit {0}
IsWent w s (Faults fault) = Unit {0}

-- a test chooses between two steps
either : (w : Stores) (s : State) (b : Bool) (x y : Next) → IsWent w s x → IsWent w s y → IsWent w s (if b then x else y)
either w s true x y first second = first
either w s false x y first second = second

still : (w : Stores) (s t : State) → IsTold s → t.callers ≡ s.callers → t.memory ≡ s.memory → t.heap ≡ s.heap → Went w s t
still w s t told callers memory heap = Stayed callers (inl heap) (record { bytes = (seen s).bytes; beside = stay w.reach (seen s).bytes; memory = memory ∙ told.beside })

-- calls

abbrev Counts : ℕ → Result (List ℕ) Access → Type 0
Counts n (Ok xs) = length xs ≡ n
Counts n (Err e) = Unit {0}

more-counts : (n v : ℕ) (x : Result (List ℕ) Access) → Counts n x → Counts (suc n) (x >>= λ vs. Ok (v ∷ vs))
more-counts n v (Ok xs) counts = ap suc counts
more-counts n v (Err e) counts = tt

then-counts : (n : ℕ) (x : Result ℕ Access) (rest : Result (List ℕ) Access) → Counts n rest → Counts (suc n) (x >>= λ v. rest >>= λ vs. Ok (v ∷ vs))
then-counts n (Ok v) rest counts = more-counts n v rest counts
then-counts n (Err e) rest counts = tt

counts-68k : (r : Regs68) (m : Memory) (route : Route) (base : ℕ) (ps : List Param) → Counts (length ps) (values_at_68k r m route base ps)
counts-68k r m route base [] = refl
counts-68k r m route base (p ∷ ps) =
    then-counts (length ps) (value_at_68k r m (place_of route base p (widths ps)) p.size) (values_at_68k r m route (next_base route base) ps)
    (counts-68k r m route (next_base route base) ps)

counts-ppc : (r : RegsPpc) (m : Memory) (i : ℕ) (ps : List Param) → Counts (length ps) (values_at_ppc r m i ps)
counts-ppc r m i [] = refl
counts-ppc r m i (p ∷ ps) = then-counts (length ps) (value_at_ppc r m i p.size) (values_at_ppc r m (i + 1) ps) (counts-ppc r m (i + 1) ps)

gathered-counts : (m : Memory) (active : Active) (sig : Signature) → Counts (length sig.params) (gathered m active sig)
gathered-counts m (M68 r) sig = counts-68k r m _ _ sig.params
gathered-counts m (Ppc r) sig = counts-ppc r m _ sig.params

abbrev PassesAll : ℕ → Result Passage Access → Type 0
PassesAll n (Ok p) = length p.args ≡ n
PassesAll n (Err e) = Unit {0}

passes-then : {A : Type 0} (n : ℕ) (x : Result A Access) (f : A → Result Passage Access) → ((y : A) → PassesAll n (f y)) → PassesAll n (x >>= f)
passes-then n (Ok y) f each = each y
passes-then n (Err e) f each = tt

with-args : (n : ℕ) (x : Result (List ℕ) Access) (f : List ℕ → Result Passage Access) → Counts n x → ((args : List ℕ) → length args ≡ n → PassesAll n (f args)) → PassesAll n (x >>= f)
with-args n (Ok args) f counts each = each args counts
with-args n (Err e) f counts each = tt

passes-all : (m : Memory) (a5 : ℕ) (active : Active) (c : Crossing) → PassesAll (length c.sig.params) (passed m a5 active c)
passes-all m a5 active c =
    passes-then (length c.sig.params) (behind m active) _
    (λ caller. passes-then (length c.sig.params) (entry_at m a5 c.target) _
    (λ entry. with-args (length c.sig.params) (gathered m active c.sig) _ (gathered-counts m active c.sig) (λ args count. count)))

full-went : (w : Stores) (s : State) (c : Crossing) (full : Full) → IsWent w s (enters_in s c (Err full))
full-went w s c Frames = tt
full-went w s c (Outside sp) = tt
full-went w s c (Crossed lo) = tt
full-went w s c (StackFull sp) = tt

-- the stack of a callee and the zeros of the frame behind it end where the frame ends
ends-at : (lo hi size b n z at : ℕ) → at ≡ lo - b → b ≤ lo → hi ≡ lo + size → n ≡ b → z ≡ hi - lo → at + (n + z) ≡ hi
ends-at lo hi size b n z at is few long stack zeros = omega (arith, is, few, long, stack, zeros)

begins-below : (lo b at : ℕ) → at ≡ lo - b → at ≤ lo
begins-below lo b at is = omega (arith, is)

stack-below : (floor b lo : ℕ) → floor + b ≤ lo → b ≤ lo
stack-below floor b lo all = omega (arith, all)

entered-went : (w : Stores) (s : State) (c : Crossing) (range : ℕ × ℕ) (p : Passage) → IsTold s
    → room_of (seen s) s.callers (sp_of s.active) c.kind (below (callee_isa c.kind) c.sig (is_some (passed_selector c))) ≡ Ok range
    → length p.args ≡ length c.sig.params → Went w s (entered s c range p)
entered-went w s c range p told room count =
    let place = room_is_place (seen s) s.callers (sp_of s.active) c.kind (below (callee_isa c.kind) c.sig (is_some (passed_selector c))) range told.chain.links.ram told.chain.links.few room in
    let stack = stack_of (callee_isa c.kind) c.sig (passed_selector c) p.args in
    let at : sp_of (entered s c range p).active ≡ sp_in c range = begins-at_stack (callee_isa c.kind) c.sig (passed_selector c) p.args (sp_in c range) p.entry in
    let long : length (stack ++ zeros (range.1 - range.0)) ≡ length stack + length (zeros (range.1 - range.0)) = length-append stack (zeros (range.1 - range.0)) in
    Entered (record {
      first = suspended c range p;
      bytes = stack ++ zeros (range.1 - range.0);
      callers = refl;
      memory = ap (λ a. put a (stack ++ zeros (range.1 - range.0)) s.memory) (sym at);
      ends = ap (λ n. sp_of (entered s c range p).active + n) long
          ∙ ends-at range.0 range.1 _ (below (callee_isa c.kind) c.sig (is_some (passed_selector c))) (length stack) (length (zeros (range.1 - range.0))) (sp_of (entered s c range p).active)
          at (stack-below (floor_of (seen s)) (below (callee_isa c.kind) c.sig (is_some (passed_selector c))) range.0 place.1) place.0.size
          (fills-stack (callee_isa c.kind) c.sig (passed_selector c) p.args count) (length-zeros (range.1 - range.0));
      begins = begins-below range.0 (below (callee_isa c.kind) c.sig (is_some (passed_selector c))) (sp_of (entered s c range p).active) at;
      within = place.0.within;
      heap = refl;
    })

with-went : (w : Stores) (s : State) (c : Crossing) (range : ℕ × ℕ) (x : Result Passage Access) → IsTold s
    → room_of (seen s) s.callers (sp_of s.active) c.kind (below (callee_isa c.kind) c.sig (is_some (passed_selector c))) ≡ Ok range
    → PassesAll (length c.sig.params) x → IsWent w s (enters_with s c range x)
with-went w s c range (Ok p) told room count = entered-went w s c range p told room count
with-went w s c range (Err e) told room count = tt

in-went : (w : Stores) (s : State) (c : Crossing) (room : Result (ℕ × ℕ) Full) → IsTold s
    → room_of (seen s) s.callers (sp_of s.active) c.kind (below (callee_isa c.kind) c.sig (is_some (passed_selector c))) ≡ room → IsWent w s (enters_in s c room)
in-went w s c (Ok range) told is = with-went w s c range (passed (seen s) s.a5 s.active c) told is (passes-all (seen s) s.a5 s.active c)
in-went w s c (Err full) told is = full-went w s c full

enters-went : (w : Stores) (s : State) (c : Crossing) → IsTold s → IsWent w s (enters s c)
unfolding enters
enters-went w s c told = in-went w s c _ told refl

crosses-went : (w : Stores) (s : State) (want : Want) → IsTold s → IsWent w s (crosses s want)
crosses-went w s (Calls c) told = enters-went w s c told
crosses-went w s (Jumps pc) told = still w s _ told refl refl refl
crosses-went w s (Refuses fault) told = tt

-- returns

abbrev PutsAt : Memory → Result Given68 Access → Type 0
PutsAt m (Ok given) = Beside (range (onward (slice_index given.regs.a 7) 0) 4) m.bytes given.memory.bytes
PutsAt m (Err e) = Unit {0}

puts-stored : (r : Regs68) (m : Memory) (a : ℕ) (s : Size) (x : Result Memory Access) → a ≡ onward (slice_index r.a 7) 0 → IsLeft m a s x → PutsAt m (x >>= λ n. Ok (record { regs = r; memory = n }))
puts-stored r m a s (Ok n) is did = subst (λ (b : ℕ). Beside (range b 4) m.bytes n.bytes) is did.beside
puts-stored r m a s (Err e) is did = tt

puts-either : (b : Bool) (p q : Place) (s : Size) (v : ℕ) (r : Regs68) (m : Memory) → PutsAt m (put_at p s v r m) → PutsAt m (put_at q s v r m) → PutsAt m (put_at (if b then p else q) s v r m)
puts-either true p q s v r m first second = first
puts-either false p q s v r m first second = second

puts-data : (n : ℕ) (s : Size) (v : ℕ) (r : Regs68) (m : Memory) → PutsAt m (put_at (Data n) s v r m)
puts-data n s v r m = stay _ m.bytes

puts-address : (n : ℕ) (s : Size) (v : ℕ) (r : Regs68) (m : Memory) → PutsAt m (put_at (Address n) s v r m)
puts-address n s v r m = stay _ m.bytes

puts-by_route : (route : Route) (code : ℕ) (s : Size) (v : ℕ) (r : Regs68) (m : Memory) → PutsAt m (put_at (result_place route code) s v r m)
puts-by_route PascalStack code s v r m = puts-stored r m (above_sp r 0) s (stored_value m (above_sp r 0) s v) refl (stores m (above_sp r 0) s v)
puts-by_route CStack code s v r m = puts-data 0 s v r m
puts-by_route Registers code s v r m =
    puts-either (nat_lt code 4) _ _ s v r m (puts-data code s v r m)
    (puts-either (nat_lt code 8) _ _ s v r m (puts-address (code - 4) s v r m)
    (puts-either (nat_lt code 12) _ _ s v r m (puts-data (code - 4) s v r m)
    (puts-either (nat_lt code 15) _ _ s v r m (puts-address (code - 8) s v r m) (stay _ m.bytes))))

abbrev GivesAt : Memory → Result Given Access → Type 0
GivesAt m (Ok given) = Beside (range (onward (sp_of given.file) 0) 4) m.bytes given.memory.bytes
GivesAt m (Err e) = Unit {0}

gives-68k : (m : Memory) (x : Result Given68 Access) → PutsAt m x → GivesAt m (x >>= λ given. Ok (record { file = M68 given.regs; memory = given.memory }))
gives-68k m (Ok given) puts = puts
gives-68k m (Err e) puts = tt

gives-at : (m : Memory) (sig : Signature) (v : ℕ) (caller : Active) → GivesAt m (put_result m sig v caller)
gives-at m sig v (M68 r) = gives-68k m (with_result_68k sig v r m) (puts-by_route (route_of sig.conv) sig.place sig.result v (after_call sig r) m)
gives-at m sig v (Ppc r) = stay _ m.bytes

abbrev ReturnsAt : Memory → Result Returned Access → Type 0
ReturnsAt m (Ok d) = Beside (range (onward (sp_of d.file) 0) 4) m.bytes d.memory.bytes
ReturnsAt m (Err e) = Unit {0}

returns-given : (m : Memory) (v : ℕ) (x : Result Given Access) → GivesAt m x → ReturnsAt m (x >>= λ given. Ok (record { value = v; file = given.file; memory = given.memory }))
returns-given m v (Ok given) gives = gives
returns-given m v (Err e) gives = tt

returns-then : (m : Memory) (x : Result ℕ Access) (f : ℕ → Result Returned Access) → ((v : ℕ) → ReturnsAt m (f v)) → ReturnsAt m (x >>= f)
returns-then m (Ok v) f each = each v
returns-then m (Err e) f each = tt

returns-at : (m : Memory) (sig : Signature) (callee caller : Active) → ReturnsAt m (given_back m sig callee caller)
returns-at m sig callee caller =
    returns-then m (result_at m sig callee) _ (λ v. returns-given m v (put_result m sig v caller) (gives-at m sig v caller))

given-went : (w : Stores) (s : State) (r : Record) (outer : List Record) (sig : Signature) (x : Result Returned Access) → s.callers ≡ r ∷ outer → ReturnsAt (seen s) x → IsWent w s (leaves_with s outer sig x)
given-went w s r outer sig (Ok d) is at =
    Left (record { first = r; callers = is; changed = record { bytes = d.memory.bytes; beside = at; memory = refl }; heap = refl })
given-went w s r outer sig (Err e) is at = tt

leaves-went : (w : Stores) (s : State) (r : Record) (outer : List Record) → s.callers ≡ r ∷ outer → IsWent w s (leaves s r outer)
unfolding leaves
leaves-went w s r outer is =
    given-went w s r outer (signature_in r.info) (given_back (seen s) (signature_in r.info) s.active r.caller) is (returns-at (seen s) (signature_in r.info) s.active r.caller)

gate-of_went : (w : Stores) (s : State) (callers : List Record) → s.callers ≡ callers → IsWent w s (at_gate_of s callers)
gate-of_went w s [] is = either w s (is_exit s.main s.start_sp s.active) _ _ tt tt
gate-of_went w s (r ∷ outer) is = either w s (is_return s.active r) _ _ (leaves-went w s r outer is) tt

gate-went : (w : Stores) (s : State) → IsWent w s (at_gate s)
unfolding at_gate
gate-went w s = gate-of_went w s s.callers refl

-- host functions

-- the bytes of a block that was made, or of what was told
pub record BlockStored (filled : ℕ) (r after : Resources) : Type 0 where
  pub size : ℕ
  pub place : ℕ
  pub found : place_for r.heap size ≡ Some place
  pub made : after.heap ≡ taken r.heap size
  pub beside : Beside (range place filled) r.memory.bytes after.memory.bytes

-- or where it is told, with no block made
pub record PlainStored (w : Reach) (r after : Resources) : Type 0 where
  pub heap : MakesNone r.heap after.heap
  pub beside : Beside w r.memory.bytes after.memory.bytes

abbrev HostStored : Stores → Resources → HostEffect → Type 0
HostStored w r (Gives after x effects) = PlainStored w.reach r after ⊎ BlockStored w.filled r after
HostStored w r (CrossesInto pointer info) = Unit {0}
HostStored w r (LeavesWith code) = Unit {0}
HostStored w r (Refused access) = Unit {0}

host-either : (w : Stores) (r : Resources) (b : Bool) (x y : HostEffect) → HostStored w r x → HostStored w r y → HostStored w r (if b then x else y)
host-either w r true x y first second = first
host-either w r false x y first second = second

unchanged : (w : Stores) (r : Resources) → PlainStored w.reach r r ⊎ BlockStored w.filled r r
unchanged w r = inl (record { heap = inl refl; beside = stay w.reach r.memory.bytes })

-- a block lies in memory
abbrev HasRoomFor : Resources → Type 0
HasRoomFor r = r.heap.high ≤ length r.memory.bytes

fits-in : (size a high len : ℕ) → a + rounded size ≤ high → high ≤ len → a + size ≤ len
fits-in size a high len within all = omega (arith, within, all)

some-lowest : (s : Space) (size a : ℕ) (x : Option ℕ) → MatchOption x (HasNone s size) (IsLowest s size) → x ≡ Some a → IsLowest s size a
some-lowest s size a x lowest is = subst (λ (y : Option ℕ). MatchOption y (HasNone s size) (IsLowest s size)) is lowest

if-lowest : (s : Space) (size a : ℕ) (b : Bool) → (if b then lowest_fit s size else None) ≡ Some a → IsLowest s size a
if-lowest s size a true found = some-lowest s size a (lowest_fit s size) (lowest_fit-lowest s size) found
if-lowest s size a false found = absurd (let none : None ≡ Some a = found in cc)

found-lowest : (s : Space) (size a : ℕ) → place_for s size ≡ Some a → IsLowest s (rounded size) a
unfolding place_for
found-lowest s size a found = if-lowest s (rounded size) a (nat_lt (length s.blocks) block_limit) found

block-within : (r : Resources) (size a : ℕ) → HasRoomFor r → place_for r.heap size ≡ Some a → a + size ≤ length r.memory.bytes
block-within r size a room found = fits-in size a r.heap.high (length r.memory.bytes) (found-lowest r.heap size a found).room.below room

made-stored : (w : Stores) (r : Resources) (size : ℕ) (memory : ℕ → Memory) (place : Option ℕ) → HasRoomFor r → place_for r.heap size ≡ place
    → ((a : ℕ) → a + size ≤ length r.memory.bytes → Beside (range a w.filled) r.memory.bytes (memory a).bytes) → HostStored w r (made_at r size memory place)
made-stored w r size memory None room is each = unchanged w r
made-stored w r size memory (Some a) room is each =
    inr (record { size = size; place = a; found = is; made = refl; beside = each a (block-within r size a room is) })

makes-stored : (w : Stores) (r : Resources) (size : ℕ) (memory : ℕ → Memory) → HasRoomFor r
    → ((a : ℕ) → a + size ≤ length r.memory.bytes → Beside (range a w.filled) r.memory.bytes (memory a).bytes) → HostStored w r (made_at r size memory (place_for r.heap size))
makes-stored w r size memory room each = made-stored w r size memory (place_for r.heap size) room refl each

zeros-beside : (a size : ℕ) (xs : List ℕ) → a + size ≤ length xs → Beside (range a size) xs (put a (replicate size 0) xs)
zeros-beside a size xs within =
    let long = length-replicate {A = ℕ} size 0 in
    wider (range a size) (range a (length (replicate size 0))) xs (put a (replicate size 0) xs) (omega arith) (omega (arith, long)) (put-beside a (replicate size 0) xs (omega (arith, long, within)))

part-few : (from n : ℕ) (xs : List ℕ) → length (part from n xs) ≤ n
part-few from n xs = omega (arith, length-take n (drop from xs))

moved-beside : (from to n : ℕ) (m : Memory) → refusal m to n ≡ None → Beside (range to n) m.bytes (put to (part from n m.bytes) m.bytes)
moved-beside from to zero m none = subst (λ (xs : List ℕ). Beside (range to 0) m.bytes xs) (sym (put-nil to m.bytes)) (stay (range to 0) m.bytes)
moved-beside from to (suc k) m none =
    let few = part-few from (suc k) m.bytes in
    let all : Passes m to (suc k) = passes m to (suc k) (omega arith) none in
    let within = all.within in
    wider (range to (suc k)) (range to (length (part from (suc k) m.bytes))) m.bytes (put to (part from (suc k) m.bytes) m.bytes) (omega arith) (omega (arith, few))
    (put-beside to (part from (suc k) m.bytes) m.bytes (omega (arith, few, within)))

open-part : (b : Bool) (x : Option Access) (e : Access) → (if b then x else Some e) ≡ None → x ≡ None
open-part true x e none = none
open-part false x e none = absurd (let bad : Some e ≡ None = none in cc)

moved-stored : (r : Resources) (from to n : ℕ) (refused : Option Access) → copy_refusal r.memory from to n ≡ refused → HostStored (plain (range to n)) r (moved_unless r (copied r.memory from to n) refused)
moved-stored r from to n None is =
    inl (record { heap = inl refl; beside = moved-beside from to n r.memory (open-part (in_memory r.memory from n) (refusal r.memory to n) (IsOutside from) is) })
moved-stored r from to n (Some e) is = tt

takes-stored : (w : Stores) (r : Resources) (input : List ℕ) → HostStored w r (takes_from r input)
takes-stored w r [] = unchanged w r
takes-stored w r (byte ∷ left) = inl (record { heap = inl refl; beside = stay w.reach r.memory.bytes })

effect-stored : (f : Function) (o : Operands) (r : Resources) → HasRoomFor r → HostStored (function_stores f o) r (effect_host f o r)
effect-stored NewRoutineDescriptor o r room =
    let bytes : List ℕ = image o.second None (o.third % 256) o.first in
    makes-stored (filling (length bytes)) r (length bytes) (λ a. with_bytes a bytes r.memory) room (λ a within. put-beside a bytes r.memory.bytes within)
effect-stored NewFatRoutineDescriptor o r room =
    let bytes : List ℕ = image o.third (Some o.first) 1 o.second in
    makes-stored (filling (length bytes)) r (length bytes) (λ a. with_bytes a bytes r.memory) room (λ a within. put-beside a bytes r.memory.bytes within)
effect-stored DisposeRoutineDescriptor o r room = inl (record { heap = inr (o.first, refl); beside = stay nothing r.memory.bytes })
effect-stored CallUniversalProc o r room = tt
effect-stored NewPtr o r room = makes-stored (plain nothing) r o.first (λ a. r.memory) room (λ a within. stay (range a 0) r.memory.bytes)
effect-stored NewPtrClear o r room = makes-stored (filling o.first) r o.first (λ a. filled r.memory a o.first) room (λ a within. zeros-beside a o.first r.memory.bytes within)
effect-stored DisposePtr o r room = inl (record { heap = inr (o.first, refl); beside = stay nothing r.memory.bytes })
effect-stored BlockMove o r room = moved-stored r o.first o.second o.third (copy_refusal r.memory o.first o.second o.third) refl
effect-stored ExitToShell o r room = tt
effect-stored GetByte o r room = takes-stored (plain nothing) r r.around.input
effect-stored PutBlock o r room = host-either (plain nothing) r (in_memory r.memory o.first o.second) _ _ (unchanged (plain nothing) r) tt
effect-stored ExitWith o r room = tt
effect-stored f o r room = inl (record { heap = inl refl; beside = stay nothing r.memory.bytes })

abbrev HostedStored : Stores → Host → Hosted → Type 0
HostedStored w h (HostGoes after effects) = PlainStored w.reach h.resources after.resources ⊎ BlockStored w.filled h.resources after.resources
HostedStored w h (Crosses pointer info) = Unit {0}
HostedStored w h (Leaves code) = Unit {0}
HostedStored w h (Stops fault) = Unit {0}

settled-stored : (w : Stores) (f : Function) (h : Host) (x : HostEffect) → HostStored w h.resources x → HostedStored w h (settled f h.active x)
settled-stored w f h (Gives r x effects) stored = stored
settled-stored w f h (CrossesInto pointer info) stored = tt
settled-stored w f h (LeavesWith code) stored = tt
settled-stored w f h (Refused access) stored = tt

host-stored : (index : ℕ) (h : Host) → HasRoomFor h.resources → HostedStored (host_stores (Some index) h.active) h (host index h)
unfolding host
host-stored index h room =
    settled-stored (host_stores (Some index) h.active) (function_at index) h _ (effect-stored (function_at index) (operands_of (function_at index) h.active) h.resources room)

after-host_went : (w : Stores) (s : State) (h : Host) → PlainStored w.reach (host_of s).resources h.resources ⊎ BlockStored w.filled (host_of s).resources h.resources → Went w s (after_host s h)
after-host_went w s h (inl plain) = Stayed refl plain.heap (record { bytes = h.resources.memory.bytes; beside = plain.beside; memory = refl })
after-host_went w s h (inr block) =
    Took refl (record {
      size = block.size;
      place = block.place;
      found = block.found;
      made = block.made;
      changed = record { bytes = h.resources.memory.bytes; beside = block.beside; memory = refl };
    })

hosted-went : (w : Stores) (s : State) (crossing : ℕ → ℕ → Next) (x : Hosted) → ((pointer info : ℕ) → IsWent w s (crossing pointer info)) → HostedStored w (host_of s) x → IsWent w s (hosted_by crossing s x)
hosted-went w s crossing (HostGoes h effects) each stored = after-host_went w s h stored
hosted-went w s crossing (Crosses pointer info) each stored = each pointer info
hosted-went w s crossing (Leaves code) each stored = tt
hosted-went w s crossing (Stops fault) each stored = tt

universal-went : (w : Stores) (s : State) (active : Active) (pointer info : ℕ) → IsTold s → IsWent w s (universal s active pointer info)
universal-went w s (M68 r) pointer info told = crosses-went w s (Jumps pointer) told
universal-went w s (Ppc r) pointer info told = crosses-went w s (wants_ppc (seen s) r pointer info) told

hosts-went : (s : State) (index : ℕ) → IsTold s → IsWent (host_stores (Some index) s.active) s (hosts s index)
unfolding hosts
hosts-went s index told =
    hosted-went (host_stores (Some index) s.active) s (universal s s.active) (host index (host_of s))
    (λ pointer info. universal-went (host_stores (Some index) s.active) s s.active pointer info told) (host-stored index (host_of s) told.heap)

to-went : (s : State) (word : ℕ) (index : Option ℕ) → IsTold s → IsWent (host_stores index s.active) s (traps_to s word index)
to-went s word None told = tt
to-went s word (Some index) told = hosts-went s index told

traps-went : (s : State) (r : Regs68) (word : ℕ) → IsTold s → IsWent (host_stores (trap_number word) s.active) s (traps s r word)
unfolding traps
traps-went s r word told =
    either (host_stores (trap_number word) s.active) s (word == mixed_mode_magic) _ _
    (crosses-went (host_stores (trap_number word) s.active) s (wants_68k (seen s) r) told) (to-went s word (trap_number word) told)

-- 68K code

effect-went : (w : Reach) (s : State) (r : Regs68) (x : Effect) → Kept w (seen s) x → IsWent (plain w) s (after_68k s r (after x))
effect-went w s r (Ok p) kept = Stayed refl (inl refl) (record { bytes = p.1.bytes; beside = kept.holds; memory = refl })
effect-went w s r (Err e) kept = tt

decoded-went : (s : State) (r : Regs68) (ws : List ℕ) (d : Decoded68) → IsTold s → s.active ≡ M68 r → IsWent (decoded_stores r d) s (after_68k s r (runs_decoded_68k r (seen s) ws d))
decoded-went s r ws (Op i used) told is =
    effect-went (stores_68k r i) s r (effect_68k r (seen s) (onward r.pc (2 * used)) i) (rows_68k r (seen s) (onward r.pc (2 * used)) i (told-short s told))
decoded-went s r ws (LineA word) told is = subst (λ (a : Active). IsWent (host_stores (trap_number word) a) s (traps s r word)) is (traps-went s r word told)
decoded-went s r ws LineF told is = tt
decoded-went s r ws Privileged told is = tt
decoded-went s r ws Illegal told is = tt
decoded-went s r ws Short told is = tt

either-after_68k : (w : Stores) (s : State) (r : Regs68) (b : Bool) (x y : After Regs68) → IsWent w s (after_68k s r x) → IsWent w s (after_68k s r y) → IsWent w s (after_68k s r (if b then x else y))
either-after_68k w s r true x y first second = first
either-after_68k w s r false x y first second = second

code-went_68k : (s : State) (r : Regs68) → IsTold s → s.active ≡ M68 r → IsWent (next_stores (seen s) (M68 r)) s (after_68k s r (stepped_68k r (seen s)))
unfolding stepped_68k
code-went_68k s r told is =
    either-after_68k (next_stores (seen s) (M68 r)) s r (r.pc % 2 == 1) _ _ tt
    (decoded-went s r (words_at (seen s) r.pc) (decoded_68k (words_at (seen s) r.pc)) told is)

went-68k : (s : State) (r : Regs68) → IsTold s → s.active ≡ M68 r → IsWent (next_stores (seen s) (M68 r)) s (step_68k s r)
unfolding step_68k
went-68k s r told is =
    either (next_stores (seen s) (M68 r)) s (r.pc % 2 == 1) _ _ tt
    (either (next_stores (seen s) (M68 r)) s (is_gate r.pc) _ _ (gate-went (next_stores (seen s) (M68 r)) s)
    (either (next_stores (seen s) (M68 r)) s (in_gate_page r.pc) _ _ tt (code-went_68k s r told is)))

-- PowerPC code

kept-went : (w : Reach) (s : State) (r : RegsPpc) (x : After RegsPpc) → AfterKept w (seen s) x → IsWent (plain w) s (after_ppc s r x)
kept-went w s r (GoesOn next memory) kept = Stayed refl (inl refl) (record { bytes = memory.bytes; beside = kept.holds; memory = refl })
kept-went w s r (LeavesSet index) kept = absurd kept.holds
kept-went w s r (StopsAt fault) kept = tt

instruction-went : (s : State) (r : RegsPpc) (word : ℕ) (i : Option InstrPpc) → IsTold s → IsWent (word_decoded r i) s (after_ppc s r (runs_decoded_ppc r (seen s) word i))
instruction-went s r word (Some i) told = kept-went (stores_ppc r i) s r (runs_ppc r (seen s) word i) (rows_ppc r (seen s) word i (told-short s told))
instruction-went s r word None told = tt

loaded-went : (s : State) (r : RegsPpc) (x : Result ℕ Access) → IsTold s
    → IsWent (word_stores r x) s (after_ppc s r (after_load r.pc (λ word. runs_decoded_ppc r (seen s) word (decoded_ppc word)) x))
loaded-went s r (Ok word) told = instruction-went s r word (decoded_ppc word) told
loaded-went s r (Err e) told = tt

page-went : (s : State) (r : RegsPpc) (k : Option ℕ) → IsTold s → s.active ≡ Ppc r → IsWent (host_stores k (Ppc r)) s (after_ppc s r (at_gate_page r k))
page-went s r (Some k) told is = subst (λ (a : Active). IsWent (host_stores (Some k) a) s (hosts s k)) is (hosts-went s k told)
page-went s r None told is = tt

either-page : (s : State) (r : RegsPpc) (b : Bool) (v w : Stores) (x y : After RegsPpc) → IsWent v s (after_ppc s r x) → IsWent w s (after_ppc s r y)
    → IsWent (if b then v else w) s (after_ppc s r (if b then x else y))
either-page s r true v w x y first second = first
either-page s r false v w x y first second = second

either-after_ppc : (w : Stores) (s : State) (r : RegsPpc) (b : Bool) (x y : After RegsPpc) → IsWent w s (after_ppc s r x) → IsWent w s (after_ppc s r y) → IsWent w s (after_ppc s r (if b then x else y))
either-after_ppc w s r true x y first second = first
either-after_ppc w s r false x y first second = second

code-went_ppc : (s : State) (r : RegsPpc) → IsTold s → s.active ≡ Ppc r → IsWent (next_stores (seen s) (Ppc r)) s (after_ppc s r (stepped_ppc r (seen s)))
unfolding stepped_ppc
code-went_ppc s r told is =
    either-after_ppc (next_stores (seen s) (Ppc r)) s r (not (r.pc % 4 == 0)) _ _ tt
    (either-page s r (in_gate_page r.pc) (host_stores (host_code r.pc) (Ppc r)) (word_stores r (loaded (seen s) r.pc Four)) _ _
    (page-went s r (host_code r.pc) told is) (loaded-went s r (loaded (seen s) r.pc Four) told))

went-ppc : (s : State) (r : RegsPpc) → IsTold s → s.active ≡ Ppc r → IsWent (next_stores (seen s) (Ppc r)) s (step_ppc s r)
unfolding step_ppc
went-ppc s r told is =
    either (next_stores (seen s) (Ppc r)) s (not (r.pc % 4 == 0)) _ _ tt
    (either (next_stores (seen s) (Ppc r)) s (is_gate r.pc) _ _ (gate-went (next_stores (seen s) (Ppc r)) s) (code-went_ppc s r told is))

of-went : (s : State) (active : Active) → IsTold s → s.active ≡ active → IsWent (next_stores (seen s) active) s (step_of s active)
of-went s (M68 r) told is = went-68k s r told is
of-went s (Ppc r) told is = went-ppc s r told is

pub steps-went : (s : State) → IsTold s → IsWent (next_stores (seen s) s.active) s (step s)
unfolding step
steps-went s told = of-went s s.active told refl
