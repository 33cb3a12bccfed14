-- A machine while a caller is suspended, and once it goes on.
use Rattle.std.proofs.Common.{◌≡◌, ℕ, ◌+◌, ◌-◌, ◌/◌, ◌≤◌, List, [], ◌∷◌, ◌++◌, length, drop, None, inl, arith, refl, sym, ap, ◌∙◌, subst}
use Rattle.mix_bits.specs.declared.isa.Isa.{Isa}
use Rattle.big_memory.specs.Lists.{put}
use Rattle.big_memory.specs.Memory.{Memory, floor_of, refusal, with_bytes}
use Rattle.big_memory.specs.StoresClauses.{OnlyFree}
use Rattle.host_heap.specs.Space.{Space}
use Rattle.switch_frame.specs.declared.active.Active.{Active}
use Rattle.switch_frame.specs.declared.held.Held.{Held}
use Rattle.switch_frame.specs.declared.kind.Kind.{Kind}
use Rattle.switch_frame.specs.Records.{Record, isa_of}
use Rattle.switch_frame.specs.RecordsClauses.{record_of}
use Rattle.switch_frame.specs.Sets.{caller_isa, callee_isa, frame_size}
use Rattle.switch_frame.specs.Chain.{Chain, Links, cleared, records}
use Rattle.big_memory.specs.Lists.{zeros}
use Rattle.switch_frame.specs.CallsClauses.{IsCalled, IsPlace}
use Rattle.switch_frame.specs.Innermost.{IsInnermost}
use Rattle.switch_frame.specs.Calls.{IsOutermost, active_set}
use Rattle.switch_frame.specs.laws.FrameLaws.{IsFirst}
use Rattle.switch_frame.specs.laws.Laws.{IsStored}
use Rattle.switch_frame.specs.Program.{HasGatePage, HasHeap, start_sp_of}
use Rattle.switch_frame.proofs.Gates.{page_by_bytes}
use Rattle.toolbox.specs.CallsClauses.{KeepsBounds}
use Rattle.toolbox.specs.Effects.{Around}
use Rattle.mode_switch.specs.Callee.{below, fresh, return_sp, stack_of}
use Rattle.mode_switch.specs.Passed.{Passage}
use Rattle.mode_switch.specs.Wanted.{Crossing, address_of, passed_selector}
use Rattle.std.specs.Prelude.{is_some, unwrap_or}
use Rattle.mixed_machine.specs.declared.body.Body.{Body}
use Rattle.mixed_machine.specs.State.{State}
use Rattle.mixed_machine.specs.Enter.{entered, sp_in, suspended}
use Rattle.mixed_machine.specs.inner.Parts.{started, HasChain}
use Rattle.mixed_machine.specs.Machine.{IsWhole, callers_of, flat, memory_of}
use Rattle.mixed_machine.specs.inner.Machine.{seen_of}
use Rattle.mix_engine.specs.laws.Laws.{AreLaws}
use Rattle.mix_engine.specs.laws.CallLaws.{AreCallLaws}
use Rattle.mix_engine.specs.inner.Changes.{IsChanged}
use Rattle.mix_engine.specs.inner.Frames.{IsEntered, IsReady, IsResumed, IsSuspended}
use Rattle.mix_engine.proofs.Changed.{changed, seen-is}

-- the callers as they are read
pub callers-are : (b : Body) → callers_of b ≡ records b.ram.bytes b.top
unfolding callers_of
callers-are b = refl

pub chain-is : (b : Body) → HasChain b → Chain b.ram b.top (records b.ram.bytes b.top)
chain-is b chain = subst (Chain b.ram b.top) (callers-are b) chain

pub links-are : (b : Body) → HasChain b → Links b.ram b.top (records b.ram.bytes b.top)
links-are b chain = (chain-is b chain).links

memory-length : AreLaws → (b : Body) → HasChain b → length (memory_of b) ≡ length b.ram.bytes
unfolding memory_of
memory-length laws b chain = laws.length b.ram b.top (callers_of b) chain.links

-- a piece put above the gate page
page-kept : AreCallLaws → (a5 at : ℕ) (ys memory : List ℕ) → at + length ys ≤ length memory → 0x1000 + 0x1000 ≤ at → HasGatePage a5 memory → HasGatePage a5 (put at ys memory)
page-kept more a5 at ys memory within above has =
    page_by_bytes a5 memory (put at ys memory) (more.put_beside 0x1000 0x1000 at ys memory within (inl above)) (more.put_length at ys memory within) has

heap-moves : (heap : Space) (m n : Memory) → length n.bytes ≡ length m.bytes → HasHeap heap.low heap.high m → HasHeap heap.low heap.high n
heap-moves heap m n long has =
    record { aligned = has.aligned; behind = has.behind; ordered = has.ordered; whole = has.whole ∙ ap (λ l. l - l / 4) (sym long) }

pub same-bounds : (heap : Space) → KeepsBounds heap heap
same-bounds heap = record { low = refl; high = refl }

-- a callee's stack was written below the place of a frame
pub readied : AreLaws → AreCallLaws → (b : Body) (ram : Memory) (set : Isa) (kind : Kind) (lo hi sp : ℕ) (stack : List ℕ)
    → IsWhole b set → IsPlace b.ram (callers_of b) kind lo hi → floor_of b.ram ≤ sp → sp + length stack ≡ lo → ram ≡ with_bytes sp stack b.ram
    → IsReady b (record b { ram = ram }) set kind lo hi sp stack
unfolding memory_of
readied laws more b ram set kind lo hi sp stack whole place floor ends is =
    let n : Memory = with_bytes sp stack b.ram in
    let rs : List Record = callers_of b in
    let size : hi ≡ lo + frame_size (caller_isa kind) = place.size in
    let within : sp + length stack ≤ hi = omega (arith, ends, size) in
    let free : refusal b.ram sp (length stack) ≡ None = laws.places b.ram b.top rs kind lo hi sp (length stack) whole.chain place floor within in
    let only : OnlyFree b.ram n = laws.stores b.ram sp (length stack) stack refl whole.chain.links.ram free in
    let change : IsChanged b (record b { ram = n }) set = changed laws b n b.heap set whole only (same-bounds b.heap) in
    let stored : IsStored b.ram b.top rs sp stack = laws.beside b.ram b.top rs sp (length stack) stack refl free whole.chain in
    subst (λ m. IsReady b (record b { ram = m }) set kind lo hi sp stack) (sym is) (record {
      whole = change.whole;
      place = subst (λ cs. IsPlace n cs kind lo hi) (sym change.callers) (more.places b.ram n rs kind lo hi only.long place);
      callers = change.callers;
      memory = ap (cleared n.bytes) change.callers ∙ stored.memory;
      rest = refl;
    })

outermost-more : (main : Isa) (r : Record) (rs : List Record) → caller_isa r.kind ≡ active_set main rs → IsOutermost main rs → IsOutermost main (r ∷ rs)
outermost-more main r [] is all = is
outermost-more main r (s ∷ rs) is all = all

outermost-less : (main : Isa) (r : Record) (rs : List Record) → IsOutermost main (r ∷ rs) → IsOutermost main rs
outermost-less main r [] all = tt
outermost-less main r (s ∷ rs) all = all

-- a caller that goes on is of the set that its own caller called, or of the main program's
goes-on : (main : Isa) (r : Record) (rs : List Record) → caller_isa r.kind ≡ isa_of r.caller → IsCalled r.caller rs → IsOutermost main (r ∷ rs) → isa_of r.caller ≡ active_set main rs
goes-on main r [] kind called all = sym kind ∙ all
goes-on main r (s ∷ rs) kind called all = sym called

-- a caller was suspended
pub suspends : AreLaws → AreCallLaws → (b : Body) (ram : Memory) (top : ℕ) (held : Held) → IsWhole b (isa_of held.caller) → IsPlace b.ram (callers_of b) held.kind held.lo held.hi
    → caller_isa held.kind ≡ isa_of held.caller → Chain ram top (records ram.bytes top)
    → records ram.bytes top ≡ record_of held ∷ records b.ram.bytes b.top
    → cleared ram.bytes (records ram.bytes top) ≡ put held.lo (zeros (held.hi - held.lo)) (cleared b.ram.bytes (records b.ram.bytes b.top))
    → length ram.bytes ≡ length b.ram.bytes → IsSuspended b (record b { ram = ram; top = top }) held
unfolding callers_of memory_of
suspends laws more b ram top held whole place kind chain callers memory long =
    let new : Body = record b { ram = ram; top = top } in
    let zs : List ℕ = zeros (held.hi - held.lo) in
    let count : length zs ≡ held.hi - held.lo = more.zeros (held.hi - held.lo) in
    let size : held.hi ≡ held.lo + frame_size (caller_isa held.kind) = place.size in
    let floor : floor_of b.ram ≤ held.lo = place.stack in
    let least : 131072 ≤ length b.ram.bytes = whole.chain.links.ram.least in
    let mem : length (memory_of b) ≡ length b.ram.bytes = memory-length laws b whole.chain in
    let end : held.hi ≤ length b.ram.bytes = place.within in
    let within : held.lo + length zs ≤ length (memory_of b) = omega (arith, count, size, mem, end) in
    let above : 0x1000 + 0x1000 ≤ held.lo = omega (arith, floor, least) in
    let page : HasGatePage b.a5 (put held.lo zs (memory_of b)) = page-kept more b.a5 held.lo zs (memory_of b) within above whole.page in
    let all : IsOutermost b.main (record_of held ∷ callers_of b) = outermost-more b.main (record_of held) (callers_of b) (kind ∙ whole.active) whole.outermost in
    record {
      whole = record {
        chain = chain;
        active = ap (active_set b.main) (sym callers);
        outermost = subst (IsOutermost b.main) (sym callers) all;
        page = subst (HasGatePage b.a5) (sym memory) page;
        start = whole.start ∙ ap (start_sp_of b.main) (sym long);
        heap = heap-moves b.heap b.ram ram long whole.heap;
      };
      callers = callers;
      memory = memory;
      rest = refl;
    }

-- the innermost caller
pub innermost-is : (lo hi : ℕ) (rs : List Record) → IsInnermost lo hi rs → (r : Record) × (rs ≡ r ∷ drop 1 rs)
innermost-is lo hi [] none = absurd none
innermost-is lo hi (r ∷ rs) here = (r, refl)

-- it goes on
pub resumes : AreCallLaws → (b : Body) (ram : Memory) (top : ℕ) (set : Isa) (r : Record) → IsWhole b set → records b.ram.bytes b.top ≡ r ∷ records ram.bytes top
    → Chain ram top (records ram.bytes top) → cleared ram.bytes (records ram.bytes top) ≡ cleared b.ram.bytes (records b.ram.bytes b.top)
    → length ram.bytes ≡ length b.ram.bytes → IsResumed b (record b { ram = ram; top = top }) r
unfolding callers_of memory_of
resumes more b ram top set r whole callers chain memory long =
    let new : Body = record b { ram = ram; top = top } in
    let first : IsFirst r (callers_of new) = more.first b.ram b.top r (callers_of new) (subst (Links b.ram b.top) callers whole.chain.links) in
    let all : IsOutermost b.main (r ∷ callers_of new) = subst (IsOutermost b.main) callers whole.outermost in
    record {
      whole = record {
        chain = chain;
        active = goes-on b.main r (callers_of new) first.kind first.called all;
        outermost = outermost-less b.main r (callers_of new) all;
        page = subst (HasGatePage b.a5) (sym memory) whole.page;
        start = whole.start ∙ ap (start_sp_of b.main) (sym long);
        heap = heap-moves b.heap b.ram ram long whole.heap;
      };
      callers = callers;
      memory = memory;
      rest = refl;
    }

-- the state of a machine in which memory, registers and callers have changed
pub state-is : (b new : Body) (before after active : Active) (around : Around) (memory : List ℕ) (callers : List Record)
    → new ≡ record b { ram = new.ram; top = new.top } → memory_of new ≡ memory → callers_of new ≡ callers → after ≡ active
    → flat new after around ≡ record (flat b before around) { memory = memory; active = active; callers = callers }
state-is b new before after active around memory callers rest memory_is callers_are active_is =
    ap (λ m. record (flat new after around) { memory = m }) memory_is
    ∙ (ap (λ rs. record (flat new after around) { memory = memory; callers = rs }) callers_are
    ∙ (ap (λ x. record (flat new after around) { memory = memory; callers = callers; active = x }) active_is
    ∙ ap (λ (x : Body). record (flat x active around) { memory = memory; callers = callers }) rest))

-- what is seen of the stack's floor
pub floor-seen : AreLaws → (b : Body) (set : Isa) → IsWhole b set → floor_of (seen_of b) ≡ floor_of b.ram
floor-seen laws b set whole = ap floor_of (seen-is laws b set whole)

-- a caller is suspended, and its callee's stack stands below the frame
pub entered-now : AreLaws → AreCallLaws → (b mid new : Body) (set : Isa) (file : Active) (c : Crossing) (range : ℕ × ℕ) (p : Passage) (held : Held) (bytes : ℕ)
    → HasChain b → IsPlace b.ram (callers_of b) c.kind range.0 range.1 → bytes ≤ range.0
    → bytes ≡ below (callee_isa c.kind) c.sig (is_some (passed_selector c)) → length p.args ≡ length c.sig.params
    → record_of held ≡ suspended c range p
    → file ≡ fresh (callee_isa c.kind) c.sig (passed_selector c) p.args (range.0 - bytes) p.entry → isa_of file ≡ callee_isa c.kind
    → IsReady b mid set c.kind range.0 range.1 (range.0 - bytes) (stack_of (callee_isa c.kind) c.sig (passed_selector c) p.args)
    → IsSuspended mid new held → IsEntered b new file c range p
entered-now laws more b mid new set file c range p held bytes chain place least bytes_are count same file_is set_is ready suspension =
    let callee : Isa = callee_isa c.kind in
    let sp : ℕ = range.0 - bytes in
    let stack : List ℕ = stack_of callee c.sig (passed_selector c) p.args in
    let zs : List ℕ = zeros (range.1 - range.0) in
    let sp_is : sp_in c range ≡ sp = ap (λ n. range.0 - n) (sym bytes_are) in
    let long : length stack ≡ bytes = more.stacks callee c.sig (passed_selector c) p.args count ∙ sym bytes_are in
    let ends : sp + length stack ≡ range.0 = omega (arith, long, least) in
    let zeros_are : length zs ≡ range.1 - range.0 = more.zeros (range.1 - range.0) in
    let size : range.1 ≡ range.0 + frame_size (caller_isa c.kind) = place.size in
    let end : range.1 ≤ length b.ram.bytes = place.within in
    let mem : length (memory_of b) ≡ length b.ram.bytes = memory-length laws b chain in
    let within : sp + length stack + length zs ≤ length (memory_of b) = omega (arith, ends, zeros_are, size, end, mem) in
    let kind : held.kind ≡ c.kind = ap (λ (r : Record). r.kind) same in
    record {
      whole = subst (IsWhole new) (ap callee_isa kind ∙ sym set_is) suspension.whole;
      callers = suspension.callers ∙ (ap (λ rs. record_of held ∷ rs) ready.callers ∙ ap (λ r. r ∷ callers_of b) same);
      memory = suspension.memory
          ∙ (ap (λ (r : Record). put r.lo (zeros (r.hi - r.lo)) (memory_of mid)) same
          ∙ (ap (put range.0 zs) ready.memory
          ∙ (ap (λ a. put a zs (put sp stack (memory_of b))) (sym ends)
          ∙ (sym (more.put_joins sp stack zs (memory_of b) within)
          ∙ ap (λ a. put a (stack ++ zs) (memory_of b)) (sym sp_is)))));
      file_is = file_is ∙ ap (λ a. fresh callee c.sig (passed_selector c) p.args a p.entry) (sym sp_is);
      rest = suspension.rest ∙ ap (λ (x : Body). record x { ram = new.ram; top = new.top }) ready.rest;
    }

-- what a frame keeps of a call
pub held-is : (c : Crossing) (range : ℕ × ℕ) (p : Passage) (bytes selector target want depth : ℕ) → bytes ≡ below (callee_isa c.kind) c.sig (is_some (passed_selector c))
    → selector ≡ unwrap_or c.selector 0 → target ≡ address_of c.target → want ≡ return_sp (callee_isa c.kind) c.sig (passed_selector c) (range.0 - bytes)
    → record_of (record { kind = c.kind; caller = p.caller; info = c.info; selector = selector; target = target; lo = range.0; hi = range.1; want_sp = want; depth = depth }) ≡ suspended c range p
held-is c range p bytes selector target want depth bytes_are selector_is target_is want_is =
    ap (λ v. record (suspended c range p) { selector = v; target = target; want = want }) selector_is
    ∙ ap (λ a. record (suspended c range p) { target = a; want = want }) target_is
    ∙ ap (λ w. record (suspended c range p) { want = w }) (want_is ∙ ap (λ n. return_sp (callee_isa c.kind) c.sig (passed_selector c) (range.0 - n)) bytes_are)

-- the state in which a callee starts
pub entered-is : (b new : Body) (before file : Active) (c : Crossing) (range : ℕ × ℕ) (p : Passage) (around : Around) → IsEntered b new file c range p
    → flat new file around ≡ entered (flat b before around) c range p
entered-is b new before file c range p around all =
    let s : State = flat b before around in
    state-is b new before file (started c range p) around (entered s c range p).memory (entered s c range p).callers all.rest all.memory all.callers all.file_is
