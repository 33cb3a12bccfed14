-- What is kept of a step, and the machines before the steps that are kept.
use Rattle.std.proofs.Common.{◌≡◌, ℕ, zero, suc, ◌+◌, ◌-◌, ◌*◌, ◌<◌, ◌≤◌, nat_le, Bool, true, false, List, [], ◌∷◌, ◌++◌, length, take, drop, get_or, inl, inr, arith, ap, sym, subst, ◌∙◌, refl}
use Rattle.std.specs.Prelude.{All, vec_capacity}
use Rattle.std.proofs.lemmas.Bool.{cases_Bool, cases_lt}
use Rattle.std.proofs.lemmas.List.{take_at}
use Rattle.std.proofs.lemmas.List.Elements.{All-head, All-tail}
use Rattle.host_heap.specs.declared.block.Block.{Block}
use Rattle.switch_frame.specs.declared.active.Active.{Active}
use Rattle.switch_frame.specs.Records.{isa_of}
use Rattle.mix_engine.specs.declared.machine.Machine.{Machine}
use Rattle.mix_bits.specs.declared.isa.Isa.{Isa}
use Rattle.big_memory.specs.Lists.{part, put}
use Rattle.big_memory.specs.Memory.{Memory}
use Rattle.host_heap.specs.Space.{Space, block_limit}
use Rattle.mix_debug.specs.declared.head.FrameChange.{FrameChange}
use Rattle.mix_debug.specs.declared.head.BlockChange.{BlockChange}
use Rattle.mix_debug.specs.declared.head.Head.{Head}
use Rattle.mix_debug.specs.declared.history.History.{History}
use Rattle.mix_debug.specs.inner.WrittenBack.{Covers}
use Rattle.mix_debug.specs.WrittenBack.{olds_of, undone}
use Rattle.mix_debug.specs.Changes.{Run, joined, runs_cost, runs_from}
use Rattle.mix_debug.specs.Entries.{Entry, IsEntry, IsFrame, IsInside, head_cost, heap_before, marks_before, within}
use Rattle.mix_debug.specs.inner.Entries.{block_between, frame_between, newest}
use Rattle.mix_debug.specs.Pasts.{IsPast, entries_in}
use Rattle.mix_debug.specs.Machines.{IsSound, before, earlier}
use Rattle.mix_debug.specs.CostsClauses.{Kept, cost_between, fitting}
use Rattle.mix_debug.specs.Histories.{IsHistory}
use Rattle.mix_debug.specs.inner.Histories.{KeepsBeside, entry_of}
use Rattle.mix_debug.specs.TrailsClauses.{Keeps, TakesBack, Trail}
use Rattle.mix_debug.specs.Trails.{history_room}
use Rattle.mix_debug.specs.declared.past.Past.{Past}
use Rattle.mix_debug.proofs.Blocks.{heap-back}
use Rattle.mix_debug.proofs.Differ.{undoes}
use Rattle.mix_debug.proofs.Guarding.{frame-back, same-long}
use Rattle.mix_debug.proofs.Narrowing.{range-copied}
use Rattle.mix_debug.proofs.Spelling.{cost-runs}
use Rattle.mix_debug.proofs.Stepping.{Followed, same-machine}

-- all of none, and of one more
none-all : {X : Type 0} (P : X → Type 0) → All P []
none-all P k d l = absurd (omega arith)

one-more : {X : Type 0} (P : X → Type 0) (x : X) (xs : List X) → P x → All P xs → All P (x ∷ xs)
one-more P x xs here rest zero d l = here
one-more P x xs here rest (suc k) d l = rest k d (omega arith)

-- runs lie in the memory that they were found in
inside-joined : (len at x : ℕ) (rs : List Run) → at < len → All (IsInside len) rs → All (IsInside len) (joined at x rs)
unfolding joined
inside-joined len at x [] here rest = one-more (IsInside len) (record { at = at; old = x ∷ [] }) [] (omega arith) rest
inside-joined len at x (r ∷ rs) here rest =
    elim (cases_Bool (Rattle.std.proofs.Common.◌==◌ r.at (suc at))) [
      | inl next ↦
          let place : r.at ≡ suc at = Rattle.std.proofs.lemmas.Bool.eqb-true r.at (suc at) next in
          let end : r.at + length r.old ≤ len = All-head (IsInside len) r rs rest in
          rw next (one-more (IsInside len) (record { at = at; old = x ∷ r.old }) rs (omega (arith, place, end)) (All-tail (IsInside len) r rs rest))
      | inr apart ↦ rw apart (one-more (IsInside len) (record { at = at; old = x ∷ [] }) (r ∷ rs) (omega arith) rest)
    ]

inside-runs : (len at : ℕ) (xs ys : List ℕ) → at + length xs ≤ len → All (IsInside len) (runs_from at xs ys)
unfolding runs_from
inside-runs len at [] ys fits = none-all (IsInside len)
inside-runs len at (x ∷ xs) [] fits = none-all (IsInside len)
inside-runs len at (x ∷ xs) (y ∷ ys) fits =
    let rest = inside-runs len (suc at) xs ys (omega (arith, fits)) in
    elim (cases_Bool (Rattle.std.proofs.Common.◌==◌ x y)) [
      | inl same ↦ rw same rest
      | inr other ↦ rw other (inside-joined len at x (runs_from (suc at) xs ys) (omega (arith, fits)) rest)
    ]

-- the step, and the machine before it
pub record StepBack (m n : Machine) : Type 0 where
  pub entry : IsEntry (length n.body.ram.bytes) (entry_of m.active m.body.top m.body.ram.bytes m.body.heap.blocks n)
  pub machine : before (entry_of m.active m.body.top m.body.ram.bytes m.body.heap.blocks n) n ≡ m
  pub cost : head_cost (entry_of m.active m.body.top m.body.ram.bytes m.body.heap.blocks n).head ≡ cost_between m n
  pub long : length n.body.ram.bytes ≡ length m.body.ram.bytes

pub step-back : (m n : Machine) → IsSound m → IsSound n → Rattle.host_heap.specs.Sound.IsSound m.body.heap → Followed m.body n.body → StepBack m n
unfolding entry_of before cost_between
step-back m n here there sound moved =
    let long : length n.body.ram.bytes ≡ length m.body.ram.bytes = same-long m.body n.body (isa_of m.active) (isa_of n.active) here there moved in
    let frame = frame-back m.body n.body (isa_of m.active) (isa_of n.active) here there moved in
    let runs : List Run = runs_from 0 m.body.ram.bytes n.body.ram.bytes in
    let cost : runs_cost runs ≡ 8 * length runs + length (olds_of runs) = cost-runs runs in
    record {
      entry = record { frame = frame.frame; runs = inside-runs (length n.body.ram.bytes) 0 m.body.ram.bytes n.body.ram.bytes (omega (arith, long)) };
      machine = same-machine m
          (before (entry_of m.active m.body.top m.body.ram.bytes m.body.heap.blocks n) n)
          refl (undoes m.body.ram.bytes n.body.ram.bytes (sym long)) frame.marks (heap-back m.body.heap n.body.heap sound moved.heap) refl moved.a5 moved.main moved.start_sp;
      cost = omega (arith, cost);
      long = long;
    }

-- the machines before the steps for which there is room
earlier-within : (room : ℕ) (m : Machine) (es : List Entry) → earlier m (within room es) ≡ fitting room (earlier m es)
unfolding earlier within fitting
earlier-within room m [] = refl
earlier-within room m (e ∷ es) =
    elim (cases_Bool (nat_le (head_cost e.head) room)) [
      | inl fits ↦ rw (fits) (ap (λ ks. record { machine = before e m; cost = head_cost e.head } ∷ ks) (earlier-within (room - head_cost e.head) (before e m) es))
      | inr full ↦ rw (full) refl
    ]

all-within : (P : Entry → Type 0) (room : ℕ) (es : List Entry) → All P es → All P (within room es)
unfolding within
all-within P room [] all = all
all-within P room (e ∷ es) all =
    elim (cases_Bool (nat_le (head_cost e.head) room)) [
      | inl fits ↦ rw fits (one-more P e (within (room - head_cost e.head) es) (All-head P e es all) (all-within P (room - head_cost e.head) es (All-tail P e es all)))
      | inr full ↦ rw full (none-all P)
    ]

all-fitting : (P : Kept → Type 0) (room : ℕ) (ks : List Kept) → All P ks → All P (fitting room ks)
unfolding fitting
all-fitting P room [] all = all
all-fitting P room (k ∷ ks) all =
    elim (cases_Bool (nat_le k.cost room)) [
      | inl fits ↦ rw fits (one-more P k (fitting (room - k.cost) ks) (All-head P k ks all) (all-fitting P (room - k.cost) ks (All-tail P k ks all)))
      | inr full ↦ rw full (none-all P)
    ]

earlier-more : (e : Entry) (es : List Entry) (m n : Machine) (cost : ℕ) → before e n ≡ m → head_cost e.head ≡ cost → earlier n (e ∷ es) ≡ record { machine = m; cost = cost } ∷ earlier m es
unfolding earlier
earlier-more e es m n cost is costs =
    ap (λ c. record { machine = before e n; cost = c } ∷ earlier (before e n) es) costs ∙ ap (λ x. record { machine = x; cost = cost } ∷ earlier x es) is

-- a step that is done is kept
pub record KeptStep (m n : Machine) (h k : History) : Type 0 where
  pub history : IsHistory n k
  pub kept : earlier n (entries_in k.past) ≡ fitting history_room (record { machine = m; cost = cost_between m n } ∷ earlier m (entries_in h.past))

pub kept-step : (m n : Machine) (h k : History) → IsHistory m h → IsSound n → Followed m.body n.body → k.copy.items ≡ n.body.ram.bytes → k.blocks.items ≡ n.body.heap.blocks
    → Rattle.host_heap.specs.Sound.IsSound n.body.heap → block_limit ≤ vec_capacity k.blocks → IsPast k.past
    → entries_in k.past ≡ within history_room (entry_of m.active m.body.top h.copy.items h.blocks.items n ∷ entries_in h.past) → KeptStep m n h k
kept-step m n h k here there moved copied blocks heap room past entries =
    let e : Entry = entry_of m.active m.body.top m.body.ram.bytes m.body.heap.blocks n in
    let es : List Entry = entries_in h.past in
    let back = step-back m n here.whole there here.heap moved in
    let is : entries_in k.past ≡ within history_room (e ∷ es) =
    entries ∙ ap (λ bytes. within history_room (entry_of m.active m.body.top bytes h.blocks.items n ∷ es)) here.copied
    ∙ ap (λ bs. within history_room (entry_of m.active m.body.top m.body.ram.bytes bs n ∷ es)) here.blocks in
    let kept : earlier n (entries_in k.past) ≡ fitting history_room (record { machine = m; cost = cost_between m n } ∷ earlier m es) =
    ap (earlier n) is ∙ earlier-within history_room n (e ∷ es) ∙ ap (fitting history_room) (earlier-more e es m n (cost_between m n) back.machine back.cost) in
    let olds : All (IsEntry (length n.body.ram.bytes)) es = subst (λ len. All (IsEntry len) es) (sym back.long) here.entries in
    let sound : Kept → Type 0 = λ x. IsSound x.machine in
    record {
      history = record {
        whole = there;
        copied = copied;
        blocks = blocks;
        heap = heap;
        room = room;
        past = past;
        entries = subst (All (IsEntry (length n.body.ram.bytes))) (sym is)
            (all-within (IsEntry (length n.body.ram.bytes)) history_room (e ∷ es) (one-more (IsEntry (length n.body.ram.bytes)) e es back.entry olds));
        wholes = subst (All sound) (sym kept)
            (all-fitting sound history_room (record { machine = m; cost = cost_between m n } ∷ earlier m es)
            (one-more sound (record { machine = m; cost = cost_between m n }) (earlier m es) here.whole here.wholes));
      };
      kept = kept;
    }

-- the newest step is taken back
length-put : (at : ℕ) (ys xs : List ℕ) → at + length ys ≤ length xs → length (Rattle.big_memory.specs.Lists.put at ys xs) ≡ length xs
length-put at ys xs within = Rattle.big_memory.proofs.Lists.length-put at ys xs within

pub length-undone : (len : ℕ) (rs : List Run) (bytes : List ℕ) → length bytes ≡ len → All (IsInside len) rs → length (undone rs bytes) ≡ len
unfolding undone
length-undone len [] bytes long inside = long
length-undone len (r ∷ rs) bytes long inside =
    let here : r.at + length r.old ≤ len = All-head (IsInside len) r rs inside in
    length-undone len rs (Rattle.big_memory.specs.Lists.put r.at r.old bytes) (length-put r.at r.old bytes (omega (arith, here, long)) ∙ long) (All-tail (IsInside len) r rs inside)

earlier-first : (e : Entry) (es : List Entry) (m : Machine) → All (λ k. IsSound k.machine) (earlier m (e ∷ es)) → IsSound (before e m) × All (λ k. IsSound k.machine) (earlier (before e m) es)
unfolding earlier
earlier-first e es m all =
    let sound : Kept → Type 0 = λ x. IsSound x.machine in
    let first : Kept = record { machine = before e m; cost = head_cost e.head } in
    (All-head sound first (earlier (before e m) es) all, All-tail sound first (earlier (before e m) es) all)

pub undone-step : (m n : Machine) (h k : History) (e : Entry) → IsHistory m h → entries_in h.past ≡ e ∷ entries_in k.past → n ≡ before e m → k.copy.items ≡ n.body.ram.bytes
    → k.blocks.items ≡ n.body.heap.blocks → Rattle.host_heap.specs.Sound.IsSound n.body.heap → block_limit ≤ vec_capacity k.blocks → IsPast k.past → IsHistory n k
unfolding before
undone-step m n h k e here entries is copied blocks heap room past =
    let es : List Entry = entries_in k.past in
    let len : ℕ = length m.body.ram.bytes in
    let all : All (IsEntry len) (e ∷ es) = subst (All (IsEntry len)) entries here.entries in
    let first : IsEntry len e = All-head (IsEntry len) e es all in
    let long : length n.body.ram.bytes ≡ len = ap (λ (x : Machine). length x.body.ram.bytes) is ∙ length-undone len e.runs m.body.ram.bytes refl first.runs in
    let wholes = earlier-first e es m (subst (λ xs. All (λ k. IsSound k.machine) (earlier m xs)) entries here.wholes) in
    record {
      whole = subst IsSound (sym is) wholes.0;
      copied = copied;
      blocks = blocks;
      heap = heap;
      room = room;
      past = past;
      entries = subst (λ l. All (IsEntry l) es) (sym long) (All-tail (IsEntry len) e es all);
      wholes = subst (λ x. All (λ k. IsSound k.machine) (earlier x es)) (sym is) wholes.1;
    }

-- before the first step
pub no-step : (m : Machine) (h : History) → IsSound m → h.copy.items ≡ m.body.ram.bytes → h.blocks.items ≡ m.body.heap.blocks → Rattle.host_heap.specs.Sound.IsSound m.body.heap
    → block_limit ≤ vec_capacity h.blocks → IsPast h.past → entries_in h.past ≡ [] → IsHistory m h
unfolding earlier
no-step m h whole copied blocks heap room past empty =
    record {
      whole = whole;
      copied = copied;
      blocks = blocks;
      heap = heap;
      room = room;
      past = past;
      entries = subst (All (IsEntry (length m.body.ram.bytes))) (sym empty) (none-all (IsEntry (length m.body.ram.bytes)));
      wholes = subst (λ es. All (λ k. IsSound k.machine) (earlier m es)) (sym empty) (none-all (λ (k : Kept). IsSound k.machine));
    }

-- the copy, with the range that may have changed
pub copy-kept : (n low high : ℕ) (items old to bytes ram xs : List ℕ) → old ≡ items → to ≡ items → bytes ≡ ram → length items ≡ length ram → Covers low high old bytes
    → xs ≡ put low (part low (high - low) bytes) to → n ≡ length to → take n (xs ++ drop (length xs) items) ≡ ram
copy-kept n low high items old to bytes ram xs is that now same covers are long =
    let here : Covers low high items ram = subst (Covers low high items) now (subst (λ ys. Covers low high ys bytes) is covers) in
    let copied : xs ≡ ram = are ∙ ap (λ ys. put low (part low (high - low) ys) to) now ∙ ap (put low (part low (high - low) ram)) that ∙ range-copied low high items ram same here in
    take_at xs (drop (length xs) items) n (ap length copied ∙ sym same ∙ sym (ap length that) ∙ sym long) ∙ copied

-- what is kept of the step
abbrev entry : Active → ℕ → FrameChange → BlockChange → ℕ → ℕ → List Run → Entry
entry file top frame block runs olds rs = record { head = record { file = file; top = top; frame = frame; block = block; runs = runs; olds = olds }; runs = rs }

pub entry-is : (file : Active) (top : ℕ) (bytes : List ℕ) (blocks : List Block) (new : Machine) (a b : Isa) (frame : FrameChange) (old_blocks new_blocks : List Block) (block : BlockChange)
    (runs olds : ℕ) (rs : List Run) → a ≡ isa_of file → b ≡ isa_of new.active → frame ≡ frame_between top new.body.top a b → old_blocks ≡ blocks → new_blocks ≡ new.body.heap.blocks
    → block ≡ block_between old_blocks new_blocks → runs ≡ length (runs_from 0 bytes new.body.ram.bytes) → olds ≡ length (olds_of (runs_from 0 bytes new.body.ram.bytes))
    → rs ≡ runs_from 0 bytes new.body.ram.bytes
    → entry file top frame block runs olds rs ≡ entry_of file top bytes blocks new
unfolding entry_of
entry-is file top bytes blocks new a b frame old_blocks new_blocks block runs olds rs first then frame_is olds_are news_are block_is runs_are olds_count rs_are =
    let frames : frame ≡ frame_between top new.body.top (isa_of file) (isa_of new.active) = frame_is ∙ ap (λ x. frame_between top new.body.top x b) first ∙ ap (frame_between top new.body.top (isa_of file)) then in
    let blocks_are : block ≡ block_between blocks new.body.heap.blocks = block_is ∙ ap (λ x. block_between x new_blocks) olds_are ∙ ap (block_between blocks) news_are in
    let all : List Run = runs_from 0 bytes new.body.ram.bytes in
    ap (λ x. entry file top x block runs olds rs) frames
    ∙ ap (λ x. entry file top (frame_between top new.body.top (isa_of file) (isa_of new.active)) x runs olds rs) blocks_are
    ∙ ap (λ x. entry file top (frame_between top new.body.top (isa_of file) (isa_of new.active)) (block_between blocks new.body.heap.blocks) x olds rs) runs_are
    ∙ ap (λ x. entry file top (frame_between top new.body.top (isa_of file) (isa_of new.active)) (block_between blocks new.body.heap.blocks) (length all) x rs) olds_count
    ∙ ap (λ x. entry file top (frame_between top new.body.top (isa_of file) (isa_of new.active)) (block_between blocks new.body.heap.blocks) (length all) (length (olds_of all)) x) rs_are

-- the newest step of those that are kept
pub newest-inside : (len : ℕ) (es : List Entry) → All (IsEntry len) es → All (IsInside len) (newest es)
newest-inside len [] all = none-all (IsInside len)
newest-inside len (e ∷ es) all = (All-head (IsEntry len) e es all).runs

pub newest-frame : (old new : List ℕ) (h : Head) (es rest : List Entry) → All (IsEntry (length old)) es → es ≡ record { head = h; runs = newest es } ∷ rest → new ≡ undone (newest es) old → IsFrame (length new) h.frame
newest-frame old new h es rest all is are =
    let first : IsEntry (length old) (record { head = h; runs = newest es }) = All-head (IsEntry (length old)) (record { head = h; runs = newest es }) rest (subst (All (IsEntry (length old))) is all) in
    let long : length new ≡ length old = ap length are ∙ length-undone (length old) (newest es) old refl first.runs in
    subst (λ n. IsFrame n h.frame) (sym long) first.frame

-- the machine before it
abbrev returned : Machine → Head → Memory → Space → Machine
returned m h ram heap = record { active = h.file; body = record { ram = ram; heap = heap; top = h.top; a5 = m.body.a5; main = m.body.main; start_sp = m.body.start_sp } }

pub undone-machine : (m : Machine) (h : Head) (rs : List Run) (first last : Memory) (heap : Space) → first ≡ record { bytes = undone rs m.body.ram.bytes; marks = m.body.ram.marks }
    → last ≡ record { bytes = first.bytes; marks = marks_before h.frame first.marks } → heap ≡ heap_before h.block m.body.heap
    → returned m h last heap ≡ before (record { head = h; runs = rs }) m
unfolding before
undone-machine m h rs first last heap undo frame block =
    let ram : last ≡ record { bytes = undone rs m.body.ram.bytes; marks = marks_before h.frame m.body.ram.marks } = frame ∙ ap (λ (x : Memory). record { bytes = x.bytes; marks = marks_before h.frame x.marks }) undo in
    ap (λ x. returned m h x heap) ram ∙ ap (returned m h (record { bytes = undone rs m.body.ram.bytes; marks = marks_before h.frame m.body.ram.marks })) block

-- the debugger's view of a machine and what is kept beside it
pub length-earlier : (m : Machine) (es : List Entry) → length (earlier m es) ≡ length es
unfolding earlier
length-earlier m [] = refl
length-earlier m (e ∷ es) = ap suc (length-earlier (before e m) es)

pub earlier-none : (m : Machine) (es : List Entry) → es ≡ [] → earlier m es ≡ []
unfolding earlier
earlier-none m es none = ap (earlier m) none

pub takes-none : (ks : List Kept) (t : Trail) → length ks ≡ 0 → TakesBack false ks t t
takes-none [] t none = (refl, refl)
takes-none (k ∷ ks) t none = absurd (omega arith)

pub takes-back : (m n : Machine) (e : Entry) (es rest : List Entry) (bs : List ℕ) → es ≡ e ∷ rest → n ≡ before e m
    → TakesBack true (earlier m es) (record { machine = m; kept = earlier m es; breaks = bs }) (record { machine = n; kept = earlier n rest; breaks = bs })
unfolding earlier
takes-back m n e es rest bs is back =
    subst (λ xs. TakesBack true (earlier m xs) (record { machine = m; kept = earlier m xs; breaks = bs }) (record { machine = n; kept = earlier n rest; breaks = bs })) (sym is)
    (refl, ap (λ (x : Machine). record { machine = x; kept = earlier x rest; breaks = bs }) back)

pub keeps-view : (done : Bool) (m n : Machine) (h k : History) (bs : List ℕ) → KeepsBeside done m n h k
    → Keeps done (record { machine = m; kept = earlier m (entries_in h.past); breaks = bs }) (record { machine = n; kept = earlier n (entries_in k.past); breaks = bs })
keeps-view true m n h k bs keeps = keeps
keeps-view false m n h k bs keeps = (keeps.0, ap (λ x. earlier x (entries_in k.past)) keeps.0 ∙ ap (earlier m) keeps.1)

-- the machine that a step led to, or the same one
pub long-kept : (m n : Machine) (h : History) → IsHistory m h → IsSound n → Followed m.body n.body → length h.copy.items ≡ length n.body.ram.bytes
long-kept m n h here there moved = ap length here.copied ∙ sym (same-long m.body n.body (isa_of m.active) (isa_of n.active) here.whole there moved)

pub same-history : (m n : Machine) (h : History) → n ≡ m → IsHistory m h → IsHistory n h
same-history m n h same here = subst (λ x. IsHistory x h) (sym same) here

-- what is kept beside a machine, where the registers were written before a step
written : (m : Machine) (h : History) (q : Past) → IsHistory m h → IsPast q → entries_in q ≡ entries_in h.past → IsHistory m (record h { past = q })
written m h q here past entries =
    record {
      whole = here.whole;
      copied = here.copied;
      blocks = here.blocks;
      heap = here.heap;
      room = here.room;
      past = past;
      entries = subst (All (IsEntry (length m.body.ram.bytes))) (sym entries) here.entries;
      wholes = subst (λ es. All (λ k. IsSound k.machine) (earlier m es)) (sym entries) here.wholes;
    }

pub prepared : (m : Machine) (h k : History) → IsHistory m h → k ≡ record h { past = k.past } → IsPast k.past → entries_in k.past ≡ entries_in h.past → IsHistory m k
prepared m h k here beside past entries = subst (IsHistory m) (sym beside) (written m h k.past here past entries)
