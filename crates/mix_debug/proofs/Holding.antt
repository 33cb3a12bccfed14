-- The rings with a step more or fewer.
use Rattle.std.proofs.Common.{◌≡◌, ℕ, zero, suc, ◌+◌, ◌-◌, ◌*◌, ◌<◌, ◌≤◌, ◌==◌, nat_le, nat_lt, true, false, inl, inr, List, [], ◌∷◌, ◌++◌, length, take, drop, Option, Bor, Some, None, arith, ap, sym, subst, ◌∙◌, refl, length-take}
use Rattle.std.specs.Prelude.{All}
use Rattle.std.specs.Option.{option_copied}
use Rattle.std.specs.List.{slice_get}
use Rattle.circular_buffer.specs.Buffer.{Buffer, buffer}
use Rattle.std.proofs.lemmas.Bool.{cases_Bool, le-ltb, leb-false, leb-true, lt-ltb, ne_eqb}
use Rattle.std.proofs.lemmas.List.{take_all}
use Rattle.std.proofs.lemmas.List.Elements.{All-head, All-tail}
use Rattle.mix_debug.specs.declared.head.Head.{Head}
use Rattle.mix_debug.specs.declared.head.Span.{Span}
use Rattle.mix_debug.specs.declared.past.Past.{Past}
use Rattle.mix_debug.specs.Changes.{Run}
use Rattle.mix_debug.specs.WrittenBack.{olds_of}
use Rattle.mix_debug.specs.Entries.{Entry, IsCounted, Spells, all_olds, all_spans, entries, head_cost, heads_of, runs_of, spans_of, total, within}
use Rattle.mix_debug.specs.inner.Entries.{count_of, newest}
use Rattle.mix_debug.specs.Pasts.{IsPast, entries_in}
use Rattle.mix_debug.proofs.Spelling.{Front, front-is, heads-append, olds-append, room-taken, spans-append, within-all}
use Rattle.mix_debug.proofs.Rooms.{Walk, length-few, length-heads, room-entries, take-front, take-long, total-within, walk-ends, walk-small, walk-stops, within-again, within-begins}

-- the steps for which there is room, by what the rings were made of
by-parts : (h s o : ℕ) (heads : List Head) (spans : List Span) (olds : List ℕ) (es : List Entry) → Spells h s o heads spans olds es → 1048576 < 98 * h → 1048576 ≤ 8 * s → 1048576 ≤ o
    → within 1048576 (entries heads spans olds) ≡ within 1048576 es
by-parts h s o heads spans olds es spells more spans_room olds_room =
    ap (λ hs. within 1048576 (entries hs spans olds)) spells.heads_are
    ∙ ap (λ ss. within 1048576 (entries (take h (heads_of es)) ss olds)) spells.spans_are
    ∙ ap (λ os. within 1048576 (entries (take h (heads_of es)) (take s (all_spans es)) os)) spells.olds_are
    ∙ room-entries 1048576 h s o es spells.counted more spans_room olds_room

pub told : (p : Past) → (past : IsPast p) → entries_in p ≡ within 1048576 past.all
told p past =
    let spans : p.spans.capacity ≡ 131072 = past.spans in
    let olds : p.olds.capacity ≡ 1048576 = past.olds in
    by-parts 10700 p.spans.capacity p.olds.capacity p.heads.items p.spans.items p.olds.items past.all past.spelled (omega arith) (omega (arith, spans)) (omega (arith, olds))

-- rings that hold some steps, for all of which there is room
pub record Held (p : Past) (es : List Entry) : Type 0 where
  pub past : IsPast p
  pub entries_are : entries_in p ≡ es

pub held : (p : Past) (es : List Entry) → p.heads.capacity ≡ 10700 → p.spans.capacity ≡ 131072 → p.olds.capacity ≡ 1048576 → p.heads.items ≡ heads_of es → p.spans.items ≡ all_spans es → p.olds.items ≡ all_olds es
    → All IsCounted es → total es ≤ 1048576 → Held p es
held p es row spans olds heads_are spans_are olds_are counted fits =
    let taken : 98 * length (heads_of es) + 8 * length (all_spans es) + length (all_olds es) ≤ total es = room-taken es counted in
    let spells : Spells 10700 p.spans.capacity p.olds.capacity p.heads.items p.spans.items p.olds.items es = record {
      heads_are = heads_are ∙ sym (take_all 10700 (heads_of es) (omega (arith, taken, fits)));
      spans_are = spans_are ∙ sym (take_all p.spans.capacity (all_spans es) (omega (arith, taken, fits, spans)));
      olds_are = olds_are ∙ sym (take_all p.olds.capacity (all_olds es) (omega (arith, taken, fits, olds)));
      counted = counted;
    } in
    let past : IsPast p = record { heads = row; spans = spans; olds = olds; all = es; spelled = spells; room = λ is. fits } in
    record { past = past; entries_are = told p past ∙ within-all 1048576 es fits }

none-total : total [] ≡ 0
unfolding total
none-total = refl

none-heads : heads_of [] ≡ []
unfolding heads_of
none-heads = refl

none-spans : all_spans [] ≡ []
unfolding all_spans
none-spans = refl

none-olds : all_olds [] ≡ []
unfolding all_olds
none-olds = refl

pub emptied : (p : Past) → p.heads ≡ buffer [] 10700 → p.spans ≡ buffer [] 131072 → p.olds ≡ buffer [] 1048576 → Held p []
emptied p heads spans olds =
    held p [] (ap (λ (b : Buffer Head). b.capacity) heads) (ap (λ (b : Buffer Span). b.capacity) spans) (ap (λ (b : Buffer ℕ). b.capacity) olds) (ap (λ (b : Buffer Head). b.items) heads ∙ sym none-heads) (ap (λ (b : Buffer Span). b.items) spans ∙ sym none-spans)
    (ap (λ (b : Buffer ℕ). b.items) olds ∙ sym none-olds) (λ k d l. absurd (omega arith)) (omega (arith, none-total))

-- a step in front
pub record Pushed (p q : Past) (e : Entry) : Type 0 where
  pub past : IsPast q
  pub entries_are : entries_in q ≡ within 1048576 (e ∷ entries_in p)

spells-more : (h s o : ℕ) (hs : List Head) (ss : List Span) (os : List ℕ) (e : Entry) (es : List Entry) → Spells h s o hs ss os es → IsCounted e
    → Spells h s o (take h (e.head ∷ hs)) (take s (spans_of e.runs ++ ss)) (take o (olds_of e.runs ++ os)) (e ∷ es)
unfolding heads_of all_spans all_olds
spells-more h s o hs ss os e es spells counted =
    record {
      heads_are = ap (λ xs. take h (e.head ∷ xs)) spells.heads_are ∙ take-front h (e.head ∷ []) (heads_of es);
      spans_are = ap (λ xs. take s (spans_of e.runs ++ xs)) spells.spans_are ∙ take-front s (spans_of e.runs) (all_spans es);
      olds_are = ap (λ xs. take o (olds_of e.runs ++ xs)) spells.olds_are ∙ take-front o (olds_of e.runs) (all_olds es);
      counted = all-more e es counted spells.counted;
    }
  where
    all-more : (e : Entry) (es : List Entry) → IsCounted e → All IsCounted es → All IsCounted (e ∷ es)
    all-more e es here rest zero d l = here
    all-more e es here rest (suc k) d l = rest k d (omega arith)

pub pushed : (p q : Past) (h : Head) (rs : List Run) → IsPast p → h.runs ≡ length rs → h.olds ≡ length (olds_of rs) → q.heads ≡ buffer (take p.heads.capacity (h ∷ p.heads.items)) p.heads.capacity
    → q.spans.items ≡ take p.spans.capacity (spans_of rs ++ p.spans.items) → q.spans.capacity ≡ p.spans.capacity
    → q.olds.items ≡ take p.olds.capacity (olds_of rs ++ p.olds.items) → q.olds.capacity ≡ p.olds.capacity → q.trimmed ≡ false → Pushed p q (record { head = h; runs = rs })
pushed p q h rs past runs olds heads span_items span_room old_items old_room trimmed =
    let e : Entry = record { head = h; runs = rs } in
    let more = spells-more 10700 p.spans.capacity p.olds.capacity p.heads.items p.spans.items p.olds.items e past.all past.spelled (record { runs = runs; olds = olds }) in
    let spells : Spells 10700 q.spans.capacity q.olds.capacity q.heads.items q.spans.items q.olds.items (e ∷ past.all) = record {
      heads_are = ap (λ (b : Buffer Head). b.items) heads ∙ ap (λ n. take n (h ∷ p.heads.items)) past.heads ∙ more.heads_are;
      spans_are = span_items ∙ more.spans_are ∙ ap (λ n. take n (all_spans (e ∷ past.all))) (sym span_room);
      olds_are = old_items ∙ more.olds_are ∙ ap (λ n. take n (all_olds (e ∷ past.all))) (sym old_room);
      counted = more.counted;
    } in
    let new : IsPast q = record {
      heads = ap (λ (b : Buffer Head). b.capacity) heads ∙ past.heads;
      spans = span_room ∙ past.spans;
      olds = old_room ∙ past.olds;
      all = e ∷ past.all;
      spelled = spells;
      room = λ is. absurd (let x : false ≡ true = sym trimmed ∙ is in cc);
    } in
    record { past = new; entries_are = told q new ∙ sym (within-again 1048576 e past.all) ∙ ap (λ es. within 1048576 (e ∷ es)) (sym (told p past)) }

-- without those for which there is no room
all-front : (xs ys : List Entry) → All IsCounted (xs ++ ys) → All IsCounted xs
all-front [] ys all k d l = absurd (omega arith)
all-front (x ∷ xs) ys all zero d l = all zero d (omega arith)
all-front (x ∷ xs) ys all (suc k) d l = all-front xs ys (All-tail IsCounted x (xs ++ ys) all) k d (omega arith)

pub shortened : (p q : Past) → IsPast p → q.heads ≡ buffer (take (length (entries_in p)) p.heads.items) p.heads.capacity
    → q.spans ≡ buffer (take (length (all_spans (entries_in p))) p.spans.items) p.spans.capacity → q.olds ≡ buffer (take (length (all_olds (entries_in p))) p.olds.items) p.olds.capacity
    → Held q (entries_in p)
shortened p q past heads spans olds =
    let es : List Entry = within 1048576 past.all in
    let is : entries_in p ≡ es = told p past in
    let begins = within-begins 1048576 past.all in
    let fits = total-within 1048576 past.all in
    let counted : All IsCounted es = all-front es begins.rest (subst (All IsCounted) begins.is past.spelled.counted) in
    let taken : 98 * length (heads_of es) + 8 * length (all_spans es) + length (all_olds es) ≤ total es = room-taken es counted in
    let spans_room : p.spans.capacity ≡ 131072 = past.spans in
    let olds_room : p.olds.capacity ≡ 1048576 = past.olds in
    let heads_are : q.heads.items ≡ heads_of es =
    ap (λ (b : Buffer Head). b.items) heads ∙ ap (λ xs. take (length xs) p.heads.items) is ∙ ap (λ n. take n p.heads.items) (sym (length-heads es)) ∙ ap (take (length (heads_of es))) (past.spelled.heads_are ∙ ap (λ xs. take 10700 (heads_of xs)) begins.is ∙ ap (take 10700) (heads-append es begins.rest))
    ∙ take-long 10700 (heads_of es) (heads_of begins.rest) (omega (arith, taken, fits)) in
    let spans_are : q.spans.items ≡ all_spans es =
    ap (λ (b : Buffer Span). b.items) spans ∙ ap (λ xs. take (length (all_spans xs)) p.spans.items) is ∙ ap (take (length (all_spans es))) (past.spelled.spans_are ∙ ap (λ xs. take p.spans.capacity (all_spans xs)) begins.is ∙ ap (take p.spans.capacity) (spans-append es begins.rest))
    ∙ take-long p.spans.capacity (all_spans es) (all_spans begins.rest) (omega (arith, taken, fits, spans_room)) in
    let olds_are : q.olds.items ≡ all_olds es =
    ap (λ (b : Buffer ℕ). b.items) olds ∙ ap (λ xs. take (length (all_olds xs)) p.olds.items) is ∙ ap (take (length (all_olds es))) (past.spelled.olds_are ∙ ap (λ xs. take p.olds.capacity (all_olds xs)) begins.is ∙ ap (take p.olds.capacity) (olds-append es begins.rest))
    ∙ take-long p.olds.capacity (all_olds es) (all_olds begins.rest) (omega (arith, taken, fits, olds_room)) in
    subst (Held q) (sym is)
    (held q es (ap (λ (b : Buffer Head). b.capacity) heads ∙ past.heads) (ap (λ (b : Buffer Span). b.capacity) spans ∙ spans_room) (ap (λ (b : Buffer ℕ). b.capacity) olds ∙ olds_room) heads_are spans_are olds_are counted fits)

-- trimmed rings hold exactly the steps for which there is room
pub record Exact (p : Past) (es : List Entry) : Type 0 where
  pub heads_are : p.heads.items ≡ heads_of es
  pub spans_are : p.spans.items ≡ all_spans es
  pub olds_are : p.olds.items ≡ all_olds es
  pub counted : All IsCounted es
  pub fits : total es ≤ 1048576

pub exact : (p : Past) → IsPast p → p.trimmed ≡ true → Exact p (entries_in p)
exact p past trimmed =
    let fits : total past.all ≤ 1048576 = past.room trimmed in
    let taken : 98 * length (heads_of past.all) + 8 * length (all_spans past.all) + length (all_olds past.all) ≤ total past.all = room-taken past.all past.spelled.counted in
    let spans_room : p.spans.capacity ≡ 131072 = past.spans in
    let olds_room : p.olds.capacity ≡ 1048576 = past.olds in
    let is : past.all ≡ entries_in p = sym (told p past ∙ within-all 1048576 past.all fits) in
    subst (Exact p) is
    (record {
      heads_are = past.spelled.heads_are ∙ take_all 10700 (heads_of past.all) (omega (arith, taken, fits));
      spans_are = past.spelled.spans_are ∙ take_all p.spans.capacity (all_spans past.all) (omega (arith, taken, fits, spans_room));
      olds_are = past.spelled.olds_are ∙ take_all p.olds.capacity (all_olds past.all) (omega (arith, taken, fits, olds_room));
      counted = past.spelled.counted;
      fits = fits;
    })

pub length-held : (p : Past) → IsPast p → p.trimmed ≡ true → length p.heads.items ≡ length (entries_in p)
length-held p past trimmed = ap length (exact p past trimmed).heads_are ∙ length-heads (entries_in p)

-- the newest step, and the rings without it
pub record Newest (p : Past) (h : Head) : Type 0 where
  pub rest : List Entry
  pub entries_are : entries_in p ≡ record { head = h; runs = newest (entries_in p) } ∷ rest
  pub few : h.runs ≤ length p.spans.items
  pub whole : count_of (take h.runs p.spans.items) ≤ length p.olds.items
  pub runs_are : runs_of (take h.runs p.spans.items) p.olds.items ≡ newest (entries_in p)
  pub past : (q : Past) → q.heads ≡ buffer (drop 1 p.heads.items) p.heads.capacity → q.spans ≡ buffer (drop h.runs p.spans.items) p.spans.capacity
      → q.olds ≡ buffer (drop (count_of (take h.runs p.spans.items)) p.olds.items) p.olds.capacity → Held q rest

newest-of : (p : Past) (h : Head) (es : List Entry) → entries_in p ≡ es → IsPast p → Exact p es → slice_get p.heads.items 0 ≡ Some h → Newest p h
unfolding heads_of all_spans all_olds total
newest-of p h [] is past it first = absurd (let e : None ≡ Some h = sym (ap (λ hs. slice_get hs 0) it.heads_are) ∙ first in cc)
newest-of p h (e ∷ es) is past it first =
    let counted = All-head IsCounted e es it.counted in
    let front : Front e es p.spans.items p.olds.items =
    subst (λ ss. Front e es ss p.olds.items) (sym it.spans_are) (subst (Front e es (spans_of e.runs ++ all_spans es)) (sym it.olds_are) (front-is e es counted)) in
    let head : e.head ≡ h = some-same e.head h (sym (ap (λ hs. slice_get hs 0) it.heads_are) ∙ first) in
    let runs : newest (entries_in p) ≡ e.runs = ap newest is in
    let small : e.head.olds ≤ length p.olds.items = front.small in
    let fits : head_cost e.head + total es ≤ 1048576 = it.fits in
    record {
      rest = es;
      entries_are = is ∙ ap (λ x. record { head = x; runs = e.runs } ∷ es) head ∙ ap (λ x. record { head = h; runs = x } ∷ es) (sym runs);
      few = subst (λ (x : Head). x.runs ≤ length p.spans.items) head front.few;
      whole = subst (λ (x : Head). count_of (take x.runs p.spans.items) ≤ length p.olds.items) head (omega (arith, front.count_is, small));
      runs_are = subst (λ (x : Head). runs_of (take x.runs p.spans.items) p.olds.items ≡ newest (entries_in p)) head (front.runs_are ∙ sym runs);
      past = λ q heads spans olds.
          held q es (ap (λ (b : Buffer Head). b.capacity) heads ∙ past.heads) (ap (λ (b : Buffer Span). b.capacity) spans ∙ past.spans) (ap (λ (b : Buffer ℕ). b.capacity) olds ∙ past.olds) (ap (λ (b : Buffer Head). b.items) heads ∙ ap (drop 1) it.heads_are)
          (ap (λ (b : Buffer Span). b.items) spans ∙ ap (λ (x : Head). drop x.runs p.spans.items) (sym head) ∙ front.spans_rest)
          (ap (λ (b : Buffer ℕ). b.items) olds ∙ ap (λ (x : Head). drop (count_of (take x.runs p.spans.items)) p.olds.items) (sym head) ∙ ap (λ n. drop n p.olds.items) front.count_is ∙ front.olds_rest)
          (All-tail IsCounted e es it.counted) (omega (arith, fits));
    }
  where
    some-same : (a b : Head) → Some a ≡ Some b → a ≡ b
    some-same a b e = cc

pub newest-is : (p : Past) (h : Head) → IsPast p → p.trimmed ≡ true → slice_get p.heads.items 0 ≡ Some h → Newest p h
newest-is p h past trimmed first = newest-of p h (entries_in p) refl past (exact p past trimmed) first

-- the rings are as long as they can be at most
pub few-spans : (p : Past) → IsPast p → length p.spans.items ≤ p.spans.capacity
few-spans p past = let long : length p.spans.items ≡ length (take p.spans.capacity (all_spans past.all)) = ap length past.spelled.spans_are in omega (arith, long, length-take p.spans.capacity (all_spans past.all))

pub few-olds : (p : Past) → IsPast p → length p.olds.items ≤ p.olds.capacity
few-olds p past = let long : length p.olds.items ≡ length (take p.olds.capacity (all_olds past.all)) = ap length past.spelled.olds_are in omega (arith, long, length-take p.olds.capacity (all_olds past.all))

-- a head that is held is one of all
from-front : (n : ℕ) (hs : List Head) (k : ℕ) (h : Head) → slice_get (take n hs) k ≡ Some h → slice_get hs k ≡ Some h
from-front zero hs k h is = absurd (let e : None ≡ Some h = is in cc)
from-front (suc n) [] k h is = absurd (let e : None ≡ Some h = is in cc)
from-front (suc n) (x ∷ hs) zero h is = is
from-front (suc n) (x ∷ hs) (suc k) h is = from-front n hs k h is

small-front : (n : ℕ) (hs : List Head) (k : ℕ) (h : Head) → slice_get (take n hs) k ≡ Some h → k < n
small-front zero hs k h is = absurd (let e : None ≡ Some h = is in cc)
small-front (suc n) [] k h is = absurd (let e : None ≡ Some h = is in cc)
small-front (suc n) (x ∷ hs) zero h is = omega arith
small-front (suc n) (x ∷ hs) (suc k) h is = let r = small-front n hs k h is in omega (arith, r)

pub number-few : (p : Past) → IsPast p → (k : ℕ) (h : Head) → slice_get p.heads.items k ≡ Some h → k < 10700
number-few p past k h is = small-front 10700 (heads_of past.all) k h (ap (λ hs. slice_get hs k) (sym past.spelled.heads_are) ∙ is)

pub no-number : (hs : List Head) (k : ℕ) → slice_get hs k ≡ None → length hs ≤ k
no-number [] k is = omega arith
no-number (x ∷ hs) zero is = absurd (let e : Some x ≡ None = is in cc)
no-number (x ∷ hs) (suc k) is = let r = no-number hs k is in omega (arith, r)

pub none-left : (r : Option (Bor Head)) → ((h : Bor Head) → r ≡ Some h → ⊥) → option_copied r ≡ None
none-left None other = refl
none-left (Some h) other = absurd (other h refl)

pub at-held : (p : Past) → (past : IsPast p) → (k : ℕ) (h : Head) → slice_get p.heads.items k ≡ Some h → slice_get (heads_of past.all) k ≡ Some h
at-held p past k h is = from-front 10700 (heads_of past.all) k h (ap (λ hs. slice_get hs k) (sym past.spelled.heads_are) ∙ is)

-- where a walk over them ends
pub record Counted (p : Past) (steps spans olds : ℕ) : Type 0 where
  pub steps_are : steps ≡ length (entries_in p)
  pub spans_are : spans ≡ length (all_spans (entries_in p))
  pub olds_are : olds ≡ length (all_olds (entries_in p))
  pub few : steps ≤ 10700

counts : (p : Past) → (past : IsPast p) → (steps left spans olds : ℕ) → Walk 1048576 past.all steps left spans olds → within 1048576 past.all ≡ take steps past.all → Counted p steps spans olds
counts p past steps left spans olds walk ends =
    let is : entries_in p ≡ take steps past.all = told p past ∙ ends in
    let small = walk-small 1048576 past.all steps left spans olds past.spelled.counted walk in
    record {
      steps_are = sym (ap length is ∙ length-few steps past.all walk.few);
      spans_are = walk.spans_are ∙ ap (λ es. length (all_spans es)) (sym is);
      olds_are = walk.olds_are ∙ ap (λ es. length (all_olds es)) (sym is);
      few = omega (arith, small);
    }

pub counts-stop : (p : Past) → (past : IsPast p) → (steps left spans olds : ℕ) (h : Head) → Walk 1048576 past.all steps left spans olds → slice_get p.heads.items steps ≡ Some h → left < head_cost h
    → Counted p steps spans olds
counts-stop p past steps left spans olds h walk is over =
    counts p past steps left spans olds walk (walk-stops 1048576 past.all steps left spans olds h walk (at-held p past steps h is) over)

pub counts-end : (p : Past) → (past : IsPast p) → (steps left spans olds : ℕ) → Walk 1048576 past.all steps left spans olds → slice_get p.heads.items steps ≡ None → Counted p steps spans olds
counts-end p past steps left spans olds walk none =
    let long = no-number p.heads.items steps none in
    let held : length p.heads.items ≡ length (take 10700 (heads_of past.all)) = ap length past.spelled.heads_are in
    counts p past steps left spans olds walk (walk-ends 1048576 10700 past.all steps left spans olds past.spelled.counted walk (omega arith) (omega (arith, held, long)))

-- whether none is kept is told by the newest head
pub none-first : (room : ℕ) (hs : List Head) (spans : List Span) (olds : List ℕ) → slice_get hs 0 ≡ None → true ≡ (length (within room (entries hs spans olds)) == 0)
unfolding within entries
none-first room [] spans olds none = refl
none-first room (x ∷ hs) spans olds none = absurd (let e : Some x ≡ None = none in cc)

some-more : {X : Type 0} (x : X) (xs : List X) → (length (x ∷ xs) == 0) ≡ false
some-more x xs = ne_eqb (length (x ∷ xs)) 0 (λ e. omega (arith, e))

pub newest-fits : (room : ℕ) (hs : List Head) (spans : List Span) (olds : List ℕ) (h : Head) → slice_get hs 0 ≡ Some h
    → nat_lt room (head_cost h) ≡ (length (within room (entries hs spans olds)) == 0)
unfolding within entries
newest-fits room [] spans olds h is = absurd (let e : None ≡ Some h = is in cc)
newest-fits room (x ∷ hs) spans olds h is =
    let same : x ≡ h = some-same x h is in
    ap (λ (y : Head). nat_lt room (head_cost y)) (sym same)
    ∙ elim (cases_Bool (nat_le (head_cost x) room)) [
      | inl fits ↦ rw fits (le-ltb room (head_cost x) (leb-true (head_cost x) room fits) ∙ sym (some-more (record { head = x; runs = runs_of (take x.runs spans) olds }) (within (room - head_cost x) (entries hs (drop x.runs spans) (drop x.olds olds)))))
      | inr over ↦ rw over (lt-ltb room (head_cost x) (leb-false (head_cost x) room over))
    ]
  where
    some-same : (a b : Head) → Some a ≡ Some b → a ≡ b
    some-same a b e = cc
