-- Rings that hold only the first heads, runs and bytes of some steps, and tell the steps for which there is room.
use Rattle.std.proofs.Common.{◌≡◌, ℕ, zero, suc, ◌+◌, ◌-◌, ◌*◌, ◌<◌, ◌≤◌, nat_le, List, [], ◌∷◌, ◌++◌, length, take, drop, Some, None, inl, inr, arith, ap, sym, subst, ◌∙◌, refl, length-take}
use Rattle.std.specs.Prelude.{All}
use Rattle.std.proofs.lemmas.Bool.{cases_Bool, leb-true, leb-false, le-leb, lt-leb}
use Rattle.std.proofs.lemmas.List.{append_assoc, append-nil, length-append, take-append-le, take_all, drop_all}
use Rattle.std.proofs.lemmas.List.Elements.{All-head, All-tail}
use Rattle.std.specs.List.{slice_get}
use Rattle.mix_debug.specs.declared.head.Head.{Head}
use Rattle.mix_debug.specs.Changes.{Run}
use Rattle.mix_debug.specs.WrittenBack.{olds_of}
use Rattle.mix_debug.specs.Entries.{Entry, IsCounted, all_olds, all_spans, entries, head_cost, heads_of, runs_of, spans_of, total, within}
use Rattle.mix_debug.proofs.Spelling.{length-spans, least-file, spans-append, olds-append, total-append, room-taken}

module _ {X : Type 0} where
  take-take : (m n : ℕ) (xs : List X) → m ≤ n → take m (take n xs) ≡ take m xs
  take-take zero n xs le = refl
  take-take (suc m) zero xs le = absurd (omega arith)
  take-take (suc m) (suc n) [] le = refl
  take-take (suc m) (suc n) (x ∷ xs) le = ap (λ zs. x ∷ zs) (take-take m n xs (omega arith))

  -- the first of them, in front of which others come
  pub take-front : (n : ℕ) (xs ys : List X) → take n (xs ++ take n ys) ≡ take n (xs ++ ys)
  take-front n xs ys = by n n xs ys (omega arith)
    where
      by : (m n : ℕ) (xs ys : List X) → m ≤ n → take m (xs ++ take n ys) ≡ take m (xs ++ ys)
      by m n [] ys le = take-take m n ys le
      by zero n (x ∷ xs) ys le = refl
      by (suc m) n (x ∷ xs) ys le = ap (λ zs. x ∷ zs) (by m n xs ys (omega arith))

  drop-front : (k n : ℕ) (xs ys : List X) → length xs ≡ k → drop k (take n (xs ++ ys)) ≡ take (n - k) ys
  drop-front zero n [] ys long = let none : n ≡ n - 0 = omega arith in ap (λ m. take m ys) none
  drop-front zero n (x ∷ xs) ys long = absurd (omega (arith, long))
  drop-front (suc k) n [] ys long = absurd (omega (arith, long))
  drop-front (suc k) zero (x ∷ xs) ys long = let none : 0 - suc k ≡ 0 = omega arith in sym (ap (λ m. take m ys) none)
  drop-front (suc k) (suc n) (x ∷ xs) ys long = let less : n - k ≡ suc n - suc k = omega arith in drop-front k n xs ys (omega (arith, long)) ∙ ap (λ m. take m ys) less

  take-front_of : (k n : ℕ) (xs ys : List X) → length xs ≡ k → k ≤ n → take k (take n (xs ++ ys)) ≡ xs
  take-front_of k n xs ys long le = take-take k n (xs ++ ys) le ∙ take-append-le k xs ys (omega (arith, long)) ∙ take_all k xs (omega (arith, long))

  pub take-long : (n : ℕ) (xs ys : List X) → length xs ≤ n → take (length xs) (take n (xs ++ ys)) ≡ xs
  take-long n xs ys le = take-front_of (length xs) n xs ys refl le

runs-front : (rs : List Run) (n : ℕ) (behind : List ℕ) → length (olds_of rs) ≤ n → runs_of (spans_of rs) (take n (olds_of rs ++ behind)) ≡ rs
unfolding runs_of spans_of olds_of
runs-front [] n behind le = refl
runs-front (r ∷ rs) n behind le =
    let bytes : (r.old ++ olds_of rs) ++ behind ≡ r.old ++ (olds_of rs ++ behind) = append_assoc r.old (olds_of rs) behind in
    let long : length (r.old ++ olds_of rs) ≡ length r.old + length (olds_of rs) = length-append r.old (olds_of rs) in
    let first : take (length r.old) (take n (r.old ++ (olds_of rs ++ behind))) ≡ r.old = take-front_of (length r.old) n r.old (olds_of rs ++ behind) refl (omega (arith, long, le)) in
    let rest : drop (length r.old) (take n (r.old ++ (olds_of rs ++ behind))) ≡ take (n - length r.old) (olds_of rs ++ behind) = drop-front (length r.old) n r.old (olds_of rs ++ behind) refl in
    rw (bytes, first, rest) (ap (λ zs. r ∷ zs) (runs-front rs (n - length r.old) behind (omega (arith, long, le))))

-- a step for which there is room is told whole
pub room-entries : (room h s o : ℕ) (es : List Entry) → All IsCounted es → room < 98 * h → room ≤ 8 * s → room ≤ o
    → within room (entries (take h (heads_of es)) (take s (all_spans es)) (take o (all_olds es))) ≡ within room es
unfolding within entries heads_of all_spans all_olds
room-entries room h s o [] counted heads spans olds = ap (λ hs. within room (entries hs (take s []) (take o []))) (none h)
  where
    none : (h : ℕ) → take h (heads_of []) ≡ []
    none zero = refl
    none (suc h) = refl
room-entries room zero s o (e ∷ es) counted heads spans olds = absurd (omega (arith, heads))
room-entries room (suc h) s o (e ∷ es) counted heads spans olds =
    let here = All-head IsCounted e es counted in
    let runs : e.head.runs ≡ length e.runs = here.runs in
    let bytes : e.head.olds ≡ length (olds_of e.runs) = here.olds in
    let least = least-file e.head.file in
    elim (cases_Bool (nat_le (head_cost e.head) room)) [
      | inl fits ↦
          let cost : head_cost e.head ≤ room = leb-true (head_cost e.head) room fits in
          let long : length (spans_of e.runs) ≡ e.head.runs = length-spans e.runs ∙ sym runs in
          let front : take e.head.runs (take s (spans_of e.runs ++ all_spans es)) ≡ spans_of e.runs = take-front_of e.head.runs s (spans_of e.runs) (all_spans es) long (omega (arith, cost, spans)) in
          let whole : runs_of (take e.head.runs (take s (spans_of e.runs ++ all_spans es))) (take o (olds_of e.runs ++ all_olds es)) ≡ e.runs =
          ap (λ ss. runs_of ss (take o (olds_of e.runs ++ all_olds es))) front ∙ runs-front e.runs o (all_olds es) (omega (arith, cost, olds, bytes)) in
          let spans_rest : drop e.head.runs (take s (spans_of e.runs ++ all_spans es)) ≡ take (s - e.head.runs) (all_spans es) = drop-front e.head.runs s (spans_of e.runs) (all_spans es) long in
          let olds_rest : drop e.head.olds (take o (olds_of e.runs ++ all_olds es)) ≡ take (o - e.head.olds) (all_olds es) = drop-front e.head.olds o (olds_of e.runs) (all_olds es) (sym bytes) in
          rw (fits, whole, spans_rest, olds_rest)
          (ap (λ zs. e ∷ zs) (room-entries (room - head_cost e.head) h (s - e.head.runs) (o - e.head.olds) es (All-tail IsCounted e es counted)
          (omega (arith, heads, cost, least)) (omega (arith, spans, cost)) (omega (arith, olds, cost))))
      | inr full ↦ rw full refl
    ]

-- the steps for which there is room, of those for which there was more
within-within : (r room : ℕ) (es : List Entry) → r ≤ room → within r (within room es) ≡ within r es
unfolding within
within-within r room [] le = refl
within-within r room (e ∷ es) le =
    elim (cases_Bool (nat_le (head_cost e.head) room)) [
      | inl fits ↦ elim (cases_Bool (nat_le (head_cost e.head) r)) [
        | inl here ↦
            let cost : head_cost e.head ≤ r = leb-true (head_cost e.head) r here in
            rw (fits, here) (ap (λ zs. e ∷ zs) (within-within (r - head_cost e.head) (room - head_cost e.head) es (omega (arith, le))))
        | inr over ↦ rw (fits, over) refl
      ]
      | inr full ↦
          let over : room < head_cost e.head = leb-false (head_cost e.head) room full in
          rw (full, lt-leb (head_cost e.head) r (omega (arith, over, le))) refl
    ]

pub within-again : (room : ℕ) (e : Entry) (es : List Entry) → within room (e ∷ within room es) ≡ within room (e ∷ es)
unfolding within
within-again room e es =
    elim (cases_Bool (nat_le (head_cost e.head) room)) [
      | inl fits ↦ rw fits (ap (λ zs. e ∷ zs) (within-within (room - head_cost e.head) room es (omega arith)))
      | inr full ↦ rw full refl
    ]

-- they take no more
pub total-within : (room : ℕ) (es : List Entry) → total (within room es) ≤ room
unfolding within total
total-within room [] = omega arith
total-within room (e ∷ es) =
    elim (cases_Bool (nat_le (head_cost e.head) room)) [
      | inl fits ↦
          let cost : head_cost e.head ≤ room = leb-true (head_cost e.head) room fits in
          let rest = total-within (room - head_cost e.head) es in
          rw fits (omega (arith, cost, rest))
      | inr full ↦ rw full (omega arith)
    ]

-- and are the first ones
pub record Begins (room : ℕ) (es : List Entry) : Type 0 where
  pub rest : List Entry
  pub is : es ≡ within room es ++ rest

pub within-begins : (room : ℕ) (es : List Entry) → Begins room es
unfolding within
within-begins room [] = record { rest = []; is = refl }
within-begins room (e ∷ es) =
    elim (cases_Bool (nat_le (head_cost e.head) room)) as (λ b. Begins room (e ∷ es)) [
      | inl fits ↦ let r = within-begins (room - head_cost e.head) es in record { rest = r.rest; is = rw fits (ap (λ zs. e ∷ zs) r.is) }
      | inr full ↦ record { rest = e ∷ es; is = rw full refl }
    ]

pub length-heads : (es : List Entry) → length (heads_of es) ≡ length es
unfolding heads_of
length-heads [] = refl
length-heads (e ∷ es) = ap suc (length-heads es)

-- a walk over the newest steps, of which all so far had room
pub record Walk (room : ℕ) (all : List Entry) (steps left spans olds : ℕ) : Type 0 where
  pub few : steps ≤ length all
  pub front : within room all ≡ take steps all ++ within left (drop steps all)
  pub taken : left + total (take steps all) ≡ room
  pub spans_are : spans ≡ length (all_spans (take steps all))
  pub olds_are : olds ≡ length (all_olds (take steps all))

pub walk-begins : (room : ℕ) (all : List Entry) → Walk room all 0 room 0 0
unfolding total all_spans all_olds
walk-begins room all = record { few = omega arith; front = refl; taken = omega arith; spans_are = refl; olds_are = refl }

-- a step that stands at a number
pub record At (all : List Entry) (k : ℕ) (h : Head) : Type 0 where
  pub entry : Entry
  pub head : entry.head ≡ h
  pub inside : k < length all
  pub front : take (suc k) all ≡ take k all ++ entry ∷ []
  pub rest : drop k all ≡ entry ∷ drop (suc k) all

at-number : (all : List Entry) (k : ℕ) (h : Head) → slice_get (heads_of all) k ≡ Some h → At all k h
unfolding heads_of
at-number [] k h is = absurd (let e : None ≡ Some h = is in cc)
at-number (e ∷ es) zero h is = record { entry = e; head = same e.head h is; inside = omega arith; front = refl; rest = refl }
  where
    same : (a b : Head) → Some a ≡ Some b → a ≡ b
    same a b e = cc
at-number (e ∷ es) (suc k) h is =
    let r = at-number es k h is in
    let inside : k < length es = r.inside in
    record { entry = r.entry; head = r.head; inside = omega (arith, inside); front = ap (λ zs. e ∷ zs) r.front; rest = r.rest }

total-one : (e : Entry) → total (e ∷ []) ≡ head_cost e.head
unfolding total
total-one e = omega arith

spans-one : (e : Entry) → IsCounted e → length (all_spans (e ∷ [])) ≡ e.head.runs
unfolding all_spans
spans-one e counted = ap length (append-nil (spans_of e.runs)) ∙ length-spans e.runs ∙ sym counted.runs

olds-one : (e : Entry) → IsCounted e → length (all_olds (e ∷ [])) ≡ e.head.olds
unfolding all_olds
olds-one e counted = ap length (append-nil (olds_of e.runs)) ∙ sym counted.olds

all-at : (all : List Entry) (k : ℕ) (e : Entry) → drop k all ≡ e ∷ drop (suc k) all → All IsCounted all → IsCounted e
all-at [] k e rest counted = absurd (let x : [] ≡ e ∷ drop (suc k) [] = sym (drop-nil k) ∙ rest in cc)
  where
    drop-nil : (k : ℕ) → let none : List Entry = [] in drop k none ≡ []
    drop-nil zero = refl
    drop-nil (suc k) = refl
all-at (x ∷ xs) zero e rest counted = subst IsCounted (first x e xs rest) (All-head IsCounted x xs counted)
  where
    first : (x e : Entry) (xs : List Entry) → x ∷ xs ≡ e ∷ xs → x ≡ e
    first x e xs same = cc
all-at (x ∷ xs) (suc k) e rest counted = all-at xs k e rest (All-tail IsCounted x xs counted)

within-first : (room : ℕ) (e : Entry) (es : List Entry) → head_cost e.head ≤ room → within room (e ∷ es) ≡ e ∷ within (room - head_cost e.head) es
unfolding within
within-first room e es fits = rw (le-leb (head_cost e.head) room fits) refl

within-none : (room : ℕ) (e : Entry) (es : List Entry) → room < head_cost e.head → within room (e ∷ es) ≡ []
unfolding within
within-none room e es over = rw (lt-leb (head_cost e.head) room over) refl

pub walk-on : (room : ℕ) (all : List Entry) (steps left spans olds : ℕ) (h : Head) → All IsCounted all → Walk room all steps left spans olds → slice_get (heads_of all) steps ≡ Some h
    → head_cost h ≤ left → Walk room all (steps + 1) (left - head_cost h) (spans + h.runs) (olds + h.olds)
walk-on room all steps left spans olds h counted walk is fits =
    let it = at-number all steps h is in
    let e : Entry = it.entry in
    let one : steps + 1 ≡ suc steps = omega arith in
    let cost : head_cost e.head ≡ head_cost h = ap head_cost it.head in
    let runs : e.head.runs ≡ h.runs = ap (λ (x : Head). x.runs) it.head in
    let bytes : e.head.olds ≡ h.olds = ap (λ (x : Head). x.olds) it.head in
    let here = all-at all steps e it.rest counted in
    let inside : steps < length all = it.inside in
    subst (λ n. Walk room all n (left - head_cost h) (spans + h.runs) (olds + h.olds)) (sym one)
    (record {
      few = omega (arith, inside);
      front = walk.front ∙ ap (λ zs. take steps all ++ within left zs) it.rest ∙ ap (λ zs. take steps all ++ zs) (within-first left e (drop (suc steps) all) (omega (arith, cost, fits)))
          ∙ sym (append_assoc (take steps all) (e ∷ []) (within (left - head_cost e.head) (drop (suc steps) all))) ∙ ap (λ zs. zs ++ within (left - head_cost e.head) (drop (suc steps) all)) (sym it.front)
          ∙ ap (λ n. take (suc steps) all ++ within (left - n) (drop (suc steps) all)) cost;
      taken = let sum : total (take (suc steps) all) ≡ total (take steps all) + head_cost h = ap total it.front ∙ total-append (take steps all) (e ∷ []) ∙ ap (λ n. total (take steps all) + n) (total-one e ∙ cost) in
          let before : left + total (take steps all) ≡ room = walk.taken in
          omega (arith, sum, before, fits);
      spans_are = let sum : length (all_spans (take (suc steps) all)) ≡ length (all_spans (take steps all)) + h.runs =
          ap (λ zs. length (all_spans zs)) it.front ∙ ap length (spans-append (take steps all) (e ∷ [])) ∙ length-append (all_spans (take steps all)) (all_spans (e ∷ [])) ∙ ap (λ n. length (all_spans (take steps all)) + n) (spans-one e here ∙ runs) in
          ap (λ n. n + h.runs) walk.spans_are ∙ sym sum;
      olds_are = let sum : length (all_olds (take (suc steps) all)) ≡ length (all_olds (take steps all)) + h.olds =
          ap (λ zs. length (all_olds zs)) it.front ∙ ap length (olds-append (take steps all) (e ∷ [])) ∙ length-append (all_olds (take steps all)) (all_olds (e ∷ [])) ∙ ap (λ n. length (all_olds (take steps all)) + n) (olds-one e here ∙ bytes) in
          ap (λ n. n + h.olds) walk.olds_are ∙ sym sum;
    })

-- the first that has none
pub walk-stops : (room : ℕ) (all : List Entry) (steps left spans olds : ℕ) (h : Head) → Walk room all steps left spans olds → slice_get (heads_of all) steps ≡ Some h → left < head_cost h
    → within room all ≡ take steps all
walk-stops room all steps left spans olds h walk is over =
    let it = at-number all steps h is in
    let cost : head_cost it.entry.head ≡ head_cost h = ap head_cost it.head in
    walk.front ∙ ap (λ zs. take steps all ++ within left zs) it.rest ∙ ap (λ zs. take steps all ++ zs) (within-none left it.entry (drop (suc steps) all) (omega (arith, cost, over))) ∙ append-nil (take steps all)

all-front : (k : ℕ) (xs : List Entry) → All IsCounted xs → All IsCounted (take k xs)
all-front zero xs all j d l = absurd (omega arith)
all-front (suc k) [] all j d l = absurd (omega arith)
all-front (suc k) (x ∷ xs) all zero d l = all zero d (omega arith)
all-front (suc k) (x ∷ xs) all (suc j) d l = all-front k xs (All-tail IsCounted x xs all) j d (omega arith)

pub length-few : {X : Type 0} (k : ℕ) (xs : List X) → k ≤ length xs → length (take k xs) ≡ k
length-few k xs le = omega (arith, length-take k xs, le)

-- how far it came
pub walk-small : (room : ℕ) (all : List Entry) (steps left spans olds : ℕ) → All IsCounted all → Walk room all steps left spans olds → 98 * steps + 8 * spans + olds ≤ room
walk-small room all steps left spans olds counted walk =
    let taken : left + total (take steps all) ≡ room = walk.taken in
    let least : 98 * length (heads_of (take steps all)) + 8 * length (all_spans (take steps all)) + length (all_olds (take steps all)) ≤ total (take steps all) = room-taken (take steps all) (all-front steps all counted) in
    let heads : length (heads_of (take steps all)) ≡ steps = length-heads (take steps all) ∙ length-few steps all walk.few in
    omega (arith, taken, least, heads, walk.spans_are, walk.olds_are)

-- or the end of those that are held
pub walk-ends : (room most : ℕ) (all : List Entry) (steps left spans olds : ℕ) → All IsCounted all → Walk room all steps left spans olds → room < 98 * most → length (take most (heads_of all)) ≤ steps
    → within room all ≡ take steps all
unfolding within
walk-ends room most all steps left spans olds counted walk few long =
    let small = walk-small room all steps left spans olds counted walk in
    let size : length (heads_of all) ≡ length all = length-heads all in
    let few_steps : steps ≤ length all = walk.few in
    let whole : length all ≤ steps = omega (arith, length-take most (heads_of all), long, small, size, few, few_steps) in
    walk.front ∙ ap (λ zs. take steps all ++ within left zs) (drop_all steps all whole) ∙ append-nil (take steps all)
