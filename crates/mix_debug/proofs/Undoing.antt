-- Runs written back one after another.
use Rattle.std.proofs.Common.{◌≡◌, ℕ, zero, suc, ◌+◌, ◌-◌, ◌<◌, ◌≤◌, min, List, [], ◌∷◌, ◌++◌, length, take, drop, Some, None, arith, ap, sym, subst, ◌∙◌}
use Rattle.std.specs.Prelude.{All}
use Rattle.std.proofs.Math.Nat.{min-le_right}
use Rattle.std.proofs.lemmas.List.{places, same_lists, length-append, length-drop, length-take-le, drop-drop}
use Rattle.std.proofs.lemmas.List.Elements.{All-head, All-tail}
use Rattle.std.specs.List.{slice_get}
use Rattle.circular_buffer.specs.Buffer.{Buffer, buffer, keep_last}
use Rattle.big_memory.specs.Lists.{part, put}
use Rattle.big_memory.specs.Memory.{Memory, with_bytes}
use Rattle.big_memory.proofs.Lists.{length-put, part-put_same, put-append}
use Rattle.mix_debug.specs.declared.head.Span.{Span}
use Rattle.mix_debug.specs.WrittenBack.{undone}
use Rattle.mix_debug.specs.Entries.{IsInside, runs_of}
use Rattle.mix_debug.specs.inner.Entries.{count_of}

-- `left` runs are to come from the front of the rings
pub record Undoing (left : ℕ) (spans end : List Span) (olds last : List ℕ) (bytes goal : List ℕ) (len : ℕ) : Type 0 where
  pub few : left ≤ length spans
  pub whole : count_of (take left spans) ≤ length olds
  pub inside : All (IsInside len) (runs_of (take left spans) olds)
  pub rest : drop left spans ≡ end
  pub olds_rest : drop (count_of (take left spans)) olds ≡ last
  pub undoes : undone (runs_of (take left spans) olds) bytes ≡ goal
  pub long : length bytes ≡ len

-- the first of them
pub record First (left : ℕ) (s : Span) (spans : List Span) (olds : List ℕ) (len : ℕ) : Type 0 where
  pub whole : s.count ≤ length olds
  pub inside : s.at + s.count ≤ len

pub undoing-first : (left : ℕ) (s : Span) (spans end : List Span) (olds last bytes goal : List ℕ) (len : ℕ) → Undoing (suc left) (s ∷ spans) end olds last bytes goal len → First left s spans olds len
unfolding count_of runs_of
undoing-first left s spans end olds last bytes goal len undoing =
    let whole : s.count + count_of (take left spans) ≤ length olds = undoing.whole in
    let first : s.at + length (take s.count olds) ≤ len = All-head (IsInside len) (record { at = s.at; old = take s.count olds }) (runs_of (take left spans) (drop s.count olds)) undoing.inside in
    let fits : s.count ≤ length olds = omega (arith, whole) in
    record { whole = fits; inside = omega (arith, first, length-take-le s.count olds fits) }

pub undoing-more : (left : ℕ) (s : Span) (spans end : List Span) (olds last bytes goal : List ℕ) (len : ℕ) → Undoing (suc left) (s ∷ spans) end olds last bytes goal len
    → Undoing left spans end (drop s.count olds) last (put s.at (take s.count olds) bytes) goal len
unfolding count_of runs_of undone
undoing-more left s spans end olds last bytes goal len undoing =
    let first = undoing-first left s spans end olds last bytes goal len undoing in
    let whole : s.count + count_of (take left spans) ≤ length olds = undoing.whole in
    let size : length (take s.count olds) ≡ s.count = length-take-le s.count olds first.whole in
    let few : suc left ≤ suc (length spans) = undoing.few in
    let long : length bytes ≡ len = undoing.long in
    record {
      few = omega (arith, few);
      whole = omega (arith, whole, length-drop s.count olds);
      inside = All-tail (IsInside len) (record { at = s.at; old = take s.count olds }) (runs_of (take left spans) (drop s.count olds)) undoing.inside;
      rest = undoing.rest;
      olds_rest = drop-drop (count_of (take left spans)) s.count olds ∙ undoing.olds_rest;
      undoes = undoing.undoes;
      long = length-put s.at (take s.count olds) bytes (omega (arith, size, long, first.inside)) ∙ long;
    }

-- the first items of a ring that is read in two parts
parts-taken : (count first : ℕ) (front behind items : List ℕ) → front ++ behind ≡ items → first ≡ min count (length front) → take first front ++ take (count - first) behind ≡ take count items
parts-taken count first front behind items are least =
    let both : length (front ++ behind) ≡ length front + length behind = length-append front behind in
    same_lists _ _ (grind (arith, places)) (λ k d w. grind (arith, places)) ∙ ap (take count) are

pub parts-put : (at count first : ℕ) (front behind items xs ys : List ℕ) (old mid new : Memory) → front ++ behind ≡ items → first ≡ min count (length front) → count ≤ length items
    → at + count ≤ length old.bytes → xs ≡ take first front → ys ≡ take (count - first) behind → mid ≡ with_bytes at xs old → new ≡ with_bytes (at + first) ys mid
    → new ≡ with_bytes at (take count items) old
parts-put at count first front behind items xs ys old mid new are least whole inside xs_are ys_are mid_is new_is =
    let low : min count (length front) ≤ length front = min-le_right count (length front) in
    let size : length xs ≡ first = ap length xs_are ∙ length-take-le first front (omega (arith, least, low)) in
    let all : xs ++ ys ≡ take count items = ap (λ zs. zs ++ ys) xs_are ∙ ap (λ zs. take first front ++ zs) ys_are ∙ parts-taken count first front behind items are least in
    let long : length (xs ++ ys) ≡ count = ap length all ∙ length-take-le count items whole in
    let sum : length (xs ++ ys) ≡ length xs + length ys = length-append xs ys in
    new_is ∙ ap (λ (m : Memory). with_bytes (at + first) ys m) mid_is
    ∙ ap (λ n. record old { bytes = put (at + n) ys (put at xs old.bytes) }) (sym size)
    ∙ ap (λ bytes. record old { bytes = bytes }) (sym (put-append at xs ys old.bytes (omega (arith, long, sum, inside))))
    ∙ ap (λ zs. with_bytes at zs old) all

pub front-dropped : (count left : ℕ) (items : List ℕ) → count ≤ length items → left ≡ length items - count → keep_last left items ≡ drop count items
front-dropped count left items whole is = let n : length items - left ≡ count = omega (arith, whole, is) in ap (λ k. drop k items) n

-- the first run is taken, whatever it is
pub record Taken (left : ℕ) (s : Span) (spans end : List Span) (olds last bytes goal : List ℕ) (len : ℕ) : Type 0 where
  pub whole : s.count ≤ length olds
  pub inside : s.at + s.count ≤ len
  pub more : Undoing (left - 1) (drop 1 spans) end (drop s.count olds) last (put s.at (take s.count olds) bytes) goal len

pub taken : (left : ℕ) (s : Span) (spans end : List Span) (olds last bytes goal : List ℕ) (len : ℕ) → 0 < left → slice_get spans 0 ≡ Some s → Undoing left spans end olds last bytes goal len
    → Taken left s spans end olds last bytes goal len
taken zero s spans end olds last bytes goal len some is undoing = absurd (omega arith)
taken (suc left) s [] end olds last bytes goal len some is undoing = absurd (let e : None ≡ Some s = is in cc)
taken (suc left) s (t ∷ spans) end olds last bytes goal len some is undoing =
    let same : t ≡ s = some-same t s is in
    let it : Undoing (suc left) (s ∷ spans) end olds last bytes goal len = subst (λ x. Undoing (suc left) (x ∷ spans) end olds last bytes goal len) same undoing in
    let first = undoing-first left s spans end olds last bytes goal len it in
    let n : left ≡ suc left - 1 = omega arith in
    record {
      whole = first.whole;
      inside = first.inside;
      more = subst (λ k. Undoing k spans end (drop s.count olds) last (put s.at (take s.count olds) bytes) goal len) n (undoing-more left s spans end olds last bytes goal len it);
    }
  where
    some-same : (a b : Span) → Some a ≡ Some b → a ≡ b
    some-same a b e = cc

-- all of them are taken
pub undoing-ends : (left : ℕ) (spans end : List Span) (olds last bytes goal : List ℕ) (len : ℕ) → left ≤ 0 → Undoing left spans end olds last bytes goal len
    → (spans ≡ end) × (olds ≡ last) × (bytes ≡ goal)
unfolding count_of runs_of undone
undoing-ends zero spans end olds last bytes goal len none undoing = (undoing.rest, undoing.olds_rest, undoing.undoes)
undoing-ends (suc left) spans end olds last bytes goal len none undoing = absurd (omega arith)

-- the copy follows the memory
pub copy-follows : (at count : ℕ) (ys copy bytes : List ℕ) → copy ≡ bytes → length ys ≡ count → at + count ≤ length bytes → put at (part at ((at + count) - at) (put at ys bytes)) copy ≡ put at ys bytes
copy-follows at count ys copy bytes same size inside =
    let n : (at + count) - at ≡ count = omega arith in
    ap (λ k. put at (part at k (put at ys bytes)) copy) n ∙ ap (λ zs. put at zs copy) (part-put_same at count ys bytes size inside) ∙ ap (put at ys) same

pub undoing-next : (left : ℕ) (s : Span) (spans next : Buffer Span) (end : List Span) (olds next_olds : Buffer ℕ) (last bytes next_bytes goal : List ℕ) (len : ℕ)
    → next ≡ buffer (drop 1 spans.items) spans.capacity → next_olds ≡ buffer (drop s.count olds.items) olds.capacity → next_bytes ≡ put s.at (take s.count olds.items) bytes
    → Undoing (left - 1) (drop 1 spans.items) end (drop s.count olds.items) last (put s.at (take s.count olds.items) bytes) goal len
    → Undoing (left - 1) next.items end next_olds.items last next_bytes goal len
undoing-next left s spans next end olds next_olds last bytes next_bytes goal len spans_are olds_are bytes_are more =
    subst (λ (b : Buffer Span). Undoing (left - 1) b.items end next_olds.items last next_bytes goal len) (sym spans_are)
    (subst (λ (b : Buffer ℕ). Undoing (left - 1) (drop 1 spans.items) end b.items last next_bytes goal len) (sym olds_are)
    (subst (λ xs. Undoing (left - 1) (drop 1 spans.items) end (drop s.count olds.items) last xs goal len) (sym bytes_are) more))

pub memory-is : (m n : Memory) → m.bytes ≡ n.bytes → m.marks ≡ n.marks → m ≡ n
memory-is m n bytes marks = ap (λ xs. record { bytes = xs; marks = m.marks }) bytes ∙ ap (λ ms. record { bytes = n.bytes; marks = ms }) marks
