-- The frames of a chain are guarded one after the other.
use Rattle.std.proofs.Common.{◌≡◌, ℕ, suc, ◌+◌, ◌-◌, ◌/◌, ◌<◌, Bool, true, false, ◌||◌, List, [], ◌∷◌, length, drop, get_or, replicate, arith, ap, sym, subst, ◌∙◌, refl}
use Rattle.big_memory.specs.Memory.{Memory, IsRam}
use Rattle.big_memory.specs.MemoryClauses.{with_marks}
use Rattle.big_memory.specs.Numbers.{long_at}
use Rattle.switch_frame.specs.Records.{Record}
use Rattle.switch_frame.specs.Chain.{Chain, Frames, Links, covered, outer_of, records}
use Rattle.switch_frame.specs.ChainClauses.{in_range}
use Rattle.switch_frame.specs.laws.Chain.{IsFrameRange}
use Rattle.switch_frame.proofs.Images.{IsReadAt}
use Rattle.switch_frame.proofs.Linked.{first-back, len-ram}
use Rattle.switch_frame.proofs.Marked.{fits_is_range, mark_at, marks_kept}
use Rattle.switch_frame.proofs.Places.{top_is_zero}
use Rattle.switch_frame.proofs.Turns.{IsOuter, cond-true, outer-is}

-- the range that the innermost frame tells
pub told-range : (m : Memory) (lo hi : ℕ) (rs : List Record) → Links m lo rs → 0 < lo → hi ≡ long_at (lo + 20) m.bytes → IsFrameRange m lo hi
told-range m lo hi [] links live read = absurd (omega (arith, links.first))
told-range m lo hi (r ∷ rs) links live read =
    let back : IsReadAt m.bytes r (outer_of rs) (suc (length rs)) = first-back (length m.bytes) m.bytes r rs (len-ram m links.ram) (omega (arith, links.few)) links.frames in
    let end : r.hi ≡ hi = sym (read ∙ ap (λ a. long_at (a + 20) m.bytes) links.first ∙ ap (λ x. x.hi) back.record_is) in
    subst (λ a. IsFrameRange m a hi) (sym links.first) (subst (λ b. IsFrameRange m r.lo b) end (fits_is_range m r links.frames.1.alone))

-- what the units of the innermost frame are covered by
covers : (m : Memory) (lo hi unit : ℕ) (rs : List Record) → Links m lo rs → 0 < lo → hi ≡ long_at (lo + 20) m.bytes → covered unit rs ≡ (in_range lo hi unit || covered unit (drop 1 rs))
covers m lo hi unit [] links live read = absurd (omega (arith, links.first))
covers m lo hi unit (r ∷ rs) links live read =
    let back : IsReadAt m.bytes r (outer_of rs) (suc (length rs)) = first-back (length m.bytes) m.bytes r rs (len-ram m links.ram) (omega (arith, links.few)) links.frames in
    let end : r.hi ≡ hi = sym (read ∙ ap (λ a. long_at (a + 20) m.bytes) links.first ∙ ap (λ x. x.hi) back.record_is) in
    ap (λ a. in_range a r.hi unit || covered unit rs) (sym links.first) ∙ ap (λ b. in_range lo b unit || covered unit rs) end

-- memory with the same bytes has the same frames
pub links-same : (m n : Memory) (top : ℕ) (rs : List Record) → IsRam n → n.bytes ≡ m.bytes → Links m top rs → Links n top rs
links-same m n top rs ram same links =
    record { ram = ram; first = links.first; few = links.few; frames = subst (λ xs. Frames (length xs) xs rs) (sym same) links.frames }

-- the frames inside `lo` are guarded, and those from there on are not yet
pub record IsGuarding (old m : Memory) (top lo : ℕ) : Type 0 where
  pub bytes : m.bytes ≡ old.bytes
  pub links : Links m lo (records m.bytes lo)
  pub marks : (unit : ℕ) → covered unit (records old.bytes top) ≡ (get_or m.marks unit false || covered unit (records m.bytes lo))

pub guards-none : (m : Memory) (top : ℕ) → Links m top (records m.bytes top) → ((unit : ℕ) → get_or m.marks unit false ≡ false) → IsGuarding m m top top
guards-none m top links clear =
    record { bytes = refl; links = links; marks = λ unit. sym (ap (λ b. b || covered unit (records m.bytes top)) (clear unit)) }

joined : (old range rest : Bool) → (old || (range || rest)) ≡ ((range || old) || rest)
joined true true rest = refl
joined true false rest = refl
joined false true rest = refl
joined false false rest = refl

pub guards-more : (old m new : Memory) (top lo hi outer : ℕ) → IsGuarding old m top lo → 0 < lo → hi ≡ long_at (lo + 20) m.bytes → new ≡ with_marks (lo / 16) (replicate ((hi - lo) / 16) true) m → outer ≡ long_at lo new.bytes
    → IsGuarding old new top outer
guards-more old m new top lo hi outer so_far live read is next =
    let rs = records m.bytes lo in
    let range : IsFrameRange m lo hi = told-range m lo hi rs so_far.links live read in
    let ram = so_far.links.ram in
    let made = with_marks (lo / 16) (replicate ((hi - lo) / 16) true) m in
    let step : IsOuter m outer rs = outer-is m lo outer rs so_far.links live (next ∙ ap (λ n. long_at lo n.bytes) is) in
    let kept : IsRam (with_marks (lo / 16) (replicate ((hi - lo) / 16) true) m) = marks_kept m lo hi true ram range in
    let done : IsGuarding old made top outer = record {
      bytes = so_far.bytes;
      links = links-same m made outer (records m.bytes outer) kept refl step.links;
      marks = λ unit.
          so_far.marks unit
          ∙ ap (λ b. get_or m.marks unit false || b) (covers m lo hi unit rs so_far.links live read)
          ∙ joined (get_or m.marks unit false) (in_range lo hi unit) (covered unit (drop 1 rs))
          ∙ ap (λ xs. (in_range lo hi unit || get_or m.marks unit false) || covered unit xs) (sym step.rest)
          ∙ ap (λ b. b || covered unit (records m.bytes outer)) (sym (mark_at m lo hi unit true ram range ∙ cond-true (in_range lo hi unit) (get_or m.marks unit false)));
    } in
    subst (λ n. IsGuarding old n top outer) (sym is) done

none-left : (m : Memory) (lo : ℕ) (rs : List Record) → Links m lo rs → lo ≡ 0 → rs ≡ []
none-left m lo rs links none = (top_is_zero m lo rs links).0 none

or-none : (b : Bool) → (b || false) ≡ b
or-none true = refl
or-none false = refl

pub guards-all : (old m : Memory) (top lo : ℕ) → Links old top (records old.bytes top) → IsGuarding old m top lo → lo ≡ 0 → Chain m top (records m.bytes top)
guards-all old m top lo links so_far none =
    let empty : records m.bytes lo ≡ [] = none-left m lo (records m.bytes lo) so_far.links none in
    let same : records old.bytes top ≡ records m.bytes top = ap (λ xs. records xs top) (sym so_far.bytes) in
    let all : Links m top (records old.bytes top) = links-same old m top (records old.bytes top) so_far.links.ram so_far.bytes links in
    let whole : Chain m top (records old.bytes top) = record {
      links = all;
      guarded = λ unit. sym (so_far.marks unit ∙ ap (λ xs. get_or m.marks unit false || covered unit xs) empty ∙ or-none (get_or m.marks unit false));
    } in
    subst (λ xs. Chain m top xs) same whole

-- fewer frames are left
one-less : (m : Memory) (lo n : ℕ) (rs : List Record) → Links m lo rs → 0 < lo → n ≡ length (drop 1 rs) → n < length rs
one-less m lo n [] links live is = absurd (omega (arith, links.first))
one-less m lo n (r ∷ rs) links live is = omega arith

pub fewer-left : (old m new : Memory) (top lo outer : ℕ) → IsGuarding old m top lo → 0 < lo → new.bytes ≡ m.bytes → outer ≡ long_at lo new.bytes → length (records new.bytes outer) < length (records m.bytes lo)
fewer-left old m new top lo outer so_far live same next =
    let step : IsOuter m outer (records m.bytes lo) = outer-is m lo outer (records m.bytes lo) so_far.links live (next ∙ ap (λ xs. long_at lo xs) same) in
    one-less m lo (length (records new.bytes outer)) (records m.bytes lo) so_far.links live (ap (λ xs. length (records xs outer)) same ∙ ap (λ xs. length xs) step.rest)
