-- The frames and the guard before a step.
use Rattle.std.proofs.Common.{◌≡◌, ◌⊎◌, inl, inr, ℕ, ◌+◌, ◌-◌, ◌*◌, ◌/◌, ◌<◌, ◌≤◌, ◌==◌, ◌||◌, Bool, true, false, cond, List, [], ◌∷◌, length, replicate, arith, ap, sym, subst, ◌∙◌, refl}
use Rattle.std.proofs.lemmas.Bool.{eq-eqb}
use Rattle.std.proofs.lemmas.Bool.Decides.{nat_tests}
use Rattle.mix_bits.specs.declared.isa.Isa.{Isa}
use Rattle.big_memory.specs.Lists.{put}
use Rattle.big_memory.specs.Memory.{IsRam, Memory}
use Rattle.switch_frame.specs.Sets.{caller_isa, frame_size}
use Rattle.switch_frame.specs.Records.{Record, isa_of}
use Rattle.switch_frame.specs.Calls.{IsOutermost, active_set}
use Rattle.switch_frame.specs.laws.Chain.{Above, IsFrameRange}
use Rattle.switch_frame.specs.Chain.{Chain, Fits, IsInside, Links, covered, outer_of}
use Rattle.switch_frame.specs.ChainClauses.{in_range}
use Rattle.switch_frame.proofs.Marked.{fits_is_range, mark_at, marks_kept, marks_same, range_moves as range-moves, top_tells}
use Rattle.mixed_machine.specs.declared.body.Body.{Body}
use Rattle.mixed_machine.specs.Machine.{IsWhole, callers_of}
use Rattle.mix_debug.specs.declared.head.FrameChange.{FrameChange}
use Rattle.mix_debug.specs.declared.head.FrameChange.TheVariants.{Stays, Made, GivenUp}
use Rattle.mix_debug.specs.Entries.{IsFrame, IsRange, marks_before}
use Rattle.mix_debug.specs.inner.Entries.{frame_between}
use Rattle.mix_reach.specs.laws.Steps.{is_made}
use Rattle.mix_debug.proofs.Below.{frames-above, len-ram}
use Rattle.mix_debug.proofs.Stepping.{Followed, long-by-start}

-- the caller of a new frame is of the set that was active
caller-set : (rs : List Record) (r : Record) (main set : Isa) → set ≡ active_set main rs → IsOutermost main (r ∷ rs) → IsInside r rs → caller_isa r.kind ≡ isa_of r.caller → isa_of r.caller ≡ set
caller-set [] r main set active outermost inside kind = sym kind ∙ outermost ∙ sym active
caller-set (s ∷ rs) r main set active outermost inside kind = sym inside.1 ∙ sym active

-- no outer frame covers a unit of a frame
covered-above : (unit hi : ℕ) (rs : List Record) → 16 * unit < hi → Above hi rs → covered unit rs ≡ false
covered-above unit hi [] below above = refl
covered-above unit hi (r ∷ rs) below above =
    let low : hi ≤ r.lo = above.0 in
    let first : in_range r.lo r.hi unit ≡ false = grind (arith, nat_tests) in
    rw (first, covered-above unit hi rs below above.1) refl

in-range-below : (lo hi unit : ℕ) → in_range lo hi unit ≡ true → 16 * unit < hi
in-range-below lo hi unit inside = grind (arith, nat_tests)

uncovered : (b c : Bool) → (b ≡ true → c ≡ false) → cond b false (b || c) ≡ c
uncovered true c apart = sym (apart refl)
uncovered false c apart = refl

recovered : (b c : Bool) → cond b true c ≡ (b || c)
recovered true c = refl
recovered false c = refl

-- memory with the bytes of one and the marks of another
ram-of : (m n : Memory) → length n.bytes ≡ length m.bytes → IsRam n → IsRam (record { bytes = m.bytes; marks = n.marks })
ram-of m n same ram =
    record {
      units = sym same ∙ ram.units;
      least = omega (arith, same, ram.least);
      most = omega (arith, same, ram.most);
      whole = ap (λ k. Rattle.std.specs.Prelude.◌%◌ k 1024) (sym same) ∙ ram.whole;
      clear = λ unit low. ram.clear unit (omega (arith, same, low));
    }

-- the guard of a frame that was made is taken back
pub unguard-back : (m n : Memory) (s t : ℕ) (r : Record) (rs : List Record) → Chain m s rs → Chain n t (r ∷ rs) → length n.bytes ≡ length m.bytes
    → put (r.lo / 16) (replicate ((r.hi - r.lo) / 16) false) n.marks ≡ m.marks
unguard-back m n s t r rs here there same =
    let range : IsFrameRange n r.lo r.hi = fits_is_range n r there.links.frames.1.alone in
    let above : Above r.hi rs = frames-above (length n.bytes) n.bytes r rs (len-ram n there.links.ram) there.links.frames.1.inside there.links.frames.2 in
    let marks : List Bool = put (r.lo / 16) (replicate ((r.hi - r.lo) / 16) false) n.marks in
    let chain : Chain (record { bytes = m.bytes; marks = marks }) s rs = record {
      links = record {
        ram = ram-of m (record { bytes = n.bytes; marks = marks }) same (marks_kept n r.lo r.hi false there.links.ram range);
        first = here.links.first;
        few = here.links.few;
        frames = here.links.frames;
      };
      guarded = λ unit.
          mark_at n r.lo r.hi unit false there.links.ram range ∙ ap (λ b. cond (in_range r.lo r.hi unit) false b) (there.guarded unit)
          ∙ uncovered (in_range r.lo r.hi unit) (covered unit rs) (λ inside. covered-above unit r.hi rs (in-range-below r.lo r.hi unit inside) above);
    } in
    marks_same (record { bytes = m.bytes; marks = marks }) m s s rs chain here refl

-- the guard of a frame that was given up is given back
pub guard-back : (m n : Memory) (s t : ℕ) (r : Record) (rs : List Record) → Chain m s (r ∷ rs) → Chain n t rs → length n.bytes ≡ length m.bytes
    → put (r.lo / 16) (replicate ((r.hi - r.lo) / 16) true) n.marks ≡ m.marks
guard-back m n s t r rs here there same =
    let range : IsFrameRange n r.lo r.hi = range-moves m n r.lo r.hi same (fits_is_range m r here.links.frames.1.alone) in
    let marks : List Bool = put (r.lo / 16) (replicate ((r.hi - r.lo) / 16) true) n.marks in
    let chain : Chain (record { bytes = m.bytes; marks = marks }) s (r ∷ rs) = record {
      links = record {
        ram = ram-of m (record { bytes = n.bytes; marks = marks }) same (marks_kept n r.lo r.hi true there.links.ram range);
        first = here.links.first;
        few = here.links.few;
        frames = here.links.frames;
      };
      guarded = λ unit.
          mark_at n r.lo r.hi unit true there.links.ram range ∙ ap (λ b. cond (in_range r.lo r.hi unit) true b) (there.guarded unit)
          ∙ recovered (in_range r.lo r.hi unit) (covered unit rs);
    } in
    marks_same (record { bytes = m.bytes; marks = marks }) m s s (r ∷ rs) chain here refl

-- what a step did to the frames, and how it is undone
pub record FrameBack (m n : Body) (change : FrameChange) : Type 0 where
  pub frame : IsFrame (length n.ram.bytes) change
  pub marks : marks_before change n.ram.marks ≡ m.ram.marks

is-range : (m : Memory) (lo hi : ℕ) → IsFrameRange m lo hi → IsRange (length m.bytes) lo hi
is-range m lo hi range = record { first = range.first; last = range.last; stack = range.stack; order = range.order; end = range.within }

frame-stays : (old new : ℕ) (a b : Isa) → new ≡ old → frame_between old new a b ≡ Stays
frame-stays old new a b same = rw (eq-eqb new old same) refl

frame-made : (old new : ℕ) (a b : Isa) → 0 < new → (old ≡ 0) ⊎ (new < old) → frame_between old new a b ≡ Made new (new + frame_size a)
frame-made old new a b live lower =
    let other : (new == old) ≡ false = grind (arith, nat_tests) in
    let is : is_made old new ≡ true = grind (arith, nat_tests) in
    rw (other, is) refl

frame-given-up : (old new : ℕ) (a b : Isa) → 0 < old → (new ≡ 0) ⊎ (old < new) → frame_between old new a b ≡ GivenUp old (old + frame_size b)
frame-given-up old new a b live higher =
    let other : (new == old) ≡ false = grind (arith, nat_tests) in
    let is : is_made old new ≡ false = grind (arith, nat_tests) in
    rw (other, is) refl

pub same-long : (m n : Body) (a b : Isa) → IsWhole m a → IsWhole n b → Followed m n → length n.ram.bytes ≡ length m.ram.bytes
same-long m n a b here there moved =
    long-by-start m.main m.start_sp (length m.ram.bytes) (length n.ram.bytes) here.chain.links.ram.least there.chain.links.ram.least here.start
    (sym moved.start_sp ∙ there.start ∙ ap (λ main. Rattle.switch_frame.specs.Program.start_sp_of main (length n.ram.bytes)) moved.main)

stays-back : (m n : Body) (a b : Isa) → IsWhole m a → IsWhole n b → length n.ram.bytes ≡ length m.ram.bytes → callers_of n ≡ callers_of m → FrameBack m n (frame_between m.top n.top a b)
stays-back m n a b here there same callers =
    let chain : Chain n.ram n.top (callers_of m) = subst (Chain n.ram n.top) callers there.chain in
    let top : n.top ≡ m.top = chain.links.first ∙ sym here.chain.links.first in
    subst (FrameBack m n) (sym (frame-stays m.top n.top a b top)) (record { frame = tt; marks = marks_same n.ram m.ram n.top m.top (callers_of m) chain here.chain same })

made-back : (m n : Body) (a b : Isa) (r : Record) → IsWhole m a → IsWhole n b → length n.ram.bytes ≡ length m.ram.bytes → n.main ≡ m.main → callers_of n ≡ r ∷ callers_of m
    → FrameBack m n (frame_between m.top n.top a b)
made-back m n a b r here there same main callers =
    let chain : Chain n.ram n.top (r ∷ callers_of m) = subst (Chain n.ram n.top) callers there.chain in
    let fits : Fits (length n.ram.bytes) r (callers_of m) = chain.links.frames.1 in
    let tells = top_tells n.ram n.top r (callers_of m) chain.links in
    let old : m.top ≡ outer_of (callers_of m) = here.chain.links.first in
    let lower : (m.top ≡ 0) ⊎ (n.top < m.top) = elim tells.1 [ inl none ↦ inl (old ∙ none) | inr less ↦ inr (omega (arith, less, old)) ] in
    let outermost : IsOutermost m.main (r ∷ callers_of m) = subst (λ x. IsOutermost x (r ∷ callers_of m)) main (subst (IsOutermost n.main) callers there.outermost) in
    let set : isa_of r.caller ≡ a = caller-set (callers_of m) r m.main a here.active outermost fits.inside fits.alone.kind in
    let lo : r.lo ≡ n.top = sym chain.links.first in
    let hi : r.hi ≡ n.top + frame_size a = fits.alone.size ∙ ap (λ x. x + frame_size (isa_of r.caller)) lo ∙ ap (λ x. n.top + frame_size x) set in
    let at : Made r.lo r.hi ≡ Made n.top (n.top + frame_size a) = ap (λ x. Made x r.hi) lo ∙ ap (λ x. Made n.top x) hi in
    let range : IsFrameRange n.ram r.lo r.hi = fits_is_range n.ram r fits.alone in
    subst (FrameBack m n) (at ∙ sym (frame-made m.top n.top a b tells.0 lower))
    (record { frame = is-range n.ram r.lo r.hi range; marks = unguard-back m.ram n.ram m.top n.top r (callers_of m) here.chain chain same })

given-up-back : (m n : Body) (a b : Isa) (r : Record) → IsWhole m a → IsWhole n b → length n.ram.bytes ≡ length m.ram.bytes → n.main ≡ m.main → callers_of m ≡ r ∷ callers_of n
    → FrameBack m n (frame_between m.top n.top a b)
given-up-back m n a b r here there same main callers =
    let chain : Chain m.ram m.top (r ∷ callers_of n) = subst (Chain m.ram m.top) callers here.chain in
    let fits : Fits (length m.ram.bytes) r (callers_of n) = chain.links.frames.1 in
    let tells = top_tells m.ram m.top r (callers_of n) chain.links in
    let new : n.top ≡ outer_of (callers_of n) = there.chain.links.first in
    let higher : (n.top ≡ 0) ⊎ (m.top < n.top) = elim tells.1 [ inl none ↦ inl (new ∙ none) | inr less ↦ inr (omega (arith, less, new)) ] in
    let outermost : IsOutermost n.main (r ∷ callers_of n) = subst (λ x. IsOutermost x (r ∷ callers_of n)) (sym main) (subst (IsOutermost m.main) callers here.outermost) in
    let set : isa_of r.caller ≡ b = caller-set (callers_of n) r n.main b there.active outermost fits.inside fits.alone.kind in
    let lo : r.lo ≡ m.top = sym chain.links.first in
    let hi : r.hi ≡ m.top + frame_size b = fits.alone.size ∙ ap (λ x. x + frame_size (isa_of r.caller)) lo ∙ ap (λ x. m.top + frame_size x) set in
    let at : GivenUp r.lo r.hi ≡ GivenUp m.top (m.top + frame_size b) = ap (λ x. GivenUp x r.hi) lo ∙ ap (λ x. GivenUp m.top x) hi in
    let range : IsFrameRange n.ram r.lo r.hi = range-moves m.ram n.ram r.lo r.hi same (fits_is_range m.ram r fits.alone) in
    subst (FrameBack m n) (at ∙ sym (frame-given-up m.top n.top a b tells.0 higher))
    (record { frame = is-range n.ram r.lo r.hi range; marks = guard-back m.ram n.ram m.top n.top r (callers_of n) chain there.chain same })

pub frame-back : (m n : Body) (a b : Isa) → IsWhole m a → IsWhole n b → Followed m n → FrameBack m n (frame_between m.top n.top a b)
frame-back m n a b here there moved =
    let same = same-long m n a b here there moved in
    elim moved.callers [
      | inl stays ↦ stays-back m n a b here there same stays
      | inr moves ↦ elim moves [
        | inl made ↦ made-back m n a b made.0 here there same moved.main made.1
        | inr gone ↦ given-up-back m n a b gone.0 here there same moved.main gone.1
      ]
    ]

-- where the innermost frame of a whole machine begins
pub top-small : (m : Body) (a : Isa) → IsWhole m a → m.top ≤ 16777216
top-small m a whole = small m.top (callers_of m) whole.chain.links
  where
    small : (top : ℕ) (rs : List Record) → Links m.ram top rs → top ≤ 16777216
    small top [] links = omega (arith, links.first)
    small top (r ∷ rs) links =
        let first : top ≡ r.lo = links.first in
        let end : r.hi ≤ length m.ram.bytes = links.frames.1.alone.within in
        let size : r.hi ≡ r.lo + frame_size (isa_of r.caller) = links.frames.1.alone.size in
        omega (arith, first, end, size, links.ram.most)
