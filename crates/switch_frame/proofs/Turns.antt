-- What a push and a pop do to a chain, and what is read of its innermost frame.
use Rattle.std.proofs.Common.{◌≡◌, ℕ, suc, ◌+◌, ◌-◌, ◌*◌, ◌/◌, ◌%◌, ◌<◌, ◌≤◌, Bool, true, false, ◌||◌, IsSome, List, [], ◌∷◌, length, drop, get_or, replicate, cond, Some, arith, ap, sym, subst, ◌∙◌, refl}
use Rattle.std.proofs.lemmas.Bool.Decides.{nat_tests}
use Rattle.mix_bits.specs.declared.isa.Isa.{Isa}
use Rattle.mix_bits.specs.declared.isa.Isa.TheVariants.{M68, Ppc}
use Rattle.big_memory.specs.Lists.{put}
use Rattle.big_memory.specs.Memory.{Memory, IsRam, floor_of, with_bytes}
use Rattle.big_memory.specs.MemoryClauses.{with_marks}
use Rattle.big_memory.proofs.Lists.{length-put, part-put_same, put-put_same}
use Rattle.proc_info.specs.Signature.{has_signature}
use Rattle.switch_frame.specs.declared.held.Held.{Held}
use Rattle.switch_frame.specs.declared.kind.Kind.{Kind}
use Rattle.big_memory.specs.Numbers.{long_at}
use Rattle.switch_frame.specs.Sets.{caller_isa, frame_size, kind_code, kind_at, kind_told}
use Rattle.switch_frame.specs.Records.{Record, isa_of, image, record_at}
use Rattle.switch_frame.specs.RecordsClauses.{record_of, held_of}
use Rattle.switch_frame.specs.laws.Chain.{Above, Apart, IsFrameRange}
use Rattle.switch_frame.specs.Chain.{Fits, Frames, IsHeld, IsInside, Links, Chain, outer_of, records, covered, cleared, most_frames}
use Rattle.switch_frame.specs.ChainClauses.{in_range}
use Rattle.big_memory.specs.Lists.{zeros}
use Rattle.switch_frame.specs.CallsClauses.{IsPlace, IsCalled, innermost}
use Rattle.switch_frame.specs.Innermost.{IsInnermost}
use Rattle.switch_frame.specs.Calls.{is_crossed}
use Rattle.big_memory.proofs.Rams.{bytes_keep_ram}
use Rattle.switch_frame.proofs.Pieces.{length-zeros}
use Rattle.switch_frame.proofs.Images.{IsReadAt, kind-back}
use Rattle.switch_frame.proofs.Linked.{IsLen, IsRange, apart-above, first-back, frames_above, frames-kept, len-ram, length-cleared, length-image_fits, range-fits, reads_back}
use Rattle.switch_frame.proofs.Beside.{cleared-put}
use Rattle.switch_frame.proofs.Marked.{fits_is_range, mark_at, marks_kept, range_moves}
use Rattle.switch_frame.proofs.Places.{called-inside}

pub cond-true : (b x : Bool) → cond b true x ≡ (b || x)
cond-true true x = refl
cond-true false x = refl

covered-above : (hi unit : ℕ) (rs : List Record) → Above hi rs → 16 * unit < hi → covered unit rs ≡ false
covered-above hi unit [] above low = refl
covered-above hi unit (r ∷ rs) above low =
    let first : in_range r.lo r.hi unit ≡ false = grind (arith, nat_tests, above.0) in rw first (covered-above hi unit rs above.1 low)

cond-false : (b x : Bool) → (b ≡ true → x ≡ false) → cond b false (b || x) ≡ x
cond-false true x none = sym (none refl)
cond-false false x none = refl

in-low : (lo hi unit : ℕ) → in_range lo hi unit ≡ true → 16 * unit < hi
in-low lo hi unit e = grind (arith, nat_tests)

-- memory after a push, and after a pop
abbrev pub pushed : Memory → Record → List Record → Memory
pushed m r rs = with_marks (r.lo / 16) (replicate ((r.hi - r.lo) / 16) true) (with_bytes r.lo (image r (outer_of rs) (suc (length rs))) m)

abbrev pub popped : Memory → Record → Memory
popped m r = with_marks (r.lo / 16) (replicate ((r.hi - r.lo) / 16) false) (with_bytes r.lo (zeros (r.hi - r.lo)) m)

-- a frame's bytes apart from those outside it
outside-apart : (len : ℕ) (bytes : List ℕ) (r : Record) (rs : List Record) (n : ℕ) → IsLen len → Fits len r rs → Frames len bytes rs → n ≡ r.hi - r.lo → Apart r.lo n rs
outside-apart len bytes r rs n ok fits frames size =
    let range : IsRange len r = range-fits len r rs ok fits in
    let end : r.lo + n ≡ r.hi = omega (arith, range.some) in
    let above : Above (r.lo + n) rs = rw end (frames_above len bytes r rs fits.inside frames) in
    apart-above r.lo n rs above

pushed-chain : (m : Memory) (top : ℕ) (rs : List Record) (r : Record) → Chain m top rs → length rs < most_frames → Fits (length m.bytes) r rs → Chain (pushed m r rs) r.lo (r ∷ rs)
pushed-chain m top rs r chain few fits =
    let len = length m.bytes in
    let links = chain.links in
    let ok : IsLen (length m.bytes) = len-ram m links.ram in
    let held = image r (outer_of rs) (suc (length rs)) in
    let range : IsRange (length m.bytes) r = range-fits len r rs ok fits in
    let size : length (image r (outer_of rs) (suc (length rs))) ≡ r.hi - r.lo = length-image_fits len r rs (outer_of rs) (suc (length rs)) fits in
    let within : r.lo + length (image r (outer_of rs) (suc (length rs))) ≤ length m.bytes = omega (arith, range.some, range.end) in
    let same : length (put r.lo held m.bytes) ≡ length m.bytes = length-put r.lo held m.bytes within in
    let ram : IsRam (with_bytes r.lo held m) = bytes_keep_ram m r.lo held within links.ram in
    let apart : Apart r.lo (length held) rs = outside-apart len m.bytes r rs (length held) ok fits links.frames size in
    let kept : Frames (length m.bytes) (put r.lo held m.bytes) rs = frames-kept len r.lo held m.bytes rs ok within apart links.frames in
    let whole : Frames (length m.bytes) (put r.lo held m.bytes) (r ∷ rs) = (part-put_same r.lo (r.hi - r.lo) held m.bytes size (omega (arith, range.some, range.end)), fits, kept) in
    let there : IsFrameRange (with_bytes r.lo held m) r.lo r.hi = range_moves m (with_bytes r.lo held m) r.lo r.hi same (fits_is_range m r fits.alone) in
    record {
      links = record {
        ram = marks_kept (with_bytes r.lo held m) r.lo r.hi true ram there;
        first = refl;
        few = omega (arith, few);
        frames = subst (λ n. Frames n (put r.lo held m.bytes) (r ∷ rs)) (sym same) whole;
      };
      guarded = λ unit. mark_at (with_bytes r.lo held m) r.lo r.hi unit true ram there ∙ cond-true (in_range r.lo r.hi unit) (get_or m.marks unit false) ∙ ap (λ b. in_range r.lo r.hi unit || b) (chain.guarded unit);
    }

popped-chain : (m : Memory) (top : ℕ) (rs : List Record) (r : Record) → Chain m top (r ∷ rs) → Chain (popped m r) (outer_of rs) rs
popped-chain m top rs r chain =
    let len = length m.bytes in
    let links = chain.links in
    let ok : IsLen (length m.bytes) = len-ram m links.ram in
    let fits : Fits (length m.bytes) r rs = links.frames.1 in
    let none = zeros (r.hi - r.lo) in
    let range : IsRange (length m.bytes) r = range-fits len r rs ok fits in
    let size : length (zeros (r.hi - r.lo)) ≡ r.hi - r.lo = length-zeros (r.hi - r.lo) in
    let within : r.lo + length (zeros (r.hi - r.lo)) ≤ length m.bytes = omega (arith, range.some, range.end) in
    let same : length (put r.lo none m.bytes) ≡ length m.bytes = length-put r.lo none m.bytes within in
    let ram : IsRam (with_bytes r.lo none m) = bytes_keep_ram m r.lo none within links.ram in
    let apart : Apart r.lo (length none) rs = outside-apart len m.bytes r rs (length none) ok fits links.frames.2 size in
    let kept : Frames (length m.bytes) (put r.lo none m.bytes) rs = frames-kept len r.lo none m.bytes rs ok within apart links.frames.2 in
    let there : IsFrameRange (with_bytes r.lo none m) r.lo r.hi = range_moves m (with_bytes r.lo none m) r.lo r.hi same (fits_is_range m r fits.alone) in
    let above : Above r.hi rs = frames_above len m.bytes r rs fits.inside links.frames.2 in
    record {
      links = record {
        ram = marks_kept (with_bytes r.lo none m) r.lo r.hi false ram there;
        first = refl;
        few = omega (arith, links.few);
        frames = subst (λ n. Frames n (put r.lo none m.bytes) rs) (sym same) kept;
      };
      guarded = λ unit. mark_at (with_bytes r.lo none m) r.lo r.hi unit false ram there
          ∙ ap (λ b. cond (in_range r.lo r.hi unit) false b) (chain.guarded unit)
          ∙ cond-false (in_range r.lo r.hi unit) (covered unit rs) (λ e. covered-above r.hi unit rs above (in-low r.lo r.hi unit e));
    }

-- the memory beside the frames
pushed-cleared : (m : Memory) (top : ℕ) (rs : List Record) (r : Record) → Links m top rs → Fits (length m.bytes) r rs → cleared (pushed m r rs).bytes (r ∷ rs) ≡ put r.lo (zeros (r.hi - r.lo)) (cleared m.bytes rs)
pushed-cleared m top rs r links fits =
    let len = length m.bytes in
    let ok : IsLen (length m.bytes) = len-ram m links.ram in
    let held = image r (outer_of rs) (suc (length rs)) in
    let range : IsRange (length m.bytes) r = range-fits len r rs ok fits in
    let size : length (image r (outer_of rs) (suc (length rs))) ≡ r.hi - r.lo = length-image_fits len r rs (outer_of rs) (suc (length rs)) fits in
    let none : length (zeros (r.hi - r.lo)) ≡ r.hi - r.lo = length-zeros (r.hi - r.lo) in
    let beside : length (cleared m.bytes rs) ≡ length m.bytes = length-cleared m.bytes rs links.frames ok in
    let apart : Apart r.lo (length held) rs = outside-apart len m.bytes r rs (length held) ok fits links.frames size in
    ap (λ xs. put r.lo (zeros (r.hi - r.lo)) xs) (cleared-put len r.lo held m.bytes rs refl (omega (arith, range.some, range.end)) apart links.frames ok)
    ∙ put-put_same r.lo held (zeros (r.hi - r.lo)) (cleared m.bytes rs) (size ∙ sym none) (omega (arith, range.some, range.end))

popped-cleared : (m : Memory) (top : ℕ) (rs : List Record) (r : Record) → Links m top (r ∷ rs) → cleared (popped m r).bytes rs ≡ cleared m.bytes (r ∷ rs)
popped-cleared m top rs r links =
    let len = length m.bytes in
    let ok : IsLen (length m.bytes) = len-ram m links.ram in
    let fits : Fits (length m.bytes) r rs = links.frames.1 in
    let range : IsRange (length m.bytes) r = range-fits len r rs ok fits in
    let size : length (zeros (r.hi - r.lo)) ≡ r.hi - r.lo = length-zeros (r.hi - r.lo) in
    cleared-put len r.lo (zeros (r.hi - r.lo)) m.bytes rs refl (omega (arith, range.some, range.end)) (outside-apart len m.bytes r rs (length (zeros (r.hi - r.lo))) ok fits links.frames.2 size) links.frames.2 ok

-- what a push ensures
pub record IsPushed (m new : Memory) (top : ℕ) (r : Record) (rs : List Record) : Type 0 where
  pub chain : Chain new top (records new.bytes top)
  pub records_are : records new.bytes top ≡ r ∷ rs
  pub memory : cleared new.bytes (records new.bytes top) ≡ put r.lo (zeros (r.hi - r.lo)) (cleared m.bytes rs)
  pub len : length new.bytes ≡ length m.bytes

pub push-is : (m new : Memory) (top outer depth : ℕ) (rs : List Record) (r : Record) → Chain m top rs → length rs < most_frames → Fits (length m.bytes) r rs → outer ≡ top → depth ≡ length rs + 1
    → new ≡ with_marks (r.lo / 16) (replicate ((r.hi - r.lo) / 16) true) (with_bytes r.lo (image r outer depth) m) → IsPushed m new r.lo r rs
push-is m new top outer depth rs r chain few fits first last e =
    let count : depth ≡ suc (length rs) = omega arith in
    let whole : new ≡ pushed m r rs = rw (e, first, chain.links.first, count) refl in
    let range : IsRange (length m.bytes) r = range-fits (length m.bytes) r rs (len-ram m chain.links.ram) fits in
    let size : length (image r (outer_of rs) (suc (length rs))) ≡ r.hi - r.lo = length-image_fits (length m.bytes) r rs (outer_of rs) (suc (length rs)) fits in
    let done : Chain (pushed m r rs) r.lo (r ∷ rs) = pushed-chain m top rs r chain few fits in
    let back : records (pushed m r rs).bytes r.lo ≡ r ∷ rs = reads_back (pushed m r rs) r.lo (r ∷ rs) done.links in
    let result : IsPushed m (pushed m r rs) r.lo r rs = record {
      chain = subst (λ xs. Chain (pushed m r rs) r.lo xs) (sym back) done;
      records_are = back;
      memory = ap (λ xs. cleared (pushed m r rs).bytes xs) back ∙ pushed-cleared m top rs r chain.links fits;
      len = length-put r.lo (image r (outer_of rs) (suc (length rs))) m.bytes (omega (arith, range.some, range.end));
    } in
    subst (λ n. IsPushed m n r.lo r rs) (sym whole) result

-- what is read of the innermost frame of a chain
pub record IsLive (m : Memory) (top : ℕ) (rs : List Record) : Type 0 where
  pub is : innermost rs ≡ Some (held_of (record_at top m.bytes) (long_at (top + 28) m.bytes))
  pub head : top + 112 ≤ length m.bytes
  pub kind : IsSome (kind_at (long_at (top + 4) m.bytes))
  pub whole : top + frame_size (caller_isa (kind_told (long_at (top + 4) m.bytes))) ≤ length m.bytes
  pub hi : long_at (top + 20) m.bytes ≡ top + frame_size (caller_isa (kind_told (long_at (top + 4) m.bytes)))
  pub aligned : top % 16 ≡ 0
  pub stack : floor_of m ≤ top
  pub depth : long_at (top + 28) m.bytes ≡ length rs

told : (kind : Kind) (code : ℕ) → code ≡ kind_code kind → IsSome (kind_at code)
told kind code e = subst (λ k. IsSome k) (sym (ap kind_at e ∙ kind-back kind)) refl

pub live-is : (m : Memory) (top : ℕ) (rs : List Record) → Links m top rs → 0 < top → IsLive m top rs
live-is m top [] links live = absurd (omega (arith, links.first))
live-is m top (r ∷ rs) links live =
    let ok : IsLen (length m.bytes) = len-ram m links.ram in
    let fits : Fits (length m.bytes) r rs = links.frames.1 in
    let range : IsRange (length m.bytes) r = range-fits (length m.bytes) r rs ok fits in
    let back : IsReadAt m.bytes r (outer_of rs) (suc (length rs)) = first-back (length m.bytes) m.bytes r rs ok (omega (arith, links.few)) links.frames in
    let kind : kind_told (long_at (r.lo + 4) m.bytes) ≡ r.kind = ap (λ x. x.kind) back.record_is in
    let hi : long_at (r.lo + 20) m.bytes ≡ r.hi = ap (λ x. x.hi) back.record_is in
    let size : frame_size (caller_isa (kind_told (long_at (r.lo + 4) m.bytes))) ≡ frame_size (isa_of r.caller) = ap (λ k. frame_size (caller_isa k)) kind ∙ ap frame_size fits.alone.kind in
    let here : IsLive m r.lo (r ∷ rs) = record {
      is = ap Some (sym (ap (λ x. held_of x (long_at (r.lo + 28) m.bytes)) back.record_is ∙ ap (λ d. held_of r d) back.depth_is));
      head = omega (arith, range.some, range.end);
      kind = told r.kind (long_at (r.lo + 4) m.bytes) back.kind_is;
      whole = omega (arith, size, fits.alone.size, range.end);
      hi = omega (arith, hi, size, fits.alone.size);
      aligned = fits.alone.aligned;
      stack = fits.alone.stack;
      depth = back.depth_is;
    } in
    subst (λ t. IsLive m t (r ∷ rs)) (sym links.first) here

-- the range of the innermost frame
pub innermost-range : (m : Memory) (top lo hi : ℕ) (rs : List Record) → Links m top rs → IsInnermost lo hi rs → IsFrameRange m lo hi
innermost-range m top lo hi [] links first = absurd first
innermost-range m top lo hi (r ∷ rs) links first =
    subst (λ a. IsFrameRange m a hi) first.0 (subst (λ b. IsFrameRange m r.lo b) first.1 (fits_is_range m r links.frames.1.alone))

-- what giving up the innermost frame ensures
pub record IsGivenUp (m new : Memory) (top : ℕ) (rs : List Record) : Type 0 where
  pub records_are : records new.bytes top ≡ drop 1 rs
  pub chain : Chain new top (records new.bytes top)
  pub memory : cleared new.bytes (records new.bytes top) ≡ cleared m.bytes rs
  pub len : length new.bytes ≡ length m.bytes

pub given-up : (m new : Memory) (top outer lo hi : ℕ) (rs : List Record) → Chain m top rs → IsInnermost lo hi rs → outer ≡ long_at lo m.bytes
    → new ≡ with_marks (lo / 16) (replicate ((hi - lo) / 16) false) (with_bytes lo (zeros (hi - lo)) m) → IsGivenUp m new outer rs
given-up m new top outer lo hi [] chain first out e = absurd first
given-up m new top outer lo hi (r ∷ rs) chain first out e =
    let links = chain.links in
    let ok : IsLen (length m.bytes) = len-ram m links.ram in
    let fits : Fits (length m.bytes) r rs = links.frames.1 in
    let range : IsRange (length m.bytes) r = range-fits (length m.bytes) r rs ok fits in
    let back : IsReadAt m.bytes r (outer_of rs) (suc (length rs)) = first-back (length m.bytes) m.bytes r rs ok (omega (arith, links.few)) links.frames in
    let outer_is : outer ≡ outer_of rs = out ∙ ap (λ a. long_at a m.bytes) (sym first.0) ∙ back.outer_is in
    let new_is : new ≡ popped m r
    = e ∙ ap (λ a. with_marks (a / 16) (replicate ((hi - a) / 16) false) (with_bytes a (zeros (hi - a)) m)) (sym first.0)
    ∙ ap (λ b. with_marks (r.lo / 16) (replicate ((b - r.lo) / 16) false) (with_bytes r.lo (zeros (b - r.lo)) m)) (sym first.1) in
    let size : length (zeros (r.hi - r.lo)) ≡ r.hi - r.lo = length-zeros (r.hi - r.lo) in
    let done : Chain (popped m r) (outer_of rs) rs = popped-chain m top rs r chain in
    let rest : records (popped m r).bytes (outer_of rs) ≡ rs = reads_back (popped m r) (outer_of rs) rs done.links in
    let result : IsGivenUp m (popped m r) (outer_of rs) (r ∷ rs) = record {
      records_are = rest;
      chain = subst (λ xs. Chain (popped m r) (outer_of rs) xs) (sym rest) done;
      memory = ap (λ xs. cleared (popped m r).bytes xs) rest ∙ popped-cleared m top rs r links;
      len = length-put r.lo (zeros (r.hi - r.lo)) m.bytes (omega (arith, range.some, range.end));
    } in
    subst (λ n. IsGivenUp m n outer (r ∷ rs)) (sym new_is) (subst (λ t. IsGivenUp m (popped m r) t (r ∷ rs)) (sym outer_is) result)

-- what a pop ensures of the caller that it gives
pub record IsPopped (held : Held) (rs rest : List Record) : Type 0 where
  pub records_are : rs ≡ record_of held ∷ rest
  pub depth : held.depth ≡ length rs
  pub kind : caller_isa held.kind ≡ isa_of held.caller
  pub signature : has_signature held.info ≡ true
  pub called : IsCalled held.caller rest

pub innermost-read : (m : Memory) (top : ℕ) (rs : List Record) (held : Held) → Links m top rs → 0 < top → held ≡ held_of (record_at top m.bytes) (long_at (top + 28) m.bytes) → innermost rs ≡ Some held
innermost-read m top rs held links live read = (live-is m top rs links live).is ∙ ap Some (sym read)

pub innermost-is : (rs : List Record) (held : Held) → innermost rs ≡ Some held → IsInnermost held.lo held.hi rs
innermost-is [] held is = absurd (cc)
innermost-is (r ∷ rs) held is =
    let same : held_of r (suc (length rs)) ≡ held = cc in (ap (λ h. h.lo) same, ap (λ h. h.hi) same)

pub pop-is : (m : Memory) (top : ℕ) (rs rest : List Record) (held : Held) → Links m top rs → innermost rs ≡ Some held → rest ≡ drop 1 rs → IsPopped held rs rest
pop-is m top [] rest held links is left = absurd (cc)
pop-is m top (r ∷ rs) rest held links is left =
    let fits : Fits (length m.bytes) r rs = links.frames.1 in
    let same : held_of r (suc (length rs)) ≡ held = cc in
    let behind : rs ≡ rest = sym left in
    let result : IsPopped (held_of r (suc (length rs))) (r ∷ rs) rs = record {
      records_are = refl;
      depth = refl;
      kind = fits.alone.kind;
      signature = fits.alone.signature;
      called = called-inside r rs fits.inside;
    } in
    subst (λ xs. IsPopped held (r ∷ rs) xs) behind (subst (λ h. IsPopped h (r ∷ rs) rs) same result)

-- the record of a caller that a place was given to
lo-aligned : (lo hi : ℕ) (isa : Isa) → hi ≡ lo + frame_size isa → hi % 16 ≡ 0 → lo % 16 ≡ 0
lo-aligned lo hi M68 size aligned = omega arith
lo-aligned lo hi Ppc size aligned = omega arith

inside-place : (r : Record) (rs : List Record) → is_crossed rs r.hi ≡ false → IsCalled r.caller rs → IsInside r rs
inside-place r [] below called = tt
inside-place r (s ∷ rs) below called = (grind (arith, nat_tests), called)

pub fits-place : (m : Memory) (rs : List Record) (held : Held) → IsPlace m rs held.kind held.lo held.hi → IsHeld (record_of held)
    → has_signature held.info ≡ true → caller_isa held.kind ≡ isa_of held.caller → IsCalled held.caller rs → Fits (length m.bytes) (record_of held) rs
fits-place m rs held place numbers signature kind called =
    record {
      alone = record {
        held = numbers;
        signature = signature;
        kind = kind;
        size = place.size ∙ ap (λ isa. held.lo + frame_size isa) kind;
        aligned = lo-aligned held.lo held.hi (caller_isa held.kind) place.size place.aligned;
        stack = place.stack;
        within = place.within;
      };
      inside = inside-place (record_of held) rs place.below called;
    }

-- the chain outside the innermost frame
pub record IsOuter (m : Memory) (outer : ℕ) (rs : List Record) : Type 0 where
  pub value : outer ≡ outer_of (drop 1 rs)
  pub rest : records m.bytes outer ≡ drop 1 rs
  pub links : Links m outer (records m.bytes outer)

pub outer-is : (m : Memory) (top outer : ℕ) (rs : List Record) → Links m top rs → 0 < top → outer ≡ long_at top m.bytes → IsOuter m outer rs
outer-is m top outer [] links live e = absurd (omega (arith, links.first))
outer-is m top outer (r ∷ rs) links live e =
    let back : IsReadAt m.bytes r (outer_of rs) (suc (length rs)) = first-back (length m.bytes) m.bytes r rs (len-ram m links.ram) (omega (arith, links.few)) links.frames in
    let outer_is : outer ≡ outer_of rs = e ∙ ap (λ t. long_at t m.bytes) links.first ∙ back.outer_is in
    let rest : Links m (outer_of rs) rs = record { ram = links.ram; first = refl; few = omega (arith, links.few); frames = links.frames.2 } in
    let read : records m.bytes (outer_of rs) ≡ rs = reads_back m (outer_of rs) rs rest in
    let result : IsOuter m (outer_of rs) (r ∷ rs) = record { value = refl; rest = read; links = subst (λ xs. Links m (outer_of rs) xs) (sym read) rest } in
    subst (λ a. IsOuter m a (r ∷ rs)) (sym outer_is) result
