-- Laws of the records' ranges: which stores they refuse, and what stores keep.
use Rattle.std.proofs.Common.{◌≡◌, ◌≢◌, inl, inr, ℕ, zero, suc, ◌+◌, ◌-◌, ◌<◌, ◌≤◌, nat_lt, Bool, true, false, ◌&&◌, ◌||◌, lit<, List, [], ◌∷◌, length, get_or, None, arith, ap, sym, subst, ◌∙◌, refl}
use Rattle.std.proofs.lemmas.Bool.{cases_Bool}
use Rattle.std.proofs.lemmas.Bool.Decides.{nat_tests}
use Rattle.big_memory.specs.Lists.{part}
use Rattle.big_memory.specs.Memory.{Memory, meets_gate, meets_guard, refusal}
use Rattle.big_memory.proofs.Free.{free_ram, same_part}
use Rattle.big_memory.specs.laws.Laws.{Passes}
use Rattle.big_memory.proofs.Guarded.{passes, refusal-none, test_from_free}
use Rattle.switch_frame.specs.Records.{Record}
use Rattle.switch_frame.specs.laws.Chain.{Above, Apart}
use Rattle.switch_frame.specs.Chain.{Chain, Frames}
use Rattle.switch_frame.specs.Calls.{is_crossed}
use Rattle.switch_frame.specs.laws.Laws.{FreeKeepsChain, PlacesAreFree, RefusalsAreRanges, meets_frames}
use Rattle.switch_frame.specs.laws.FrameLaws.{BelowInnermost, MeetsNone}
use Rattle.switch_frame.proofs.Linked.{IsLen, IsRange, above-less, apart-above, frames_above, len-ram, range-fits}
use Rattle.switch_frame.proofs.Guards.{apart-free, apart-meets, guard_is_frames, meets-apart}

pub meets_none : MeetsNone
meets_none a n rs = (λ none. meets-apart a n rs none, λ apart. apart-meets a n rs apart)

pub refusals_are_ranges : RefusalsAreRanges
refusals_are_ranges m top rs a zero chain = refl
refusals_are_ranges m top rs a (suc n) chain =
    elim (cases_Bool (nat_lt (length m.bytes) (a + suc n))) [
      | inl out ↦ rw out refl
      | inr inside ↦
          let within : a + suc n ≤ length m.bytes = grind (arith, nat_tests) in
          rw (guard_is_frames m top rs a (suc n) (omega arith) within chain) refl
    ]

-- the frames lie above an address that is not above the innermost one
above-crossed : (len hi : ℕ) (bytes : List ℕ) (rs : List Record) → IsLen len → is_crossed rs hi ≡ false → Frames len bytes rs → Above hi rs
above-crossed len hi bytes [] ok below frames = tt
above-crossed len hi bytes (r ∷ rs) ok below frames =
    let range : IsRange len r = range-fits len r rs ok frames.1 in
    let first : hi ≤ r.lo = grind (arith, nat_tests) in
    (first, above-less hi r.hi rs (omega (arith, range.some)) (frames_above len bytes r rs frames.1.inside frames.2))

pub below_innermost : BelowInnermost
below_innermost m top rs hi a n links below end =
    apart-above a n rs (above-less (a + n) hi rs end (above-crossed (length m.bytes) hi m.bytes rs (len-ram m links.ram) below links.frames))

pub places_are_free : PlacesAreFree
places_are_free m top rs kind lo hi a zero chain place from to = refl
places_are_free m top rs kind lo hi a (suc n) chain place from to =
    let ram = chain.links.ram in
    let apart : Apart a (suc n) rs = below_innermost m top rs hi a (suc n) chain.links place.below to in
    let within : a + suc n ≤ length m.bytes = omega (arith, place.within) in
    let high : 0x2000 ≤ a = omega (arith, ram.least) in
    let gate : meets_gate a (suc n) ≡ false = grind (arith, nat_tests) in
    let guard : meets_guard m a (suc n) ≡ false = test_from_free m a (suc n) ram.units (omega arith) within (apart-free m top rs a (suc n) chain apart) in
    refusal-none m a (suc n) (omega arith) (record { within = within; gate = gate; guard = guard })

-- a byte of a frame is not stored into
frame-refused : (m : Memory) (top : ℕ) (rs : List Record) (a : ℕ) → Chain m top rs → a < length m.bytes → meets_frames a 1 rs ≡ true → refusal m a 1 ≢ None
frame-refused m top rs a chain within met none =
    let all : Passes m a 1 = passes m a 1 (lit< tt) none in
    let free : meets_frames a 1 rs ≡ false = sym (guard_is_frames m top rs a 1 (lit< tt) (omega arith) chain) ∙ all.guard in
    let e : true ≡ false = sym met ∙ free in cc

byte-meets : (a lo hi : ℕ) → lo ≤ a → a < hi → (nat_lt a hi && nat_lt lo (a + 1)) ≡ true
byte-meets a lo hi from to = grind (arith, nat_tests)

or-first : (a b : Bool) → a ≡ true → (a || b) ≡ true
or-first true b e = refl
or-first false b e = absurd (cc)

or-second : (a b : Bool) → b ≡ true → (a || b) ≡ true
or-second true b e = refl
or-second false b e = e

-- memory with the same bytes in the frames has the same frames
frames-same : (m n : Memory) (rs : List Record) → IsLen (length m.bytes) → length n.bytes ≡ length m.bytes → ((a : ℕ) → a < length m.bytes → meets_frames a 1 rs ≡ true → get_or n.bytes a 0 ≡ get_or m.bytes a 0)
    → Frames (length m.bytes) m.bytes rs → Frames (length m.bytes) n.bytes rs
frames-same m n [] ok same kept frames = tt
frames-same m n (r ∷ rs) ok same kept frames =
    let range : IsRange (length m.bytes) r = range-fits (length m.bytes) r rs ok frames.1 in
    let first : part r.lo (r.hi - r.lo) n.bytes ≡ part r.lo (r.hi - r.lo) m.bytes
    = same_part r.lo (r.hi - r.lo) n.bytes m.bytes same (omega (arith, range.some, range.end)) (λ k from to.
    let end : k < r.hi = omega (arith, range.some, to) in
    kept k (omega (arith, end, range.end)) (or-first (nat_lt k r.hi && nat_lt r.lo (k + 1)) (meets_frames k 1 rs) (byte-meets k r.lo r.hi from end))) in
    (first ∙ frames.0, frames.1, frames-same m n rs ok same (λ a within met. kept a within (or-second (nat_lt a r.hi && nat_lt r.lo (a + 1)) (meets_frames a 1 rs) met)) frames.2)

pub free_keeps_chain : FreeKeepsChain
free_keeps_chain m n top rs chain free =
    let links = chain.links in
    let kept : Frames (length m.bytes) n.bytes rs
    = frames-same m n rs (len-ram m links.ram) free.long (λ a within met. free.kept a within (frame-refused m top rs a chain within met)) links.frames in
    record {
      links = record { ram = free_ram m n links.ram free; first = links.first; few = links.few; frames = subst (λ len. Frames len n.bytes rs) (sym free.long) kept };
      guarded = λ unit. ap (λ marks. get_or marks unit false) free.marks ∙ chain.guarded unit;
    }
