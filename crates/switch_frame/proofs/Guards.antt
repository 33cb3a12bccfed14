-- Laws of the guard of a chain, and of stores beside its frames.
use Rattle.std.proofs.Common.{◌≡◌, ◌⊎◌, inl, inr, ℕ, zero, suc, ◌+◌, ◌*◌, ◌/◌, ◌%◌, ◌<◌, ◌≤◌, nat_lt, Bool, true, false, ◌&&◌, ◌||◌, List, [], ◌∷◌, length, arith, ap, sym, subst, ◌∙◌, refl}
use Rattle.std.proofs.lemmas.Bool.{cases_Bool, cases_lt}
use Rattle.std.proofs.lemmas.Bool.Decides.{nat_tests}
use Rattle.big_memory.specs.Lists.{put}
use Rattle.big_memory.specs.Memory.{Memory, meets_guard, with_bytes}
use Rattle.big_memory.specs.laws.Memory.{IsFree}
use Rattle.big_memory.proofs.Lists.{length-put, put-nil}
use Rattle.big_memory.specs.laws.Laws.{Passes}
use Rattle.big_memory.proofs.Guarded.{passes, free_from_test, test_from_free}
use Rattle.mix_bits.specs.declared.isa.Isa.{Isa}
use Rattle.mix_bits.specs.declared.isa.Isa.TheVariants.{M68, Ppc}
use Rattle.switch_frame.specs.Sets.{frame_size}
use Rattle.switch_frame.specs.Records.{Record, isa_of}
use Rattle.switch_frame.specs.laws.Chain.{Apart}
use Rattle.switch_frame.specs.Chain.{Fits, Frames, Chain, covered, cleared}
use Rattle.switch_frame.specs.ChainClauses.{in_range}
use Rattle.switch_frame.specs.laws.Laws.{IsStored, StoresBeside, GuardIsFrames, meets_frames}
use Rattle.big_memory.proofs.Rams.{bytes_keep_ram}
use Rattle.switch_frame.proofs.Linked.{IsLen, IsRange, frames-kept, len-ram, range-fits}
use Rattle.switch_frame.proofs.Beside.{cleared-put}

cases_le : (a b : ℕ) → (a ≤ b) ⊎ (b < a)
cases_le a b = elim (cases_lt b a) [ inl less ↦ inr less | inr more ↦ inl more ]

-- both ends of a frame are multiples of 16
pub record IsUnits (r : Record) : Type 0 where
  pub lo : r.lo % 16 ≡ 0
  pub hi : r.hi % 16 ≡ 0
  pub order : r.lo < r.hi

units-end : (lo hi : ℕ) (isa : Isa) → hi ≡ lo + frame_size isa → lo % 16 ≡ 0 → hi % 16 ≡ 0
units-end lo hi M68 size aligned = omega arith
units-end lo hi Ppc size aligned = omega arith

pub units-fits : (len : ℕ) (r : Record) (rs : List Record) → IsLen len → Fits len r rs → IsUnits r
units-fits len r rs ok fits =
    let range : IsRange len r = range-fits len r rs ok fits in
    record { lo = fits.alone.aligned; hi = units-end r.lo r.hi (isa_of r.caller) fits.alone.size fits.alone.aligned; order = omega (arith, range.some) }

-- no unit of n bytes at a lies in the range of a record
abbrev pub IsBeside : ℕ → ℕ → List Record → Type 0
IsBeside a n rs = (unit : ℕ) → a < 16 * unit + 16 → 16 * unit < a + n → covered unit rs ≡ false

or-false : (a b : Bool) → (a || b) ≡ false → (a ≡ false) × (b ≡ false)
or-false true b e = absurd (cc)
or-false false b e = (refl, e)

range-holds : (lo hi unit : ℕ) → lo ≤ 16 * unit → 16 * unit < hi → in_range lo hi unit ≡ true
range-holds lo hi unit low high = grind (arith, nat_tests)

-- a range that no unit of the bytes lies in is apart from them
range-beside : (a n : ℕ) (r : Record) → 0 < n → IsUnits r → ((unit : ℕ) → a < 16 * unit + 16 → 16 * unit < a + n → in_range r.lo r.hi unit ≡ false) → (r.hi ≤ a) ⊎ (a + n ≤ r.lo)
range-beside a n r some units free =
    elim (cases_le r.hi a) [
      | inl below ↦ inl below
      | inr over ↦ elim (cases_le (a + n) r.lo) [
        | inl above ↦ inr above
        | inr under ↦ absurd (elim (cases_le r.lo a) [
          | inl after ↦
              let none : in_range r.lo r.hi (a / 16) ≡ false = free (a / 16) (omega arith) (omega arith) in
              let met : in_range r.lo r.hi (a / 16) ≡ true = range-holds r.lo r.hi (a / 16) (omega (arith, units.lo)) (omega arith) in
              let e : true ≡ false = sym met ∙ none in cc
          | inr before ↦
              let none : in_range r.lo r.hi (r.lo / 16) ≡ false = free (r.lo / 16) (omega (arith, units.lo)) (omega arith) in
              let met : in_range r.lo r.hi (r.lo / 16) ≡ true = range-holds r.lo r.hi (r.lo / 16) (omega (arith, units.lo)) (omega (arith, units.order)) in
              let e : true ≡ false = sym met ∙ none in cc
        ])
      ]
    ]

apart-beside : (len a n : ℕ) (bytes : List ℕ) (rs : List Record) → 0 < n → IsLen len → Frames len bytes rs → IsBeside a n rs → Apart a n rs
apart-beside len a n bytes [] some ok frames free = tt
apart-beside len a n bytes (r ∷ rs) some ok frames free = (
  range-beside a n r some (units-fits len r rs ok frames.1) (λ unit low high. (or-false (in_range r.lo r.hi unit) (covered unit rs) (free unit low high)).0),
  apart-beside len a n bytes rs some ok frames.2 (λ unit low high. (or-false (in_range r.lo r.hi unit) (covered unit rs) (free unit low high)).1),
)

beside-apart : (len a n : ℕ) (bytes : List ℕ) (rs : List Record) → IsLen len → Frames len bytes rs → Apart a n rs → IsBeside a n rs
beside-apart len a n bytes [] ok frames apart unit low high = refl
beside-apart len a n bytes (r ∷ rs) ok frames apart unit low high =
    let units : IsUnits r = units-fits len r rs ok frames.1 in
    let rest : covered unit rs ≡ false = beside-apart len a n bytes rs ok frames.2 apart.1 unit low high in
    let first : in_range r.lo r.hi unit ≡ false = elim apart.0 [ inl below ↦ grind (arith, nat_tests, units.hi) | inr above ↦ grind (arith, nat_tests) ] in
    rw (first, rest) refl

pub apart-meets : (a n : ℕ) (rs : List Record) → Apart a n rs → meets_frames a n rs ≡ false
apart-meets a n [] apart = refl
apart-meets a n (r ∷ rs) apart =
    let rest : meets_frames a n rs ≡ false = apart-meets a n rs apart.1 in
    let first : (nat_lt a r.hi && nat_lt r.lo (a + n)) ≡ false = elim apart.0 [ inl below ↦ grind (arith, nat_tests) | inr above ↦ grind (arith, nat_tests) ] in
    rw (first, rest) refl

meets-range : (a n lo hi : ℕ) → (nat_lt a hi && nat_lt lo (a + n)) ≡ false → (hi ≤ a) ⊎ (a + n ≤ lo)
meets-range a n lo hi e =
    elim (cases_le hi a) [
      | inl below ↦ inl below
      | inr over ↦ elim (cases_le (a + n) lo) [
        | inl above ↦ inr above
        | inr under ↦
            let met : (nat_lt a hi && nat_lt lo (a + n)) ≡ true = grind (arith, nat_tests) in
            absurd (let e : true ≡ false = sym met ∙ e in cc)
      ]
    ]

pub meets-apart : (a n : ℕ) (rs : List Record) → meets_frames a n rs ≡ false → Apart a n rs
meets-apart a n [] none = tt
meets-apart a n (r ∷ rs) none =
    let both : ((nat_lt a r.hi && nat_lt r.lo (a + n)) ≡ false) × (meets_frames a n rs ≡ false) = or-false (nat_lt a r.hi && nat_lt r.lo (a + n)) (meets_frames a n rs) none in
    (meets-range a n r.lo r.hi both.0, meets-apart a n rs both.1)

-- what the guard tells of bytes in memory
free-apart : (m : Memory) (top : ℕ) (rs : List Record) (a n : ℕ) → 0 < n → Chain m top rs → IsFree m a n → Apart a n rs
free-apart m top rs a n some chain free =
    apart-beside (length m.bytes) a n m.bytes rs some (len-ram m chain.links.ram) chain.links.frames (λ unit low high. sym (chain.guarded unit) ∙ free unit low high)

pub apart-free : (m : Memory) (top : ℕ) (rs : List Record) (a n : ℕ) → Chain m top rs → Apart a n rs → IsFree m a n
apart-free m top rs a n chain apart unit low high =
    chain.guarded unit ∙ beside-apart (length m.bytes) a n m.bytes rs (len-ram m chain.links.ram) chain.links.frames apart unit low high

pub guard_is_frames : GuardIsFrames
guard_is_frames m top rs a n some within chain =
    elim (cases_Bool (meets_guard m a n)) [
      | inl met ↦ elim (cases_Bool (meets_frames a n rs)) [
        | inl both ↦ met ∙ sym both
        | inr none ↦
            let free : meets_guard m a n ≡ false = test_from_free m a n chain.links.ram.units some within (apart-free m top rs a n chain (meets-apart a n rs none)) in
            absurd (let e : true ≡ false = sym met ∙ free in cc)
      ]
      | inr none ↦ none ∙ sym (apart-meets a n rs (free-apart m top rs a n some chain (free_from_test m a n chain.links.ram.units some within none)))
    ]

-- a write apart from the frames keeps the chain
pub stored-apart : (m : Memory) (top : ℕ) (rs : List Record) (a : ℕ) (ys : List ℕ) → a + length ys ≤ length m.bytes → Apart a (length ys) rs → Chain m top rs → IsStored m top rs a ys
stored-apart m top rs a ys within apart chain =
    let links = chain.links in
    let ok : IsLen (length m.bytes) = len-ram m links.ram in
    let same : length (put a ys m.bytes) ≡ length m.bytes = length-put a ys m.bytes within in
    let kept : Frames (length m.bytes) (put a ys m.bytes) rs = frames-kept (length m.bytes) a ys m.bytes rs ok within apart links.frames in
    record {
      chain = record {
        links = record { ram = bytes_keep_ram m a ys within links.ram; first = links.first; few = links.few; frames = subst (λ len. Frames len (put a ys m.bytes) rs) (sym same) kept };
        guarded = chain.guarded;
      };
      memory = cleared-put (length m.bytes) a ys m.bytes rs refl within apart links.frames ok;
    }

-- a write of nothing
stored-nothing : (m : Memory) (top : ℕ) (rs : List Record) (a : ℕ) → Chain m top rs → IsStored m top rs a []
stored-nothing m top rs a chain =
    let same : put a [] m.bytes ≡ m.bytes = put-nil a m.bytes in
    let memory : with_bytes a [] m ≡ m = ap (λ bytes. record m { bytes = bytes }) same in
    record { chain = subst (λ k. Chain k top rs) (sym memory) chain; memory = ap (λ bytes. cleared bytes rs) same ∙ sym (put-nil a (cleared m.bytes rs)) }

no-length : (ys : List ℕ) → length ys ≡ 0 → ys ≡ []
no-length [] e = refl
no-length (y ∷ ys) e = absurd (omega arith)

pub stores_beside : StoresBeside
stores_beside m top rs a zero ys count passed chain = subst (λ zs. IsStored m top rs a zs) (sym (no-length ys count)) (stored-nothing m top rs a chain)
stores_beside m top rs a (suc n) ys count passed chain =
    let all : Passes m a (suc n) = passes m a (suc n) (omega arith) passed in
    let free : IsFree m a (suc n) = free_from_test m a (suc n) chain.links.ram.units (omega arith) all.within all.guard in
    let apart : Apart a (suc n) rs = free-apart m top rs a (suc n) (omega arith) chain free in
    stored-apart m top rs a ys (omega (arith, all.within)) (subst (λ k. Apart a k rs) (sym count) apart) chain
