-- Laws of the first record, and of where a new frame may lie.
use Rattle.std.proofs.Common.{◌≡◌, ℕ, ◌+◌, ◌-◌, ◌<◌, ◌≤◌, ◌==◌, nat_lt, Bool, true, false, ◌||◌, if◌then◌else◌, List, [], ◌∷◌, length, Result, Ok, Err, arith, subst, refl}
use Rattle.std.proofs.lemmas.Bool.Decides.{nat_tests}
use Rattle.big_memory.specs.Memory.{floor_of}
use Rattle.switch_frame.specs.declared.full.Full.{Full}
use Rattle.switch_frame.specs.declared.full.Full.TheVariants.{Frames, Outside, Crossed, Stack}
use Rattle.switch_frame.specs.Records.{Record}
use Rattle.switch_frame.specs.Chain.{Fits, IsInside, most_frames, outer_of}
use Rattle.switch_frame.specs.CallsClauses.{IsCalled, IsPlace}
use Rattle.switch_frame.specs.Calls.{hi_of, is_crossed, lo_of}
use Rattle.switch_frame.specs.laws.FrameLaws.{FirstIsHeld, PlaceByLength, RoomByLength, RoomIsPlace, TopIsZero}
use Rattle.switch_frame.proofs.Linked.{IsRange, len-ram, range-fits}

pub top_is_zero : TopIsZero
top_is_zero m top [] links = (λ e. refl, λ e. links.first)
top_is_zero m top (r ∷ rs) links =
    let range : IsRange (length m.bytes) r = range-fits (length m.bytes) r rs (len-ram m links.ram) links.frames.1 in
    (λ e. absurd (omega (arith, e, links.first, range.start)), λ e. absurd (cc))

pub called-inside : (r : Record) (rs : List Record) → IsInside r rs → IsCalled r.caller rs
called-inside r [] inside = tt
called-inside r (s ∷ rs) inside = inside.1

pub first_is_held : FirstIsHeld
first_is_held m top r rs links =
    let fits : Fits (length m.bytes) r rs = links.frames.1 in record { kind = fits.alone.kind; signature = fits.alone.signature; called = called-inside r rs fits.inside }

pub place_by_length : PlaceByLength
place_by_length m n rs kind lo hi same place =
    record { few = place.few; aligned = place.aligned; size = place.size; stack = omega (arith, same, place.stack); within = omega (arith, same, place.within); below = place.below }

pub room_by_length : RoomByLength
room_by_length m n rs sp kind below same = rw same refl

-- a test that was passed
past : (test : Bool) (e : Full) (rest : Result (ℕ × ℕ) Full) (range : ℕ × ℕ) → (if test then Err e else rest) ≡ Ok range → (test ≡ false) × (rest ≡ Ok range)
past true e rest range is = absurd (cc)
past false e rest range is = (refl, is)

uncrossed : (rs : List Record) (sp hi : ℕ) → hi ≤ sp → is_crossed rs sp ≡ false → is_crossed rs hi ≡ false
uncrossed [] sp hi less none = refl
uncrossed (r ∷ rs) sp hi less none = grind (arith, nat_tests)

pub room_is_place : RoomIsPlace
room_is_place m rs sp kind below range ram most is =
    let few = past (length rs == most_frames) Frames _ range is in
    let inside = past (nat_lt sp (floor_of m) || nat_lt (length m.bytes) sp) (Outside sp) _ range few.1 in
    let free = past (is_crossed rs sp) (Crossed (outer_of rs)) _ range inside.1 in
    let last = past (nat_lt (lo_of kind sp - below) (floor_of m)) (Stack (lo_of kind sp - below)) _ range free.1 in
    let same : (lo_of kind sp, hi_of sp) ≡ range = cc (last.1) in
    let count : length rs < most_frames = grind (arith, nat_tests, few.0) in
    let end : sp ≤ length m.bytes = grind (arith, nat_tests, inside.0) in
    let stack : floor_of m ≤ lo_of kind sp - below = grind (arith, nat_tests, last.0) in
    let place : IsPlace m rs kind (lo_of kind sp) (hi_of sp) = record {
      few = count;
      aligned = omega arith;
      size = omega (arith, ram.least);
      stack = omega arith;
      within = omega arith;
      below = uncrossed rs sp (hi_of sp) (omega arith) free.0;
    } in
    let both : IsPlace m rs kind (lo_of kind sp) (hi_of sp) × (floor_of m + below ≤ lo_of kind sp) = (place, omega (arith, ram.least)) in
    subst (λ (r : ℕ × ℕ). IsPlace m rs kind r.0 r.1 × (floor_of m + below ≤ r.0)) same both
