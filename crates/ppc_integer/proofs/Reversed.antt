-- Bytes in the other order.
use Rattle.std.proofs.Common.{◌≡◌, ℕ, ◌+◌, ◌*◌, ◌<◌, ◌≤◌, ◌∙◌, Bool, true, false, List, [], ◌∷◌, length, drop, take, Result, Ok, Err, refl, sym, ap, subst, arith, get_or-set_same}
use Rattle.std.specs.Prelude.{if◌then◌else◌}
use Rattle.std.proofs.lemmas.List.{get_or-drop, length-drop}
use Rattle.std.proofs.lemmas.Bool.Decides.{nat_tests}
use Rattle.mix_bits.specs.declared.size.Size.{Size}
use Rattle.mix_bits.specs.declared.size.Size.TheVariants.{Two, Four}
use Rattle.mix_bits.specs.Sizes.{bytes_of, truncated}
use Rattle.big_memory.specs.declared.refusals.Access.{Access}
use Rattle.big_memory.specs.declared.refusals.Access.TheVariants.{Outside}
use Rattle.big_memory.specs.Lists.{part}
use Rattle.big_memory.specs.Memory.{Memory, in_memory, loaded}
use Rattle.big_memory.specs.Numbers.{AreBytes, number_at}
use Rattle.big_memory.specs.Steps.{after_store}
use Rattle.big_memory.specs.Steps.After.{Goes}
use Rattle.big_memory.specs.Stores.{stored_value}
use Rattle.big_memory.proofs.Longs.{stored_loads}
use Rattle.ppc_isa.specs.declared.registers.RegsPpc.{RegsPpc}
use Rattle.ppc_isa.specs.declared.instruction.InstrPpc.TheVariants.{Reversed}
use Rattle.ppc_isa.specs.declared.instruction.ReversedAccess.TheVariants.{LoadReversed}
use Rattle.ppc_isa.specs.declared.instruction.ReversedKind.{ReversedKind}
use Rattle.ppc_isa.specs.declared.instruction.ReversedKind.TheVariants.{Word, Half}
use Rattle.ppc_integer.specs.Effects.{runs}
use Rattle.ppc_integer.specs.File.{gpr_of, onto_next, with_gpr}
use Rattle.big_memory.specs.Steps.{after_load}
use Rattle.ppc_integer.specs.Storage.{index_address, reversed, reversed_size}
use Rattle.ppc_integer.specs.laws.StorageLaws.{LoadsLittle, ReversesBack, little_number}

-- a step that goes on, by what it loads
pub loaded-then : {T : Type 0} (found : Result T Access) (pc : ℕ) (next : T → RegsPpc) (m k : Memory) (q : RegsPpc)
    → after_load pc (λ v. Goes (next v) m) found ≡ Goes q k → (v : T) × ((found ≡ Ok v) × (q ≡ next v))
loaded-then (Ok v) pc next m k q is = (v, (refl, cc))
loaded-then (Err e) pc next m k q is = absurd (cc)

-- what is loaded, and that it lies in memory
pub number-of : (inside : Bool) (a v w : ℕ) → (if inside then Ok v else Err (Outside a)) ≡ Ok w → (inside ≡ true) × (v ≡ w)
number-of true a v w is = (refl, cc)
number-of false a v w is = absurd (cc)

pub lies-within : (m : Memory) (a n : ℕ) → 0 < n → in_memory m a n ≡ true → a + n ≤ length m.bytes
lies-within m a n some there = grind (arith, nat_tests, there)

-- the bytes
some-bytes : (kind : ReversedKind) → 0 < bytes_of (reversed_size kind)
some-bytes Half = omega arith
some-bytes Word = omega arith

little-half : (a b : ℕ) → a < 256 → b < 256 → reversed Half (a * 256 + (b * 1 + 0)) ≡ a + 256 * (b + 256 * 0)
little-half a b first second = omega arith

little-word : (a b c d : ℕ) → a < 256 → b < 256 → c < 256 → d < 256
    → reversed Word (a * 16777216 + (b * 65536 + (c * 256 + (d * 1 + 0)))) ≡ a + 256 * (b + 256 * (c + 256 * (d + 256 * 0)))
little-word a b c d first second third fourth = omega arith

half-back : (v : ℕ) → reversed Half (truncated (reversed Half v) Two) ≡ truncated v Two
half-back v = omega arith

word-back : (v : ℕ) → reversed Word (truncated (reversed Word v) Four) ≡ truncated v Four
word-back v = omega arith

half-of : (xs : List ℕ) → 2 ≤ length xs → AreBytes xs → reversed Half (number_at 0 2 xs) ≡ little_number (take 2 xs)
half-of [] within each = absurd (omega (arith, within))
half-of (x ∷ []) within each = absurd (omega (arith, within))
half-of (x ∷ y ∷ xs) within each = little-half x y (each 0) (each 1)

word-of : (xs : List ℕ) → 4 ≤ length xs → AreBytes xs → reversed Word (number_at 0 4 xs) ≡ little_number (take 4 xs)
word-of [] within each = absurd (omega (arith, within))
word-of (w ∷ []) within each = absurd (omega (arith, within))
word-of (w ∷ x ∷ []) within each = absurd (omega (arith, within))
word-of (w ∷ x ∷ y ∷ []) within each = absurd (omega (arith, within))
word-of (w ∷ x ∷ y ∷ z ∷ xs) within each = little-word w x y z (each 0) (each 1) (each 2) (each 3)

bytes-from : (at : ℕ) (xs : List ℕ) → AreBytes xs → AreBytes (drop at xs)
bytes-from at xs each k = rw get_or-drop (each (at + k))

little-of : (kind : ReversedKind) (at : ℕ) (bytes : List ℕ) → AreBytes bytes → at + bytes_of (reversed_size kind) ≤ length bytes
    → reversed kind (number_at at (bytes_of (reversed_size kind)) bytes) ≡ little_number (part at (bytes_of (reversed_size kind)) bytes)
little-of Half at bytes each within = half-of (drop at bytes) (rw length-drop (omega arith)) (bytes-from at bytes each)
little-of Word at bytes each within = word-of (drop at bytes) (rw length-drop (omega arith)) (bytes-from at bytes each)

pub loads_little : LoadsLittle
loads_little r q m k word d a b kind bytes file low is =
    let at : ℕ = index_address r a b in
    let n : ℕ = bytes_of (reversed_size kind) in
    let next : ℕ → RegsPpc = λ v. onto_next (with_gpr r d (reversed kind v)) in
    let step = loaded-then (loaded m at (reversed_size kind)) r.pc next m k q is in
    let number = number-of (in_memory m at n) at (number_at at n m.bytes) step.0 step.1.0 in
    let here : d < length r.gpr = rw (file.count) low in
    ap (λ (t : RegsPpc). gpr_of t d) step.1.1 ∙ get_or-set_same r.gpr d (reversed kind step.0) 0 here
    ∙ ap (reversed kind) (sym number.1) ∙ little-of kind at m.bytes bytes (lies-within m at n (some-bytes kind) number.0)

-- a store, and a load of what it stored
back : (kind : ReversedKind) (v : ℕ) → reversed kind (truncated (reversed kind v) (reversed_size kind)) ≡ truncated v (reversed_size kind)
back Half v = half-back v
back Word v = word-back v

pub stored-then : (left : Result Memory Access) (pc : ℕ) (next q : RegsPpc) (n : Memory) → after_store pc next left ≡ Goes q n → (left ≡ Ok n) × (q ≡ next)
stored-then (Ok m) pc next q n is = (let same : m ≡ n = cc in ap (λ k. Ok k) same, cc)
stored-then (Err e) pc next q n is = absurd (cc)

pub reverses_back : ReversesBack
reverses_back r q m n word other s d a b kind is =
    let v : ℕ = gpr_of r s in
    let at : ℕ = index_address r a b in
    let size : Size = reversed_size kind in
    let done = stored-then (stored_value m at size (reversed kind v)) r.pc (onto_next r) q n is in
    let reads : loaded n at size ≡ Ok (truncated (reversed kind v) size) = stored_loads m n at size (reversed kind v) done.0 in
    let loads : runs (onto_next r) n other (Reversed (LoadReversed kind d a b)) ≡ Goes (onto_next (with_gpr (onto_next r) d (truncated v size))) n =
    ap (λ (found : Result ℕ Access). after_load (onto_next r).pc (λ x. Goes (onto_next (with_gpr (onto_next r) d (reversed kind x))) n) found) reads
    ∙ ap (λ x. Goes (onto_next (with_gpr (onto_next r) d x)) n) (back kind v) in
    subst (λ (t : RegsPpc). runs t n other (Reversed (LoadReversed kind d a b)) ≡ Goes (onto_next (with_gpr t d (truncated v size))) n) (sym done.1) loads
