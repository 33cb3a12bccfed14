-- Laws of digits, of tests, of sizes and of names.
use Rattle.std.specs.Prelude.{◌≡◌, ◌⊎◌, ℕ, ◌+◌, ◌^◌, ◌<◌, ◌≤◌, List, ◌++◌, drop, Bool, true, false, if◌then◌else◌}
use Rattle.mix_bits.specs.declared.size.Size.{Size}
use Rattle.mix_bits.specs.Digits.{digit_of, digit_replaced}
use Rattle.mix_bits.specs.laws.Names.{ends_name, no_space, rest_of}
use Rattle.mix_bits.specs.Names.{name_of}
use Rattle.mix_bits.specs.laws.Ranges.{every}
use Rattle.mix_bits.specs.Sizes.{bytes_of}

-- a digit that was replaced reads back
abbrev pub ReadsReplaced : Type 0
ReadsReplaced = (v at width d : ℕ) → d < 2 ^ width → digit_of (digit_replaced v at width d) at width ≡ d

-- a digit that lies below or above the replaced one stays
abbrev pub OthersStay : Type 0
OthersStay =
    (v at width d place size : ℕ) → d < 2 ^ width → (place + size ≤ at) ⊎ (at + width ≤ place)
    → digit_of (digit_replaced v at width d) place size ≡ digit_of v place size

-- a test that holds of all numbers below 2 ^ k holds of each
abbrev pub HoldsOfEach : Type 0
HoldsOfEach = (k : ℕ) (p : ℕ → Bool) (n : ℕ) → every k 0 p ≡ true → n < 2 ^ k → p n ≡ true

-- of two tests that are made one after the other, both hold where the whole does
abbrev pub BothHold : Type 0
BothHold = (b c : Bool) → (if b then c else false) ≡ true → (b ≡ true) × (c ≡ true)

-- no size has more than four bytes
abbrev pub FewBytes : Type 0
FewBytes = (s : Size) → bytes_of s ≤ 4

-- a name without a space, and what follows on it, are read back from their line
abbrev pub NamesReadBack : Type 0
NamesReadBack = (name rest : List ℕ) → no_space name ≡ true → ends_name rest ≡ true → (name_of (name ++ rest) ≡ name) × (rest_of (name ++ rest) ≡ drop 1 rest)
