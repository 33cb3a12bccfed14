-- Numbers of pattern data.
use Rattle.std.proofs.Common.{◌≡◌, ℕ, ◌+◌, ◌*◌, ◌%◌, ◌^◌, ◌≤◌, List, [], ◌∷◌, None, refl, arith}
use Rattle.std.proofs.lemmas.Bool.Decides.{nat_tests}
use Rattle.pef_reloc.specs.Pattern.{number_after}

-- groups that make too large a number make none, whatever follows
pub number_after_large : (value : ℕ) (bytes : List ℕ) → 2 ^ 32 ≤ value → number_after value bytes ≡ None
number_after_large value [] large = refl
number_after_large value (group ∷ rest) large =
    let more : 2 ^ 32 ≤ value * 128 + group % 128 = omega arith in
    let later : number_after (value * 128 + group % 128) rest ≡ None = number_after_large (value * 128 + group % 128) rest more in
    grind (arith, nat_tests, later)
