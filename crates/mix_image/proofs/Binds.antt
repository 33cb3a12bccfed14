-- Chains of readers, and single longs of an image.
use Rattle.std.proofs.Common.{◌≡◌, ℕ, ◌+◌, ◌*◌, ◌<◌, ◌≤◌, nat_lt, Bool, true, false, cond, List, length, get_or, Result, Ok, Err, arith, ap, sym, ◌∙◌, refl}
use Rattle.std.proofs.lemmas.Bool.Decides.{nat_tests}
use Rattle.mix_bits.specs.Results.{◌>>=◌}
use Rattle.big_memory.specs.Numbers.{long_at, longs_at}
use Rattle.big_memory.proofs.Numbers.{long_of_longs}
use Rattle.mix_image.specs.declared.error.ImageError.{ImageError}
use Rattle.mix_image.specs.declared.error.ImageError.TheVariants.{Short}
use Rattle.mix_image.specs.Fields.{long_from, only_if}

-- a chain that ends well went through each of its parts
pub past : {A B : Type 0} (r : Result A ImageError) (f : A → Result B ImageError) (y : B) → (r >>= f) ≡ Ok y → (x : A) × (r ≡ Ok x) × (f x ≡ Ok y)
past (Ok x) f y is = (x, refl, is)
past (Err e) f y is = absurd (cc)

-- and goes on behind a part that is done
pub then : {A B : Type 0} (r : Result A ImageError) (f : A → Result B ImageError) (x : A) (y : Result B ImageError) → r ≡ Ok x → f x ≡ y → (r >>= f) ≡ y
then r f x y is rest = ap (λ s. s >>= f) is ∙ rest

-- a test that was passed
pub passed : {A : Type 0} (test : Bool) (e : ImageError) (value result : A) → only_if test e value ≡ Ok result → (test ≡ true) × (value ≡ result)
passed true e value result is = (refl, cc)
passed false e value result is = absurd (cc)

pub refused : {A : Type 0} (test : Bool) (e refusal : ImageError) (value : A) → Err e ≡ only_if test refusal value → (test ≡ false) × (e ≡ refusal)
refused true e refusal value is = absurd (cc)
refused false e refusal value is = (refl, cc)

pub passes : {A : Type 0} (test : Bool) (e : ImageError) (value : A) → test ≡ true → only_if test e value ≡ Ok value
passes test e value is = rw is refl

-- the same of bytes that do not end within a field
short-or : {A : Type 0} (test : Bool) (n m : ℕ) (e : ImageError) (rest : Result A ImageError) (result : A) → nat_lt n m ≡ test → cond test (Err e) rest ≡ Ok result → (m ≤ n) × (rest ≡ Ok result)
short-or true n m e rest result is all = absurd (cc)
short-or false n m e rest result is all = (grind (arith, nat_tests), all)

pub enough : {A : Type 0} (n m : ℕ) (e : ImageError) (rest : Result A ImageError) (result : A) → cond (nat_lt n m) (Err e) rest ≡ Ok result → (m ≤ n) × (rest ≡ Ok result)
enough n m e rest result all = short-or (nat_lt n m) n m e rest result refl all

pub not-short : {A : Type 0} (n m : ℕ) (e : ImageError) (rest : Result A ImageError) → m ≤ n → cond (nat_lt n m) (Err e) rest ≡ rest
not-short n m e rest there = let no : nat_lt n m ≡ false = grind (arith, nat_tests) in rw no refl

-- one long
pub long-read : (bytes : List ℕ) (at v : ℕ) → long_from bytes at ≡ Ok v → (at + 4 ≤ length bytes) × (long_at at bytes ≡ v)
long-read bytes at v is =
    let parts = enough (length bytes) (at + 4) (Short (length bytes)) (Ok (long_at at bytes)) v is in (parts.0, cc (parts.1))

pub long-there : (bytes : List ℕ) (at v : ℕ) → at + 4 ≤ length bytes → long_at at bytes ≡ v → long_from bytes at ≡ Ok v
long-there bytes at v there is = not-short (length bytes) (at + 4) (Short (length bytes)) (Ok (long_at at bytes)) there ∙ ap Ok is

-- one of several longs
pub long-among : (n a b k : ℕ) (bytes xs : List ℕ) → longs_at n a bytes ≡ xs → k < n → b ≡ a + 4 * k → long_at b bytes ≡ get_or xs k 0
long-among n a b k bytes xs is less place = ap (λ c. long_at c bytes) place ∙ sym (long_of_longs n a bytes k less) ∙ ap (λ l. get_or l k 0) is
