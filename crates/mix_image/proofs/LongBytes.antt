-- Longs of an image by their bytes.
use Rattle.std.proofs.Common.{◌≡◌, ℕ, ◌+◌, ◌*◌, ◌<◌, List, [], ◌∷◌, length, drop, get_or, arith, ap, sym, ◌∙◌}
use Rattle.std.specs.Int.{w32, from_be_bytes}
use Rattle.std.proofs.lemmas.List.{ext_get_or, get_or-drop}
use Rattle.big_memory.specs.Numbers.{long_at, longs_at}
use Rattle.big_memory.proofs.Numbers.{length_of_longs, long_of_longs}

pub number_is : (at : ℕ) (bytes : List ℕ) → from_be_bytes w32 (get_or bytes at 0 ∷ (get_or bytes (at + 1) 0 ∷ (get_or bytes (at + 2) 0 ∷ (get_or bytes (at + 3) 0 ∷ [])))) ≡ long_at at bytes
unfolding long_at
number_is at bytes =
    let first : get_or (drop at bytes) 0 0 ≡ get_or bytes at 0 = get_or-drop at bytes 0 0 ∙ ap (λ n. get_or bytes n 0) (let e : at + 0 ≡ at = omega arith in e) in
    let second : get_or (drop at bytes) 1 0 ≡ get_or bytes (at + 1) 0 = get_or-drop at bytes 1 0 in
    let third : get_or (drop at bytes) 2 0 ≡ get_or bytes (at + 2) 0 = get_or-drop at bytes 2 0 in
    let last : get_or (drop at bytes) 3 0 ≡ get_or bytes (at + 3) 0 = get_or-drop at bytes 3 0 in
    omega (arith, first, second, third, last)

-- all of them
pub longs_read : (at n : ℕ) (bytes xs : List ℕ) → length xs ≡ n → ((k : ℕ) → k < n → get_or xs k 0 ≡ long_at (at + 4 * k) bytes) → xs ≡ longs_at n at bytes
longs_read at n bytes xs long each =
    ext_get_or 0 _ _ (long ∙ sym (length_of_longs n at bytes)) (λ k within. each k (omega (arith, within, long)) ∙ sym (long_of_longs n at bytes k (omega (arith, within, long))))
