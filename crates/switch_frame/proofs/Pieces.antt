-- Laws of longs in bytes.
use Rattle.std.proofs.Common.{◌≡◌, ℕ, ◌+◌, ◌*◌, ◌^◌, ◌<◌, ◌≤◌, List, ◌++◌, length, get_or, arith, ap, sym, ◌∙◌}
use Rattle.std.proofs.lemmas.List.{length-replicate, get_or-append-add, length-append, append_assoc}
use Rattle.big_memory.specs.Lists.{part}
use Rattle.big_memory.specs.Memory.{Memory, with_bytes}
use Rattle.big_memory.specs.Numbers.{long_at, longs_at, bytes_of_longs}
use Rattle.big_memory.proofs.Numbers.{long_of_longs, long_of_part, writes_join}
use Rattle.big_memory.specs.Lists.{zeros}

-- one of the longs that were read from an address on
pub long-read : (n a b k : ℕ) (bytes xs : List ℕ) → xs ≡ longs_at n a bytes → k < n → b ≡ a + 4 * k → get_or xs k 0 ≡ long_at b bytes
long-read n a b k bytes xs read within place = ap (λ ys. get_or ys k 0) read ∙ long_of_longs n a bytes k within ∙ ap (λ c. long_at c bytes) (sym place)

-- one of several longs behind others in a piece
pub long-behind : (a n b k : ℕ) (xs ys bytes : List ℕ) → part a n bytes ≡ bytes_of_longs (xs ++ ys) → b ≡ a + 4 * (length xs + k) → k < length ys → get_or ys k 0 < 2 ^ 32 → long_at b bytes ≡ get_or ys k 0
long-behind a n b k xs ys bytes piece place within fits =
    let here : get_or (xs ++ ys) (length xs + k) 0 ≡ get_or ys k 0 = get_or-append-add xs ys k 0 in
    ap (λ c. long_at c bytes) place ∙ long_of_part a n (xs ++ ys) bytes (length xs + k) piece (omega (arith, length-append xs ys)) (rw here fits) ∙ here

-- a piece of longs, parted at another place
pub parted : (a n : ℕ) (xs ys zs bytes : List ℕ) → part a n bytes ≡ bytes_of_longs (xs ++ (ys ++ zs)) → part a n bytes ≡ bytes_of_longs ((xs ++ ys) ++ zs)
parted a n xs ys zs bytes piece = piece ∙ ap bytes_of_longs (sym (append_assoc xs ys zs))

pub length-zeros : (n : ℕ) → length (zeros n) ≡ n
length-zeros n = length-replicate n 0

-- two writes of longs, one behind the other
pub two-writes : (at to : ℕ) (xs ys : List ℕ) (m first second : Memory) → first ≡ with_bytes at (bytes_of_longs xs) m → second ≡ with_bytes to (bytes_of_longs ys) first → to ≡ at + 4 * length xs → to + 4 * length ys ≤ length m.bytes
    → second ≡ with_bytes at (bytes_of_longs (xs ++ ys)) m
two-writes at to xs ys m first second e f place within =
    f ∙ ap (λ k. with_bytes to (bytes_of_longs ys) k) e ∙ writes_join at to xs ys m place within

pub three-writes : (at to on : ℕ) (xs ys zs : List ℕ) (m first second third : Memory) → first ≡ with_bytes at (bytes_of_longs xs) m → second ≡ with_bytes to (bytes_of_longs ys) first → third ≡ with_bytes on (bytes_of_longs zs) second
    → to ≡ at + 4 * length xs → on ≡ to + 4 * length ys → on + 4 * length zs ≤ length m.bytes → third ≡ with_bytes at (bytes_of_longs (xs ++ (ys ++ zs))) m
three-writes at to on xs ys zs m first second third e f g place next within =
    let both : second ≡ with_bytes at (bytes_of_longs (xs ++ ys)) m = two-writes at to xs ys m first second e f place (omega arith) in
    two-writes at on (xs ++ ys) zs m second third both g (omega (arith, length-append xs ys)) within ∙ ap (λ ws. with_bytes at (bytes_of_longs ws) m) (append_assoc xs ys zs)
