-- Laws of numbers in bytes.
use Rattle.std.specs.Prelude.{◌≡◌, ℕ, ◌+◌, ◌*◌, ◌%◌, ◌^◌, ◌<◌, ◌≤◌, List, [], ◌∷◌, ◌++◌, length, get_or, Ok}
use Rattle.byteorder.specs.Endian.{big_bytes, big_from}
use Rattle.mix_bits.specs.declared.size.Size.{Size}
use Rattle.mix_bits.specs.declared.size.Size.TheVariants.{Four}
use Rattle.mix_bits.specs.Sizes.{bytes_of}
use Rattle.big_memory.specs.Lists.{part, put}
use Rattle.big_memory.specs.Memory.{Memory, loaded, with_bytes}
use Rattle.big_memory.specs.Numbers.{AreBytes, AreLongs, bytes_of_longs, long_at, longs_at, number_at}

-- a number in a part of some bytes is the number at its place among them
abbrev pub NumberInPart : Type 0
NumberInPart = (a count at n : ℕ) (bytes : List ℕ) → at + n ≤ count → number_at at n (part a count bytes) ≡ number_at (a + at) n bytes

abbrev pub LongInPart : Type 0
LongInPart = (a count at : ℕ) (bytes : List ℕ) → at + 4 ≤ count → long_at at (part a count bytes) ≡ long_at (a + at) bytes

-- a load of a number that lies in memory gives it, and so does one of a long
abbrev pub LoadsNumber : Type 0
LoadsNumber = (m : Memory) (a : ℕ) (s : Size) → a + bytes_of s ≤ length m.bytes → loaded m a s ≡ Ok (number_at a (bytes_of s) m.bytes)

abbrev pub LoadsLong : Type 0
LoadsLong = (m : Memory) (a : ℕ) → a + 4 ≤ length m.bytes → loaded m a Four ≡ Ok (long_at a m.bytes)

-- bytes that are the same from a place on give the same number there
abbrev pub SameNumber : Type 0
SameNumber = (n i : ℕ) (xs ys : List ℕ) → ((j : ℕ) → j < i + n → get_or xs j 0 ≡ get_or ys j 0) → big_from i n xs ≡ big_from i n ys

-- a long is read where it was put
abbrev pub LongReadsBack : Type 0
LongReadsBack = (a v : ℕ) (bytes : List ℕ) → a + 4 ≤ length bytes → long_at a (put a (big_bytes 4 v) bytes) ≡ v % 2 ^ 32

-- one of the longs from an address on, and how many there are
abbrev pub LongOfLongs : Type 0
LongOfLongs = (n a : ℕ) (bytes : List ℕ) (k : ℕ) → k < n → get_or (longs_at n a bytes) k 0 ≡ long_at (a + 4 * k) bytes

abbrev pub LengthOfLongs : Type 0
LengthOfLongs = (n a : ℕ) (bytes : List ℕ) → length (longs_at n a bytes) ≡ n

-- so many longs, and as many more behind them; and four of them one by one
abbrev pub LongsSplit : Type 0
LongsSplit = (m n a b : ℕ) (bytes : List ℕ) → b ≡ a + 4 * m → longs_at (m + n) a bytes ≡ longs_at m a bytes ++ longs_at n b bytes

abbrev pub FourLongs : Type 0
FourLongs = (a b c d : ℕ) (bytes : List ℕ) → b ≡ a + 4 → c ≡ a + 8 → d ≡ a + 12 → longs_at 4 a bytes ≡ long_at a bytes ∷ long_at b bytes ∷ long_at c bytes ∷ long_at d bytes ∷ []

-- a long is four bytes, and longs behind others have their bytes behind the others'
abbrev pub LengthOfBytes : Type 0
LengthOfBytes = (xs : List ℕ) → length (bytes_of_longs xs) ≡ 4 * length xs

abbrev pub BytesJoin : Type 0
BytesJoin = (xs ys : List ℕ) → bytes_of_longs (xs ++ ys) ≡ bytes_of_longs xs ++ bytes_of_longs ys

-- a long of a part that holds the bytes of longs, and several of them, behind others
abbrev pub LongOfPart : Type 0
LongOfPart =
    (a n : ℕ) (xs bytes : List ℕ) (k : ℕ) → part a n bytes ≡ bytes_of_longs xs → k < length xs → get_or xs k 0 < 2 ^ 32 → long_at (a + 4 * k) bytes ≡ get_or xs k 0

abbrev pub LongsOfPart : Type 0
LongsOfPart =
    (a n b count : ℕ) (xs ys zs bytes : List ℕ) → part a n bytes ≡ bytes_of_longs (xs ++ (ys ++ zs)) → b ≡ a + 4 * length xs → AreLongs count ys → longs_at count b bytes ≡ ys

-- longs that are written behind others are written with them
abbrev pub WritesJoin : Type 0
WritesJoin =
    (at to : ℕ) (xs ys : List ℕ) (m : Memory) → to ≡ at + 4 * length xs → to + 4 * length ys ≤ length m.bytes
    → with_bytes to (bytes_of_longs ys) (with_bytes at (bytes_of_longs xs) m) ≡ with_bytes at (bytes_of_longs (xs ++ ys)) m

-- numbers in bytes fit in as many bytes
abbrev pub LongFits : Type 0
LongFits = (a : ℕ) (bytes : List ℕ) → AreBytes bytes → long_at a bytes < 2 ^ 32

abbrev pub LongsFit : Type 0
LongsFit = (n a : ℕ) (bytes : List ℕ) → AreBytes bytes → AreLongs n (longs_at n a bytes)

-- bytes are those of the longs that are read from them
abbrev pub LongsAgain : Type 0
LongsAgain = (n a : ℕ) (bytes : List ℕ) → AreBytes bytes → a + 4 * n ≤ length bytes → bytes_of_longs (longs_at n a bytes) ≡ part a (4 * n) bytes
