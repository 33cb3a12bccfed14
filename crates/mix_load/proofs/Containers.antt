-- The sections of a container in memory, before and after their relocations.
use Rattle.std.proofs.Common.{◌≡◌, subst, sym, ap, ◌∙◌, ℕ, ◌+◌, ◌<◌, ◌≤◌, List, length, take, arith}
use Rattle.big_memory.specs.Lists.{part}
use Rattle.pef_reloc.specs.laws.Laws.{KeepsSize}
use Rattle.big_memory.specs.Memory.{Memory}
use Rattle.switch_frame.specs.Pieces.{puts}
use Rattle.mix_load.specs.Pieces.{with_pieces}
use Rattle.mix_load.specs.inner.Sections.{Stand, section_pieces, relocated_bytes, relocated_pieces, contents_at}
use Rattle.mix_load.specs.Sections.{section_base, sections_end}
use Rattle.mix_load.specs.laws.Sections.{total_at}
use Rattle.mix_load.proofs.Ends.{section_above, section_within, sections_apart}
use Rattle.mix_load.proofs.Placing.{piece-back, pieces-behind, pieces-front, pieces-over}
use Rattle.mix_load.proofs.Relocated.{relocated-length}

-- the contents of the first sections have their sizes
abbrev pub HaveSizes : List ℕ → ℕ → Type 0
HaveSizes bytes n = (k : ℕ) → k < n → length (contents_at bytes k) ≡ total_at bytes k

within : (bytes : List ℕ) (start n len : ℕ) → sections_end bytes start n ≤ len → HaveSizes bytes n → (k : ℕ) → k < n → section_base bytes start k + length (contents_at bytes k) ≤ len
within bytes start n len fits sizes k lt = omega (arith, section_within bytes start k n lt, sizes k lt, fits)

reloc-within : KeepsSize → (bytes : List ℕ) (start n len : ℕ) → sections_end bytes start n ≤ len → HaveSizes bytes n → (k : ℕ) → k < n → section_base bytes start k + length (relocated_bytes bytes start k) ≤ len
reloc-within law bytes start n len fits sizes k lt = omega (arith, relocated-length law bytes start k, within bytes start n len fits sizes k lt)

apart : (bytes : List ℕ) (start n : ℕ) → HaveSizes bytes n → (j k : ℕ) → j < k → k < n → section_base bytes start j + length (contents_at bytes j) ≤ section_base bytes start k
apart bytes start n sizes j k before lt = omega (arith, sections_apart bytes start j k before, sizes j (omega arith))

-- each section stands as it was put
pub stand : (bytes : List ℕ) (start n : ℕ) (xs : List ℕ) → sections_end bytes start n ≤ length xs → HaveSizes bytes n → Stand bytes start (contents_at bytes) n (puts (section_pieces bytes start n) xs)
stand bytes start n xs fits sizes k lt =
    piece-back (section_base bytes start) (contents_at bytes) n k (total_at bytes k) xs (within bytes start n (length xs) fits sizes)
    (λ j before below. apart bytes start n sizes k j before below) lt (sizes k lt)

-- the ones that were relocated leave the next one
pub next-stands : KeepsSize → (bytes : List ℕ) (start n k : ℕ) (xs : List ℕ) → sections_end bytes start n ≤ length xs → HaveSizes bytes n → k < n
    → part (section_base bytes start k) (total_at bytes k) (puts (relocated_pieces bytes start k) xs) ≡ part (section_base bytes start k) (total_at bytes k) xs
next-stands law bytes start n k xs fits sizes lt =
    pieces-behind (section_base bytes start) (relocated_bytes bytes start) k (section_base bytes start k) (total_at bytes k) xs
    (λ j before. reloc-within law bytes start n (length xs) fits sizes j (omega arith))
    (λ j before. omega (arith, relocated-length law bytes start j, apart bytes start n sizes j k before lt))

-- relocated sections take the place of those that were unpacked
pub over : KeepsSize → (bytes : List ℕ) (start n : ℕ) (xs : List ℕ) → sections_end bytes start n ≤ length xs → HaveSizes bytes n
    → puts (relocated_pieces bytes start n) (puts (section_pieces bytes start n) xs) ≡ puts (relocated_pieces bytes start n) xs
over law bytes start n xs fits sizes =
    pieces-over (section_base bytes start) (contents_at bytes) (relocated_bytes bytes start) n xs
    (λ k lt. relocated-length law bytes start k) (within bytes start n (length xs) fits sizes) (λ j k before lt. apart bytes start n sizes j k before lt)

-- and leave what stands in front of them
pub relocated-front : KeepsSize → (bytes : List ℕ) (start n front : ℕ) (xs : List ℕ) → sections_end bytes start n ≤ length xs → HaveSizes bytes n → front ≤ start
    → take front (puts (relocated_pieces bytes start n) xs) ≡ take front xs
relocated-front law bytes start n front xs fits sizes le =
    pieces-front (section_base bytes start) (relocated_bytes bytes start) n front xs
    (λ k lt. reloc-within law bytes start n (length xs) fits sizes k lt) (λ k. omega (arith, section_above bytes start k, le))

-- each section stands in memory as it was put
pub stand-in : (bytes : List ℕ) (start from n : ℕ) (held old : Memory) → from ≡ start → held ≡ with_pieces (section_pieces bytes start n) old → sections_end bytes start n ≤ length old.bytes → HaveSizes bytes n
    → Stand bytes from (contents_at bytes) n held.bytes
stand-in bytes start from n held old from_is held_is fits sizes =
    subst (λ (s : ℕ). Stand bytes s (contents_at bytes) n held.bytes) (sym from_is)
    (subst (λ (m : Memory). Stand bytes start (contents_at bytes) n m.bytes) (sym held_is) (stand bytes start n old.bytes fits sizes))

-- memory after the relocations is memory with the relocated sections
pub over-in : KeepsSize → (bytes : List ℕ) (start from n : ℕ) (new held old : Memory) → from ≡ start → new ≡ with_pieces (relocated_pieces bytes from n) held → held ≡ with_pieces (section_pieces bytes start n) old
    → sections_end bytes start n ≤ length old.bytes → HaveSizes bytes n → new ≡ with_pieces (relocated_pieces bytes start n) old
over-in law bytes start from n new held old from_is new_is held_is fits sizes =
    new_is ∙ (ap (λ (s : ℕ). with_pieces (relocated_pieces bytes s n) held) from_is
    ∙ (ap (with_pieces (relocated_pieces bytes start n)) held_is
    ∙ ap (λ (xs : List ℕ). record old { bytes = xs }) (over law bytes start n old.bytes fits sizes)))
