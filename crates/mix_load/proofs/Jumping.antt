-- The jump table in the memory in which a program starts.
use Rattle.std.proofs.Common.{◌≡◌, ℕ, zero, suc, ◌+◌, ◌-◌, ◌*◌, ◌%◌, ◌^◌, ◌<◌, ◌≤◌, ◌∙◌, List, length, drop, take, get_or, inl, inr, refl, sym, ap, arith}
use Rattle.std.proofs.lemmas.List.{get_or-drop, get_or-take, get_or_append_left, length-append, length-drop, length-take}
use Rattle.std.proofs.lemmas.Bool.{cases_lt}
use Rattle.byteorder.specs.Endian.{big_bytes}
use Rattle.mix_bits.specs.declared.isa.Isa.{Isa}
use Rattle.mix_bits.specs.declared.isa.Isa.TheVariants.{M68, Ppc}
use Rattle.big_memory.specs.Lists.{put}
use Rattle.big_memory.specs.Map.{exit_gate, host_code_at, host_functions, host_vector_at}
use Rattle.big_memory.specs.Numbers.{long_at}
use Rattle.big_memory.proofs.Lists.{get_or-put_outside, length-put}
use Rattle.big_memory.proofs.Numbers.{long_reads_back}
use Rattle.switch_frame.specs.Pieces.{puts}
use Rattle.switch_frame.specs.Program.{gate_longs, told, vectors}
use Rattle.mix_load.specs.Pieces.{numbered_pieces}
use Rattle.mix_load.specs.Segments.{jump_target, segment_in, table_pieces}
use Rattle.mix_load.specs.Start.{stack_pieces}
use Rattle.mix_load.proofs.Images.{table-length}

-- two memories that are alike from one address up to another
abbrev pub Alike : ℕ → ℕ → List ℕ → List ℕ → Type 0
Alike low high xs ys = (k : ℕ) → low ≤ k → k < high → get_or xs k 0 ≡ get_or ys k 0

pub alike-then : (low high : ℕ) (xs ys zs : List ℕ) → Alike low high xs ys → Alike low high ys zs → Alike low high xs zs
alike-then low high xs ys zs first second k above below = first k above below ∙ second k above below

pub same-long : (a low high : ℕ) (xs ys : List ℕ) → low ≤ a → a + 4 ≤ high → Alike low high xs ys → long_at a xs ≡ long_at a ys
unfolding long_at
same-long a low high xs ys above below alike =
    let e0 : get_or (drop a xs) 0 0 ≡ get_or (drop a ys) 0 0 = get_or-drop a xs 0 0 ∙ alike (a + 0) (omega arith) (omega arith) ∙ sym (get_or-drop a ys 0 0) in
    let e1 : get_or (drop a xs) 1 0 ≡ get_or (drop a ys) 1 0 = get_or-drop a xs 1 0 ∙ alike (a + 1) (omega arith) (omega arith) ∙ sym (get_or-drop a ys 1 0) in
    let e2 : get_or (drop a xs) 2 0 ≡ get_or (drop a ys) 2 0 = get_or-drop a xs 2 0 ∙ alike (a + 2) (omega arith) (omega arith) ∙ sym (get_or-drop a ys 2 0) in
    let e3 : get_or (drop a xs) 3 0 ≡ get_or (drop a ys) 3 0 = get_or-drop a xs 3 0 ∙ alike (a + 3) (omega arith) (omega arith) ∙ sym (get_or-drop a ys 3 0) in
    rw (e0, e1, e2, e3) refl

-- a piece that is put behind an address, whatever its length
front : (to k : ℕ) (zs xs : List ℕ) → k < to → k < length xs → get_or (put to zs xs) k 0 ≡ get_or xs k 0
front to k zs xs before within =
    get_or_append_left (take to xs) _ 0 k (omega (arith, length-take to xs)) ∙ get_or-take to xs k 0 before

grows : (to : ℕ) (zs xs : List ℕ) → length xs ≤ length (put to zs xs)
grows to zs xs = simp (length-append, length-take, length-drop) (omega arith)

pub pieces-grow : (at : ℕ → ℕ) (held : ℕ → List ℕ) (n : ℕ) (xs : List ℕ) → length xs ≤ length (puts (numbered_pieces at held n) xs)
pieces-grow at held zero xs = omega arith
pieces-grow at held (suc n) xs =
    let before = pieces-grow at held n xs in
    omega (arith, before, grows (at n) (held n) (puts (numbered_pieces at held n) xs))

pub pieces-alike : (at : ℕ → ℕ) (held : ℕ → List ℕ) (n low high : ℕ) (xs : List ℕ) → ((k : ℕ) → high ≤ at k) → high ≤ length xs → Alike low high (puts (numbered_pieces at held n) xs) xs
pieces-alike at held zero low high xs behind within k above below = refl
pieces-alike at held (suc n) low high xs behind within k above below =
    let long = pieces-grow at held n xs in
    let there = behind n in
    front (at n) k (held n) (puts (numbered_pieces at held n) xs) (omega (arith, there, below)) (omega (arith, long, within, below))
    ∙ pieces-alike at held n low high xs behind within k above below

-- a long that is put below an address
pub record Over (low high : ℕ) (new old : List ℕ) : Type 0 where
  pub long : length new ≡ length old
  pub alike : Alike low high new old

one-long : (low high to v : ℕ) (xs : List ℕ) → to + 4 ≤ low → low ≤ length xs → Over low high (put to (big_bytes 4 v) xs) xs
one-long low high to v xs behind within = record {
  long = length-put to (big_bytes 4 v) xs (omega arith);
  alike = λ k above below. get_or-put_outside to k (big_bytes 4 v) xs 0 (omega arith) (inr (omega arith));
}

over-then : (low high to v : ℕ) (xs ys : List ℕ) → to + 4 ≤ low → low ≤ length ys → Over low high xs ys → Over low high (put to (big_bytes 4 v) xs) ys
over-then low high to v xs ys behind within over =
    let one = one-long low high to v xs behind (omega (arith, over.long, within)) in
    record { long = one.long ∙ over.long; alike = alike-then low high (put to (big_bytes 4 v) xs) xs ys one.alike over.alike }

vectors-over : (n high : ℕ) (xs : List ℕ) → n ≤ host_functions → 0x2000 ≤ length xs → Over 0x2000 high (puts (vectors n) xs) xs
unfolding vectors
vectors-over zero high xs few within = record { long = refl; alike = λ k above below. refl }
vectors-over (suc n) high xs few within =
    over-then 0x2000 high (host_vector_at n + 4) 0 _ xs (omega arith) within
    (over-then 0x2000 high (host_vector_at n) (host_code_at n) _ xs (omega arith) within (vectors-over n high xs (omega arith) within))

pub gate-over : (entry vector a5 len high : ℕ) (xs : List ℕ) → 0x2000 ≤ length xs → Over 0x2000 high (puts (gate_longs entry vector a5 len) xs) xs
unfolding told
gate-over entry vector a5 len high xs within =
    over-then 0x2000 high 0x102C len _ xs (omega arith) within
    (over-then 0x2000 high 0x1028 a5 _ xs (omega arith) within
    (over-then 0x2000 high 0x1024 vector _ xs (omega arith) within
    (over-then 0x2000 high 0x1020 entry _ xs (omega arith) within (vectors-over host_functions high xs (omega arith) within))))

pub stack-alike : (main : Isa) (len low high : ℕ) (xs : List ℕ) → high ≤ len - 4 → high ≤ length xs → Alike low high (puts (stack_pieces main len) xs) xs
stack-alike M68 len low high xs behind within k above below = front (len - 4) k (big_bytes 4 (exit_gate M68)) xs (omega arith) (omega arith)
stack-alike Ppc len low high xs behind within k above below = refl

-- an entry of the table
beside-long : (a to v : ℕ) (xs : List ℕ) → a + 4 ≤ to → to + 4 ≤ length xs → long_at a (put to (big_bytes 4 v) xs) ≡ long_at a xs
beside-long a to v xs before within =
    same-long a a (a + 4) (put to (big_bytes 4 v) xs) xs (omega arith) (omega arith) (λ k above below. front to k (big_bytes 4 v) xs (omega arith) (omega arith))

mod-mod : (v : ℕ) → v % 2 ^ 32 % 2 ^ 32 ≡ v % 2 ^ 32
mod-mod v = omega arith

pub entry-jumps : (places : List ℕ) (table : ℕ) (code0 : List ℕ) (n j : ℕ) (xs : List ℕ) → j < n → table + 8 * n ≤ length xs
    → long_at (table + 8 * j + 4) (puts (table_pieces places table code0 n) xs) ≡ jump_target places code0 j
entry-jumps places table code0 zero j xs below within = absurd (omega (arith, below))
entry-jumps places table code0 (suc n) j xs below within =
    let pieces : List ℕ = puts (table_pieces places table code0 n) xs in
    let first : List ℕ = put (table + 8 * n) (big_bytes 4 (segment_in code0 n * 65536 + 0x4EF9)) pieces in
    let before : length pieces ≡ length xs = table-length places table code0 n xs (omega (arith, within)) in
    let one : length first ≡ length pieces = length-put (table + 8 * n) (big_bytes 4 (segment_in code0 n * 65536 + 0x4EF9)) pieces (omega (arith, before, within)) in
    elim (cases_lt j n) [
      | inl earlier ↦
          beside-long (table + 8 * j + 4) (table + 8 * n + 4) (jump_target places code0 n) first (omega arith) (omega (arith, one, before, within))
          ∙ beside-long (table + 8 * j + 4) (table + 8 * n) (segment_in code0 n * 65536 + 0x4EF9) pieces (omega arith) (omega (arith, before, within))
          ∙ entry-jumps places table code0 n j xs earlier (omega (arith, within))
      | inr later ↦
          let same : j ≡ n = omega (arith, below) in
          ap (λ i. long_at (table + 8 * i + 4) (put (table + 8 * n + 4) (big_bytes 4 (jump_target places code0 n)) first)) same
          ∙ long_reads_back (table + 8 * n + 4) (jump_target places code0 n) first (omega (arith, one, before, within))
          ∙ mod-mod _ ∙ ap (jump_target places code0) (sym same)
    ]
