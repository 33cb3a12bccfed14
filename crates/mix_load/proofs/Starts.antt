-- The program as it starts has what every loaded program has.
use Rattle.std.proofs.Common.{◌≡◌, inl, subst, sym, ap, ◌∙◌, refl, ℕ, zero, suc, ◌+◌, ◌-◌, ◌/◌, ◌^◌, ◌<◌, ◌≤◌, List, [], ◌∷◌, false, slice_index_or, length, take, drop, replicate, arith}
use Rattle.std.proofs.lemmas.List.{same_lists, places}
use Rattle.byteorder.specs.Endian.{big_bytes}
use Rattle.mix_bits.specs.declared.isa.Isa.{Isa}
use Rattle.mix_bits.specs.declared.isa.Isa.TheVariants.{M68, Ppc}
use Rattle.big_memory.specs.Lists.{part, put}
use Rattle.big_memory.specs.Memory.{Memory, IsRam, floor_of}
use Rattle.big_memory.proofs.Lists.{length-put, part-put_apart}
use Rattle.switch_frame.specs.declared.active.Active.{Active}
use Rattle.switch_frame.specs.declared.program.Program.{Program}
use Rattle.switch_frame.specs.Records.{isa_of}
use Rattle.switch_frame.specs.Pieces.{Piece, puts}
use Rattle.switch_frame.specs.Program.{blank, gate_longs, told, vectors, start_sp_of}
use Rattle.switch_frame.specs.laws.Program.{page_bytes}
use Rattle.switch_frame.specs.ProgramClauses.{IsProgram}
use Rattle.switch_frame.proofs.Gates.{length-blank, page_has_longs}
use Rattle.big_memory.specs.Map.{exit_gate, host_functions, host_vector_at}
use Rattle.mix_load.specs.declared.image.Image.{Image}
use Rattle.mix_bits.specs.Multiples.{rounded_up}
use Rattle.mix_load.specs.Pieces.{with_pieces}
use Rattle.mix_load.specs.Start.{program_of, stack_pieces, start_file, start_memory}
use Rattle.mix_load.specs.Load.{no_image}
use Rattle.mix_load.specs.inner.Loaded.{IsImage}

pub take-blank : (n len : ℕ) → n ≤ len → take n (replicate len 0) ≡ blank n
unfolding blank
take-blank n len le = same_lists _ _ (grind (arith, places)) (λ k d w. grind (arith, places))

length-zeros : (len : ℕ) → length {A = ℕ} (replicate len 0) ≡ len
length-zeros len = grind (arith, places)

take-all : (n : ℕ) → take n (blank n) ≡ blank n
unfolding blank
take-all n = same_lists _ _ (grind (arith, places)) (λ k d w. grind (arith, places))

-- all pieces end at or below an address
abbrev AllBelow : ℕ → List Piece → Type 0
AllBelow limit [] = Unit {0}
AllBelow limit (p ∷ ps) = (p.at + length p.bytes ≤ limit) × AllBelow limit ps

take-put : (end at : ℕ) (ys xs : List ℕ) → at + length ys ≤ end → end ≤ length xs → take end (put at ys xs) ≡ put at ys (take end xs)
take-put end at ys xs within most = same_lists _ _ (grind (arith, places)) (λ k d w. grind (arith, places))

pieces-length : (end : ℕ) (ps : List Piece) (xs : List ℕ) → AllBelow end ps → end ≤ length xs → length (puts ps xs) ≡ length xs
pieces-length end [] xs below most = refl
pieces-length end (p ∷ ps) xs below most =
    let rest : length (puts ps xs) ≡ length xs = pieces-length end ps xs below.1 most in
    length-put p.at p.bytes (puts ps xs) (omega (arith, rest, below.0, most)) ∙ rest

pieces-take : (end : ℕ) (ps : List Piece) (xs : List ℕ) → AllBelow end ps → end ≤ length xs → take end (puts ps xs) ≡ puts ps (take end xs)
pieces-take end [] xs below most = refl
pieces-take end (p ∷ ps) xs below most =
    let rest : length (puts ps xs) ≡ length xs = pieces-length end ps xs below.1 most in
    take-put end p.at p.bytes (puts ps xs) below.0 (omega (arith, rest, most)) ∙ ap (put p.at p.bytes) (pieces-take end ps xs below.1 most)

part-take : (a n : ℕ) (xs : List ℕ) → part a n xs ≡ drop a (take (a + n) xs)
part-take a n xs = same_lists _ _ (grind (arith, places)) (λ k d w. grind (arith, places))

-- a part that pieces lie in depends on what was there
page-over : (lo n end : ℕ) (ps : List Piece) (xs ys : List ℕ) → lo + n ≡ end → AllBelow end ps → end ≤ length xs → end ≤ length ys → take end xs ≡ take end ys
    → part lo n (puts ps xs) ≡ part lo n (puts ps ys)
page-over lo n end ps xs ys end_is below most more same =
    part-take lo n (puts ps xs)
    ∙ (ap (λ (e : ℕ). drop lo (take e (puts ps xs))) end_is
    ∙ (ap (drop lo) (pieces-take end ps xs below most ∙ (ap (puts ps) same ∙ sym (pieces-take end ps ys below more)))
    ∙ (ap (λ (e : ℕ). drop lo (take e (puts ps ys))) (sym end_is) ∙ sym (part-take lo n (puts ps ys)))))

vectors-below : (k : ℕ) → k ≤ host_functions → AllBelow 0x2000 (vectors k)
unfolding vectors
vectors-below zero few = tt
vectors-below (suc k) few =
    let one : host_vector_at k + 4 + 4 ≤ 0x2000 = omega (arith, few) in
    let two : host_vector_at k + 4 ≤ 0x2000 = omega (arith, few) in
    (one, (two, vectors-below k (omega (arith, few))))

gate-below : (entry vector a5 len : ℕ) → AllBelow 0x2000 (gate_longs entry vector a5 len)
unfolding told
gate-below entry vector a5 len =
    let one : 0x102C + 4 ≤ 0x2000 = omega arith in
    let two : 0x1028 + 4 ≤ 0x2000 = omega arith in
    let three : 0x1024 + 4 ≤ 0x2000 = omega arith in
    let four : 0x1020 + 4 ≤ 0x2000 = omega arith in
    (one, (two, (three, (four, vectors-below host_functions (omega arith)))))

page-is : (entry vector a5 len : ℕ) (xs : List ℕ) → 0x2000 ≤ length xs → take 0x2000 xs ≡ blank 0x2000 → part 0x1000 0x1000 (puts (gate_longs entry vector a5 len) xs) ≡ page_bytes entry vector a5 len
unfolding page_bytes
page-is entry vector a5 len xs most front =
    page-over 0x1000 0x1000 0x2000 (gate_longs entry vector a5 len) xs (blank 0x2000) refl (gate-below entry vector a5 len) most
    (omega (arith, length-blank 0x2000)) (front ∙ sym (take-all 0x2000))

stack-length : (main : Isa) (len : ℕ) (xs : List ℕ) → 131072 ≤ len → length xs ≡ len → length (puts (stack_pieces main len) xs) ≡ length xs
stack-length M68 len xs large is = length-put (len - 4) (big_bytes 4 (exit_gate M68)) xs (omega (arith, large, is))
stack-length Ppc len xs large is = refl

stack-page : (main : Isa) (len : ℕ) (xs : List ℕ) → 131072 ≤ len → length xs ≡ len → part 0x1000 0x1000 (puts (stack_pieces main len) xs) ≡ part 0x1000 0x1000 xs
stack-page M68 len xs large is = part-put_apart 0x1000 0x1000 (len - 4) (big_bytes 4 (exit_gate M68)) xs (omega (arith, large, is)) (inl (omega (arith, large)))
stack-page Ppc len xs large is = refl

file-set : (main : Isa) (image : Image) (len : ℕ) → isa_of (start_file main image len) ≡ main
file-set M68 image len = refl
file-set Ppc image len = refl

pub is_program : (main : Isa) (image : Image) → image.a5 < 2 ^ 32 → 131072 ≤ length image.ram.bytes → IsImage image → IsRam (program_of main image).ram → IsProgram (program_of main image)
is_program main image small large whole ram =
    let len = length image.ram.bytes in
    let gate_len : length (puts (gate_longs image.entry image.vector image.a5 len) image.ram.bytes) ≡ len =
    pieces-length 0x2000 (gate_longs image.entry image.vector image.a5 len) image.ram.bytes (gate-below image.entry image.vector image.a5 len) (omega (arith, large)) in
    let all_len : length (puts (stack_pieces main len) (puts (gate_longs image.entry image.vector image.a5 len) image.ram.bytes)) ≡ len =
    stack-length main len (puts (gate_longs image.entry image.vector image.a5 len) image.ram.bytes) large gate_len ∙ gate_len in
    record {
      ram = ram;
      unguarded = whole.unguarded;
      page = page_has_longs image.entry image.vector image.a5 (program_of main image).ram.bytes small (omega (arith, ram.most))
          (stack-page main len (puts (gate_longs image.entry image.vector image.a5 len) image.ram.bytes) large gate_len
          ∙ (page-is image.entry image.vector image.a5 len image.ram.bytes (omega (arith, large)) (whole.front 0x2000 (omega arith))
          ∙ ap (page_bytes image.entry image.vector image.a5) (sym all_len)));
      set = file-set main image len;
      start = ap (start_sp_of main) (sym all_len);
      heap = record {
        aligned = omega arith;
        behind = omega (arith, whole.behind);
        ordered = whole.room;
        whole = omega (arith, all_len);
      };
    }

none-marked : (n unit : ℕ) → slice_index_or (replicate n false) unit false ≡ false
none-marked n unit = grind (arith, places)

-- memory without a program
pub none_whole : (len : ℕ) → 131072 ≤ len → IsImage (no_image len)
none_whole len large =
    let len_is : length {A = ℕ} (replicate len 0) ≡ len = length-zeros len in
    record {
      unguarded = λ unit. none-marked (len / 16) unit;
      front = λ n le. take-blank n len (omega (arith, le, large));
      behind = omega arith;
      room = omega (arith, len_is, large);
      vector = omega (arith, len_is, large);
    }

abbrev made : Isa → Image → Memory → Active → ℕ → ℕ → ℕ → Program
made main image ram active sp lo hi = record { ram = ram; active = active; a5 = image.a5; main = main; start_sp = sp; heap_lo = lo; heap_hi = hi }

pub program-is : (main : Isa) (image : Image) (gated ram : Memory) (active : Active) (sp lo hi len whole : ℕ) → len ≡ length image.ram.bytes
    → gated ≡ with_pieces (gate_longs image.entry image.vector image.a5 len) image.ram → ram ≡ with_pieces (stack_pieces main len) gated → active ≡ start_file main image len
    → whole ≡ len → sp ≡ start_sp_of main whole → lo ≡ rounded_up 16 image.end → hi ≡ floor_of image.ram
    → record { ram = ram; active = active; a5 = image.a5; main = main; start_sp = sp; heap_lo = lo; heap_hi = hi } ≡ program_of main image
program-is main image gated ram active sp lo hi len whole len_is gated_is ram_is active_is whole_is sp_is lo_is hi_is =
    let memory : ram ≡ start_memory main image (length image.ram.bytes) =
    ram_is ∙ (ap (with_pieces (stack_pieces main len)) gated_is ∙ ap (start_memory main image) len_is) in
    let file : active ≡ start_file main image (length image.ram.bytes) = active_is ∙ ap (start_file main image) len_is in
    let stack : sp ≡ start_sp_of main (length image.ram.bytes) = sp_is ∙ ap (start_sp_of main) (whole_is ∙ len_is) in
    ap (λ (m : Memory). made main image m active sp lo hi) memory
    ∙ (ap (λ (a : Active). made main image (start_memory main image (length image.ram.bytes)) a sp lo hi) file
    ∙ (ap (λ (s : ℕ). made main image (start_memory main image (length image.ram.bytes)) (start_file main image (length image.ram.bytes)) s lo hi) stack
    ∙ (ap (λ (n : ℕ). made main image (start_memory main image (length image.ram.bytes)) (start_file main image (length image.ram.bytes)) (start_sp_of main (length image.ram.bytes)) n hi) lo_is
    ∙ ap (made main image (start_memory main image (length image.ram.bytes)) (start_file main image (length image.ram.bytes)) (start_sp_of main (length image.ram.bytes)) (rounded_up 16 image.end)) hi_is)))

-- and it has what every loaded program has
pub program-loaded : (main : Isa) (image : Image) (p : Program) → p ≡ program_of main image → image.a5 < 2 ^ 32 → 131072 ≤ length image.ram.bytes → IsImage image → IsRam p.ram → IsProgram p
program-loaded main image p is small large whole ram =
    subst IsProgram (sym is) (is_program main image small large whole (subst (λ (q : Program). IsRam q.ram) is ram))
