-- The fields of an image and its spelling give each other.
use Rattle.std.proofs.Common.{◌≡◌, ℕ, zero, suc, ◌+◌, ◌-◌, ◌*◌, ◌/◌, ◌%◌, ◌^◌, ◌<◌, ◌≤◌, false, lit<, lit≤, List, [], ◌∷◌, ◌++◌, length, drop, replicate, get_or, Ok, arith, ap, sym, subst, ◌∙◌, refl, append_assoc, length-append}
use Rattle.std.proofs.lemmas.Grind.{same_number_lists}
use Rattle.std.specs.Prelude.{All}
use Rattle.std.proofs.lemmas.List.{append-nil, length-replicate, places}
use Rattle.std.proofs.lemmas.List.Elements.{All-head, All-tail}
use Rattle.std.proofs.Math.Seq.{take-append_seam}
use Rattle.mix_bits.specs.declared.isa.Isa.{Isa}
use Rattle.mix_bits.specs.declared.isa.Isa.TheVariants.{M68 as set_m68, Ppc as set_ppc}
use Rattle.m68_isa.specs.Registers.{ccr_bits}
use Rattle.m68_isa.proofs.Longs.{count as m68_count}
use Rattle.ppc_isa.proofs.Longs.{count as ppc_count}
use Rattle.big_memory.specs.Lists.{part}
use Rattle.big_memory.specs.Memory.{Memory, IsRam}
use Rattle.big_memory.specs.Numbers.{AreBytes, AreLongs, bytes_of_longs, long_at, longs_at}
use Rattle.big_memory.proofs.Numbers.{length_of_bytes, longs_again, longs_of_part}
use Rattle.host_heap.specs.declared.block.Block.{Block}
use Rattle.host_heap.specs.Space.{Space}
use Rattle.host_heap.specs.Sound.{IsSound}
use Rattle.switch_frame.specs.declared.active.Active.{Active}
use Rattle.switch_frame.specs.declared.active.Active.TheVariants.{M68, Ppc}
use Rattle.switch_frame.specs.Chain.{IsFile}
use Rattle.switch_frame.specs.Program.{HasHeap, start_sp_of}
use Rattle.switch_frame.specs.Records.{isa_of, longs_of_file}
use Rattle.switch_frame.proofs.Linked.{top_is_long}
use Rattle.mixed_machine.specs.Machine.{callers_of}
use Rattle.mix_engine.specs.declared.machine.Machine.{Machine}
use Rattle.mix_image.specs.declared.head.Head.{Head}
use Rattle.mix_image.specs.Fields.{active_from, bare, blocks_from, empty_heap, fields_of, file_size, head_of, long_from, memory_from}
use Rattle.mix_image.specs.inner.Heads.{IsHead}
use Rattle.mix_image.specs.Spelling.{HasSpelling, block_longs, head_longs, longs_of, mark_first, mark_second, pages, set_number, spell, tail_longs}
use Rattle.mix_image.proofs.Binds.{long-among, long-read, long-there, past, then}
use Rattle.mix_image.proofs.Rows.{longs-split, one-long, two-longs}
use Rattle.mix_image.proofs.Placing.{IsPlaced, blocks-back, blocks-there, length-longs}
use Rattle.mix_image.proofs.Pagings.{memory-back, memory-there}
use Rattle.mix_image.proofs.Heading.{IsHeadAt, head-back, head-longs as longs-of-head, head-there}
use Rattle.mix_image.proofs.Tails.{bits-small, IsFileAt, active-back, active-there, file_longs, longs-size}

-- ---- a machine that was read

-- what every machine of an image's fields meets
pub record AreFields (bytes : List ℕ) (m : Machine) : Type 0 where
  pub spelled : spell m ≡ bytes
  pub bare_is : m.body.ram ≡ bare m.body.ram.bytes
  pub ram : IsRam m.body.ram
  pub held : AreBytes m.body.ram.bytes
  pub a5 : m.body.a5 < 2 ^ 32
  pub file : IsFile m.active
  pub sound : IsSound m.body.heap
  pub start : m.body.start_sp ≡ start_sp_of m.body.main (length m.body.ram.bytes)
  pub heap : HasHeap m.body.heap.low m.body.heap.high m.body.ram

empty-sound : (head : Head) → IsHead head → IsSound (empty_heap head.low head.high)
empty-sound head fits = record { low = fits.aligned; high = omega (arith, fits.whole); order = fits.ordered; inside = λ k d l. absurd (omega arith); aligned = λ k d l. absurd (omega arith); apart = λ i j d l k. absurd (omega arith); count = lit≤ tt }

pub none-marked : (n unit : ℕ) → get_or (replicate n false) unit false ≡ false
none-marked n unit = grind (arith, places)

pub bare-ram : (bytes : List ℕ) (kib : ℕ) → length bytes ≡ 1024 * kib → 128 ≤ kib → kib ≤ 16384 → IsRam (bare bytes)
bare-ram bytes kib long least most =
    record {
      units = (let count : length (replicate (length bytes / 16) false) ≡ length bytes / 16 = length-replicate (length bytes / 16) false in omega (arith, count, long));
      least = omega (arith, long);
      most = omega (arith, long);
      whole = omega (arith, long);
      clear = λ unit low. none-marked (length bytes / 16) unit;
    }

-- the longs of a machine, one part after the other
tail-longs : (bytes : List ℕ) (at top : ℕ) (active : Active) → long_at at bytes ≡ top → long_at (at + 4) bytes ≡ set_number (isa_of active) → IsFileAt bytes (at + 8) active
    → longs_at (2 + file_longs (isa_of active)) at bytes ≡ top ∷ set_number (isa_of active) ∷ longs_of_file active
tail-longs bytes at top active first second here =
    longs-split 2 (file_longs (isa_of active)) at (at + 8) bytes (omega arith)
    ∙ ap (λ xs. xs ++ longs_at (file_longs (isa_of active)) (at + 8) bytes) (two-longs at (at + 4) bytes refl)
    ∙ ap (λ x. x ∷ long_at (at + 4) bytes ∷ longs_at (file_longs (isa_of active)) (at + 8) bytes) first
    ∙ ap (λ x. top ∷ x ∷ longs_at (file_longs (isa_of active)) (at + 8) bytes) second
    ∙ ap (λ xs. top ∷ set_number (isa_of active) ∷ xs) here.longs

whole-part : (n : ℕ) (bytes : List ℕ) → n ≤ length bytes → part 0 n bytes ++ part n (length bytes - n) bytes ≡ bytes
whole-part n bytes there = same_number_lists _ _ (grind (arith, places)) (λ k w. grind (arith, places))

-- the machine of a head, a heap, a top, registers and memory
abbrev machine_of : Head → Space → ℕ → Active → Memory → Machine
machine_of head heap top active ram = record { active = active; body = record { ram = ram; heap = heap; top = top; a5 = head.a5; main = head.main; start_sp = head.start_sp } }

spelled-of : (bytes : List ℕ) (head : Head) (heap : Space) (top : ℕ) (active : Active) (ram : Memory) → AreBytes bytes → IsHeadAt bytes head → IsPlaced bytes head.low head.high head.count heap
    → long_at (36 + 8 * head.count) bytes ≡ top → long_at (40 + 8 * head.count) bytes ≡ set_number (isa_of active) → IsFileAt bytes (44 + 8 * head.count) active
    → length ram.bytes ≡ 1024 * head.kib
    → pages head.kib ram.bytes ≡ part (44 + 8 * head.count + file_size (isa_of active)) (length bytes - (44 + 8 * head.count + file_size (isa_of active))) bytes
    → spell (machine_of head heap top active ram) ≡ bytes
unfolding spell
spelled-of bytes head heap top active ram fit at placed first second here long paged =
    let m = machine_of head heap top active ram in
    let set = isa_of active in
    let count = 2 * head.count in
    let kib : length ram.bytes / 1024 ≡ head.kib = omega (arith, long) in
    let size : file_size (isa_of active) ≡ 4 * file_longs (isa_of active) = longs-size set in
    let end = 44 + 8 * head.count + file_size set in
    let second_here : long_at (36 + 8 * head.count + 4) bytes ≡ set_number (isa_of active) = ap (λ a. long_at a bytes) (let e : 36 + 8 * head.count + 4 ≡ 40 + 8 * head.count = omega arith in e) ∙ second in
    let file_here : IsFileAt bytes (36 + 8 * head.count + 8) active = subst (λ a. IsFileAt bytes a active) (let e : 44 + 8 * head.count ≡ 36 + 8 * head.count + 8 = omega arith in e) here in
    let tail : longs_at (2 + file_longs (isa_of active)) (36 + 8 * head.count) bytes ≡ tail_longs m = tail-longs bytes (36 + 8 * head.count) top active first second_here file_here in
    let rest : longs_at (2 * head.count + (2 + file_longs (isa_of active))) 36 bytes ≡ block_longs heap.blocks ++ tail_longs m
    = longs-split count (2 + file_longs set) 36 (36 + 8 * head.count) bytes (omega arith) ∙ ap (λ xs. xs ++ longs_at (2 + file_longs set) (36 + 8 * head.count) bytes) placed.longs ∙ ap (λ xs. block_longs heap.blocks ++ xs) tail in
    let head_is : longs_at 9 0 bytes ≡ head_longs m
    = longs-of-head bytes head at
    ∙ ap (λ k. mark_first ∷ mark_second ∷ k ∷ head.a5 ∷ set_number head.main ∷ head.start_sp ∷ head.low ∷ head.high ∷ head.count ∷ []) (sym kib)
    ∙ ap (λ l. mark_first ∷ mark_second ∷ (length ram.bytes / 1024) ∷ head.a5 ∷ set_number head.main ∷ head.start_sp ∷ l ∷ head.high ∷ head.count ∷ []) (sym placed.low_is)
    ∙ ap (λ h. mark_first ∷ mark_second ∷ (length ram.bytes / 1024) ∷ head.a5 ∷ set_number head.main ∷ head.start_sp ∷ heap.low ∷ h ∷ head.count ∷ []) (sym placed.high_is)
    ∙ ap (λ c. mark_first ∷ mark_second ∷ (length ram.bytes / 1024) ∷ head.a5 ∷ set_number head.main ∷ head.start_sp ∷ heap.low ∷ heap.high ∷ c ∷ []) (sym placed.count) in
    let all : longs_at (9 + (2 * head.count + (2 + file_longs (isa_of active)))) 0 bytes ≡ longs_of m
    = longs-split 9 (count + (2 + file_longs set)) 0 36 bytes refl ∙ ap (λ xs. xs ++ longs_at (count + (2 + file_longs set)) 36 bytes) head_is ∙ ap (λ xs. head_longs m ++ xs) rest in
    let within : 0 + 4 * (9 + (2 * head.count + (2 + file_longs (isa_of active)))) ≤ length bytes = omega (arith, size, here.there) in
    let bytes_are : bytes_of_longs (longs_of m) ≡ part 0 (4 * (9 + (2 * head.count + (2 + file_longs (isa_of active))))) bytes
    = ap bytes_of_longs (sym all) ∙ longs_again (9 + (count + (2 + file_longs set))) 0 bytes fit within in
    let place : 4 * (9 + (2 * head.count + (2 + file_longs (isa_of active)))) ≡ 44 + 8 * head.count + file_size (isa_of active) = omega (arith, size) in
    ap (λ n. bytes_of_longs (longs_of m) ++ pages n ram.bytes) kib
    ∙ ap (λ xs. xs ++ pages head.kib ram.bytes) (bytes_are ∙ ap (λ n. part 0 n bytes) place)
    ∙ ap (λ xs. part 0 end bytes ++ xs) paged
    ∙ whole-part end bytes here.there

pub fields-back : (bytes : List ℕ) (m : Machine) → AreBytes bytes → fields_of bytes ≡ Ok m → AreFields bytes m
unfolding fields_of
fields-back bytes m fit is =
    let one = past (head_of bytes) _ m is in
    let head = one.0 in
    let two = past (blocks_from bytes (empty_heap head.low head.high) head.count) _ m one.2 in
    let three = past (long_from bytes (36 + 8 * head.count)) _ m two.2 in
    let four = past (active_from bytes (40 + 8 * head.count)) _ m three.2 in
    let five = past (memory_from bytes (44 + 8 * head.count + file_size (isa_of four.0)) head.kib) _ m four.2 in
    let read = machine_of head two.0 three.0 four.0 five.0 in
    let same : read ≡ m = (let both : Ok read ≡ Ok m = five.2 in cc) in
    let at : IsHeadAt bytes head = head-back bytes head one.1 in
    let placed : IsPlaced bytes head.low head.high head.count two.0 = blocks-back bytes head.low head.high head.count two.0 (empty-sound head at.fits) at.there two.1 in
    let top = long-read bytes (36 + 8 * head.count) three.0 three.1 in
    let active = active-back bytes (40 + 8 * head.count) four.0 fit four.1 in
    let here : IsFileAt bytes (44 + 8 * head.count) four.0 = subst (λ a. IsFileAt bytes a four.0) (let e : 40 + 8 * head.count + 4 ≡ 44 + 8 * head.count = omega arith in e) active.1 in
    let memory = memory-back bytes (44 + 8 * head.count + file_size (isa_of four.0)) head.kib five.0 fit here.there five.1 in
    let ram : IsRam five.0 = subst (λ v. IsRam v) (sym memory.0) (bare-ram five.0.bytes head.kib memory.1 at.fits.least at.fits.most) in
    let whole : AreFields bytes read = record {
      spelled = spelled-of bytes head two.0 three.0 four.0 five.0 fit at placed top.1 active.0 here memory.1 memory.2;
      bare_is = memory.0;
      ram = ram;
      held = memory.3;
      a5 = subst (λ v. v < 2 ^ 32) at.a5 (one-long 12 bytes fit);
      file = here.file;
      sound = placed.sound;
      start = at.fits.start ∙ ap (λ n. start_sp_of head.main n) (sym memory.1);
      heap = record {
        aligned = subst (λ v. v % 16 ≡ 0) (sym placed.low_is) at.fits.aligned;
        behind = subst (λ v. 65536 ≤ v) (sym placed.low_is) at.fits.behind;
        ordered = omega (arith, placed.low_is, placed.high_is, at.fits.ordered);
        whole = placed.high_is ∙ at.fits.whole ∙ (let e : 768 * head.kib ≡ length five.0.bytes - length five.0.bytes / 4 = omega (arith, memory.1) in e);
      };
    } in
    subst (λ v. AreFields bytes v) same whole

-- ---- a machine whose spelling the bytes are

unfoldable pub bared : Machine → Machine
bared m = record m { body = record m.body { ram = bare m.body.ram.bytes } }

-- the head of a machine
head_for : Machine → Head
head_for m =
    record { kib = length m.body.ram.bytes / 1024; a5 = m.body.a5; main = m.body.main; start_sp = m.body.start_sp; low = m.body.heap.low; high = m.body.heap.high; count = length m.body.heap.blocks }

-- the longs of all parts, as they stand in the spelling
pub record StandsIn (m : Machine) (bytes : List ℕ) : Type 0 where
  pub longs : part 0 (4 * length (longs_of m)) bytes ≡ bytes_of_longs (longs_of m)
  pub pages_are : part (4 * length (longs_of m)) (length (pages (length m.body.ram.bytes / 1024) m.body.ram.bytes)) bytes ≡ pages (length m.body.ram.bytes / 1024) m.body.ram.bytes
  pub long : 4 * length (longs_of m) + length (pages (length m.body.ram.bytes / 1024) m.body.ram.bytes) ≡ length bytes

front-of : (xs ys : List ℕ) → part 0 (length xs) (xs ++ ys) ≡ xs
front-of xs ys = take-append_seam xs ys

back-of : (xs ys : List ℕ) → part (length xs) (length ys) (xs ++ ys) ≡ ys
back-of xs ys = same_number_lists _ _ (grind (arith, places)) (λ k w. grind (arith, places))

stands-in : (m : Machine) → StandsIn m (spell m)
unfolding spell
stands-in m =
    let xs = bytes_of_longs (longs_of m) in
    let ys = pages (length m.body.ram.bytes / 1024) m.body.ram.bytes in
    let count : length (bytes_of_longs (longs_of m)) ≡ 4 * length (longs_of m) = length_of_bytes (longs_of m) in
    record {
      longs = ap (λ n. part 0 n (xs ++ ys)) (sym count) ∙ front-of xs ys;
      pages_are = ap (λ n. part n (length ys) (xs ++ ys)) (sym count) ∙ back-of xs ys;
      long = ap (λ n. n + length ys) (sym count) ∙ sym (length-append xs ys);
    }

-- the longs of the parts fit
each-none : (k : ℕ) → get_or [] k 0 < 2 ^ 32
each-none k = lit< tt

each-cons : (x : ℕ) (xs : List ℕ) → x < 2 ^ 32 → ((k : ℕ) → get_or xs k 0 < 2 ^ 32) → (k : ℕ) → get_or (x ∷ xs) k 0 < 2 ^ 32
each-cons x xs first rest zero = first
each-cons x xs first rest (suc k) = rest k

head-each : (a b c d e f g h i : ℕ) → a < 2 ^ 32 → b < 2 ^ 32 → c < 2 ^ 32 → d < 2 ^ 32 → e < 2 ^ 32 → f < 2 ^ 32 → g < 2 ^ 32 → h < 2 ^ 32 → i < 2 ^ 32 → (k : ℕ)
    → get_or (a ∷ b ∷ c ∷ d ∷ e ∷ f ∷ g ∷ h ∷ i ∷ []) k 0 < 2 ^ 32
head-each a b c d e f g h i p q r s t u v w x k =
    each-cons a (b ∷ c ∷ d ∷ e ∷ f ∷ g ∷ h ∷ i ∷ []) p (each-cons b (c ∷ d ∷ e ∷ f ∷ g ∷ h ∷ i ∷ []) q (each-cons c (d ∷ e ∷ f ∷ g ∷ h ∷ i ∷ []) r (each-cons d (e ∷ f ∷ g ∷ h ∷ i ∷ []) s
    (each-cons e (f ∷ g ∷ h ∷ i ∷ []) t (each-cons f (g ∷ h ∷ i ∷ []) u (each-cons g (h ∷ i ∷ []) v (each-cons h (i ∷ []) w (each-cons i [] x each-none)))))))) k

-- what a whole machine's numbers are
pub record AreNumbers (m : Machine) : Type 0 where
  pub ram : IsRam m.body.ram
  pub start : m.body.start_sp ≡ start_sp_of m.body.main (length m.body.ram.bytes)
  pub start_small : m.body.start_sp < 2 ^ 32
  pub low : 65536 ≤ m.body.heap.low
  pub aligned : m.body.heap.low % 16 ≡ 0
  pub ordered : m.body.heap.low ≤ m.body.heap.high
  pub high : m.body.heap.high ≡ length m.body.ram.bytes - length m.body.ram.bytes / 4
  pub top : m.body.top < 2 ^ 32

start-small : (main : Isa) (len : ℕ) → len ≤ 16777216 → start_sp_of main len < 2 ^ 32
start-small set_m68 len small = omega arith
start-small set_ppc len small = omega arith

numbers-of : (m : Machine) → HasSpelling m → AreNumbers m
numbers-of m has =
    let chain = has.whole.chain in
    let ram : IsRam m.body.ram = chain.links.ram in
    record {
      ram = ram;
      start = has.whole.start;
      start_small = subst (λ v. v < 2 ^ 32) (sym has.whole.start) (start-small m.body.main (length m.body.ram.bytes) ram.most);
      low = has.whole.heap.behind;
      aligned = has.whole.heap.aligned;
      ordered = has.whole.heap.ordered;
      high = has.whole.heap.whole;
      top = top_is_long m.body.ram m.body.top (callers_of m.body) chain.links;
    }

number-small : (set : Isa) → set_number set < 2 ^ 32
number-small set_m68 = lit< tt
number-small set_ppc = lit< tt

head-fits : (m : Machine) → HasSpelling m → AreLongs 9 (head_longs m)
head-fits m has =
    let n : AreNumbers m = numbers-of m has in
    let kib : length m.body.ram.bytes / 1024 < 2 ^ 32 = omega (arith, n.ram.most) in
    let low : m.body.heap.low < 2 ^ 32 = omega (arith, n.ordered, n.high, n.ram.most) in
    let high : m.body.heap.high < 2 ^ 32 = omega (arith, n.high, n.ram.most) in
    let count : length m.body.heap.blocks < 2 ^ 32 = omega (arith, has.sound.count) in
    record {
      count = refl;
      each = head-each mark_first mark_second (length m.body.ram.bytes / 1024) m.body.a5 (set_number m.body.main) m.body.start_sp m.body.heap.low m.body.heap.high (length m.body.heap.blocks)
          (lit< tt) (lit< tt) kib has.a5 (number-small m.body.main) n.start_small low high count;
    }

block-each : (limit : ℕ) (blocks : List Block) → limit ≤ 16777216 → All (λ b. b.address + b.size ≤ limit) blocks → (k : ℕ) → get_or (block_longs blocks) k 0 < 2 ^ 32
block-each limit [] small all k = each-none k
block-each limit (b ∷ bs) small all k =
    let here : b.address + b.size ≤ limit = All-head (λ x. x.address + x.size ≤ limit) b bs all in
    each-cons b.address (b.size ∷ block_longs bs) (omega (arith, here)) (each-cons b.size (block_longs bs) (omega (arith, here)) (block-each limit bs small (All-tail (λ x. x.address + x.size ≤ limit) b bs all))) k

blocks-fit : (m : Machine) → HasSpelling m → AreLongs (2 * length m.body.heap.blocks) (block_longs m.body.heap.blocks)
blocks-fit m has =
    let n : AreNumbers m = numbers-of m has in
    record {
      count = length-longs m.body.heap.blocks;
      each = block-each m.body.heap.high m.body.heap.blocks (omega (arith, n.high, n.ram.most)) (λ k d l. (has.sound.inside k d l).1);
    }

each-join : (xs ys : List ℕ) → ((k : ℕ) → get_or xs k 0 < 2 ^ 32) → ((k : ℕ) → get_or ys k 0 < 2 ^ 32) → (k : ℕ) → get_or (xs ++ ys) k 0 < 2 ^ 32
each-join [] ys first second k = second k
each-join (x ∷ xs) ys first second zero = first 0
each-join (x ∷ xs) ys first second (suc k) = each-join xs ys (λ j. first (suc j)) second k

file-each : (file : Active) → IsFile file → (k : ℕ) → get_or (longs_of_file file) k 0 < 2 ^ 32
file-each (M68 file) ok k =
    each-join file.d (file.a ++ (file.pc ∷ ccr_bits file.ccr ∷ [])) ok.data_registers.each
    (each-join file.a (file.pc ∷ ccr_bits file.ccr ∷ []) ok.address_registers.each (each-cons file.pc (ccr_bits file.ccr ∷ []) ok.pc_fits (each-cons (ccr_bits file.ccr) [] (omega (arith, bits-small file.ccr)) each-none))) k
file-each (Ppc file) ok k =
    each-join file.gpr (file.cr ∷ file.lr ∷ file.ctr ∷ file.xer ∷ file.pc ∷ []) ok.general.each
    (each-cons file.cr (file.lr ∷ file.ctr ∷ file.xer ∷ file.pc ∷ []) ok.cr_fits
    (each-cons file.lr (file.ctr ∷ file.xer ∷ file.pc ∷ []) ok.lr_fits
    (each-cons file.ctr (file.xer ∷ file.pc ∷ []) ok.ctr_fits (each-cons file.xer (file.pc ∷ []) ok.xer_fits (each-cons file.pc [] ok.pc_fits each-none))))) k

file-count : (file : Active) → IsFile file → length (longs_of_file file) ≡ file_longs (isa_of file)
file-count (M68 file) ok = m68_count file ok.data_registers.count ok.address_registers.count
file-count (Ppc file) ok = ppc_count file ok.general.count

tail-fits : (m : Machine) → HasSpelling m → AreLongs (2 + file_longs (isa_of m.active)) (tail_longs m)
tail-fits m has =
    let n : AreNumbers m = numbers-of m has in
    record {
      count = (let c : length (longs_of_file m.active) ≡ file_longs (isa_of m.active) = file-count m.active has.file in omega arith);
      each = each-cons m.body.top (set_number (isa_of m.active) ∷ longs_of_file m.active) n.top (each-cons (set_number (isa_of m.active)) (longs_of_file m.active) (number-small (isa_of m.active)) (file-each m.active has.file));
    }

-- so each part is read where it stands
pub record AreRead (m : Machine) (bytes : List ℕ) : Type 0 where
  pub head : longs_at 9 0 bytes ≡ head_longs m
  pub blocks : longs_at (2 * length m.body.heap.blocks) 36 bytes ≡ block_longs m.body.heap.blocks
  pub tail : longs_at (2 + file_longs (isa_of m.active)) (36 + 8 * length m.body.heap.blocks) bytes ≡ tail_longs m
  pub count : length (longs_of m) ≡ 9 + (2 * length m.body.heap.blocks + (2 + file_longs (isa_of m.active)))

are-read : (m : Machine) (bytes : List ℕ) → HasSpelling m → StandsIn m bytes → AreRead m bytes
are-read m bytes has stands =
    let xs = head_longs m in
    let ys = block_longs m.body.heap.blocks in
    let zs = tail_longs m in
    let n = 4 * length (longs_of m) in
    let two : length (block_longs m.body.heap.blocks) ≡ 2 * length m.body.heap.blocks = length-longs m.body.heap.blocks in
    let last : length (tail_longs m) ≡ 2 + file_longs (isa_of m.active) = (tail-fits m has).count in
    let joined : (head_longs m ++ block_longs m.body.heap.blocks) ++ (tail_longs m ++ []) ≡ longs_of m = ap (λ l. (xs ++ ys) ++ l) (append-nil zs) ∙ append_assoc xs ys zs in
    let both : length (head_longs m ++ block_longs m.body.heap.blocks) ≡ 9 + 2 * length m.body.heap.blocks = length-append xs ys ∙ (let e : 9 + length (block_longs m.body.heap.blocks) ≡ 9 + 2 * length m.body.heap.blocks = omega (arith, two) in e) in
    record {
      head = longs_of_part 0 n 0 9 [] xs (ys ++ zs) bytes stands.longs refl (head-fits m has);
      blocks = longs_of_part 0 n 36 (2 * length m.body.heap.blocks) xs ys zs bytes stands.longs refl (blocks-fit m has);
      tail = longs_of_part 0 n (36 + 8 * length m.body.heap.blocks) (2 + file_longs (isa_of m.active)) (xs ++ ys) zs [] bytes (stands.longs ∙ ap bytes_of_longs (sym joined)) (omega (arith, both)) (tail-fits m has);
      count = length-append xs (ys ++ zs) ∙ (let e : 9 + length (block_longs m.body.heap.blocks ++ tail_longs m) ≡ 9 + (2 * length m.body.heap.blocks + (2 + file_longs (isa_of m.active))) = omega (arith, length-append ys zs, two, last) in e);
    }

-- the head, as it is read
head-at : (m : Machine) (bytes : List ℕ) → HasSpelling m → AreRead m bytes → 36 ≤ length bytes → IsHeadAt bytes (head_for m)
unfolding head_for
head-at m bytes has read there =
    let n : AreNumbers m = numbers-of m has in
    let xs = head_longs m in
    let kib : 1024 * (length m.body.ram.bytes / 1024) ≡ length m.body.ram.bytes = omega (arith, n.ram.whole) in
    record {
      there = there;
      first = long-among 9 0 0 0 bytes xs read.head (lit< tt) refl;
      second = long-among 9 0 4 1 bytes xs read.head (lit< tt) refl;
      kib = long-among 9 0 8 2 bytes xs read.head (lit< tt) refl;
      a5 = long-among 9 0 12 3 bytes xs read.head (lit< tt) refl;
      main = long-among 9 0 16 4 bytes xs read.head (lit< tt) refl;
      start = long-among 9 0 20 5 bytes xs read.head (lit< tt) refl;
      low = long-among 9 0 24 6 bytes xs read.head (lit< tt) refl;
      high = long-among 9 0 28 7 bytes xs read.head (lit< tt) refl;
      count = long-among 9 0 32 8 bytes xs read.head (lit< tt) refl;
      fits = record {
        least = omega (arith, n.ram.least, n.ram.whole);
        most = omega (arith, n.ram.most);
        start = n.start ∙ ap (λ l. start_sp_of m.body.main l) (sym kib);
        aligned = n.aligned;
        behind = n.low;
        ordered = n.ordered;
        whole = omega (arith, n.high, kib);
        few = has.sound.count;
      };
    }

file-at : (m : Machine) (bytes : List ℕ) → HasSpelling m → AreRead m bytes → 44 + 8 * length m.body.heap.blocks + file_size (isa_of m.active) ≤ length bytes → IsFileAt bytes (44 + 8 * length m.body.heap.blocks) m.active
file-at m bytes has read there =
    let at = 36 + 8 * length m.body.heap.blocks in
    let split : longs_at 2 (36 + 8 * length m.body.heap.blocks) bytes ++ longs_at (file_longs (isa_of m.active)) (44 + 8 * length m.body.heap.blocks) bytes ≡ tail_longs m
    = sym (longs-split 2 (file_longs (isa_of m.active)) at (44 + 8 * length m.body.heap.blocks) bytes (omega arith)) ∙ read.tail in
    let two : longs_at 2 (36 + 8 * length m.body.heap.blocks) bytes ≡ long_at (36 + 8 * length m.body.heap.blocks) bytes ∷ long_at (40 + 8 * length m.body.heap.blocks) bytes ∷ []
    = two-longs at (40 + 8 * length m.body.heap.blocks) bytes (omega arith) in
    let rest = longs_at (file_longs (isa_of m.active)) (44 + 8 * length m.body.heap.blocks) bytes in
    record {
      there = there;
      longs = ap (λ xs. drop 2 xs) (sym (ap (λ xs. xs ++ rest) two) ∙ split);
      file = has.file;
    }

pub fields-there : (m : Machine) → HasSpelling m → fields_of (spell m) ≡ Ok (bared m)
unfolding fields_of bared head_for
fields-there m has =
    let bytes = spell m in
    let stands : StandsIn m (spell m) = stands-in m in
    let read : AreRead m (spell m) = are-read m bytes has stands in
    let n : AreNumbers m = numbers-of m has in
    let kib : 1024 * (length m.body.ram.bytes / 1024) ≡ length m.body.ram.bytes = omega (arith, n.ram.whole) in
    let count = length m.body.heap.blocks in
    let set = isa_of m.active in
    let size : file_size (isa_of m.active) ≡ 4 * file_longs (isa_of m.active) = longs-size set in
    let place : 4 * length (longs_of m) ≡ 44 + 8 * length m.body.heap.blocks + file_size (isa_of m.active) = omega (arith, read.count, size) in
    let long : 44 + 8 * length m.body.heap.blocks + file_size (isa_of m.active) + length (pages (length m.body.ram.bytes / 1024) m.body.ram.bytes) ≡ length (spell m) = ap (λ k. k + length (pages (length m.body.ram.bytes / 1024) m.body.ram.bytes)) (sym place) ∙ stands.long in
    let head : IsHeadAt (spell m) (head_for m) = head-at m bytes has read (omega (arith, long)) in
    let file : IsFileAt (spell m) (44 + 8 * length m.body.heap.blocks) m.active = file-at m bytes has read (omega (arith, long)) in
    let top : long_at (36 + 8 * length m.body.heap.blocks) (spell m) ≡ m.body.top = long-among (2 + file_longs set) (36 + 8 * count) (36 + 8 * count) 0 bytes (tail_longs m) read.tail (omega arith) (omega arith) in
    let number : long_at (40 + 8 * length m.body.heap.blocks) (spell m) ≡ set_number (isa_of m.active) = long-among (2 + file_longs set) (36 + 8 * count) (40 + 8 * count) 1 bytes (tail_longs m) read.tail (omega arith) (omega arith) in
    let file_here : IsFileAt (spell m) (40 + 8 * length m.body.heap.blocks + 4) m.active = subst (λ a. IsFileAt bytes a m.active) (let e : 44 + 8 * length m.body.heap.blocks ≡ 40 + 8 * length m.body.heap.blocks + 4 = omega arith in e) file in
    let paged = ap (λ k. part k (length (pages (length m.body.ram.bytes / 1024) m.body.ram.bytes)) bytes) (sym place) ∙ stands.pages_are in
    then (head_of bytes) _ (head_for m) (Ok (bared m)) (head-there bytes (head_for m) head)
    (then (blocks_from bytes (empty_heap m.body.heap.low m.body.heap.high) count) _ m.body.heap (Ok (bared m)) (blocks-there bytes m.body.heap.low m.body.heap.high count m.body.heap.blocks has.sound read.blocks refl (omega (arith, long)))
    (then (long_from bytes (36 + 8 * count)) _ m.body.top (Ok (bared m)) (long-there bytes (36 + 8 * count) m.body.top (omega (arith, long)) top)
    (then (active_from bytes (40 + 8 * count)) _ m.active (Ok (bared m)) (active-there bytes (40 + 8 * count) m.active (omega (arith, long)) number file_here)
    (then (memory_from bytes (44 + 8 * count + file_size set) (length m.body.ram.bytes / 1024)) _ (bare m.body.ram.bytes) (Ok (bared m)) (memory-there bytes (44 + 8 * count + file_size set) (length m.body.ram.bytes / 1024) m.body.ram.bytes (sym kib) long paged)
    refl))))
