-- The registers in an image.
use Rattle.std.proofs.Common.{◌≡◌, ℕ, ◌+◌, ◌*◌, ◌^◌, ◌<◌, ◌≤◌, nat_lt, Bool, true, false, lit<, lit≤, List, [], ◌∷◌, ◌++◌, length, take, drop, get_or, Ok, Err, arith, ap, sym, subst, ◌∙◌, refl, length-take, length-drop}
use Rattle.std.specs.Int.{from_bool}
use Rattle.std.proofs.lemmas.Bool.Decides.{nat_tests}
use Rattle.std.proofs.lemmas.List.{get_or-append_right, places}
use Rattle.mix_bits.specs.declared.isa.Isa.{Isa}
use Rattle.mix_bits.specs.declared.isa.Isa.TheVariants.{M68 as set_m68, Ppc as set_ppc}
use Rattle.m68_isa.specs.declared.registers.Ccr.{Ccr as Codes}
use Rattle.m68_isa.specs.declared.registers.Regs68.{Regs68}
use Rattle.m68_isa.specs.Registers.{ccr_bits}
use Rattle.m68_isa.specs.Longs.{file_of as m68_file, longs_of as longs_of_m68}
use Rattle.m68_isa.proofs.Longs.{file_back as m68_back, longs_back as m68_longs_back}
use Rattle.ppc_isa.specs.declared.registers.RegsPpc.{RegsPpc}
use Rattle.ppc_isa.specs.Longs.{file_of as ppc_file}
use Rattle.ppc_isa.proofs.Longs.{file_back as ppc_back, longs_back as ppc_longs_back}
use Rattle.big_memory.specs.Numbers.{AreBytes, AreLongs, long_at, longs_at}
use Rattle.big_memory.proofs.Numbers.{long_of_longs, longs_fit}
use Rattle.switch_frame.specs.declared.active.Active.{Active}
use Rattle.switch_frame.specs.declared.active.Active.TheVariants.{M68, Ppc}
use Rattle.switch_frame.specs.Chain.{IsFile}
use Rattle.switch_frame.specs.Records.{isa_of, longs_of_file}
use Rattle.mix_image.specs.declared.error.ImageError.TheVariants.{Short, Ccr, Active as Actives}
use Rattle.mix_image.specs.Fields.{active_from, file_from, file_size, long_from, m68_from, only_if, ppc_from, set_of}
use Rattle.mix_image.specs.Spelling.{set_number}
use Rattle.mix_image.proofs.Binds.{enough, long-among, long-read, long-there, not-short, passed, passes, past, then}
use Rattle.mix_image.proofs.Heading.{set-back, set-there}

-- how many longs a register file has
abbrev pub file_longs : Isa → ℕ
file_longs set_m68 = 18
file_longs set_ppc = 37

pub longs-size : (set : Isa) → file_size set ≡ 4 * file_longs set
longs-size set_m68 = refl
longs-size set_ppc = refl

-- parts of lists of longs
each-take : (n : ℕ) (xs : List ℕ) → ((k : ℕ) → get_or xs k 0 < 2 ^ 32) → (k : ℕ) → get_or (take n xs) k 0 < 2 ^ 32
each-take n xs each k = let here = each k in grind (arith, places)

each-drop : (n : ℕ) (xs : List ℕ) → ((k : ℕ) → get_or xs k 0 < 2 ^ 32) → (k : ℕ) → get_or (drop n xs) k 0 < 2 ^ 32
each-drop n xs each k = let here = each (n + k) in let same : get_or (drop n xs) k 0 ≡ get_or xs (n + k) 0 = grind (arith, places) in rw same here

front-longs : (m n : ℕ) (xs : List ℕ) → m ≤ n → AreLongs n xs → AreLongs m (take m xs)
front-longs m n xs less all = record { count = omega (arith, length-take m xs, all.count); each = each-take m xs all.each }

back-longs : (m n : ℕ) (xs : List ℕ) → AreLongs (m + n) xs → AreLongs n (drop m xs)
back-longs m n xs all = record { count = omega (arith, length-drop m xs, all.count); each = each-drop m xs all.each }

-- ---- registers that were read

pub record IsFileAt (bytes : List ℕ) (at : ℕ) (active : Active) : Type 0 where
  pub there : at + file_size (isa_of active) ≤ length bytes
  pub longs : longs_at (file_longs (isa_of active)) at bytes ≡ longs_of_file active
  pub file : IsFile active

m68-file : (bytes : List ℕ) (at : ℕ) → AreBytes bytes → at + 72 ≤ length bytes → long_at (at + 68) bytes < 32 → IsFileAt bytes at (M68 (m68_file (longs_at 18 at bytes)))
m68-file bytes at fit there small =
    let xs = longs_at 18 at bytes in
    let all : AreLongs 18 (longs_at 18 at bytes) = longs_fit 18 at bytes fit in
    let last : get_or (longs_at 18 at bytes) 17 0 ≡ long_at (at + 68) bytes = long_of_longs 18 at bytes 17 (lit< tt) in
    record {
      there = there;
      longs = sym (m68_longs_back xs all.count (subst (λ v. v < 32) (sym last) small));
      file = record {
        data_registers = front-longs 8 18 xs (lit≤ tt) all;
        address_registers = front-longs 8 10 (drop 8 xs) (lit≤ tt) (back-longs 8 10 xs all);
        pc_fits = all.each 16;
      };
    }

ppc-file : (bytes : List ℕ) (at : ℕ) → AreBytes bytes → at + 148 ≤ length bytes → IsFileAt bytes at (Ppc (ppc_file (longs_at 37 at bytes)))
ppc-file bytes at fit there =
    let xs = longs_at 37 at bytes in
    let all : AreLongs 37 (longs_at 37 at bytes) = longs_fit 37 at bytes fit in
    record {
      there = there;
      longs = sym (ppc_longs_back xs all.count);
      file = record {
        general = front-longs 32 37 xs (lit≤ tt) all;
        cr_fits = all.each 32;
        lr_fits = all.each 33;
        ctr_fits = all.each 34;
        xer_fits = all.each 35;
        pc_fits = all.each 36;
      };
    }

file-back : (bytes : List ℕ) (at : ℕ) (set : Isa) (active : Active) → AreBytes bytes → file_from bytes at set ≡ Ok active → IsFileAt bytes at active × (isa_of active ≡ set)
file-back bytes at set_m68 active fit is =
    let file = M68 (m68_file (longs_at 18 at bytes)) in
    let rest = enough (length bytes) (at + 72) (Short (length bytes)) (only_if (nat_lt (long_at (at + 68) bytes) 32) (Ccr (long_at (at + 68) bytes)) file) active is in
    let test = passed (nat_lt (long_at (at + 68) bytes) 32) (Ccr (long_at (at + 68) bytes)) file active rest.1 in
    let small : long_at (at + 68) bytes < 32 = grind (arith, nat_tests, test.0) in
    subst (λ a. IsFileAt bytes at a × (isa_of a ≡ set_m68)) test.1 (m68-file bytes at fit rest.0 small, refl)
file-back bytes at set_ppc active fit is =
    let file = Ppc (ppc_file (longs_at 37 at bytes)) in
    let rest = enough (length bytes) (at + 148) (Short (length bytes)) (Ok file) active is in
    let same : file ≡ active = cc (rest.1) in
    subst (λ a. IsFileAt bytes at a × (isa_of a ≡ set_ppc)) same (ppc-file bytes at fit rest.0, refl)

pub active-back : (bytes : List ℕ) (at : ℕ) (active : Active) → AreBytes bytes → active_from bytes at ≡ Ok active → (long_at at bytes ≡ set_number (isa_of active)) × IsFileAt bytes (at + 4) active
unfolding active_from
active-back bytes at active fit is =
    let one = past (long_from bytes at) _ active is in
    let two = past (set_of one.0 (Actives one.0)) (λ set. file_from bytes (at + 4) set) active one.2 in
    let read = long-read bytes at one.0 one.1 in
    let file = file-back bytes (at + 4) two.0 active fit two.2 in
    (read.1 ∙ set-back one.0 (Actives one.0) two.0 two.1 ∙ ap set_number (sym file.1), file.0)

-- their bytes lie in the image
file-within : (bytes : List ℕ) (at : ℕ) (set : Isa) (active : Active) → file_from bytes at set ≡ Ok active → at + file_size (isa_of active) ≤ length bytes
file-within bytes at set_m68 active is =
    let file = M68 (m68_file (longs_at 18 at bytes)) in
    let rest = enough (length bytes) (at + 72) (Short (length bytes)) (only_if (nat_lt (long_at (at + 68) bytes) 32) (Ccr (long_at (at + 68) bytes)) file) active is in
    let test = passed (nat_lt (long_at (at + 68) bytes) 32) (Ccr (long_at (at + 68) bytes)) file active rest.1 in
    subst (λ a. at + file_size (isa_of a) ≤ length bytes) test.1 rest.0
file-within bytes at set_ppc active is =
    let file = Ppc (ppc_file (longs_at 37 at bytes)) in
    let rest = enough (length bytes) (at + 148) (Short (length bytes)) (Ok file) active is in
    let same : file ≡ active = cc (rest.1) in
    subst (λ a. at + file_size (isa_of a) ≤ length bytes) same rest.0

pub active-within : (bytes : List ℕ) (at : ℕ) (active : Active) → active_from bytes at ≡ Ok active → at + 4 + file_size (isa_of active) ≤ length bytes
unfolding active_from
active-within bytes at active is =
    let one = past (long_from bytes at) _ active is in
    let two = past (set_of one.0 (Actives one.0)) (λ set. file_from bytes (at + 4) set) active one.2 in
    file-within bytes (at + 4) two.0 active two.2

-- ---- and read from there

-- five bits
bit-small : (b : Bool) → from_bool b < 2
bit-small true = lit< tt
bit-small false = lit< tt

pub bits-small : (c : Codes) → ccr_bits c < 32
bits-small c =
    let x = bit-small c.x in let n = bit-small c.n in let z = bit-small c.z in let v = bit-small c.v in let carry = bit-small c.c in omega arith

bits-last : (file : Regs68) → length file.d ≡ 8 → length file.a ≡ 8 → get_or (longs_of_m68 file) 17 0 ≡ ccr_bits file.ccr
bits-last file d a =
    let rest = file.pc ∷ ccr_bits file.ccr ∷ [] in
    get_or-append_right file.d (file.a ++ rest) 8 17 0 d (lit≤ tt) ∙ get_or-append_right file.a rest 8 9 0 a (lit≤ tt)

m68-there : (bytes : List ℕ) (at : ℕ) (file : Regs68) → IsFileAt bytes at (M68 file) → m68_from bytes at ≡ Ok (M68 file)
m68-there bytes at file here =
    let xs = longs_at 18 at bytes in
    let d = here.file.data_registers.count in
    let a = here.file.address_registers.count in
    let bits : long_at (at + 68) bytes ≡ ccr_bits file.ccr = long-among 18 at (at + 68) 17 bytes (longs_of_m68 file) here.longs (lit< tt) refl ∙ bits-last file d a in
    let small : ccr_bits file.ccr < 32 = bits-small file.ccr in
    let test : nat_lt (long_at (at + 68) bytes) 32 ≡ true = grind (arith, nat_tests) in
    not-short (length bytes) (at + 72) (Short (length bytes)) _ here.there
    ∙ passes (nat_lt (long_at (at + 68) bytes) 32) (Ccr (long_at (at + 68) bytes)) (M68 (m68_file xs)) test
    ∙ ap (λ l. Ok (M68 (m68_file l))) here.longs
    ∙ ap (λ f. Ok (M68 f)) (m68_back file d a)

ppc-there : (bytes : List ℕ) (at : ℕ) (file : RegsPpc) → IsFileAt bytes at (Ppc file) → ppc_from bytes at ≡ Ok (Ppc file)
ppc-there bytes at file here =
    not-short (length bytes) (at + 148) (Short (length bytes)) _ here.there
    ∙ ap (λ l. Ok (Ppc (ppc_file l))) here.longs
    ∙ ap (λ f. Ok (Ppc f)) (ppc_back file here.file.general.count)

file-there : (bytes : List ℕ) (at : ℕ) (active : Active) → IsFileAt bytes at active → file_from bytes at (isa_of active) ≡ Ok active
file-there bytes at (M68 file) here = m68-there bytes at file here
file-there bytes at (Ppc file) here = ppc-there bytes at file here

pub active-there : (bytes : List ℕ) (at : ℕ) (active : Active) → at + 4 ≤ length bytes → long_at at bytes ≡ set_number (isa_of active) → IsFileAt bytes (at + 4) active → active_from bytes at ≡ Ok active
unfolding active_from
active-there bytes at active there number here =
    then (long_from bytes at) _ (set_number (isa_of active)) (Ok active) (long-there bytes at (set_number (isa_of active)) there number)
    (then (set_of (set_number (isa_of active)) (Actives (set_number (isa_of active)))) (λ set. file_from bytes (at + 4) set) (isa_of active) (Ok active) (set-there (isa_of active) (Actives (set_number (isa_of active))))
    (file-there bytes (at + 4) active here))

-- ---- a 68000's registers as the code reads them

pub m68-ok : (bytes xs : List ℕ) (at : ℕ) (file : Regs68) → xs ≡ longs_at 18 at bytes → at + 72 ≤ length bytes → get_or xs 17 0 < 32 → file ≡ m68_file xs → Ok (M68 file) ≡ m68_from bytes at
m68-ok bytes xs at file read there small made =
    let bits : long_at (at + 68) bytes ≡ get_or xs 17 0 = sym (ap (λ l. get_or l 17 0) read ∙ long_of_longs 18 at bytes 17 (lit< tt)) in
    let test : nat_lt (long_at (at + 68) bytes) 32 ≡ true = grind (arith, nat_tests) in
    sym (not-short (length bytes) (at + 72) (Short (length bytes)) _ there
    ∙ passes (nat_lt (long_at (at + 68) bytes) 32) (Ccr (long_at (at + 68) bytes)) (M68 (m68_file (longs_at 18 at bytes))) test
    ∙ ap (λ l. Ok (M68 (m68_file l))) (sym read)
    ∙ ap (λ f. Ok (M68 f)) (sym made))

pub m68-bad : (bytes xs : List ℕ) (at : ℕ) → xs ≡ longs_at 18 at bytes → at + 72 ≤ length bytes → 32 ≤ get_or xs 17 0 → Err (Ccr (get_or xs 17 0)) ≡ m68_from bytes at
m68-bad bytes xs at read there large =
    let bits : long_at (at + 68) bytes ≡ get_or xs 17 0 = sym (ap (λ l. get_or l 17 0) read ∙ long_of_longs 18 at bytes 17 (lit< tt)) in
    let test : nat_lt (long_at (at + 68) bytes) 32 ≡ false = grind (arith, nat_tests) in
    sym (not-short (length bytes) (at + 72) (Short (length bytes)) _ there
    ∙ ap (λ b. only_if b (Ccr (long_at (at + 68) bytes)) (M68 (m68_file (longs_at 18 at bytes)))) test
    ∙ ap (λ v. Err (Ccr v)) bits)
