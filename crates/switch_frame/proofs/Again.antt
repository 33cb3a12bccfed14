-- What stands in a frame is the image of the record that is read of it.
use Rattle.std.proofs.Common.{◌≡◌, ◌⊎◌, inl, inr, ℕ, ◌+◌, ◌-◌, ◌*◌, ◌/◌, ◌%◌, ◌^◌, ◌<◌, ◌≤◌, ◌==◌, nat_lt, Bool, true, false, cond, lit<, List, [], ◌∷◌, ◌++◌, length, get_or, Option, Some, None, unwrap_or, arith, ap, sym, ◌∙◌, refl}
use Rattle.std.specs.Int.{from_bool}
use Rattle.std.proofs.lemmas.Bool.{and_from, and_parts, eqb-true}
use Rattle.std.proofs.lemmas.Bool.Decides.{nat_tests}
use Rattle.std.proofs.lemmas.List.{length-append}
use Rattle.mix_bits.specs.declared.isa.Isa.{Isa}
use Rattle.mix_bits.specs.declared.isa.Isa.TheVariants.{M68 as set_m68, Ppc as set_ppc}
use Rattle.m68_isa.specs.declared.registers.Ccr.{Ccr}
use Rattle.m68_isa.specs.declared.registers.Regs68.{Regs68}
use Rattle.m68_isa.specs.Registers.{ccr_bits, ccr_of}
use Rattle.m68_isa.specs.Longs.{longs_of as longs_of_m68}
use Rattle.ppc_isa.specs.declared.registers.RegsPpc.{RegsPpc}
use Rattle.ppc_isa.specs.Longs.{longs_of as longs_of_ppc}
use Rattle.big_memory.specs.Lists.{part}
use Rattle.big_memory.specs.Memory.{Memory}
use Rattle.big_memory.specs.Numbers.{AreBytes, bytes_of_longs, long_at, longs_at}
use Rattle.big_memory.proofs.Numbers.{four-longs, long_fits, longs-split, longs_again, longs_fit}
use Rattle.switch_frame.specs.declared.active.Active.{Active}
use Rattle.switch_frame.specs.declared.active.Active.TheVariants.{M68, Ppc}
use Rattle.switch_frame.specs.declared.kind.Kind.{Kind}
use Rattle.switch_frame.specs.declared.kind.Kind.TheVariants.{M68ToPpc, PpcToM68, PpcToPpc, M68ToM68}
use Rattle.switch_frame.specs.Sets.{caller_isa, frame_size, kind_at, kind_code, kind_told}
use Rattle.switch_frame.specs.Records.{file_at, fill_of, head_of, image, isa_of, longs_of_file, record_at, m68_at, ppc_at}
use Rattle.switch_frame.specs.inner.Parts.{longs_of}
use Rattle.switch_frame.specs.Chain.{FitsAlone, IsFile, IsHeld}
use Rattle.switch_frame.specs.Checks.{holds_file}
use Rattle.switch_frame.proofs.Images.{bit-small, ccr-small, m68-longs, ppc-longs}
use Rattle.switch_frame.proofs.Pieces.{long-behind, parted}
use Rattle.switch_frame.proofs.Walks.{IsGood}

-- longs one after the other
pub eight-longs : (a b c d e f g h : ℕ) (bytes : List ℕ) → b ≡ a + 4 → c ≡ a + 8 → d ≡ a + 12 → e ≡ a + 16 → f ≡ a + 20 → g ≡ a + 24 → h ≡ a + 28
    → longs_at 8 a bytes ≡ long_at a bytes ∷ long_at b bytes ∷ long_at c bytes ∷ long_at d bytes ∷ long_at e bytes ∷ long_at f bytes ∷ long_at g bytes ∷ long_at h bytes ∷ []
eight-longs a b c d e f g h bytes b_is c_is d_is e_is f_is g_is h_is =
    longs-split 4 4 a e bytes (omega arith)
    ∙ ap (λ xs. xs ++ longs_at 4 e bytes) (four-longs a b c d bytes b_is c_is d_is)
    ∙ ap (λ xs. long_at a bytes ∷ long_at b bytes ∷ long_at c bytes ∷ long_at d bytes ∷ xs) (four-longs e f g h bytes (omega arith) (omega arith) (omega arith))

-- five bits are those of the condition codes that they say
bit-back : (n : ℕ) → from_bool (n % 2 == 1) ≡ n % 2
bit-back n = grind (arith, nat_tests)

five-bits : (n : ℕ) → n < 32 → ccr_bits (ccr_of n) ≡ n
five-bits n small = omega (arith, bit-back (n / 16), bit-back (n / 8), bit-back (n / 4), bit-back (n / 2), bit-back n)

m68-again : (a : ℕ) (bytes : List ℕ) → holds_file set_m68 a bytes ≡ true → longs_at 20 a bytes ≡ longs_of_m68 (m68_at a bytes) ++ (0 ∷ 0 ∷ [])
m68-again a bytes held =
    let first = and_parts (nat_lt (long_at (a + 68) bytes) 32) _ held in
    let rest = and_parts (long_at (a + 72) bytes == 0) (long_at (a + 76) bytes == 0) first.1 in
    let bits : long_at (a + 68) bytes < 32 = grind (arith, nat_tests, first.0) in
    let one : long_at (a + 72) bytes ≡ 0 = grind (arith, nat_tests, rest.0) in
    let two : long_at (a + 76) bytes ≡ 0 = grind (arith, nat_tests, rest.1) in
    let d = longs_at 8 a bytes in
    let r = longs_at 8 (a + 32) bytes in
    longs-split 8 12 a (a + 32) bytes (omega arith)
    ∙ ap (λ xs. d ++ xs) (longs-split 8 4 (a + 32) (a + 64) bytes (omega arith))
    ∙ ap (λ xs. d ++ (r ++ xs)) (four-longs (a + 64) (a + 68) (a + 72) (a + 76) bytes (omega arith) (omega arith) (omega arith))
    ∙ ap (λ x. d ++ (r ++ (long_at (a + 64) bytes ∷ x ∷ long_at (a + 72) bytes ∷ long_at (a + 76) bytes ∷ []))) (sym (five-bits (long_at (a + 68) bytes) bits))
    ∙ ap (λ x. d ++ (r ++ (long_at (a + 64) bytes ∷ ccr_bits (ccr_of (long_at (a + 68) bytes)) ∷ x ∷ long_at (a + 76) bytes ∷ []))) one
    ∙ ap (λ x. d ++ (r ++ (long_at (a + 64) bytes ∷ ccr_bits (ccr_of (long_at (a + 68) bytes)) ∷ 0 ∷ x ∷ []))) two
    ∙ sym (m68-longs (m68_at a bytes) (0 ∷ 0 ∷ []))

ppc-again : (a : ℕ) (bytes : List ℕ) → holds_file set_ppc a bytes ≡ true → longs_at 40 a bytes ≡ longs_of_ppc (ppc_at a bytes) ++ (0 ∷ 0 ∷ 0 ∷ [])
ppc-again a bytes held =
    let first = and_parts (long_at (a + 148) bytes == 0) _ held in
    let rest = and_parts (long_at (a + 152) bytes == 0) (long_at (a + 156) bytes == 0) first.1 in
    let one : long_at (a + 148) bytes ≡ 0 = grind (arith, nat_tests, first.0) in
    let two : long_at (a + 152) bytes ≡ 0 = grind (arith, nat_tests, rest.0) in
    let three : long_at (a + 156) bytes ≡ 0 = grind (arith, nat_tests, rest.1) in
    let gpr = longs_at 32 a bytes in
    let files = λ (xs : List ℕ). gpr ++ (long_at (a + 128) bytes ∷ long_at (a + 132) bytes ∷ long_at (a + 136) bytes ∷ long_at (a + 140) bytes ∷ long_at (a + 144) bytes ∷ xs) in
    longs-split 32 8 a (a + 128) bytes (omega arith)
    ∙ ap (λ xs. gpr ++ xs) (eight-longs (a + 128) (a + 132) (a + 136) (a + 140) (a + 144) (a + 148) (a + 152) (a + 156) bytes (omega arith) (omega arith) (omega arith) (omega arith) (omega arith) (omega arith) (omega arith))
    ∙ ap (λ x. files (x ∷ long_at (a + 152) bytes ∷ long_at (a + 156) bytes ∷ [])) one
    ∙ ap (λ x. files (0 ∷ x ∷ long_at (a + 156) bytes ∷ [])) two
    ∙ ap (λ x. files (0 ∷ 0 ∷ x ∷ [])) three
    ∙ sym (ppc-longs (ppc_at a bytes) (0 ∷ 0 ∷ 0 ∷ []))

-- how many longs a frame has
frame_longs : Isa → ℕ
frame_longs set_m68 = 28
frame_longs set_ppc = 48

longs-size : (set : Isa) → 4 * frame_longs set ≡ frame_size set
unfolding frame_longs
longs-size set_m68 = refl
longs-size set_ppc = refl

file-again : (set : Isa) (lo : ℕ) (bytes : List ℕ) → holds_file set (lo + 32) bytes ≡ true
    → longs_at (frame_longs set) lo bytes ≡ longs_at 8 lo bytes ++ (longs_of_file (file_at set (lo + 32) bytes) ++ fill_of (isa_of (file_at set (lo + 32) bytes)))
unfolding frame_longs
file-again set_m68 lo bytes held = longs-split 8 20 lo (lo + 32) bytes (omega arith) ∙ ap (λ xs. longs_at 8 lo bytes ++ xs) (m68-again (lo + 32) bytes held)
file-again set_ppc lo bytes held = longs-split 8 40 lo (lo + 32) bytes (omega arith) ∙ ap (λ xs. longs_at 8 lo bytes ++ xs) (ppc-again (lo + 32) bytes held)

-- the number of a kind
decided : (b : Bool) (x kind : Kind) (rest : Option Kind) → cond b (Some x) rest ≡ Some kind → ((b ≡ true) × (x ≡ kind)) ⊎ (rest ≡ Some kind)
decided true x kind rest is = inl (refl, cc)
decided false x kind rest is = inr is

code-found : (code : ℕ) (kind : Kind) → kind_at code ≡ Some kind → kind_code kind ≡ code
code-found code kind is =
    elim (decided (code == 1) M68ToPpc kind _ is) [
      | inl one ↦ ap kind_code (sym one.1) ∙ sym (eqb-true code 1 one.0)
      | inr more ↦ elim (decided (code == 2) PpcToM68 kind _ more) [
        | inl two ↦ ap kind_code (sym two.1) ∙ sym (eqb-true code 2 two.0)
        | inr on ↦ elim (decided (code == 3) PpcToPpc kind _ on) [
          | inl three ↦ ap kind_code (sym three.1) ∙ sym (eqb-true code 3 three.0)
          | inr last ↦ elim (decided (code == 4) M68ToM68 kind None last) [
            | inl four ↦ ap kind_code (sym four.1) ∙ sym (eqb-true code 4 four.0)
            | inr none ↦ absurd (cc)
          ]
        ]
      ]
    ]

pub told-found : (code : ℕ) (kind : Kind) → kind_at code ≡ Some kind → kind_told code ≡ kind
told-found code kind is = ap (λ k. unwrap_or k M68ToPpc) is

-- the head of a frame
head-again : (lo : ℕ) (kind : Kind) (bytes : List ℕ) → kind_at (long_at (lo + 4) bytes) ≡ Some kind → longs_at 8 lo bytes ≡ head_of (record_at lo bytes) (long_at lo bytes) (long_at (lo + 28) bytes)
head-again lo kind bytes is =
    let code : long_at (lo + 4) bytes ≡ kind_code (kind_told (long_at (lo + 4) bytes)) = sym (ap kind_code (told-found (long_at (lo + 4) bytes) kind is) ∙ code-found (long_at (lo + 4) bytes) kind is) in
    eight-longs lo (lo + 4) (lo + 8) (lo + 12) (lo + 16) (lo + 20) (lo + 24) (lo + 28) bytes refl refl refl refl refl refl refl
    ∙ ap (λ x. long_at lo bytes ∷ x ∷ long_at (lo + 8) bytes ∷ long_at (lo + 12) bytes ∷ long_at (lo + 16) bytes ∷ long_at (lo + 20) bytes ∷ long_at (lo + 24) bytes ∷ long_at (lo + 28) bytes ∷ []) code

pub image-again : (lo n : ℕ) (kind : Kind) (bytes : List ℕ) → AreBytes bytes → kind_at (long_at (lo + 4) bytes) ≡ Some kind → holds_file (caller_isa kind) (lo + 32) bytes ≡ true
    → n ≡ frame_size (caller_isa kind) → lo + n ≤ length bytes → part lo n bytes ≡ image (record_at lo bytes) (long_at lo bytes) (long_at (lo + 28) bytes)
image-again lo n kind bytes fit is held size within =
    let told = told-found (long_at (lo + 4) bytes) kind is in
    let set = caller_isa (kind_told (long_at (lo + 4) bytes)) in
    let same : caller_isa (kind_told (long_at (lo + 4) bytes)) ≡ caller_isa kind = ap caller_isa told in
    let held_here : holds_file set (lo + 32) bytes ≡ true = ap (λ s. holds_file s (lo + 32) bytes) same ∙ held in
    let size_here : 4 * frame_longs set ≡ n = longs-size set ∙ ap frame_size same ∙ sym size in
    let longs : longs_at (frame_longs set) lo bytes ≡ longs_of (record_at lo bytes) (long_at lo bytes) (long_at (lo + 28) bytes)
    = file-again set lo bytes held_here ∙ ap (λ xs. xs ++ (longs_of_file (file_at set (lo + 32) bytes) ++ fill_of (isa_of (file_at set (lo + 32) bytes)))) (head-again lo kind bytes is) in
    sym (ap bytes_of_longs (sym longs) ∙ longs_again (frame_longs set) lo bytes fit (omega (arith, size_here, within)) ∙ ap (λ k. part lo k bytes) size_here)

-- the fields of a record that is read of bytes
pub file-fits : (set : Isa) (a : ℕ) (bytes : List ℕ) → AreBytes bytes → IsFile (file_at set a bytes)
file-fits set_m68 a bytes fit = record { data_registers = longs_fit 8 a bytes fit; address_registers = longs_fit 8 (a + 32) bytes fit; pc_fits = long_fits (a + 64) bytes fit }
file-fits set_ppc a bytes fit =
    record {
      general = longs_fit 32 a bytes fit;
      cr_fits = long_fits (a + 128) bytes fit;
      lr_fits = long_fits (a + 132) bytes fit;
      ctr_fits = long_fits (a + 136) bytes fit;
      xer_fits = long_fits (a + 140) bytes fit;
      pc_fits = long_fits (a + 144) bytes fit;
    }

held-again : (lo : ℕ) (bytes : List ℕ) → AreBytes bytes → IsHeld (record_at lo bytes)
held-again lo bytes fit =
    record {
      file = file-fits (caller_isa (kind_told (long_at (lo + 4) bytes))) (lo + 32) bytes fit;
      info_fits = long_fits (lo + 8) bytes fit;
      selector_fits = long_fits (lo + 12) bytes fit;
      target_fits = long_fits (lo + 16) bytes fit;
      want_fits = long_fits (lo + 24) bytes fit;
    }

set-of-file : (set : Isa) (a : ℕ) (bytes : List ℕ) → isa_of (file_at set a bytes) ≡ set
set-of-file set_m68 a bytes = refl
set-of-file set_ppc a bytes = refl

-- the record of a good frame, which fits there
pub record IsRead (m : Memory) (lo : ℕ) (kind : Kind) : Type 0 where
  pub alone : FitsAlone (length m.bytes) (record_at lo m.bytes)
  pub image_is : part lo ((record_at lo m.bytes).hi - lo) m.bytes ≡ image (record_at lo m.bytes) (long_at lo m.bytes) (long_at (lo + 28) m.bytes)
  pub kind_is : (record_at lo m.bytes).kind ≡ kind
  pub caller_is : isa_of (record_at lo m.bytes).caller ≡ caller_isa kind

pub good-read : (m : Memory) (main callee : Isa) (lo : ℕ) (kind : Kind) → AreBytes m.bytes → IsGood m main callee lo kind → IsRead m lo kind
good-read m main callee lo kind fit good =
    let told = told-found (long_at (lo + 4) m.bytes) kind good.kind_is in
    let set : isa_of (record_at lo m.bytes).caller ≡ caller_isa (kind_told (long_at (lo + 4) m.bytes)) = set-of-file (caller_isa (kind_told (long_at (lo + 4) m.bytes))) (lo + 32) m.bytes in
    let caller : isa_of (record_at lo m.bytes).caller ≡ caller_isa kind = set ∙ ap caller_isa told in
    let size : long_at (lo + 20) m.bytes - lo ≡ frame_size (caller_isa kind) = omega (arith, good.hi) in
    record {
      alone = record {
        held = held-again lo m.bytes fit;
        signature = good.signature;
        kind = sym set;
        size = good.hi ∙ ap (λ s. lo + frame_size s) (sym caller);
        aligned = good.aligned;
        stack = good.stack;
        within = omega (arith, good.hi, good.within);
      };
      image_is = image-again lo (long_at (lo + 20) m.bytes - lo) kind m.bytes fit good.kind_is good.file size (omega (arith, good.hi, good.within));
      kind_is = told;
      caller_is = caller;
    }

-- a frame that holds the image of a record holds its file
pub bits-small : (c : Ccr) → ccr_bits c < 32
bits-small c =
    let a = bit-small c.x in let b = bit-small c.n in let d = bit-small c.z in let e = bit-small c.v in let f = bit-small c.c in omega arith

m68-holds : (lo n : ℕ) (head : List ℕ) (file : Regs68) (bytes : List ℕ) → length head ≡ 8 → part lo n bytes ≡ bytes_of_longs (head ++ (longs_of_m68 file ++ (0 ∷ 0 ∷ []))) → IsFile (M68 file) → holds_file set_m68 (lo + 32) bytes ≡ true
m68-holds lo n head file bytes eight piece ok =
    let tail = file.pc ∷ ccr_bits file.ccr ∷ 0 ∷ 0 ∷ [] in
    let whole : part lo n bytes ≡ bytes_of_longs (head ++ (file.d ++ (file.a ++ tail))) = piece ∙ ap (λ xs. bytes_of_longs (head ++ xs)) (m68-longs file (0 ∷ 0 ∷ [])) in
    let behind_d : part lo n bytes ≡ bytes_of_longs ((head ++ file.d) ++ (file.a ++ tail)) = parted lo n head file.d (file.a ++ tail) bytes whole in
    let behind_a : part lo n bytes ≡ bytes_of_longs (((head ++ file.d) ++ file.a) ++ tail) = parted lo n (head ++ file.d) file.a tail bytes behind_d in
    let count : length ((head ++ file.d) ++ file.a) ≡ 24 = omega (arith, length-append (head ++ file.d) file.a, length-append head file.d, ok.data_registers.count, ok.address_registers.count, eight) in
    let at : (k c : ℕ) → c ≡ lo + 96 + 4 * k → k < 4 → get_or tail k 0 < 2 ^ 32 → long_at c bytes ≡ get_or tail k 0
    = λ k c here small fits. long-behind lo n c k ((head ++ file.d) ++ file.a) tail bytes behind_a (omega (arith, count)) small fits in
    let bits : long_at (lo + 32 + 68) bytes ≡ ccr_bits file.ccr = at 1 (lo + 32 + 68) (omega arith) (lit< tt) (ccr-small file.ccr) in
    let one : long_at (lo + 32 + 72) bytes ≡ 0 = at 2 (lo + 32 + 72) (omega arith) (lit< tt) (lit< tt) in
    let two : long_at (lo + 32 + 76) bytes ≡ 0 = at 3 (lo + 32 + 76) (omega arith) (lit< tt) (lit< tt) in
    let small : ccr_bits file.ccr < 32 = bits-small file.ccr in
    let first : nat_lt (long_at (lo + 32 + 68) bytes) 32 ≡ true = grind (arith, nat_tests) in
    and_from _ _ first (and_from _ _ (ap (λ x. x == 0) one) (ap (λ x. x == 0) two))

ppc-holds : (lo n : ℕ) (head : List ℕ) (file : RegsPpc) (bytes : List ℕ) → length head ≡ 8 → part lo n bytes ≡ bytes_of_longs (head ++ (longs_of_ppc file ++ (0 ∷ 0 ∷ 0 ∷ []))) → IsFile (Ppc file) → holds_file set_ppc (lo + 32) bytes ≡ true
ppc-holds lo n head file bytes eight piece ok =
    let tail = file.cr ∷ file.lr ∷ file.ctr ∷ file.xer ∷ file.pc ∷ 0 ∷ 0 ∷ 0 ∷ [] in
    let whole : part lo n bytes ≡ bytes_of_longs (head ++ (file.gpr ++ tail)) = piece ∙ ap (λ xs. bytes_of_longs (head ++ xs)) (ppc-longs file (0 ∷ 0 ∷ 0 ∷ [])) in
    let behind : part lo n bytes ≡ bytes_of_longs ((head ++ file.gpr) ++ tail) = parted lo n head file.gpr tail bytes whole in
    let count : length (head ++ file.gpr) ≡ 40 = omega (arith, length-append head file.gpr, ok.general.count, eight) in
    let at : (k c : ℕ) → c ≡ lo + 160 + 4 * k → k < 8 → get_or tail k 0 < 2 ^ 32 → long_at c bytes ≡ get_or tail k 0
    = λ k c here small fits. long-behind lo n c k (head ++ file.gpr) tail bytes behind (omega (arith, count)) small fits in
    let one : long_at (lo + 32 + 148) bytes ≡ 0 = at 5 (lo + 32 + 148) (omega arith) (lit< tt) (lit< tt) in
    let two : long_at (lo + 32 + 152) bytes ≡ 0 = at 6 (lo + 32 + 152) (omega arith) (lit< tt) (lit< tt) in
    let three : long_at (lo + 32 + 156) bytes ≡ 0 = at 7 (lo + 32 + 156) (omega arith) (lit< tt) (lit< tt) in
    and_from _ _ (ap (λ x. x == 0) one) (and_from _ _ (ap (λ x. x == 0) two) (ap (λ x. x == 0) three))

pub file-holds : (lo n : ℕ) (head : List ℕ) (file : Active) (bytes : List ℕ) → length head ≡ 8 → part lo n bytes ≡ bytes_of_longs (head ++ (longs_of_file file ++ fill_of (isa_of file))) → IsFile file → holds_file (isa_of file) (lo + 32) bytes ≡ true
file-holds lo n head (M68 file) bytes eight piece ok = m68-holds lo n head file bytes eight piece ok
file-holds lo n head (Ppc file) bytes eight piece ok = ppc-holds lo n head file bytes eight piece ok
