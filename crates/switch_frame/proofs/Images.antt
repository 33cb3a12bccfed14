-- What stands in a frame, read by its layout, is the record.
use Rattle.std.proofs.Common.{◌≡◌, ℕ, ◌+◌, ◌*◌, ◌/◌, ◌%◌, ◌^◌, ◌<◌, ◌≤◌, ◌==◌, Bool, true, false, lit<, lit≤, List, [], ◌∷◌, ◌++◌, length, get_or, Some, unwrap_or, arith, ap, ◌∙◌, refl}
use Rattle.std.specs.Int.{from_bool}
use Rattle.std.proofs.lemmas.List.{append_assoc, length-append}
use Rattle.m68_isa.specs.declared.registers.Ccr.{Ccr}
use Rattle.m68_isa.specs.declared.registers.Regs68.{Regs68}
use Rattle.m68_isa.specs.Registers.{ccr_bits, ccr_of}
use Rattle.m68_isa.specs.Longs.{longs_of as longs_of_m68}
use Rattle.ppc_isa.specs.Longs.{longs_of as longs_of_ppc}
use Rattle.ppc_isa.specs.declared.registers.RegsPpc.{RegsPpc}
use Rattle.big_memory.specs.Lists.{part}
use Rattle.switch_frame.specs.declared.active.Active.{Active}
use Rattle.switch_frame.specs.declared.active.Active.TheVariants.{M68, Ppc}
use Rattle.switch_frame.specs.declared.kind.Kind.{Kind}
use Rattle.switch_frame.specs.declared.kind.Kind.TheVariants.{M68ToPpc, PpcToM68, PpcToPpc, M68ToM68}
use Rattle.big_memory.specs.Numbers.{long_at, longs_at, bytes_of_longs}
use Rattle.switch_frame.specs.Sets.{caller_isa, kind_code, kind_at, kind_told, frame_size}
use Rattle.switch_frame.specs.Records.{Record, fill_of, head_of, isa_of, longs_of_file, image, file_at, record_at, m68_at, ppc_at}
use Rattle.switch_frame.specs.inner.Parts.{longs_of}
use Rattle.switch_frame.specs.Chain.{AreM68, ArePpc, IsFile}
use Rattle.big_memory.proofs.Numbers.{length_of_bytes, long_of_part, longs_of_part}
use Rattle.switch_frame.proofs.Pieces.{long-behind, parted}

-- structs with the same fields are the same
ccr-same : (s t : Ccr) → s.x ≡ t.x → s.n ≡ t.n → s.z ≡ t.z → s.v ≡ t.v → s.c ≡ t.c → s ≡ t
ccr-same s t x n z v c = λ i. record { x = x i; n = n i; z = z i; v = v i; c = c i }

m68-same : (s t : Regs68) → s.d ≡ t.d → s.a ≡ t.a → s.pc ≡ t.pc → s.ccr ≡ t.ccr → s ≡ t
m68-same s t d a pc ccr = λ i. record { d = d i; a = a i; pc = pc i; ccr = ccr i }

ppc-same : (s t : RegsPpc) → s.gpr ≡ t.gpr → s.cr ≡ t.cr → s.lr ≡ t.lr → s.ctr ≡ t.ctr → s.xer ≡ t.xer → s.pc ≡ t.pc → s ≡ t
ppc-same s t gpr cr lr ctr xer pc = λ i. record { gpr = gpr i; cr = cr i; lr = lr i; ctr = ctr i; xer = xer i; pc = pc i }

record-same : (s t : Record) → s.kind ≡ t.kind → s.caller ≡ t.caller → s.info ≡ t.info → s.selector ≡ t.selector → s.target ≡ t.target → s.lo ≡ t.lo → s.hi ≡ t.hi → s.want ≡ t.want → s ≡ t
record-same s t kind caller info selector target lo hi want =
    λ i. record { kind = kind i; caller = caller i; info = info i; selector = selector i; target = target i; lo = lo i; hi = hi i; want = want i }

-- a bit below others
bit-low : (q : ℕ) (b : Bool) → ((2 * q + from_bool b) % 2 == 1) ≡ b
bit-low q true = let one : (2 * q + 1) % 2 ≡ 1 = omega arith in rw one refl
bit-low q false = let none : (2 * q + 0) % 2 ≡ 0 = omega arith in rw none refl

pub bit-small : (b : Bool) → from_bool b < 2
bit-small true = lit< tt
bit-small false = lit< tt

-- the condition codes in their bits
ccr-fields : (x n z v c : Bool) (bits : ℕ) → bits ≡ 16 * from_bool x + 8 * from_bool n + 4 * from_bool z + 2 * from_bool v + from_bool c
    → (bits / 16 ≡ 2 * 0 + from_bool x) × (bits / 8 ≡ 2 * from_bool x + from_bool n) × (bits / 4 ≡ 2 * (2 * from_bool x + from_bool n) + from_bool z)
    × (bits / 2 ≡ 2 * (4 * from_bool x + 2 * from_bool n + from_bool z) + from_bool v) × (bits ≡ 2 * (8 * from_bool x + 4 * from_bool n + 2 * from_bool z + from_bool v) + from_bool c)
ccr-fields x n z v c bits e =
    let a = bit-small x in let b = bit-small n in let d = bit-small z in let f = bit-small v in let g = bit-small c in
    (omega arith, omega arith, omega arith, omega arith, omega arith)

bit-at : (w q : ℕ) (b : Bool) → w ≡ 2 * q + from_bool b → (w % 2 == 1) ≡ b
bit-at w q b e = rw e (bit-low q b)

pub ccr-back : (c : Ccr) → ccr_of (ccr_bits c) ≡ c
ccr-back c =
    let f = ccr-fields c.x c.n c.z c.v c.c (ccr_bits c) refl in
    let x = bit-at (ccr_bits c / 16) 0 c.x f.0 in
    let n = bit-at (ccr_bits c / 8) (from_bool c.x) c.n f.1 in
    let z = bit-at (ccr_bits c / 4) (2 * from_bool c.x + from_bool c.n) c.z f.2 in
    let v = bit-at (ccr_bits c / 2) (4 * from_bool c.x + 2 * from_bool c.n + from_bool c.z) c.v f.3 in
    let e = bit-at (ccr_bits c) (8 * from_bool c.x + 4 * from_bool c.n + 2 * from_bool c.z + from_bool c.v) c.c f.4 in
    ccr-same _ c x n z v e

pub ccr-small : (c : Ccr) → ccr_bits c < 2 ^ 32
ccr-small c =
    let a = bit-small c.x in let b = bit-small c.n in let d = bit-small c.z in let f = bit-small c.v in let g = bit-small c.c in omega arith

pub kind-back : (kind : Kind) → kind_at (kind_code kind) ≡ Some kind
kind-back M68ToPpc = refl
kind-back PpcToM68 = refl
kind-back PpcToPpc = refl
kind-back M68ToM68 = refl

pub kind-small : (kind : Kind) → kind_code kind < 2 ^ 32
kind-small M68ToPpc = lit< tt
kind-small PpcToM68 = lit< tt
kind-small PpcToPpc = lit< tt
kind-small M68ToM68 = lit< tt

-- the longs of a register file, with others behind them
pub m68-longs : (file : Regs68) (behind : List ℕ) → longs_of_m68 file ++ behind ≡ file.d ++ (file.a ++ (file.pc ∷ ccr_bits file.ccr ∷ behind))
m68-longs file behind =
    let tail = file.pc ∷ ccr_bits file.ccr ∷ [] in
    append_assoc file.d (file.a ++ tail) behind ∙ ap (λ xs. file.d ++ xs) (append_assoc file.a tail behind)

pub ppc-longs : (file : RegsPpc) (behind : List ℕ) → longs_of_ppc file ++ behind ≡ file.gpr ++ (file.cr ∷ file.lr ∷ file.ctr ∷ file.xer ∷ file.pc ∷ behind)
ppc-longs file behind = append_assoc file.gpr (file.cr ∷ file.lr ∷ file.ctr ∷ file.xer ∷ file.pc ∷ []) behind

-- the registers of a caller behind the head of its frame
m68-back : (a n b : ℕ) (head : List ℕ) (file : Regs68) (bytes : List ℕ) → part a n bytes ≡ bytes_of_longs (head ++ (longs_of_m68 file ++ (0 ∷ 0 ∷ []))) → b ≡ a + 4 * length head → AreM68 file.d file.a file.pc → m68_at b bytes ≡ file
m68-back a n b head file bytes piece place ok =
    let tail = file.pc ∷ ccr_bits file.ccr ∷ 0 ∷ 0 ∷ [] in
    let whole : part a n bytes ≡ bytes_of_longs (head ++ (file.d ++ (file.a ++ tail))) = piece ∙ ap (λ xs. bytes_of_longs (head ++ xs)) (m68-longs file (0 ∷ 0 ∷ [])) in
    let behind_d : part a n bytes ≡ bytes_of_longs ((head ++ file.d) ++ (file.a ++ tail)) = parted a n head file.d (file.a ++ tail) bytes whole in
    let behind_a : part a n bytes ≡ bytes_of_longs (((head ++ file.d) ++ file.a) ++ tail) = parted a n (head ++ file.d) file.a tail bytes behind_d in
    let count_d : length (head ++ file.d) ≡ length head + 8 = length-append head file.d ∙ ap (λ k. length head + k) ok.data_registers.count in
    let count_a : length ((head ++ file.d) ++ file.a) ≡ length head + 16 = omega (arith, length-append (head ++ file.d) file.a, ok.address_registers.count, count_d) in
    let d : longs_at 8 b bytes ≡ file.d = longs_of_part a n b 8 head file.d (file.a ++ tail) bytes whole place ok.data_registers in
    let a_is : longs_at 8 (b + 32) bytes ≡ file.a = longs_of_part a n (b + 32) 8 (head ++ file.d) file.a tail bytes behind_d (omega (arith, count_d)) ok.address_registers in
    let pc : long_at (b + 64) bytes ≡ file.pc = long-behind a n (b + 64) 0 ((head ++ file.d) ++ file.a) tail bytes behind_a (omega (arith, count_a)) (lit< tt) ok.pc_fits in
    let bits : long_at (b + 68) bytes ≡ ccr_bits file.ccr = long-behind a n (b + 68) 1 ((head ++ file.d) ++ file.a) tail bytes behind_a (omega (arith, count_a)) (lit< tt) (ccr-small file.ccr) in
    m68-same _ file d a_is pc (ap ccr_of bits ∙ ccr-back file.ccr)

ppc-back : (a n b : ℕ) (head : List ℕ) (file : RegsPpc) (bytes : List ℕ) → part a n bytes ≡ bytes_of_longs (head ++ (longs_of_ppc file ++ (0 ∷ 0 ∷ 0 ∷ []))) → b ≡ a + 4 * length head → ArePpc file.gpr file.cr file.lr file.ctr file.xer file.pc → ppc_at b bytes ≡ file
ppc-back a n b head file bytes piece place ok =
    let tail = file.cr ∷ file.lr ∷ file.ctr ∷ file.xer ∷ file.pc ∷ 0 ∷ 0 ∷ 0 ∷ [] in
    let whole : part a n bytes ≡ bytes_of_longs (head ++ (file.gpr ++ tail)) = piece ∙ ap (λ xs. bytes_of_longs (head ++ xs)) (ppc-longs file (0 ∷ 0 ∷ 0 ∷ [])) in
    let behind : part a n bytes ≡ bytes_of_longs ((head ++ file.gpr) ++ tail) = parted a n head file.gpr tail bytes whole in
    let count : length (head ++ file.gpr) ≡ length head + 32 = length-append head file.gpr ∙ ap (λ k. length head + k) ok.general.count in
    let at : (k c : ℕ) → c ≡ b + 128 + 4 * k → k < 8 → get_or tail k 0 < 2 ^ 32 → long_at c bytes ≡ get_or tail k 0
    = λ k c here small fits. long-behind a n c k (head ++ file.gpr) tail bytes behind (omega (arith, count)) small fits in
    let gpr : longs_at 32 b bytes ≡ file.gpr = longs_of_part a n b 32 head file.gpr tail bytes whole place ok.general in
    ppc-same _ file gpr (at 0 (b + 128) (omega arith) (lit< tt) ok.cr_fits) (at 1 (b + 132) (omega arith) (lit< tt) ok.lr_fits) (at 2 (b + 136) (omega arith) (lit< tt) ok.ctr_fits)
    (at 3 (b + 140) (omega arith) (lit< tt) ok.xer_fits) (at 4 (b + 144) (omega arith) (lit< tt) ok.pc_fits)

file-back : (a n b : ℕ) (head : List ℕ) (file : Active) (bytes : List ℕ) → part a n bytes ≡ bytes_of_longs (head ++ (longs_of_file file ++ fill_of (isa_of file))) → b ≡ a + 4 * length head → IsFile file → file_at (isa_of file) b bytes ≡ file
file-back a n b head (M68 file) bytes piece place ok = ap M68 (m68-back a n b head file bytes piece place ok)
file-back a n b head (Ppc file) bytes piece place ok = ap Ppc (ppc-back a n b head file bytes piece place ok)

-- how many longs a frame has
pub length-file : (file : Active) → IsFile file → 4 * length (longs_of_file file ++ fill_of (isa_of file)) + 32 ≡ frame_size (isa_of file)
length-file (M68 file) ok = rw (m68-longs file (0 ∷ 0 ∷ [])) (omega (arith, length-append file.d (file.a ++ (file.pc ∷ ccr_bits file.ccr ∷ 0 ∷ 0 ∷ [])), length-append file.a (file.pc ∷ ccr_bits file.ccr ∷ 0 ∷ 0 ∷ []), ok.data_registers.count, ok.address_registers.count))
length-file (Ppc file) ok = rw (ppc-longs file (0 ∷ 0 ∷ 0 ∷ [])) (omega (arith, length-append file.gpr (file.cr ∷ file.lr ∷ file.ctr ∷ file.xer ∷ file.pc ∷ 0 ∷ 0 ∷ 0 ∷ []), ok.general.count))

pub length-image : (r : Record) (outer depth : ℕ) → IsFile r.caller → length (image r outer depth) ≡ frame_size (isa_of r.caller)
length-image r outer depth ok = omega (arith, length_of_bytes (longs_of r outer depth), length-file r.caller ok)

pub size-least : (file : Active) → 112 ≤ frame_size (isa_of file)
size-least (M68 file) = lit≤ tt
size-least (Ppc file) = lit≤ tt

-- a frame's bytes, read by the layout
pub record IsReadAt (bytes : List ℕ) (r : Record) (outer depth : ℕ) : Type 0 where
  pub record_is : record_at r.lo bytes ≡ r
  pub outer_is : long_at r.lo bytes ≡ outer
  pub depth_is : long_at (r.lo + 28) bytes ≡ depth
  pub kind_is : long_at (r.lo + 4) bytes ≡ kind_code r.kind

pub image-back : (bytes : List ℕ) (n : ℕ) (r : Record) (outer depth : ℕ) → part r.lo n bytes ≡ image r outer depth → IsFile r.caller → caller_isa r.kind ≡ isa_of r.caller
    → outer < 2 ^ 32 → depth < 2 ^ 32 → r.info < 2 ^ 32 → r.selector < 2 ^ 32 → r.target < 2 ^ 32 → r.hi < 2 ^ 32 → r.want < 2 ^ 32 → IsReadAt bytes r outer depth
image-back bytes n r outer depth piece ok set o d i s t h w =
    let head = head_of r outer depth in
    let longs = longs_of r outer depth in
    let at : (k c : ℕ) → c ≡ r.lo + 4 * k → k < 8 → get_or longs k 0 < 2 ^ 32 → long_at c bytes ≡ get_or longs k 0
    = λ k c here small fits. ap (λ b. long_at b bytes) here ∙ long_of_part r.lo n longs bytes k piece (omega arith) fits in
    let kind : long_at (r.lo + 4) bytes ≡ kind_code r.kind = at 1 (r.lo + 4) (omega arith) (lit< tt) (kind-small r.kind) in
    let kind_is : kind_told (long_at (r.lo + 4) bytes) ≡ r.kind = ap kind_told kind ∙ ap (λ k. unwrap_or k M68ToPpc) (kind-back r.kind) in
    let file : file_at (caller_isa (kind_told (long_at (r.lo + 4) bytes))) (r.lo + 32) bytes ≡ r.caller
    = ap (λ k. file_at (caller_isa k) (r.lo + 32) bytes) kind_is ∙ ap (λ isa. file_at isa (r.lo + 32) bytes) set ∙ file-back r.lo n (r.lo + 32) head r.caller bytes piece refl ok in
    record {
      record_is = record-same _ r kind_is file (at 2 (r.lo + 8) (omega arith) (lit< tt) i) (at 3 (r.lo + 12) (omega arith) (lit< tt) s) (at 4 (r.lo + 16) (omega arith) (lit< tt) t)
          refl (at 5 (r.lo + 20) (omega arith) (lit< tt) h) (at 6 (r.lo + 24) (omega arith) (lit< tt) w);
      outer_is = at 0 r.lo (omega arith) (lit< tt) o;
      depth_is = at 7 (r.lo + 28) (omega arith) (lit< tt) d;
      kind_is = kind;
    }
