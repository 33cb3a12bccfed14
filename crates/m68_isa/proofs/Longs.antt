-- A register file and its longs give each other back.
use Rattle.std.proofs.Common.{ℕ, ◌≡◌, ◌+◌, ◌<◌, ◌%◌, List, [], ◌∷◌, ◌++◌, ◌-◌, ◌≤◌, length, take, drop, get_or, set, slice_index, refl, ap, sym, subst, ◌∙◌, arith, Bool, true, false, length-append}
use Rattle.std.proofs.Math.Seq.{take-append_seam, drop-append_seam, drop-cons}
use Rattle.std.proofs.lemmas.List.{take-append-drop, get_or-append_right, set-append_right, get_or-drop, length-drop, drop_all}
use borrow.Rule.Slice.PartMut.{put_mid}
use Rattle.m68_isa.specs.declared.registers.Ccr.{Ccr}
use Rattle.m68_isa.specs.declared.registers.Regs68.{Regs68}
use Rattle.m68_isa.specs.Registers.{ccr_bits, ccr_of}
use Rattle.m68_isa.specs.Longs.{longs_of, file_of}
use Rattle.m68_isa.proofs.Bits.{read_back}

codes_back : (x n z v c : Bool) → let code : Ccr = record { x = x; n = n; z = z; v = v; c = c } in ccr_of (ccr_bits code) ≡ code
codes_back true true true true true = refl
codes_back true true true true false = refl
codes_back true true true false true = refl
codes_back true true true false false = refl
codes_back true true false true true = refl
codes_back true true false true false = refl
codes_back true true false false true = refl
codes_back true true false false false = refl
codes_back true false true true true = refl
codes_back true false true true false = refl
codes_back true false true false true = refl
codes_back true false true false false = refl
codes_back true false false true true = refl
codes_back true false false true false = refl
codes_back true false false false true = refl
codes_back true false false false false = refl
codes_back false true true true true = refl
codes_back false true true true false = refl
codes_back false true true false true = refl
codes_back false true true false false = refl
codes_back false true false true true = refl
codes_back false true false true false = refl
codes_back false true false false true = refl
codes_back false true false false false = refl
codes_back false false true true true = refl
codes_back false false true true false = refl
codes_back false false true false true = refl
codes_back false false true false false = refl
codes_back false false false true true = refl
codes_back false false false true false = refl
codes_back false false false false true = refl
codes_back false false false false false = refl

seam : (n : ℕ) (xs ys : List ℕ) → length xs ≡ n → take n (xs ++ ys) ≡ xs
seam n xs ys e = subst (λ k. take k (xs ++ ys) ≡ xs) e (take-append_seam xs ys)

past : (n : ℕ) (xs ys : List ℕ) → length xs ≡ n → drop n (xs ++ ys) ≡ ys
past n xs ys e = subst (λ k. drop k (xs ++ ys) ≡ ys) e (drop-append_seam xs ys)

-- a number behind two lists of eight
behind : (xs ys zs : List ℕ) (k : ℕ) → length xs ≡ 8 → length ys ≡ 8 → get_or (xs ++ (ys ++ zs)) (16 + k) 0 ≡ get_or zs k 0
behind xs ys zs k x y =
    let first : 8 ≤ 16 + k = omega arith in
    let second : 8 ≤ 16 + k - 8 = omega arith in
    let left : 16 + k - 8 - 8 ≡ k = omega arith in
    get_or-append_right xs (ys ++ zs) 8 (16 + k) 0 x first
    ∙ (get_or-append_right ys zs 8 (16 + k - 8) 0 y second ∙ ap (λ n. get_or zs n 0) left)

pub file_back : (file : Regs68) → length file.d ≡ 8 → length file.a ≡ 8 → file_of (longs_of file) ≡ file
file_back file d a =
    let rest : List ℕ = file.pc ∷ ccr_bits file.ccr ∷ [] in
    let a-back = ap (λ xs. take 8 xs) (past 8 file.d (file.a ++ rest) d) ∙ seam 8 file.a rest a in
    let ccr-back = ap ccr_of (behind file.d file.a rest 1 d a) ∙ codes_back file.ccr.x file.ccr.n file.ccr.z file.ccr.v file.ccr.c in
    λ i. record { d = seam 8 file.d (file.a ++ rest) d i; a = a-back i; pc = behind file.d file.a rest 0 d a i; ccr = ccr-back i }

set_behind : (xs ys zs : List ℕ) (k v : ℕ) → length xs ≡ 8 → length ys ≡ 8 → set (xs ++ (ys ++ zs)) (16 + k) v ≡ xs ++ (ys ++ set zs k v)
set_behind xs ys zs k v x y =
    let first : 8 ≤ 16 + k = omega arith in
    let second : 8 ≤ 16 + k - 8 = omega arith in
    let left : 16 + k - 8 - 8 ≡ k = omega arith in
    set-append_right xs (ys ++ zs) 8 (16 + k) v x first
    ∙ ap (λ t. xs ++ t) (set-append_right ys zs 8 (16 + k - 8) v y second ∙ ap (λ n. ys ++ set zs n v) left)

-- the last two of ten numbers
last_two : (xs : List ℕ) → length xs ≡ 10 → drop 8 xs ≡ get_or xs 8 0 ∷ get_or xs 9 0 ∷ []
last_two xs n =
    let eight : 8 < length xs = omega arith in
    let nine : 9 < length xs = omega arith in
    drop-cons xs 8 0 eight ∙ ap (λ t. get_or xs 8 0 ∷ t) (drop-cons xs 9 0 nine ∙ ap (λ t. get_or xs 9 0 ∷ t) (drop_all 10 xs (omega arith)))

pub longs_back : (longs : List ℕ) → length longs ≡ 18 → slice_index longs 17 < 32 → longs_of (file_of longs) ≡ longs
longs_back longs n few =
    let rest : List ℕ = drop 8 longs in
    let ten : length rest ≡ 10 = length-drop 8 longs ∙ omega arith in
    let pc : get_or rest 8 0 ≡ get_or longs 16 0 = get_or-drop 8 longs 8 0 in
    let bits : get_or rest 9 0 ≡ get_or longs 17 0 = get_or-drop 8 longs 9 0 in
    let low : get_or longs 17 0 % 32 ≡ get_or longs 17 0 = omega arith in
    let two : drop 8 rest ≡ get_or longs 16 0 ∷ get_or longs 17 0 ∷ [] = last_two rest ten ∙ (λ i. pc i ∷ bits i ∷ []) in
    (λ i. take 8 longs ++ (take 8 rest ++ (get_or longs 16 0 ∷ (read_back (get_or longs 17 0) ∙ low) i ∷ [])))
    ∙ ((λ i. take 8 longs ++ (take 8 rest ++ sym two i))
    ∙ (ap (λ xs. take 8 longs ++ xs) (take-append-drop 8 rest) ∙ take-append-drop 8 longs))

pub count : (file : Regs68) → length file.d ≡ 8 → length file.a ≡ 8 → length (longs_of file) ≡ 18
count file d a =
    let rest : List ℕ = file.pc ∷ ccr_bits file.ccr ∷ [] in
    omega (arith, length-append file.d (file.a ++ rest), length-append file.a rest)

-- eighteen numbers, written over as two lists of eight and two numbers
pub written :
    (longs d a : List ℕ) (pc bits : ℕ) → length longs ≡ 18 → length d ≡ 8 → length a ≡ 8
    → set (set (put_mid 8 8 (d ++ drop 8 longs) a) 16 pc) 17 bits ≡ d ++ (a ++ (pc ∷ bits ∷ []))
written longs d a pc bits n e f =
    let t : List ℕ = drop 8 longs in
    let ten : length t ≡ 10 = length-drop 8 longs ∙ omega arith in
    let p : ℕ = get_or t 8 0 in
    let q : ℕ = get_or t 9 0 in
    let two : drop 8 (drop 8 (d ++ t)) ≡ p ∷ q ∷ [] = ap (λ xs. drop 8 xs) (past 8 d t e) ∙ last_two t ten in
    let all : put_mid 8 8 (d ++ t) a ≡ d ++ (a ++ (p ∷ q ∷ [])) = λ i. seam 8 d t e i ++ (a ++ two i) in
    ap (λ xs. set (set xs 16 pc) 17 bits) all
    ∙ (ap (λ xs. set xs 17 bits) (set_behind d a (p ∷ q ∷ []) 0 pc e f) ∙ set_behind d a (pc ∷ q ∷ []) 1 bits e f)
