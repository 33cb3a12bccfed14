-- A register file and its longs determine each other.
use Rattle.std.proofs.Common.{◌≡◌, ℕ, ◌-◌, List, [], ◌∷◌, ◌++◌, length, take, drop, get_or, arith, lit≤, ap, subst, ◌∙◌}
use borrow.Rule.Slice.PartMut.{put_mid}
use Rattle.std.proofs.Math.Seq.{take-append_seam, drop-append_seam, drop-cons}
use Rattle.std.proofs.Math.ListN.{drop_of_length-le}
use Rattle.std.proofs.lemmas.List.{append-nil, get_or-append_right, length-append, take-append-drop}
use Rattle.ppc_isa.specs.declared.registers.RegsPpc.{RegsPpc}
use Rattle.ppc_isa.specs.Longs.{longs_of, file_of}

pub count : (file : RegsPpc) → length file.gpr ≡ 32 → length (longs_of file) ≡ 37
count file h = omega (arith, h, length-append file.gpr (file.cr ∷ file.lr ∷ file.ctr ∷ file.xer ∷ file.pc ∷ []))

pub file_back : (file : RegsPpc) → length file.gpr ≡ 32 → file_of (longs_of file) ≡ file
file_back r h =
    let rest : List ℕ = r.cr ∷ r.lr ∷ r.ctr ∷ r.xer ∷ r.pc ∷ [] in
    let registers : take 32 (r.gpr ++ rest) ≡ r.gpr = subst (λ n. take n (r.gpr ++ rest) ≡ r.gpr) h (take-append_seam r.gpr rest) in
    let cr : get_or (r.gpr ++ rest) 32 0 ≡ r.cr = get_or-append_right r.gpr rest 32 32 0 h (lit≤ tt) in
    let lr : get_or (r.gpr ++ rest) 33 0 ≡ r.lr = get_or-append_right r.gpr rest 32 33 0 h (lit≤ tt) in
    let ctr : get_or (r.gpr ++ rest) 34 0 ≡ r.ctr = get_or-append_right r.gpr rest 32 34 0 h (lit≤ tt) in
    let xer : get_or (r.gpr ++ rest) 35 0 ≡ r.xer = get_or-append_right r.gpr rest 32 35 0 h (lit≤ tt) in
    let pc : get_or (r.gpr ++ rest) 36 0 ≡ r.pc = get_or-append_right r.gpr rest 32 36 0 h (lit≤ tt) in
    let same : file_of (longs_of r) ≡ record { gpr = r.gpr; cr = r.cr; lr = r.lr; ctr = r.ctr; xer = r.xer; pc = r.pc } = cc in
    same

pub longs_back : (longs : List ℕ) → length longs ≡ 37 → longs_of (file_of longs) ≡ longs
longs_back longs h =
    let e32 : drop 32 longs ≡ get_or longs 32 0 ∷ drop 33 longs = drop-cons longs 32 0 (omega (arith, h)) in
    let e33 : drop 33 longs ≡ get_or longs 33 0 ∷ drop 34 longs = drop-cons longs 33 0 (omega (arith, h)) in
    let e34 : drop 34 longs ≡ get_or longs 34 0 ∷ drop 35 longs = drop-cons longs 34 0 (omega (arith, h)) in
    let e35 : drop 35 longs ≡ get_or longs 35 0 ∷ drop 36 longs = drop-cons longs 35 0 (omega (arith, h)) in
    let e36 : drop 36 longs ≡ get_or longs 36 0 ∷ drop 37 longs = drop-cons longs 36 0 (omega (arith, h)) in
    let end : drop 37 longs ≡ [] = drop_of_length-le longs {i = 37} (omega (arith, h)) in
    let whole : take 32 longs ++ drop 32 longs ≡ longs = take-append-drop 32 longs in
    cc

-- 37 longs whose first 32 and then the others were written
pub both_written : (first second p q longs : List ℕ) → p ≡ first → q ≡ second → length first ≡ 32 → length second ≡ 5 → length longs ≡ 37 → put_mid 32 (length (p ++ drop 32 longs) - 32) (p ++ drop 32 longs) q ≡ first ++ second
both_written first second p q longs ep eq h1 h2 h =
    let rest : List ℕ = drop 32 longs in
    let all : List ℕ = first ++ rest in
    let before : take 32 all ≡ first = subst (λ n. take n all ≡ first) h1 (take-append_seam first rest) in
    let after : drop 32 all ≡ rest = subst (λ n. drop n all ≡ rest) h1 (drop-append_seam first rest) in
    let none : drop (length all - 32) rest ≡ [] = drop_of_length-le rest {i = length all - 32} (omega (arith, h1, length-append first rest)) in
    let gone : drop (length all - 32) (drop 32 all) ≡ [] = ap (drop (length all - 32)) after ∙ none in
    let same : put_mid 32 (length all - 32) all second ≡ first ++ second = cc (append-nil second) in
    rw (ep, eq) same
