-- The words behind an instruction say nothing of it.
use Rattle.std.proofs.Common.{◌≡◌, ℕ, zero, suc, ◌<◌, ◌≤◌, nat_lt, List, [], ◌∷◌, length, take, slice_index, Bool, true, false, if◌then◌else◌, arith, refl, ap, subst, sym, ◌∙◌}
use Rattle.std.proofs.lemmas.Bool.Decides.{nat_tests}
use Rattle.m68_isa.specs.declared.found.Found.{Found}
use Rattle.m68_isa.specs.declared.found.Found.TheVariants.{Made, Privileged as RowPrivileged, Illegal as RowIllegal}
use Rattle.m68_isa.specs.declared.instructions.Decoded68.{Decoded68}
use Rattle.m68_isa.specs.declared.instructions.Decoded68.TheVariants.{Op, LineA, LineF, Privileged, Illegal, Short}
use Rattle.m68_isa.specs.declared.instructions.Instr68.{Instr68}
use Rattle.m68_isa.specs.declared.op.Op68.{Op68}
use Rattle.m68_isa.specs.declared.op.Op68.TheVariants.{LineA as OpLineA, LineF as OpLineF}
use Rattle.m68_isa.specs.Decode.{decoded, ended}
use Rattle.m68_isa.specs.Operations.{operation, read}
use Rattle.m68_isa.specs.First.{First, first_of}
use Rattle.m68_isa.specs.inner.First.{IsFirst}
use Rattle.m68_isa.specs.Made.{made}
use Rattle.m68_isa.proofs.ByOperation.{by_operation}
use Rattle.m68_text.specs.Instructions.{operands}
use Rattle.asm_m68.specs.laws.Assembly.{count_of}
use Rattle.asm_m68.specs.laws.AssemblyLaws.{NoneIsMissing}
use Rattle.asm_m68.proofs.Alike.{Agree, IsSame, MakesSame}
use Rattle.asm_m68.proofs.Same.{same}

-- Words.

made_same : (at : ℕ) (ws vs : List ℕ) (found other : Found) (i : Instr68) (used : ℕ) (good : Bool) → IsSame at ws vs found other → found ≡ Made i used good → Agree ws vs used → MakesSame at ws vs i used good other
made_same at ws vs found other i used good same is a = let h : IsSame at ws vs (Made i used good) other = subst (λ x. IsSame at ws vs x other) is same in h a

take_same : (xs : List ℕ) (n k : ℕ) → k < n → slice_index xs k ≡ slice_index (take n xs) k
take_same xs zero k below = absurd (omega (arith, below))
take_same [] (suc n) k below = refl
take_same (x ∷ xs) (suc n) zero below = refl
take_same (x ∷ xs) (suc n) (suc k) below = take_same xs n k (omega (arith, below))

take_length : (xs : List ℕ) (n : ℕ) → n ≤ length xs → length (take n xs) ≡ n
take_length xs zero few = refl
take_length [] (suc n) few = absurd (nothing_left n few)
  where
    nothing_left : (m : ℕ) → suc m ≤ 0 → ⊥
    nothing_left m h = omega (arith, h)
take_length (x ∷ xs) (suc n) few = ap suc (take_length xs n (less n (length xs) few))
  where
    less : (m k : ℕ) → suc m ≤ suc k → m ≤ k
    less m k h = omega (arith, h)

-- an operation's instruction of which no word is missing
record Whole (found : Found) (count : ℕ) (i : Instr68) (used : ℕ) : Type 0 where
  made : found ≡ Made i used true
  fits : used ≤ count

not_less : (n m : ℕ) → nat_lt n m ≡ false → m ≤ n
not_less n m h = grind (arith, nat_tests)

not_self : (n : ℕ) → nat_lt n n ≡ false
not_self n = grind (arith, nat_tests)

ended_whole : (found : Found) (count : ℕ) (i : Instr68) (used : ℕ) → ended found count ≡ Op i used → Whole found count i used
ended_whole (Made j n good) count i used is = by (nat_lt count n) good refl is
  where
    by : (b c : Bool) → nat_lt count n ≡ b → (if b then Short else if c then Op j n else Illegal) ≡ Op i used → Whole (Made j n c) count i used
    by true c e h = cc
    by false true e h = let same : n ≡ used = cc in record { made = cc; fits = subst (λ m. m ≤ count) same (not_less count n e) }
    by false false e h = cc
ended_whole RowPrivileged count i used is = cc
ended_whole RowIllegal count i used is = cc

ended_of : (found : Found) (count : ℕ) (i : Instr68) (used : ℕ) → found ≡ Made i used true → count ≡ used → ended found count ≡ Op i used
ended_of found count i used is same = ap (λ x. ended x count) is ∙ ap (λ n. ended (Made i used true) n) same ∙ ap (λ b. if b then Short else Op i used) (not_self used)

read_whole : (op : Op68) (f : First) (ws : List ℕ) (i : Instr68) (used : ℕ) → read op f ws ≡ Op i used → Whole (made op f ws) (length ws) i used
read_whole OpLineA f ws i used is = cc
read_whole OpLineF f ws i used is = cc
read_whole op f ws i used is = ended_whole (made op f ws) (length ws) i used is

-- what is read of other words, of which none is missing
read_of : (op : Op68) (f : First) (ws vs : List ℕ) (i : Instr68) (used : ℕ) → read op f ws ≡ Op i used → made op f vs ≡ Made i used true → length vs ≡ used → read op f vs ≡ Op i used
read_of OpLineA f ws vs i used is same count = cc
read_of OpLineF f ws vs i used is same count = cc
read_of op f ws vs i used is same count = ended_of (made op f vs) (length vs) i used same count

-- the words of an instruction alone are the same instruction, with the same text
pub record Alone (at : ℕ) (ws : List ℕ) (i : Instr68) (used : ℕ) : Type 0 where
  pub count : length (take used ws) ≡ used
  pub decodes : decoded (take used ws) ≡ Op i used
  pub told : operands i ws at ≡ operands i (take used ws) at

first_is : (w : ℕ) → w < 65536 → IsFirst (first_of w)
first_is w below = (omega arith, omega arith, omega arith, omega arith, omega arith, omega arith)

taken_alone : (at w : ℕ) (ws : List ℕ) (i : Instr68) (used : ℕ) → decoded (w ∷ ws) ≡ Op i used → used ≤ length (w ∷ ws) → MakesSame at (w ∷ ws) (take used (w ∷ ws)) i used true (made (operation (first_of w)) (first_of w) (take used (w ∷ ws))) → Alone at (w ∷ ws) i used
taken_alone at w ws i zero is fits same = absurd (omega (arith, same.some))
taken_alone at w ws i (suc m) is fits same =
    let f : First = first_of w in
    let count : length (take (suc m) (w ∷ ws)) ≡ suc m = take_length (w ∷ ws) (suc m) fits in
    record {
      count = count;
      decodes = by_operation w (take m ws) ∙ read_of (operation f) f (w ∷ ws) (w ∷ take m ws) i (suc m) (sym (by_operation w ws) ∙ is) same.made count;
      told = same.told;
    }

pub alone : (at : ℕ) (ws : List ℕ) (i : Instr68) (used : ℕ) → slice_index ws 0 < 65536 → decoded ws ≡ Op i used → Alone at ws i used
alone at [] i used below is = cc
alone at (w ∷ ws) i used below is =
    let f : First = first_of w in
    let whole : Whole (made (operation f) f (w ∷ ws)) (length (w ∷ ws)) i used = read_whole (operation f) f (w ∷ ws) i used (sym (by_operation w ws) ∙ is) in
    taken_alone at w ws i used is whole.fits
    (made_same at (w ∷ ws) (take used (w ∷ ws)) (made (operation f) f (w ∷ ws)) (made (operation f) f (take used (w ∷ ws))) i used true (same at (w ∷ ws) (take used (w ∷ ws)) f (first_is w below) (operation f)) whole.made (record { same = λ k h. take_same (w ∷ ws) used k h }))

-- No word of an instruction is missing.

op_whole : (w : ℕ) (ws : List ℕ) (i : Instr68) (used : ℕ) → decoded (w ∷ ws) ≡ Op i used → used ≤ length (w ∷ ws)
op_whole w ws i used is = let f = first_of w in (read_whole (operation f) f (w ∷ ws) i used (sym (by_operation w ws) ∙ is)).fits

count_whole : (d : Decoded68) (w : ℕ) (ws : List ℕ) → decoded (w ∷ ws) ≡ d → count_of d ≤ length (w ∷ ws)
count_whole (Op i used) w ws is = op_whole w ws i used is
count_whole (LineA v) w ws is = omega arith
count_whole LineF w ws is = omega arith
count_whole Privileged w ws is = omega arith
count_whole Illegal w ws is = omega arith
count_whole Short w ws is = omega arith

pub none_missing : NoneIsMissing
none_missing [] = omega arith
none_missing (w ∷ ws) = count_whole (decoded (w ∷ ws)) w ws refl
