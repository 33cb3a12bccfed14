-- Operands and immediates depend on their own words alone.
use Rattle.std.proofs.Common.{ℕ, ◌≡◌, ◌+◌, ◌*◌, ◌%◌, ◌≤◌, ◌==◌, Bool, true, false, if◌then◌else◌, List, slice_index, refl, ap, arith}
use Rattle.mix_bits.specs.Sizes.{sign_extended}
use Rattle.mix_bits.specs.declared.size.Size.{Size}
use Rattle.mix_bits.specs.declared.size.Size.TheVariants.{Zero, One, Two, Four}
use Rattle.m68_isa.specs.declared.ea.Ea.TheVariants.{Dn, An, Ind, Post, Pre, Disp, Indexed, AbsWord, AbsLong, PcDisp, PcIndexed, Imm}
use Rattle.m68_isa.specs.declared.operand.Operand.{Operand}
use Rattle.m68_isa.specs.Operands.{long_at, index_of, is_index, immediate_words, immediate_at, plain, special_at, operand_at}
use Rattle.m68_isa.specs.laws.Needs.{AreSame}

-- an operand of at most two words from `at` on is the same with any words behind
abbrev pub IsNear : ℕ → List ℕ → List ℕ → Operand → Operand → Type 0
IsNear at ws us o p = (at ≤ o.next) × (o.next ≤ at + 2) × (AreSame o.next ws us → p ≡ o)

either : (P : Operand → Operand → Type 0) (b : Bool) (x y p q : Operand) → P x p → P y q → P (if b then x else y) (if b then p else q)
either P true x y p q first second = first
either P false x y p q first second = second

alone : (at : ℕ) (ws us : List ℕ) (o : Operand) → o.next ≡ at → IsNear at ws us o o
alone at ws us o here = (omega arith, omega arith, λ same. refl)

-- made of the one word
by_word : (at : ℕ) (ws us : List ℕ) (make : ℕ → Operand) → ((v : ℕ) → (make v).next ≡ at + 1) → IsNear at ws us (make (slice_index ws at)) (make (slice_index us at))
by_word at ws us make behind =
    let next : (make (slice_index ws at)).next ≡ at + 1 = behind (slice_index ws at) in
    (omega arith, omega arith, λ same. ap make (same at (omega arith)))

pub long_same : (at : ℕ) (ws us : List ℕ) → AreSame (at + 2) ws us → long_at us at ≡ long_at ws at
long_same at ws us same =
    let high = same at (omega arith) in
    let low = same (at + 1) (omega arith) in
    cc

pub immediate_same : (at : ℕ) (s : Size) (ws us : List ℕ) → AreSame (at + immediate_words s) ws us → immediate_at us at s ≡ immediate_at ws at s
immediate_same at Zero ws us same = refl
immediate_same at One ws us same = ap (λ v. v % 256) (same at (omega arith))
immediate_same at Two ws us same = same at (omega arith)
immediate_same at Four ws us same = long_same at ws us same

pub few_words : (s : Size) → immediate_words s ≤ 2
few_words Zero = omega arith
few_words One = omega arith
few_words Two = omega arith
few_words Four = omega arith

special_near : (ws us : List ℕ) (at : ℕ) (s : Size) (register : ℕ) → IsNear at ws us (special_at ws at s register) (special_at us at s register)
special_near ws us at s register =
    let P = IsNear at ws us in
    let few = few_words s in
    either P (register == 0) _ _ _ _ (by_word at ws us (λ v. plain (AbsWord (sign_extended v Two)) (at + 1)) (λ v. refl))
    (either P (register == 1) _ _ _ _ (omega arith, omega arith, λ same. ap (λ v. plain (AbsLong v) (at + 2)) (long_same at ws us same))
    (either P (register == 2) _ _ _ _ (by_word at ws us (λ v. plain (PcDisp (2 * at) (sign_extended v Two)) (at + 1)) (λ v. refl))
    (either P (register == 3) _ _ _ _ (by_word at ws us (λ v. record { ea = PcIndexed (2 * at) (index_of v); next = at + 1; good = is_index v }) (λ v. refl))
    (omega arith, omega arith, λ same. ap (λ v. plain (Imm v) (at + immediate_words s)) (immediate_same at s ws us same)))))

pub operand_near : (ws us : List ℕ) (at : ℕ) (s : Size) (mode register : ℕ) → IsNear at ws us (operand_at ws at s mode register) (operand_at us at s mode register)
operand_near ws us at s mode register =
    let P = IsNear at ws us in
    either P (mode == 0) _ _ _ _ (alone at ws us (plain (Dn register) at) refl)
    (either P (mode == 1) _ _ _ _ (alone at ws us (plain (An register) at) refl)
    (either P (mode == 2) _ _ _ _ (alone at ws us (plain (Ind register) at) refl)
    (either P (mode == 3) _ _ _ _ (alone at ws us (plain (Post register) at) refl)
    (either P (mode == 4) _ _ _ _ (alone at ws us (plain (Pre register) at) refl)
    (either P (mode == 5) _ _ _ _ (by_word at ws us (λ v. plain (Disp register (sign_extended v Two)) (at + 1)) (λ v. refl))
    (either P (mode == 6) _ _ _ _ (by_word at ws us (λ v. record { ea = Indexed register (index_of v); next = at + 1; good = is_index v }) (λ v. refl))
    (special_near ws us at s register)))))))
