-- A step leaves the code of this set at a word of line A alone, and by that word.
use Rattle.std.proofs.Common.{◌≡◌, ℕ, ◌<◌, ◌^◌, ◌∙◌, Bool, true, false, List, [], ◌∷◌, length, slice_index, Ok, Err, sym, subst, if◌then◌else◌}
use Rattle.mix_bits.specs.declared.fault.Fault.{Fault}
use Rattle.m68_isa.specs.declared.registers.Regs68.{Regs68}
use Rattle.m68_isa.specs.declared.instructions.Decoded68.{Decoded68}
use Rattle.m68_isa.specs.declared.instructions.Decoded68.TheVariants.{Op, LineA, LineF, Privileged, Illegal, Short}
use Rattle.m68_isa.specs.declared.found.Found.{Found}
use Rattle.m68_isa.specs.declared.found.Found.TheVariants.{Made, Privileged as NotAllowed, Illegal as NoInstruction}
use Rattle.m68_isa.specs.declared.op.Op68.{Op68}
use Rattle.m68_isa.specs.declared.op.Op68.TheVariants.{LineA as OpLineA, LineF as OpLineF}
use Rattle.m68_isa.specs.First.{First, first_of}
use Rattle.m68_isa.specs.Made.{made}
use Rattle.m68_isa.specs.Decode.{ended, decoded}
use Rattle.m68_isa.specs.Operations.{operation, read}
use Rattle.m68_isa.proofs.ByOperation.{by_operation}
use Rattle.big_memory.specs.declared.steps.Did.{Did}
use Rattle.big_memory.specs.declared.steps.Did.TheVariants.{Leave}
use Rattle.big_memory.specs.Memory.{Memory}
use Rattle.big_memory.specs.Steps.{After}
use Rattle.big_memory.specs.StepsClauses.{Does}
use Rattle.big_memory.specs.Steps.After.{Leaves, Stops}
use Rattle.m68_ea.specs.Words.{words_at}
use Rattle.m68_effects.specs.Parts.{Effect, after}
use Rattle.m68_effects.specs.Step.{runs_decoded, stepped}

after-stays : (x : Effect) (n : ℕ) → after x ≡ Leaves n → ⊥
after-stays (Ok (r, m)) n is = cc
after-stays (Err fault) n is = cc

runs-leaves : (r : Regs68) (m : Memory) (ws : List ℕ) (d : Decoded68) (n : ℕ) → runs_decoded r m ws d ≡ Leaves n → d ≡ LineA n
runs-leaves r m ws (Op i used) n is = absurd (after-stays _ n is)
runs-leaves r m ws (LineA w) n is = cc
runs-leaves r m ws LineF n is = cc
runs-leaves r m ws Privileged n is = cc
runs-leaves r m ws Illegal n is = cc
runs-leaves r m ws Short n is = cc

short-or : (short good : Bool) (d : Decoded68) (n : ℕ) → (d ≡ LineA n → ⊥) → (if short then Short else if good then d else Illegal) ≡ LineA n → ⊥
short-or true good d n other is = cc
short-or false true d n other is = other is
short-or false false d n other is = cc

ended-stays : (found : Found) (count n : ℕ) → ended found count ≡ LineA n → ⊥
ended-stays (Made i used good) count n is = short-or _ good (Op i used) n (λ e. cc) is
ended-stays NotAllowed count n is = cc
ended-stays NoInstruction count n is = cc

read-leaves : (op : Op68) (f : First) (ws : List ℕ) (n : ℕ) → read op f ws ≡ LineA n → n ≡ slice_index ws 0
read-leaves OpLineA f ws n is = cc
read-leaves OpLineF f ws n is = cc
read-leaves op f ws n is = absurd (ended-stays (made op f ws) (length ws) n is)

decoded-leaves : (ws : List ℕ) (n : ℕ) → decoded ws ≡ LineA n → n ≡ slice_index ws 0
decoded-leaves [] n is = cc
decoded-leaves (w ∷ ws) n is = let f = first_of w in read-leaves (operation f) f (w ∷ ws) n (sym (by_operation w ws) ∙ is)

odd-or : (odd : Bool) (fault : Fault) (x : After Regs68) (n : ℕ) → (if odd then Stops fault else x) ≡ Leaves n → x ≡ Leaves n
odd-or true fault x n is = cc
odd-or false fault x n is = is

-- the number is the first word
pub step_leaves : (r : Regs68) (m : Memory) (n : ℕ) → stepped r m ≡ Leaves n → n ≡ slice_index (words_at m r.pc) 0
unfolding stepped
step_leaves r m n is = decoded-leaves (words_at m r.pc) n (runs-leaves r m (words_at m r.pc) _ n (odd-or _ _ _ n is))

pub line_below : (r q : Regs68) (m n : Memory) (word : ℕ) (did : Did) (fault : Fault) → word < 2 ^ 16 → word ≡ slice_index (words_at m r.pc) 0 → Does (stepped r m) did fault r q m n
    → did ≡ Leave → fault.detail < 2 ^ 16
line_below r q m n word did fault below first does leaves =
    let left : Does (stepped r m) Leave fault r q m n = subst (λ d. Does (stepped r m) d fault r q m n) leaves does in
    let is : fault.detail ≡ slice_index (words_at m r.pc) 0 = step_leaves r m fault.detail left.0 in
    subst (λ v. v < 2 ^ 16) (first ∙ sym is) below

-- a step that stops doesn't leave
pub stop_stays : (r q : Regs68) (m n : Memory) (did : Did) (why fault : Fault) → Does (Stops why) did fault r q m n → did ≡ Leave → fault.detail < 2 ^ 16
stop_stays r q m n did why fault does leaves =
    let left : Does (Stops why) Leave fault r q m n = subst (λ d. Does (Stops why) d fault r q m n) leaves does in
    let is : Stops why ≡ Leaves fault.detail = left.0 in
    cc
