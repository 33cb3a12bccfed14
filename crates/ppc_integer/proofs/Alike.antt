-- What a step ends with, where its parts are known as equal.
use Rattle.std.proofs.Common.{◌≡◌, ℕ, Bool, ap, subst, ◌∙◌}
use Rattle.big_memory.specs.declared.steps.Did.{Did}
use Rattle.ppc_isa.specs.declared.registers.RegsPpc.{RegsPpc}
use Rattle.ppc_alu.specs.declared.arith.Arith.{Arith}
use Rattle.ppc_integer.specs.AloneClauses.{Ends}
use Rattle.ppc_integer.specs.Arithmetic.{with_arith}
use Rattle.ppc_integer.specs.File.{with_result}
use Rattle.ppc_alu.specs.Outcomes.{added}

-- registers that are equal
pub ends_with : (r s next : RegsPpc) (did : Did) → r ≡ s → Ends r did next → Ends s did next
ends_with r s next did same ends = subst (λ x. Ends x did next) same ends

-- an outcome
pub outcome_is : (r : RegsPpc) (d : ℕ) (ca oe rc : Bool) (x y : Arith) → x ≡ y → with_arith r d ca oe rc x ≡ with_arith r d ca oe rc y
outcome_is r d ca oe rc x y same = ap (with_arith r d ca oe rc) same

-- a result in a register
pub result_is : (r : RegsPpc) (n m : ℕ) (rc last : Bool) (v w : ℕ) → n ≡ m → rc ≡ last → v ≡ w → with_result r n rc v ≡ with_result r m last w
result_is r n m rc last v w place set same = ap (λ k. with_result r k rc v) place ∙ ap (λ b. with_result r m b v) set ∙ ap (with_result r m last) same

-- a function of two numbers
pub both_are : (f : ℕ → ℕ → ℕ) (x a b c d : ℕ) → x ≡ f a b → a ≡ c → b ≡ d → x ≡ f c d
both_are f x a b c d is first second = is ∙ ap (λ k. f k b) first ∙ ap (f c) second

-- a sum
pub added_is : (a b c d : ℕ) (carry ca : Bool) → a ≡ c → b ≡ d → carry ≡ ca → added a b carry ≡ added c d ca
added_is a b c d carry ca first second third = ap (λ n. added n b carry) first ∙ ap (λ n. added c n carry) second ∙ ap (added c d) third
