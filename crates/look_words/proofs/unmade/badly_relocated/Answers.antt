-- No section is told of where there is no memory.
use Rattle.std.proofs.Common.{◌∙◌, ap, ℕ, Option, Result}
use Rattle.std.specs.Result.{IfOk, IsErrAnd}
use Rattle.std.proofs.lemmas.Result.{err_from_is_err_and}
use Rattle.mix_bits.specs.Search.{least}
use Rattle.look_words.specs.inner.Unmade.{IsBadlyRelocated, is_badly_relocated}
use Rattle.look_words.proofs.unmade.badly_relocated.Goals as goal

-- a refusal tells of no section
no_section : {T E : Type 0} (r : Result T E) (P : T → Type 0) (Q : E → Type 0) → IsErrAnd r Q → IfOk r P
no_section r P Q refused = let p = err_from_is_err_and {Q = Q} r refused in rw p.1 tt

pub first_refused-requires-clause-sizes : goal.first_refused-requires-clause-sizes
first_refused-requires-clause-sizes c = c.in_ok-sections.ensures.sizes

pub returns-in_err-headers-clause-is : goal.returns-in_err-headers-clause-is
returns-in_err-headers-clause-is c = no_section c.from_residual.result (λ (section : Option ℕ). IsBadlyRelocated c.args.pef.now section) _ c.from_residual.ensures.1

pub returns-in_err-sections-clause-is : goal.returns-in_err-sections-clause-is
returns-in_err-sections-clause-is c = no_section c.from_residual-in_err-sections.result (λ (section : Option ℕ). IsBadlyRelocated c.args.pef.now section) _ c.from_residual-in_err-sections.ensures.1

pub returns-in_err-ram-clause-is : goal.returns-in_err-ram-clause-is
returns-in_err-ram-clause-is c = no_section c.from_residual-in_err-ram.result (λ (section : Option ℕ). IsBadlyRelocated c.args.pef.now section) _ c.from_residual-in_err-ram.ensures.1

pub returns-clause-is : goal.returns-clause-is
returns-clause-is c start =
    c.first_refused.ensures.is start ∙ ap (λ (n : ℕ). least (is_badly_relocated c.args.pef.now start) n) c.sections.ensures.is
