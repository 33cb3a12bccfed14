use Rattle.std.proofs.Common.{◌≡◌, ℕ, ◌<◌, ◌≤◌, Result, Ok, Err, ap, sym, subst}
use Rattle.std.proofs.Math.Facts.{Fits-lt-pow}
use Rattle.std.proofs.lemmas.List.{length-map}
use Rattle.std.proofs.lemmas.Result.{err_from_is_err_and}
use Rattle.std.specs.Result.{IfOk}
use Rattle.rsrc_fork.specs.declared.error.RsrcError.{RsrcError}
use Rattle.rsrc_fork.specs.declared.error.RsrcError.TheVariants.{NoMemory}
use Rattle.rsrc_fork.specs.ReferencesClauses.{reference_limit}
use Rattle.rsrc_fork.proofs.Listing.{fork_is, no_fork}
use Rattle.rsrc_fork.proofs.Small.{small_is}
use Rattle.rsrc_fork.proofs.fork.Fork.read.Goals as goal

abbrev IsNone : {A : Type 0} → Result A RsrcError → Type 0
IsNone r = r ≡ Err NoMemory

-- where there are too many, no answer is a reading
none_read : {A B E : Type 0} (count : Result ℕ E) (x : A) (y : B) → IfOk count (λ n. reference_limit < n → IsNone (Ok x)) → IfOk count (λ n. reference_limit < n → IsNone (Ok y))
none_read (Ok n) x y many = λ more. absurd (let none = many more in cc)
none_read (Err e) x y many = tt

none_refused : (A B : Type 0) {E : Type 0} (count : Result ℕ E) (e : RsrcError) → IfOk count (λ n. reference_limit < n → IsNone {A = A} (Err e)) → IfOk count (λ n. reference_limit < n → IsNone {A = B} (Err e))
none_refused A B (Ok n) e many = λ more. ap Err (let none = many more in let same : e ≡ NoMemory = cc in same)
none_refused A B (Err f) e many = tt

pub returns-clause-is : goal.returns-clause-is
returns-clause-is c = c.in_ok-resources.ensures.is

pub returns-clause-fork : goal.returns-clause-fork
returns-clause-fork c = fork_is c.args.bytes.now _ c.in_ok-resources.ensures.is

pub returns-clause-few : goal.returns-clause-few
returns-clause-few c = subst (λ n. n ≤ reference_limit) (sym (length-map c.in_ok-resources.resources.entries _)) c.in_ok-resources.ensures.few

pub returns-clause-many : goal.returns-clause-many
returns-clause-many c = none_read _ _ _ c.in_ok-resources.ensures.many

pub returns-in_err-resources-clause-is : goal.returns-in_err-resources-clause-is
returns-in_err-resources-clause-is c =
    let p = err_from_is_err_and c.from_residual.result c.from_residual.ensures.1 in
    rw (p.1, p.2) c.in_err-resources.ensures.is

pub returns-in_err-resources-clause-fork : goal.returns-in_err-resources-clause-fork
returns-in_err-resources-clause-fork c =
    let p = err_from_is_err_and c.from_residual.result c.from_residual.ensures.1 in
    rw p.1 tt

pub returns-in_err-resources-clause-few : goal.returns-in_err-resources-clause-few
returns-in_err-resources-clause-few c =
    let p = err_from_is_err_and c.from_residual.result c.from_residual.ensures.1 in
    rw p.1 tt

pub returns-in_err-resources-clause-many : goal.returns-in_err-resources-clause-many
returns-in_err-resources-clause-many c =
    let p = err_from_is_err_and c.from_residual.result c.from_residual.ensures.1 in
    rw (p.1, p.2) (none_refused _ _ _ _ c.in_err-resources.ensures.many)

pub returns-in_err-resources-clause-refused : goal.returns-in_err-resources-clause-refused
returns-in_err-resources-clause-refused c =
    let p = err_from_is_err_and c.from_residual.result c.from_residual.ensures.1 in
    rw (p.1, p.2) (λ real. no_fork c.args.bytes.now _ (c.in_err-resources.ensures.is real))

pub invariant_of-result : goal.invariant_of-result
invariant_of-result c = small_is c.args.bytes.now _ c.requires (λ k. Fits-lt-pow (c.type_inv.bytes k)) c.in_ok-resources.ensures.is
