use Rattle.std.proofs.Common.{◌≡◌, ◌∷◌, [], ◌++◌, add-one, List, Option, None, is_none, option_map, unwrap_or, ℕ, sym, ap, subst, ◌∙◌, arith}
use Rattle.std.proofs.lemmas.Result.{err_from_is_err_and}
use Rattle.mix_bits.specs.Search.{least, refused}
use Rattle.mix_bits.proofs.Searches.{least_at}
use Rattle.mix_load.specs.declared.error.LoadError.TheVariants.{Unresolved}
use Rattle.mix_load.specs.inner.Sections.{is_missing}
use Rattle.mix_load.specs.SectionsClauses.{address_at, import_addresses}
use Rattle.mix_load.proofs.imports.addresses_of.Goals as goal

pub import_at-requires-clause-below : goal.import_at-requires-clause-below
import_at-requires-clause-below c = omega (arith, c.requires.below, c.loop-i-test.true)

pub returns-in_err-push-in-Some-clause-refusal : goal.returns-in_err-push-in-Some-clause-refusal
returns-in_err-push-in-Some-clause-refusal c =
    let p = err_from_is_err_and c.from_residual.result c.from_residual.ensures.1 in
    rw p.1 (λ real. absurd (real p.2))

pub returns-in_err-push-in-Some-clause-is : goal.returns-in_err-push-in-Some-clause-is
returns-in_err-push-in-Some-clause-is c =
    let p = err_from_is_err_and c.from_residual.result c.from_residual.ensures.1 in
    rw p.1 tt

pub returns-in_err-push-in-Some-clause-len : goal.returns-in_err-push-in-Some-clause-len
returns-in_err-push-in-Some-clause-len c =
    let p = err_from_is_err_and c.from_residual.result c.from_residual.ensures.1 in
    rw p.1 tt

pub returns-in-None-clause-refusal : goal.returns-in-None-clause-refusal
returns-in-None-clause-refusal c =
    λ real. ap (option_map (λ i. Unresolved i)) (least_at (is_missing c.args.pef.now) c.args.count c.loop-i.i c.loop-i-test.true c.loop-i.invariant.passed
    (ap (λ (o : Option ℕ). is_none o) (sym c.in-None.ensures)))

pub returns-in-None-clause-is : goal.returns-in-None-clause-is
returns-in-None-clause-is c = tt

pub returns-in-None-clause-len : goal.returns-in-None-clause-len
returns-in-None-clause-len c = tt

pub loop-i-preserved : goal.loop-i-preserved
loop-i-preserved c =
    let address_is : c.in-Some.address ≡ address_at c.args.pef.now c.loop-i.i = ap (λ (o : Option ℕ). unwrap_or o 0) c.in-Some.ensures in
    record {
      passed = rw add-one (rw c.loop-i.invariant.passed (ap (λ (o : Option ℕ). refused (is_none o) c.loop-i.i) (sym c.in-Some.ensures)));
      items = rw add-one (c.in_ok-push-in-Some.ensures.items ∙ (ap (λ (xs : List ℕ). xs ++ c.in-Some.address ∷ []) c.loop-i.invariant.items
          ∙ ap (λ (a : ℕ). import_addresses c.args.pef.now c.loop-i.i ++ a ∷ []) address_is));
      len = omega (arith, c.in_ok-push-in-Some.ensures.len, c.loop-i.invariant.len);
    }

pub returns-clause-refusal : goal.returns-clause-refusal
returns-clause-refusal c =
    let same : c.loop-i.i ≡ c.args.count = omega (arith, c.loop-i-test.false, c.loop-i.auto) in
    ap (option_map (λ i. Unresolved i)) (subst (λ (n : ℕ). least (is_missing c.args.pef.now) n ≡ None) same c.loop-i.invariant.passed)

pub returns-clause-is : goal.returns-clause-is
returns-clause-is c =
    let same : c.loop-i.i ≡ c.args.count = omega (arith, c.loop-i-test.false, c.loop-i.auto) in
    subst (λ (n : ℕ). c.loop-i.addresses.items ≡ import_addresses c.args.pef.now n) same c.loop-i.invariant.items

pub returns-clause-len : goal.returns-clause-len
returns-clause-len c =
    let same : c.loop-i.i ≡ c.args.count = omega (arith, c.loop-i-test.false, c.loop-i.auto) in
    c.loop-i.invariant.len ∙ same
