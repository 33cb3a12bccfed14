-- Searches below a bound: where they end.
use Rattle.std.proofs.Common.{◌≡◌, subst, refl, ℕ, zero, suc, ◌<◌, Bool, true, false, nat_lt, Option, Some, None, option_map, ap, ◌∙◌, arith}
use Rattle.std.proofs.lemmas.Bool.Decides.{nat_tests}
use Rattle.pef_reloc.specs.declared.error.RelocError.{RelocError}
use Rattle.mix_load.specs.declared.error.LoadError.{LoadError}
use Rattle.mix_load.specs.declared.error.LoadError.TheVariants.{Reloc}
use Rattle.mix_load.specs.Sections.{first_refusal}

-- the first refusal is that of the first number that has one
pub refused_at : {A : Type 0} (refusal : ℕ → Option A) (n k : ℕ) (e : A) → k < n → first_refusal refusal k ≡ None → refusal k ≡ Some e → first_refusal refusal n ≡ Some e
refused_at refusal zero k e lt before fails = absurd (omega arith)
refused_at refusal (suc n) k e lt before fails = by (nat_lt k n) refl (λ h. refused_at refusal n k e h before fails)
  where
    by : (b : Bool) → nat_lt k n ≡ b → (k < n → first_refusal refusal n ≡ Some e) → first_refusal refusal (suc n) ≡ Some e
    by true q earlier = rw (earlier (grind (arith, nat_tests)))
    by false q earlier =
        let same : k ≡ n = grind (arith, nat_tests) in
        subst (λ (m : ℕ). first_refusal refusal (suc m) ≡ Some e) same (rw before fails)

-- the same of the relocator's refusals as the loader's
pub reloc-first : (refusal : ℕ → Option RelocError) (n k : ℕ) (e : LoadError) → k < n → first_refusal refusal k ≡ None → option_map (λ r. Reloc r) (refusal k) ≡ Some e
    → option_map (λ r. Reloc r) (first_refusal refusal n) ≡ Some e
reloc-first refusal n k e lt before fails = by (refusal k) refl fails
  where
    by : (o : Option RelocError) → refusal k ≡ o → option_map (λ r. Reloc r) o ≡ Some e → option_map (λ r. Reloc r) (first_refusal refusal n) ≡ Some e
    by None q never = absurd (cc)
    by (Some r) q is = ap (option_map (λ r. Reloc r)) (refused_at refusal n k r lt before q) ∙ is
