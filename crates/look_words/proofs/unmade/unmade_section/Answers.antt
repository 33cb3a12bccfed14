-- What is said of a refusal, by its kind.
use Rattle.std.proofs.Common.{◌≡◌, sym, subst, ℕ, ◌<◌, ◌⊎◌, inl, inr, List, Option, Result}
use Rattle.std.specs.Prelude.{IfOk, IfSome}
use Rattle.mix_bits.specs.Search.{least}
use Rattle.pef_reloc.specs.declared.error.RelocError.{RelocError}
use Rattle.pef_reloc.specs.declared.error.RelocError.TheVariants.{Pattern, Short, Unsupported, OutsideSection, ImportIndex, SectionIndex, RepeatFront, Work}
use Rattle.look_words.specs.inner.Unmade.{IsBadlyRelocated, IsUnmade, is_badly_packed}
use Rattle.look_words.proofs.unmade.unmade_section.Goals as goal

told : {E : Type 0} (bytes : List ℕ) (kind error : RelocError) (r : Result (Option ℕ) E) → error ≡ kind
    → IfOk r (λ (section : Option ℕ). IsUnmade bytes kind section) → IfOk r (λ (section : Option ℕ). IsUnmade bytes error section)
told bytes kind error r is so = subst (λ (e : RelocError). IfOk r (λ (section : Option ℕ). IsUnmade bytes e section)) (sym is) so

-- each refusal that is not one of pattern data is one of relocations
told_any : {E : Type 0} (bytes : List ℕ) (error : RelocError) (r : Result (Option ℕ) E)
    → ((at : ℕ) × (error ≡ Short at)) ⊎ (((word : ℕ) × (error ≡ Unsupported word)) ⊎ (((at : ℕ) × (error ≡ OutsideSection at)) ⊎ (((i : ℕ) × (error ≡ ImportIndex i))
    ⊎ (((k : ℕ) × (error ≡ SectionIndex k)) ⊎ (((at : ℕ) × (error ≡ RepeatFront at)) ⊎ (error ≡ Work))))))
    → IfOk r (λ (section : Option ℕ). IsBadlyRelocated bytes section) → IfOk r (λ (section : Option ℕ). IsUnmade bytes error section)
told_any bytes error r (inl s) so = told bytes (Short s.0) error r s.1 so
told_any bytes error r (inr (inl s)) so = told bytes (Unsupported s.0) error r s.1 so
told_any bytes error r (inr (inr (inl s))) so = told bytes (OutsideSection s.0) error r s.1 so
told_any bytes error r (inr (inr (inr (inl s)))) so = told bytes (ImportIndex s.0) error r s.1 so
told_any bytes error r (inr (inr (inr (inr (inl s))))) so = told bytes (SectionIndex s.0) error r s.1 so
told_any bytes error r (inr (inr (inr (inr (inr (inl s)))))) so = told bytes (RepeatFront s.0) error r s.1 so
told_any bytes error r (inr (inr (inr (inr (inr (inr is)))))) so = told bytes Work error r is so

least_to : {E : Type 0} (bytes : List ℕ) (count all : ℕ) (r : Result (Option ℕ) E) → count ≡ all
    → IfOk r (λ (section : Option ℕ). section ≡ least (is_badly_packed bytes) count) → IfOk r (λ (section : Option ℕ). section ≡ least (is_badly_packed bytes) all)
least_to bytes count all r same so = subst (λ (n : ℕ). IfOk r (λ (section : Option ℕ). section ≡ least (is_badly_packed bytes) n)) same so

below_to : {E : Type 0} (count all : ℕ) (r : Result (Option ℕ) E) → count ≡ all
    → IfOk r (λ (section : Option ℕ). IfSome section (λ k. k < count)) → IfOk r (λ (section : Option ℕ). IfSome section (λ k. k < all))
below_to count all r same so = subst (λ (n : ℕ). IfOk r (λ (section : Option ℕ). IfSome section (λ k. k < n))) same so

pub returns-in-Pattern-clause-is : goal.returns-in-Pattern-clause-is
returns-in-Pattern-clause-is c =
    told c.args.pef.now (Pattern c.in-Pattern.field-0) c.args.error c.badly_packed.result c.in-Pattern.is
    (least_to c.args.pef.now c.sections.result _ c.badly_packed.result c.sections.ensures.is c.badly_packed.ensures.is)

pub returns-in-Pattern-clause-below : goal.returns-in-Pattern-clause-below
returns-in-Pattern-clause-below c = below_to c.sections.result _ c.badly_packed.result c.sections.ensures.is c.badly_packed.ensures.below

pub returns-in-Short-clause-is : goal.returns-in-Short-clause-is
returns-in-Short-clause-is c = told_any c.args.pef.now c.args.error c.badly_relocated.result c.in-Short.is c.badly_relocated.ensures.is

pub returns-in-Short-clause-below : goal.returns-in-Short-clause-below
returns-in-Short-clause-below c = c.badly_relocated.ensures.below
