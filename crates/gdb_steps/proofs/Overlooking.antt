-- Steps that are looked over, one after the other, and a walk back over them.
use Rattle.std.proofs.Common.{◌≡◌, ℕ, suc, ◌<◌, ◌≤◌, IfSome, Option, None, Some, sym, subst, arith}
use Rattle.gdb_steps.specs.Backs.{StopsBack}
use Rattle.gdb_steps.specs.Places.{Begin, IsRun, Given, Run}
use Rattle.gdb_steps.specs.Points.{Points}
use Rattle.gdb_steps.specs.WalkersClauses.{Moved}
use Rattle.gdb_steps.specs.declared.found.Found.{Found}
use Rattle.gdb_steps.specs.declared.halt.Halt.{Halt}
use Rattle.gdb_steps.specs.declared.halt.Until.{Until}
use Rattle.gdb_steps.specs.inner.Backing.{Backed, IsFirst, IsLast, Looked, Passed, StopsAt, halt_in, place_in}
use Rattle.gdb_steps.proofs.Backward.{last-more, last-new, moved-given, moved-join}

abbrev Within : ℕ → ℕ → Option Found → Type 0
Within low high found = IfSome found (λ f. (low ≤ f.steps) × (f.steps < high))

abbrev Last : Points → Until → Run → ℕ → Option Found → Type 0
Last p until r high found = (b : Begin) → IsRun b r → IsLast b p until r.given r.steps high found

pub within-more : (low n m : ℕ) (found : Option Found) → m ≡ suc n → Within low n found → Within low m found
within-more low n m None one is = tt
within-more low n m (Some f) one is = (is.0, up f.steps n m one is.1)
  where
    up : (k n m : ℕ) → m ≡ suc n → k < n → k < m
    up k n m e h = omega (arith, e, h)

passed-none : (p q : Points) (until : Until) (s t : Run) (halt : Option Halt) → q ≡ p → halt ≡ None → Passed q until s t halt → Passed p until s t None
passed-none p q until s t halt same none is = subst (λ x. Passed x until s t None) same (subst (λ h. Passed q until s t h) none is)

passed-some : (p q : Points) (until : Until) (s t : Run) (halt : Option Halt) (h : Halt) → q ≡ p → halt ≡ Some h → Passed q until s t halt → Passed p until s t (Some h)
passed-some p q until s t halt h same some is = subst (λ x. Passed x until s t (Some h)) same (subst (λ o. Passed q until s t o) some is)

pub looks-on : (p q : Points) (until : Until) (r s t : Run) (found : Option Found) (halt : Option Halt) → q ≡ p → halt ≡ None → Moved r s → Passed q until s t halt → Last p until r s.steps found → Last p until r t.steps found
looks-on p q until r s t found halt same none moved passed last =
    λ b is.
    let own = passed-none p q until s t halt same none passed in
    subst (λ n. IsLast b p until r.given r.steps n found) (sym own.steps)
    (last-more b p until r.given r.steps s.steps found (subst (λ g. StopsBack b p until g s.steps None) (moved-given r s moved) (own.stops b (moved.run b is))) (last b is))

pub looks-new : (p q : Points) (until : Until) (r s t : Run) (halt : Option Halt) (h : Halt) → q ≡ p → halt ≡ Some h → r.steps ≤ s.steps → Moved r s → Passed q until s t halt
    → Last p until r t.steps (Some (record { steps = s.steps; halt = h }))
looks-new p q until r s t halt h same some later moved passed =
    λ b is.
    let own = passed-some p q until s t halt h same some passed in
    subst (λ n. IsLast b p until r.given r.steps n (Some (record { steps = s.steps; halt = h }))) (sym own.steps)
    (last-new b p until r.given r.steps s.steps h later (subst (λ g. StopsAt b p until g s.steps h) (moved-given r s moved) (own.stops b (moved.run b is))))

pub looked : (p : Points) (until : Until) (high : ℕ) (r s : Run) (found : Option Found) → Moved r s → s.steps ≡ high → Within r.steps s.steps found → Last p until r s.steps found → Looked p until high r s found
looked p until high r s found moved whole within last =
    record {
      moved = moved;
      steps = whole;
      between = subst (λ n. Within r.steps n found) whole within;
      last = λ b is. subst (λ n. IsLast b p until r.given r.steps n found) whole (last b is);
    }

-- ---- a walk back over steps that were looked over

last-first : (b : Begin) (p : Points) (until : Until) (g : Given) (low high : ℕ) (found : Option Found) → IsLast b p until g low high found → IsFirst b p until g (place_in low found) high (halt_in found)
last-first b p until g low high None is = is
last-first b p until g low high (Some f) is = (is.1, is.2, is.3)

pub place-less : (low high : ℕ) (found : Option Found) → low < high → Within low high found → place_in low found < high
place-less low high None less within = less
place-less low high (Some f) less within = within.1

pub place-more : (low high : ℕ) (found : Option Found) → Within low high found → low ≤ place_in low found
place-more low high None within = omega arith
place-more low high (Some f) within = within.0

pub gap-backed : (p q : Points) (until : Until) (low from high : ℕ) (r s t u : Run) (found : Option Found) (halt : Option Halt) → q ≡ p → Moved r s → s.steps ≡ from → low ≤ from → from < high → high ≡ r.steps → Looked q until high s t found
    → Moved t u → u.steps ≡ place_in from found → halt ≡ halt_in found → Backed p until low r u halt
gap-backed p q until low from high r s t u found halt same first start least less end looks last place stops =
    let own : Looked p until high s t found = subst (λ x. Looked x until high s t found) same looks in
    let within : Within from high found = subst (λ n. Within n high found) start own.between in
    let before : place_in from found < high = place-less from high found less within in
    let behind : from ≤ place_in from found = place-more from high found within in
    record {
      moved = moved-join r t u (moved-join r s t first own.moved) last;
      earlier = omega (arith, before, place, end);
      least = omega (arith, behind, place, least);
      first = λ b is.
          subst (λ h. IsFirst b p until r.given u.steps r.steps h) (sym stops)
          (subst (λ n. IsFirst b p until r.given n r.steps (halt_in found)) (sym place)
          (subst (λ n. IsFirst b p until r.given (place_in from found) n (halt_in found)) end
          (last-first b p until r.given from high found
          (subst (λ n. IsLast b p until r.given n high found) start (subst (λ g. IsLast b p until g s.steps high found) (moved-given r s first) (own.last b (first.run b is)))))));
    }

pub gap-less : (p : Points) (until : Until) (from high : ℕ) (r s t u : Run) (found : Option Found) → s.steps ≡ from → from < high → high ≡ r.steps → Looked p until high s t found → u.steps ≡ place_in from found → u.steps < r.steps
gap-less p until from high r s t u found start less end looks place =
    let before : place_in from found < high = place-less from high found less (subst (λ n. Within n high found) start looks.between) in
    omega (arith, before, place, end)

pub place-within : (p : Points) (until : Until) (from high : ℕ) (s t : Run) (found : Option Found) → s.steps ≡ from → from < high → Looked p until high s t found → place_in from found ≤ t.steps
place-within p until from high s t found start less looks =
    let before : place_in from found < high = place-less from high found less (subst (λ n. Within n high found) start looks.between) in
    let whole = looks.steps in
    omega (arith, before, whole)
