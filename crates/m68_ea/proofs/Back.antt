-- Address registers that are put back.
use Rattle.std.proofs.Common.{◌≡◌, ℕ, zero, suc, List, [], ◌∷◌, get_or, set, slice_index, refl, ap, ◌∙◌}
use Rattle.std.proofs.lemmas.List.{set-get_or}
use Rattle.m68_isa.specs.declared.registers.Regs68.{Regs68}
use Rattle.m68_ea.specs.Places.{with_address}

put-back : (xs : List ℕ) (n v : ℕ) → set (set xs n v) n (get_or xs n 0) ≡ xs
put-back [] n v = refl
put-back (x ∷ xs) zero v = refl
put-back (x ∷ xs) (suc n) v = ap (λ ys. x ∷ ys) (put-back xs n v)

pub address_back : (r : Regs68) (n v : ℕ) → with_address (with_address r n v) n (slice_index r.a n) ≡ r
address_back r n v = rw (put-back r.a n v) refl

-- one that takes its own value
pub address_kept : (r : Regs68) (n : ℕ) → with_address r n (slice_index r.a n) ≡ r
address_kept r n = ap (λ xs. record r { a = xs }) (set-get_or r.a n 0)

-- the same of registers that are known by another name
pub moved_back : (r q : Regs68) (n v : ℕ) → q ≡ with_address r n v → with_address q n (slice_index r.a n) ≡ r
moved_back r q n v same = ap (λ (t : Regs68). with_address t n (slice_index r.a n)) same ∙ address_back r n v
