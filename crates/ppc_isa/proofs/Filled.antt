-- The registers that a string fills, by their distance from the first one.
use Rattle.std.proofs.Common.{◌≡◌, ℕ, zero, suc, ◌+◌, ◌-◌, ◌%◌, ◌<◌, Bool, ◌==◌, ◌||◌, nat_lt, arith, ap, ◌∙◌}
use Rattle.std.proofs.lemmas.Bool.Decides.{nat_tests}
use Rattle.std.specs.List.{list_any}
use Rattle.ppc_isa.specs.Operands.{registers_from}

-- the distance from one register to another, going on from register 31 to register 0
abbrev pub distance : ℕ → ℕ → ℕ
distance a d = (a + 32 - d) % 32

abbrev pub is_filled : ℕ → ℕ → ℕ → Bool
is_filled a d count = list_any (λ r. r == a) (registers_from d count)

-- the next register is nearer by one, or it was there
nearer : (a d count : ℕ) → a < 32 → d < 32 → nat_lt (distance a d) (suc count) ≡ ((d == a) || nat_lt (distance a ((d + 1) % 32)) count)
nearer a d count ha hd = grind (arith, nat_tests)

pub filled_by_distance : (a d count : ℕ) → a < 32 → d < 32 → nat_lt (distance a d) count ≡ is_filled a d count
filled_by_distance a d zero ha hd = grind (arith, nat_tests)
filled_by_distance a d (suc count) ha hd =
    nearer a d count ha hd ∙ ap (λ b. (d == a) || b) (filled_by_distance a ((d + 1) % 32) count ha (omega arith))
