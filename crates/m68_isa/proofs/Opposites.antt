-- A condition with its last bit turned is its opposite, by the eight pairs.
use Rattle.std.proofs.Common.{◌≡◌, ◌&&◌, ◌||◌, not, Bool, true, false, zero, suc, refl, arith}
use Rattle.m68_isa.specs.Conditions.{is_not_less}
use Rattle.m68_isa.specs.laws.Conditions.{AreOpposite}

-- what a pair of conditions says of the five codes
both : (a b : Bool) → (a || b) ≡ not (not a && not b)
both true b = refl
both false true = refl
both false false = refl

twice : (a : Bool) → a ≡ not (not a)
twice true = refl
twice false = refl

either : (a b : Bool) → (not a || b) ≡ not (a && not b)
either true true = refl
either true false = refl
either false b = refl

pub opposite : AreOpposite
opposite zero c below = refl
opposite (suc zero) c below = both c.c c.z
opposite (suc (suc zero)) c below = twice c.c
opposite (suc (suc (suc zero))) c below = twice c.z
opposite (suc (suc (suc (suc zero)))) c below = twice c.v
opposite (suc (suc (suc (suc (suc zero))))) c below = twice c.n
opposite (suc (suc (suc (suc (suc (suc zero)))))) c below = refl
opposite (suc (suc (suc (suc (suc (suc (suc zero))))))) c below = either (is_not_less c) c.z
opposite (suc (suc (suc (suc (suc (suc (suc (suc n)))))))) c below = absurd (omega arith)
