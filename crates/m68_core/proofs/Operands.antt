-- Operands that are no data register.
use Rattle.std.proofs.Common.{ℕ, ◌≡◌, ◌≢◌, ◌==◌, Bool, true, false, List, refl, arith}
use Rattle.std.specs.Prelude.{if◌then◌else◌}
use Rattle.std.proofs.lemmas.Bool.Decides.{nat_tests}
use Rattle.mix_bits.specs.declared.size.Size.TheVariants.{One}
use Rattle.m68_isa.specs.declared.operand.Operand.{Operand}
use Rattle.m68_isa.specs.Operands.{operand_at, special_at}
use Rattle.m68_effects.specs.Bits.{bit_size}

apart : (n k : ℕ) → n ≢ k → (n == k) ≡ false
apart n k other = grind (arith, nat_tests, other)

either : (b : Bool) (x y : Operand) → bit_size x.ea ≡ One → bit_size y.ea ≡ One → bit_size (if b then x else y).ea ≡ One
either true x y first second = first
either false x y first second = second

special_byte : (ws : List ℕ) (at register : ℕ) → bit_size (special_at ws at One register).ea ≡ One
special_byte ws at register =
    either (register == 0) _ _ refl (either (register == 1) _ _ refl (either (register == 2) _ _ refl (either (register == 3) _ _ refl refl)))

-- a bit of one is a byte's
pub bit_of_byte : (ws : List ℕ) (at mode register : ℕ) → mode ≢ 0 → bit_size (operand_at ws at One mode register).ea ≡ One
bit_of_byte ws at mode register other =
    rw (apart mode 0 other) (either (mode == 1) _ _ refl (either (mode == 2) _ _ refl (either (mode == 3) _ _ refl
    (either (mode == 4) _ _ refl (either (mode == 5) _ _ refl (either (mode == 6) _ _ refl (special_byte ws at register)))))))
