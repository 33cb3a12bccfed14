-- The four bits of a comparison, and two bits of the condition register combined
-- (PowerPC 601 RISC Microprocessor User's Manual, chapter 10, cmp, cmpl and the instructions from crand to crxor).
use Rattle.std.specs.Prelude.{ℕ, ◌+◌, ◌*◌, ◌==◌, nat_lt, int_lt, Bool, true, false, not, ◌&&◌, ◌||◌, if◌then◌else◌}
use Rattle.std.specs.Int.{from_bool}
use Rattle.ppc_alu.specs.declared.condition.CrOp.{CrOp}
use Rattle.ppc_alu.specs.declared.condition.CrOp.TheVariants.{And, Or, Xor, Nand, Nor, Eqv, Andc, Orc}
use Rattle.ppc_alu.specs.Words.{signed}

abbrev pub is_less : Bool → ℕ → ℕ → Bool
is_less true a b = int_lt (signed a) (signed b)
is_less false a b = nat_lt a b

-- the bits LT, GT, EQ and SO of a comparison
abbrev pub compared : Bool → ℕ → ℕ → Bool → ℕ
compared is_signed a b so =
    8 * from_bool (is_less is_signed a b) + 4 * from_bool (is_less is_signed b a) + 2 * from_bool (a == b) + from_bool so

abbrev pub combined : CrOp → Bool → Bool → Bool
combined And a b = a && b
combined Or a b = a || b
combined Xor a b = if a then not b else b
combined Nand a b = not (a && b)
combined Nor a b = not (a || b)
combined Eqv a b = if a then b else not b
combined Andc a b = a && not b
combined Orc a b = a || not b
