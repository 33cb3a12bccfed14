-- Shifts and rotates, as so many single ones
-- (M68000 Family Programmer's Reference Manual, ASL, LSL, ROL, ROXL and their kin in section 4).
use Rattle.std.specs.Prelude.{ℕ, ◌+◌, ◌*◌, ◌/◌, ◌%◌, ◌==◌, ◌||◌, ◌&&◌, not, Bool, true, false, if◌then◌else◌}
use Rattle.std.specs.Int.{from_bool}
use Rattle.std.specs.Fn.{iterate}
use Rattle.mix_bits.specs.Sizes.{modulus, truncated}
use Rattle.mix_bits.specs.declared.size.Size.{Size}
use Rattle.m68_isa.specs.declared.registers.Ccr.{Ccr}
use Rattle.m68_isa.specs.declared.instructions.ShiftOp.{ShiftOp}
use Rattle.m68_isa.specs.declared.instructions.ShiftOp.TheVariants.{As, Ls, Rox, Ro}
use Rattle.m68_alu.specs.declared.sums.Out.{Out}
use Rattle.m68_alu.specs.declared.shifts.Shifting.{Shifting}
use Rattle.mix_bits.specs.Signs.{half, is_negative}

-- the bit that goes out, and the one that comes in at the other end
abbrev pub bit_out : Bool → Size → ℕ → Bool
bit_out true size value = is_negative size value
bit_out false size value = value % 2 == 1

abbrev pub bit_in : ShiftOp → Bool → Size → Shifting → Bool
bit_in As left size s = not left && is_negative size s.value
bit_in Ls left size s = false
bit_in Rox left size s = s.x
bit_in Ro left size s = bit_out left size s.value

abbrev pub moved : Bool → Size → ℕ → Bool → ℕ
moved true size value bit = (2 * value + from_bool bit) % modulus size
moved false size value bit = value / 2 + from_bool bit * half size

-- X follows the bit that goes out, but not in a rotate without it
abbrev pub extend_after : ShiftOp → Bool → Bool → Bool
extend_after Ro x out = x
extend_after _ x out = out

-- the sign changes in an arithmetic shift to the left
abbrev pub changes : ShiftOp → Bool → Size → ℕ → ℕ → Bool
changes As left size before after = left && (if is_negative size before then not (is_negative size after) else is_negative size after)
changes _ left size before after = false

-- one shift by one bit
abbrev pub once : ShiftOp → Bool → Size → Shifting → Shifting
once op left size s =
    let after = moved left size s.value (bit_in op left size s) in
    record {
      value = after;
      out = bit_out left size s.value;
      x = extend_after op s.x (bit_out left size s.value);
      changed = s.changed || changes op left size s.value after;
    }

-- before the first shift nothing went out, but a rotate through X begins with X
abbrev pub out_before : ShiftOp → Ccr → Bool
out_before Rox old = old.x
out_before _ old = false

abbrev pub begun : ShiftOp → Size → ℕ → Ccr → Shifting
begun op size v old = record { value = truncated v size; out = out_before op old; x = old.x; changed = false }

abbrev pub ended : Size → Shifting → Out
ended size s =
    record {
      value = s.value;
      ccr = record { x = s.x; n = is_negative size s.value; z = s.value == 0; v = s.changed; c = s.out };
    }

abbrev pub shifted : ShiftOp → Bool → Size → ℕ → ℕ → Ccr → Out
shifted op left size v count old = ended size (iterate (once op left size) count (begun op size v old))
