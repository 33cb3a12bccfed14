-- LINK (M68000 Family Programmer's Reference Manual, section 4).
use Rattle.std.specs.Prelude.{ℕ, slice_index}
use Rattle.mix_bits.specs.declared.size.Size.TheVariants.{Four}
use Rattle.mix_bits.specs.Addresses.{onward}
use Rattle.mix_bits.specs.Results.{◌>>=◌}
use Rattle.m68_isa.specs.declared.registers.Regs68.{Regs68}
use Rattle.m68_isa.specs.declared.ea.Ea.TheVariants.{Pre}
use Rattle.big_memory.specs.Memory.{Memory}
use Rattle.m68_ea.specs.Places.{placed, with_address}
use Rattle.m68_ea.specs.Operands.{stored_at}
use Rattle.m68_effects.specs.Parts.{Effect, goes_on}

-- SP - 4 → SP; An → (SP); SP → An; SP + displacement → SP
abbrev pub link : Regs68 → Memory → ℕ → ℕ → ℕ → Effect
link r m next n disp =
    let q = (placed r (Pre 7) Four).0 in
    let sp = slice_index q.a 7 in
    stored_at r.pc m sp Four (slice_index q.a n) >>= λ done.
    goes_on next (with_address (with_address q n sp) 7 (onward sp disp)) done
