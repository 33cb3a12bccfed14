-- Branches and calls (M68000 Family Programmer's Reference Manual, section 4: Bcc, BRA, BSR, DBcc, JSR).
use Rattle.std.specs.Prelude.{ℕ, ◌+◌, ◌%◌, ◌==◌, if◌then◌else◌, slice_index}
use Rattle.mix_bits.specs.Results.{◌>>=◌}
use Rattle.m68_isa.specs.Conditions.{holds}
use Rattle.m68_isa.specs.Targets.{branch_target}
use Rattle.m68_isa.specs.declared.registers.Regs68.{Regs68}
use Rattle.big_memory.specs.Memory.{Memory}
use Rattle.m68_effects.specs.Parts.{Effect, goes_on, pushed}

-- the address of the next instruction is pushed, and the program goes on elsewhere
abbrev pub called : Regs68 → Memory → ℕ → ℕ → Effect
called r m next target =
    pushed r m next >>= λ (q, n).
    goes_on target q n

-- Bcc: where the condition holds; 0 is BRA, always, and 1 is BSR, which calls
abbrev pub bcc : Regs68 → Memory → ℕ → ℕ → ℕ → Effect
bcc r m next condition disp =
    if condition == 1 then called r m next (branch_target r.pc disp)
    else (if holds condition r.ccr then goes_on (branch_target r.pc disp) r m else goes_on next r m)

-- DBcc: Dn - 1, as words
abbrev pub counted : Regs68 → ℕ → ℕ
counted r n = (slice_index r.d n + 0xFFFF) % 0x10000
