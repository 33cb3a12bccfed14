-- Several registers, or several bytes of one
-- (M68000 Family Programmer's Reference Manual, section 4: MOVEM, MOVEP).
use Rattle.std.specs.Prelude.{ℕ, zero, suc, ◌+◌, ◌-◌, ◌*◌, ◌==◌, nat_lt, if◌then◌else◌, List, [], ◌∷◌, length, filter, slice_index, Result, Ok}
use Rattle.std.specs.List.{range_with_len}
use Rattle.mix_bits.specs.declared.size.Size.{Size}
use Rattle.mix_bits.specs.declared.size.Size.TheVariants.{One}
use Rattle.mix_bits.specs.declared.fault.Fault.{Fault}
use Rattle.mix_bits.specs.Addresses.{backward, onward}
use Rattle.mix_bits.specs.Digits.{digit_of}
use Rattle.mix_bits.specs.Sizes.{bytes_of, sign_extended}
use Rattle.mix_bits.specs.Results.{◌>>=◌}
use Rattle.m68_isa.specs.declared.registers.Regs68.{Regs68}
use Rattle.big_memory.specs.Memory.{Memory}
use Rattle.m68_ea.specs.Places.{with_data, with_address}
use Rattle.m68_ea.specs.Operands.{loaded_at, stored_at}

-- the values go to memory one after the other, each so many bytes behind the one before
unfoldable pub stored_along : ℕ → Memory → ℕ → ℕ → Size → List ℕ → Result Memory Fault
stored_along pc m a step size [] = Ok m
stored_along pc m a step size (v ∷ vs) = stored_at pc m a size v >>= λ n. stored_along pc n (onward a step) step size vs

-- each right before the one before
unfoldable pub stored_down : ℕ → Memory → ℕ → Size → List ℕ → Result Memory Fault
stored_down pc m a size [] = Ok m
stored_down pc m a size (v ∷ vs) =
    stored_at pc m (backward a (bytes_of size)) size v >>= λ n. stored_down pc n (backward a (bytes_of size)) size vs

-- the sixteen registers as a mask counts them: D0 to D7, then A0 to A7
abbrev pub register_of : Regs68 → ℕ → ℕ
register_of r k = if nat_lt k 8 then slice_index r.d k else slice_index r.a (k - 8)

abbrev pub with_register : Regs68 → ℕ → ℕ → Regs68
with_register r k v = if nat_lt k 8 then with_data r k v else with_address r (k - 8) v

-- the places of the bits of a mask that are 1, from bit 0 on
unfoldable pub listed : ℕ → List ℕ
listed mask = filter (λ k. digit_of mask k 1 == 1) (range_with_len 0 16)

-- how many bytes a mask's registers take
abbrev pub span_of : Size → ℕ → ℕ
span_of size mask = bytes_of size * length (listed mask)

-- the registers take the values from an address on, a word with its sign
unfoldable pub loaded_along : ℕ → Regs68 → Memory → ℕ → Size → List ℕ → Result Regs68 Fault
loaded_along pc r m a size [] = Ok r
loaded_along pc r m a size (k ∷ ks) =
    loaded_at pc m a size >>= λ v.
    loaded_along pc (with_register r k (sign_extended v size)) m (onward a (bytes_of size)) size ks

-- MOVEP: the number in bytes at every second address, the highest one first
abbrev pub peripheral_number : ℕ → Memory → ℕ → ℕ → ℕ → Result ℕ Fault
peripheral_number pc m a zero number = Ok number
peripheral_number pc m a (suc n) number =
    loaded_at pc m a One >>= λ byte. peripheral_number pc m (onward a 2) n (number * 256 + byte)
