-- The memory map, which is this project's own: the gate page, its four gates, and what it has for each
-- host function, a transition vector and the code address in it.
use Rattle.std.specs.Prelude.{ℕ, ◌+◌, ◌-◌, ◌*◌, ◌/◌, ◌%◌, ◌==◌, nat_le, nat_lt, Bool, ◌&&◌, ◌||◌, if◌then◌else◌, Option, Some, None}
use Rattle.mix_bits.specs.declared.isa.Isa.{Isa}
use Rattle.mix_bits.specs.declared.isa.Isa.TheVariants.{M68, Ppc}

-- where the gate page begins and ends
abbrev pub gate_page : ℕ
gate_page = 0x1000

abbrev pub gate_page_end : ℕ
gate_page_end = 0x2000

abbrev pub in_gate_page : ℕ → Bool
in_gate_page a = nat_le gate_page a && nat_lt a gate_page_end

-- where the main program ends, by its instruction set
abbrev pub exit_gate : Isa → ℕ
exit_gate M68 = 0x1000
exit_gate Ppc = 0x1010

-- where a callee returns, by its instruction set
abbrev pub return_gate : Isa → ℕ
return_gate M68 = 0x1008
return_gate Ppc = 0x1018

abbrev pub is_gate : ℕ → Bool
is_gate a = (a == exit_gate M68) || (a == return_gate M68) || (a == exit_gate Ppc) || (a == return_gate Ppc)

-- how many host functions there are; each has a transition vector and a code address
abbrev pub host_functions : ℕ
host_functions = 15

abbrev pub host_vector_at : ℕ → ℕ
host_vector_at k = 0x1400 + 8 * k

abbrev pub host_code_at : ℕ → ℕ
host_code_at k = 0x1800 + 4 * k

-- the host function whose code address this is
abbrev pub host_code : ℕ → Option ℕ
host_code a =
    if nat_le (host_code_at 0) a && nat_lt a (host_code_at host_functions) && a % 4 == 0
    then Some ((a - host_code_at 0) / 4) else None
