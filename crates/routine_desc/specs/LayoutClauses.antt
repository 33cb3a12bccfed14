-- The flags that have names, and the record that stands where none was read.
use Rattle.std.specs.Prelude.{ℕ, ◌==◌, Bool, false, ◌||◌}
use Rattle.mix_bits.specs.declared.isa.Isa.TheVariants.{M68}
use Rattle.routine_desc.specs.declared.record.Rec.{Rec}

-- the flags that have names: relative, needs preparing, use native, don't pass the selector, default, index
abbrev pub is_flag : ℕ → Bool
is_flag flag = (flag == 1) || (flag == 2) || (flag == 4) || (flag == 8) || (flag == 16) || (flag == 32)

-- what stands where no record was read
abbrev pub no_record : Rec
no_record = record { info = 0; isa = M68; flags = 0; target = 0; selector = 0; cfm = false }
