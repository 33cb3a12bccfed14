-- Which register of a suspended caller its frame keeps at a place (this project's own layout: eight longs that tell of the
-- call, and the caller's registers behind them).
use Rattle.std.specs.Prelude.{ℕ, ◌-◌, ◌/◌, ◌==◌, nat_lt, if◌then◌else◌}
use Rattle.mix_bits.specs.declared.isa.Isa.{Isa}
use Rattle.mix_bits.specs.declared.isa.Isa.TheVariants.{M68, Ppc}
use Rattle.fault_words.specs.declared.saved.Saved.{Saved}
use Rattle.fault_words.specs.declared.saved.Saved.TheVariants.{Call, Data, Address, General, Cr, Lr, Ctr, Xer, Pc, ConditionCodes, Filling}

-- by the long behind those that tell of the call
abbrev pub saved_m68 : ℕ → Saved
saved_m68 long =
    if nat_lt long 8 then Data long
    else (if nat_lt long 16 then Address (long - 8)
    else (if long == 16 then Pc else (if long == 17 then ConditionCodes else Filling)))

abbrev pub saved_ppc : ℕ → Saved
saved_ppc long =
    if nat_lt long 32 then General long
    else (if long == 32 then Cr
    else (if long == 33 then Lr
    else (if long == 34 then Ctr
    else (if long == 35 then Xer else (if long == 36 then Pc else Filling)))))

abbrev pub saved_in : Isa → ℕ → Saved
saved_in M68 long = saved_m68 long
saved_in Ppc long = saved_ppc long

abbrev pub saved_of : Isa → ℕ → Saved
saved_of caller offset = if nat_lt offset 32 then Call else saved_in caller ((offset - 32) / 4)
