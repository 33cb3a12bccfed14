-- The conditions of branches, scc and dbcc
-- (M68000 Family Programmer's Reference Manual, table 3-19).
use Rattle.std.specs.Prelude.{ℕ, ◌==◌, ◌&&◌, ◌||◌, not, Bool, true, false, if◌then◌else◌}
use Rattle.m68_isa.specs.declared.registers.Ccr.{Ccr}

-- N and V are the same: the signed number that was compared is not below the other
abbrev pub is_not_less : Ccr → Bool
is_not_less c = if c.n then c.v else not c.v

-- 0 t, 1 f, 2 hi, 3 ls, 4 cc, 5 cs, 6 ne, 7 eq, 8 vc, 9 vs, 10 pl, 11 mi, 12 ge, 13 lt, 14 gt, 15 le
abbrev pub holds : ℕ → Ccr → Bool
holds condition c =
    if condition == 0 then true
    else if condition == 1 then false
    else if condition == 2 then not c.c && not c.z
    else if condition == 3 then c.c || c.z
    else if condition == 4 then not c.c
    else if condition == 5 then c.c
    else if condition == 6 then not c.z
    else if condition == 7 then c.z
    else if condition == 8 then not c.v
    else if condition == 9 then c.v
    else if condition == 10 then not c.n
    else if condition == 11 then c.n
    else if condition == 12 then is_not_less c
    else if condition == 13 then not (is_not_less c)
    else if condition == 14 then is_not_less c && not c.z
    else not (is_not_less c) || c.z
