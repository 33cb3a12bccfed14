-- Laws of the names of instructions: each is in the list (M68000 Family Programmer's Reference Manual, section 4).
use Rattle.std.specs.Prelude.{ℕ, ◌≡◌, ◌^◌, ◌<◌, true, List, ◌∷◌}
use Rattle.m68_isa.specs.declared.instructions.Decoded68.TheVariants.{Op}
use Rattle.m68_isa.specs.declared.instructions.Instr68.{Instr68}
use Rattle.m68_isa.specs.Decode.{decoded}
use Rattle.m68_text.specs.Instructions.{name}
use Rattle.m68_text.specs.Listed.{is_name}

-- the name of each instruction that words can be is in the list
abbrev pub NamesAreListed : Type 0
NamesAreListed = (w : ℕ) (ws : List ℕ) (i : Instr68) (used : ℕ) → w < 2 ^ 16 → decoded (w ∷ ws) ≡ Op i used → is_name (name i used) ≡ true
