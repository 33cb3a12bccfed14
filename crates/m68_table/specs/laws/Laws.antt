-- Laws of the table as a whole, over all first words (M68000 Family Programmer's Reference Manual, section 8).
use Rattle.std.specs.Prelude.{ℕ, zero, suc, ◌≡◌, ◌+◌, ◌*◌, ◌^◌, ◌<◌, ◌==◌, ◌&&◌, Bool, true, false, if◌then◌else◌, nat_lt, List, [], ◌∷◌}
use Rattle.m68_isa.specs.declared.instructions.Decoded68.{Decoded68}
use Rattle.m68_isa.specs.declared.instructions.Decoded68.TheVariants.{Op, LineA, LineF, Privileged, Illegal, Short}
use Rattle.m68_isa.specs.declared.instructions.Instr68.{Instr68}
use Rattle.m68_isa.specs.First.{First, first_of}
use Rattle.m68_isa.specs.Rows.{Row, row, Section, section}
use Rattle.m68_isa.specs.Decode.{table, decoded}
use Rattle.m68_isa.specs.laws.Modes.{has_modes}
use Rattle.m68_isa.specs.laws.Widths.{has_size}

-- how many of these rows have a first word
abbrev pub matches : List Row → First → ℕ
matches [] f = 0
matches (row has make ∷ rows) f = if has f then suc (matches rows f) else matches rows f

-- how many sections have it
abbrev pub sections_with : List Section → First → ℕ
sections_with [] f = 0
sections_with (section line has rows ∷ sections) f = if (f.line == line) && has f then suc (sections_with sections f) else sections_with sections f

-- how many rows of any section have it
abbrev pub rows_with : List Section → First → ℕ
rows_with [] f = 0
rows_with (section line has rows ∷ sections) f = if (f.line == line) && has f then matches rows f + rows_with sections f else rows_with sections f

-- how many of the 2 ^ k numbers from 2 ^ k * base on pass a test
abbrev pub how_many : ℕ → ℕ → (ℕ → Bool) → ℕ
how_many zero base p = if p base then 1 else 0
how_many (suc k) base p = how_many k (base * 2) p + how_many k (base * 2 + 1) p

abbrev pub is_privileged : Decoded68 → Bool
is_privileged (Op i used) = false
is_privileged (LineA w) = false
is_privileged LineF = false
is_privileged Privileged = true
is_privileged Illegal = false
is_privileged Short = false

pub record TableLaws : Type 0 where
  -- no first word is in two sections of the table, and none in two rows, so that their order says nothing
  pub one_section : (w : ℕ) → w < 2 ^ 16 → sections_with table (first_of w) < 2
  pub one_row : (w : ℕ) → w < 2 ^ 16 → rows_with table (first_of w) < 2
  -- of the 65536 first words so many are in a row
  pub in_a_row : how_many 16 0 (λ w. nat_lt 0 (rows_with table (first_of w))) ≡ 45939
  -- and of these so many are the supervisor's
  pub privileged : how_many 16 0 (λ w. is_privileged (decoded (w ∷ []))) ≡ 75
  -- each operand of an instruction is in the class of modes that its row allows
  pub modes : (w : ℕ) (ws : List ℕ) (i : Instr68) (used : ℕ) → w < 2 ^ 16 → decoded (w ∷ ws) ≡ Op i used → has_modes i ≡ true
  -- and its size is one that its row has
  pub sizes : (w : ℕ) (ws : List ℕ) (i : Instr68) (used : ℕ) → w < 2 ^ 16 → decoded (w ∷ ws) ≡ Op i used → has_size i ≡ true
