-- The words at hand of an instruction that may end behind memory
-- (M68000 Family Programmer's Reference Manual, section 2.1).
use Rattle.std.specs.Prelude.{ℕ, ◌≡◌, ◌≢◌, ◌<◌, ◌≤◌, ◌⊎◌, List, length, slice_index}
use Rattle.m68_isa.specs.declared.instructions.Decoded68.TheVariants.{Short}
use Rattle.m68_isa.specs.Decode.{decoded}

-- a word is the first one
abbrev pub IsFirst : ℕ → List ℕ → Type 0
IsFirst w ws = (0 < length ws) × (w ≡ slice_index ws 0)

-- no word of the instruction is missing
abbrev pub IsThere : List ℕ → Type 0
IsThere ws = (5 ≤ length ws) ⊎ (decoded ws ≢ Short)
