-- A section in memory after its relocations.
use Rattle.std.specs.Prelude.{ℕ, List, slice_index, ◌-◌, ◌*◌, nat_le, Bool, ◌&&◌}
use Rattle.big_memory.specs.Lists.{part}
use Rattle.big_memory.specs.Memory.{Memory}
use Rattle.pef_reloc.specs.Program.{Relocated, relocated, width, is_span}
use Rattle.mix_bits.specs.Fields.{word_at}
use Rattle.pef_reloc.specs.Rows.{first_of}

-- the same for the section with a number, in memory
abbrev pub relocated_in : ℕ → List ℕ → List ℕ → List ℕ → List ℕ → Memory → Relocated
relocated_in k words bases totals imports m =
    relocated (record { bases = bases; imports = imports }) words (part (slice_index bases k) (slice_index totals k) m.bytes)

abbrev pub width_at : List ℕ → ℕ → ℕ
width_at words place = width (first_of (word_at words place))

-- the words that a repeat at a place goes back over
abbrev pub span_at : List ℕ → ℕ → ℕ → List ℕ
span_at words place count = part (place - 2 * count) (2 * count) words

abbrev pub can_repeat : List ℕ → ℕ → ℕ → Bool
can_repeat words place count = nat_le (2 * count) place && is_span (span_at words place count)
