-- The words at even places of code, and the traps among them.
use Rattle.std.specs.Prelude.{ℕ, zero, suc, ◌*◌, ◌/◌, ◌==◌, ◌&&◌, not, ◌++◌, Bool, if◌then◌else◌, List, [], ◌∷◌, length, is_none}
use Rattle.mix_bits.specs.Fields.{word_at}
use Rattle.routine_desc.specs.Layout.{mixed_mode_magic}
use Rattle.toolbox.specs.Functions.{trap_number as host_number}

abbrev pub is_trap : ℕ → Bool
is_trap word = word / 4096 == 10

-- the trap that a word is
abbrev pub trap_in : ℕ → List ℕ
trap_in word = if is_trap word then word ∷ [] else []

-- the traps among the first words, in their order
abbrev pub traps_below : List ℕ → ℕ → List ℕ
traps_below code zero = []
traps_below code (suc k) = traps_below code k ++ trap_in (word_at code (2 * k))

-- the traps of code, each as often as it stands there
abbrev pub traps_of : List ℕ → List ℕ
traps_of code = traps_below code (length code / 2)

-- whether the library lacks a trap; $AAFE begins a routine descriptor
abbrev pub is_lacking_word : ℕ → Bool
is_lacking_word word = not (word == mixed_mode_magic) && is_none (host_number word)

abbrev pub is_lacking : List ℕ → ℕ → Bool
is_lacking code k = is_trap (word_at code (2 * k)) && is_lacking_word (word_at code (2 * k))
