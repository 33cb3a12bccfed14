-- Spelling and reading are inverse to each other.
use Rattle.std.specs.Prelude.{◌≡◌, ◌⊎◌, ℕ, List, [], ◌∷◌, Result, Ok, Err, codes}
use Rattle.big_memory.specs.Numbers.{AreBytes, bytes_of_longs}
use Rattle.mix_engine.specs.declared.machine.Machine.{Machine}
use Rattle.mix_image.specs.declared.error.ImageError.{ImageError}
use Rattle.mix_image.specs.declared.error.ImageError.TheVariants.{NoMemory}
use Rattle.mix_image.specs.Spelling.{HasSpelling, mark_first, mark_second, spell}
use Rattle.mix_image.specs.Restoring.{IsRestored}

-- the spelling of a machine is restored to that machine, and to nothing else
abbrev pub SpellingIsRestored : Type 0
SpellingIsRestored =
    (m : Machine) (result : Result Machine ImageError) → HasSpelling m → IsRestored (spell m) result → (result ≡ Ok m) ⊎ (result ≡ Err NoMemory)

-- and what bytes are restored to has them as its spelling
abbrev pub RestoredIsSpelled : Type 0
RestoredIsSpelled = (bytes : List ℕ) (m : Machine) → AreBytes bytes → IsRestored bytes (Ok m) → HasSpelling m × (spell m ≡ bytes)

-- so two machines with one spelling are one
abbrev pub SpellingsDiffer : Type 0
SpellingsDiffer = (m n : Machine) → HasSpelling m → HasSpelling n → spell m ≡ spell n → m ≡ n

-- an image begins with the text MIXIMG01
abbrev pub MarkIsText : Type 0
MarkIsText = bytes_of_longs (mark_first ∷ mark_second ∷ []) ≡ codes "MIXIMG01"
