-- The words of a command line that a call with numbers stands for. Its files are named first and second, and what it
-- keeps is named kept.
use Rattle.std.specs.Prelude.{ℕ, ◌==◌, List, [], ◌∷◌, ◌++◌, Option, codes, decimal, Bool, if◌then◌else◌}
use Rattle.mix_bits.specs.Text.{hexadecimal}
use Rattle.mix_io.specs.Memory.{file_named}

-- the files of a program by the number of their kind: a flat file, a fork, a container, or a fork and a container; none
-- for another number
abbrev pub file_words : ℕ → List (List ℕ)
file_words kind =
    if kind == 0 then codes "flat=first" ∷ []
    else if kind == 1 then codes "rsrc=first" ∷ []
    else if kind == 2 then codes "pef=first" ∷ []
    else if kind == 3 then codes "rsrc=first" ∷ codes "pef=second" ∷ []
    else []

-- the set of the main program: the usual one, 68K or PowerPC; another number gives a word that is refused
abbrev pub main_words : ℕ → List (List ℕ)
main_words main =
    if main == 0 then []
    else if main == 1 then codes "main=68k" ∷ []
    else if main == 2 then codes "main=ppc" ∷ []
    else codes "main=" ∷ []

-- whether the machine is kept at the step limit
abbrev pub save_words : Bool → List (List ℕ)
save_words keeps = if keeps then codes "save=kept" ∷ [] else []

unfoldable pub run_words : ℕ → ℕ → ℕ → ℕ → Bool → List (List ℕ)
run_words kind main kib steps keeps =
    (codes "run" ∷ (codes "ram=" ++ decimal kib) ∷ (codes "steps=" ++ decimal steps) ∷ []) ++ file_words kind ++ main_words main ++ save_words keeps

unfoldable pub continue_words : ℕ → Bool → List (List ℕ)
continue_words steps keeps = (codes "continue" ∷ codes "image=first" ∷ (codes "steps=" ++ decimal steps) ∷ []) ++ save_words keeps

-- an address, in eight hexadecimal digits
abbrev pub address_word : ℕ → List ℕ
address_word at = codes "at=" ++ hexadecimal 8 at

unfoldable pub list_words : ℕ → ℕ → ℕ → ℕ → ℕ → List (List ℕ)
list_words kind main kib at count =
    (codes "list" ∷ (codes "ram=" ++ decimal kib) ∷ (codes "count=" ++ decimal count) ∷ address_word at ∷ []) ++ file_words kind ++ main_words main

-- the set of a text: 68K or PowerPC; another number gives a word that is refused
abbrev pub set_word : ℕ → List ℕ
set_word set = if set == 1 then codes "set=68k" else if set == 2 then codes "set=ppc" else codes "set="

unfoldable pub assemble_words : ℕ → ℕ → List (List ℕ)
assemble_words set at = codes "assemble" ∷ codes "text=first" ∷ set_word set ∷ address_word at ∷ []

-- the files by these names
abbrev pub files_of : List ℕ → List ℕ → List ℕ → Option (List ℕ)
files_of first second = file_named (codes "first" ∷ codes "second" ∷ []) (first ∷ second ∷ [])
