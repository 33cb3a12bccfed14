-- What the output holds behind what is said of a script or a text, and the status.
use Rattle.std.specs.Prelude.{◌≡◌, ◌⊎◌, ℕ, Bool, List, Option, if◌then◌else◌}
use Rattle.std.specs.Io.KnownBytes.{Appends}
use Rattle.mix_bits.specs.declared.isa.Isa.{Isa}
use Rattle.mix_top.specs.Scripts.{script_of}
use Rattle.look_why.specs.Scripts.{script_text, takes}
use Rattle.look_why.specs.Texts.{IsTold}
use Rattle.look_words.specs.Requests.{IsLost}
use Rattle.look_commands.specs.Puts.{PutsFront}

-- what is said is put, or a front of it where the output failed; the status tells whether every line is taken
abbrev pub PutsReport : List ℕ → Bool → Option (List ℕ) → Option (List ℕ) → ℕ → Type 0
PutsReport said taken old new status =
    ((status ≡ (if taken then 0 else 3)) × Appends old new said) ⊎ ((status ≡ 6) × PutsFront said old new)

-- the same of the bytes of a script, whatever they are, unless it was lost, and nothing is put
abbrev pub WritesScriptWhy : Option (List ℕ) → Option (List ℕ) → ℕ → Type 0
WritesScriptWhy old new status =
    ((bytes : List ℕ) × PutsReport (script_text (script_of bytes) bytes) (takes (script_of bytes)) old new status)
    ⊎ (IsLost status × (new ≡ old))

-- the same of a text
abbrev pub PutsTextWhy : Isa → ℕ → List ℕ → Option (List ℕ) → Option (List ℕ) → ℕ → Type 0
PutsTextWhy set at bytes old new status =
    (said : List ℕ) × (taken : Bool) × IsTold set at bytes said taken × PutsReport said taken old new status

abbrev pub WritesTextWhy : Isa → ℕ → Option (List ℕ) → Option (List ℕ) → ℕ → Type 0
WritesTextWhy set at old new status = ((bytes : List ℕ) × PutsTextWhy set at bytes old new status) ⊎ (IsLost status × (new ≡ old))
