-- The table of relocation instructions, by the top seven bits of a word (Inside Macintosh: Mac OS Runtime
-- Architectures, chapter "PEF Structure").
use Rattle.std.specs.Prelude.{ℕ, ◌+◌, ◌/◌, ◌%◌, ◌==◌, nat_le, ◌&&◌, if◌then◌else◌, List, [], ◌∷◌}
use Rattle.pef_reloc.specs.declared.instruction.Instruction.{Instruction}
use Rattle.pef_reloc.specs.declared.instruction.Instruction.TheVariants.{BySectDWithSkip, Run, ByImport, SetSectC, SetSectD, BySection, IncrPosition, SetPosition}
use Rattle.pef_reloc.specs.declared.instruction.Turn.TheVariants.{SectC, SectD, TVector12, TVector8, VTable8, ImportRun}
use Rattle.pef_reloc.specs.declared.instruction.Large.{Large}
use Rattle.pef_reloc.specs.declared.instruction.Large.TheVariants.{LgSetPosition, LgByImport, LgBySection, LgSetSectC, LgSetSectD}
use Rattle.pef_reloc.specs.declared.instruction.First.{First}
use Rattle.pef_reloc.specs.declared.instruction.First.TheVariants.{One, Two, Repeat, NoRow}

-- the words whose top seven bits are in a range, and what each of them begins
pub record Row : Type 0 where
  pub from : ℕ
  pub to : ℕ
  pub reads : ℕ → First

abbrev pub row : ℕ → ℕ → (ℕ → First) → Row
row from to reads = record { from = from; to = to; reads = reads }

-- LgSetOrBySection: four bits say what it does, and 22 bits the section
abbrev pub set_or_by_section : ℕ → First
set_or_by_section word =
    if word / 64 % 16 == 0 then Two LgBySection (word % 64)
    else (if word / 64 % 16 == 1 then Two LgSetSectC (word % 64)
    else (if word / 64 % 16 == 2 then Two LgSetSectD (word % 64)
    else NoRow))

abbrev pub rows : List Row
rows =
    row 0x00 0x1F (λ word. One (BySectDWithSkip (word / 64 % 256) (word % 64)))
    ∷ row 0x20 0x20 (λ word. One (Run SectC (word % 512 + 1)))
    ∷ row 0x21 0x21 (λ word. One (Run SectD (word % 512 + 1)))
    ∷ row 0x22 0x22 (λ word. One (Run TVector12 (word % 512 + 1)))
    ∷ row 0x23 0x23 (λ word. One (Run TVector8 (word % 512 + 1)))
    ∷ row 0x24 0x24 (λ word. One (Run VTable8 (word % 512 + 1)))
    ∷ row 0x25 0x25 (λ word. One (Run ImportRun (word % 512 + 1)))
    ∷ row 0x30 0x30 (λ word. One (ByImport (word % 512)))
    ∷ row 0x31 0x31 (λ word. One (SetSectC (word % 512)))
    ∷ row 0x32 0x32 (λ word. One (SetSectD (word % 512)))
    ∷ row 0x33 0x33 (λ word. One (BySection (word % 512)))
    ∷ row 0x40 0x47 (λ word. One (IncrPosition (word % 4096 + 1)))
    ∷ row 0x48 0x4F (λ word. Repeat (word / 256 % 16 + 1) (word % 256 + 1))
    ∷ row 0x50 0x51 (λ word. Two LgSetPosition (word % 1024))
    ∷ row 0x52 0x53 (λ word. Two LgByImport (word % 1024))
    ∷ row 0x5A 0x5B set_or_by_section
    ∷ []

abbrev pub first_by : List Row → ℕ → First
first_by [] word = NoRow
first_by (r ∷ rs) word =
    if nat_le r.from (word / 512) && nat_le (word / 512) r.to then r.reads word else first_by rs word

abbrev pub first_of : ℕ → First
first_of word = first_by rows word

-- an instruction of two words, with its whole number
abbrev pub whole_of : Large → ℕ → Instruction
whole_of LgSetPosition n = SetPosition n
whole_of LgByImport n = ByImport n
whole_of LgBySection n = BySection n
whole_of LgSetSectC n = SetSectC n
whole_of LgSetSectD n = SetSectD n
