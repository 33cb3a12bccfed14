-- That words are read by the operation of the first one's row, how many words an operation needs, and that it looks at
-- no others. Behind the last word of a list stand zeros (M68000 Family Programmer's Reference Manual, section 2.1).
use Rattle.std.specs.Prelude.{ℕ, ◌≡◌, ◌≢◌, ◌<◌, ◌≤◌, ◌⊎◌, if◌then◌else◌, List, ◌∷◌, length, slice_index}
use Rattle.m68_isa.specs.declared.instructions.Instr68.{Instr68}
use Rattle.m68_isa.specs.declared.instructions.Decoded68.{Decoded68}
use Rattle.m68_isa.specs.declared.instructions.Decoded68.TheVariants.{Op, Short, Privileged as NotAllowed, Illegal as NoInstruction}
use Rattle.m68_isa.specs.declared.found.Found.{Found}
use Rattle.m68_isa.specs.declared.found.Found.TheVariants.{Made, Privileged, Illegal}
use Rattle.m68_isa.specs.Decode.{ended, decoded}
use Rattle.m68_isa.specs.declared.op.Op68.{Op68}
use Rattle.m68_isa.specs.First.{First, first_of}
use Rattle.m68_isa.specs.Made.{made}
use Rattle.m68_isa.specs.Operations.{operation, read}

-- what a first word's row makes of the words is what the row's operation makes of them
abbrev pub IsByOperation : Type 0
IsByOperation = (w : ℕ) (ws : List ℕ) → decoded (w ∷ ws) ≡ read (operation (first_of w)) (first_of w) (w ∷ ws)

-- how many words an instruction has; a refusal looks at none
abbrev pub used_by : Found → ℕ
used_by (Made i used good) = used
used_by Privileged = 0
used_by Illegal = 0

-- one to five words
abbrev pub HasUsed : Found → Type 0
HasUsed (Made i used good) = (0 < used) × (used ≤ 5)
HasUsed Privileged = Unit {0}
HasUsed Illegal = Unit {0}

-- the same words up to a number
abbrev pub AreSame : ℕ → List ℕ → List ℕ → Type 0
AreSame count ws us = (k : ℕ) → k < count → slice_index us k ≡ slice_index ws k

-- what it is where no word is missing
abbrev pub whole : Found → Decoded68
whole (Made i used good) = if good then Op i used else NoInstruction
whole Privileged = NotAllowed
whole Illegal = NoInstruction

pub record OpLaws : Type 0 where
  -- words are read by the operation of the first one's row
  pub by_operation : IsByOperation
  -- an operation makes an instruction of one to five words
  pub most_used : (op : Op68) (f : First) (ws : List ℕ) → HasUsed (made op f ws)
  -- it depends on no word behind those
  pub none_behind : (op : Op68) (f : First) (ws us : List ℕ) → AreSame (used_by (made op f ws)) ws us → made op f us ≡ made op f ws
  -- with five words, or where it does not end for want of words, none is missing
  pub none_missing : (op : Op68) (f : First) (ws : List ℕ) → (5 ≤ length ws) ⊎ (ended (made op f ws) (length ws) ≢ Short) → ended (made op f ws) (length ws) ≡ whole (made op f ws)

-- an instruction that begins with this word stays what it is, whatever stands behind its words
abbrev pub IsKept : ℕ → Type 0
IsKept w = (ws us : List ℕ) (i : Instr68) (used : ℕ) → decoded (w ∷ ws) ≡ Op i used → AreSame used (w ∷ ws) (w ∷ us) → used ≤ length (w ∷ us) → decoded (w ∷ us) ≡ Op i used
