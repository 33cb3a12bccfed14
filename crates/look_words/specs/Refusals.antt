-- The sentences on a refused program. What ends in the text of a file reader's own error has none here.
use Rattle.std.specs.Prelude.{ℕ, ℤ, pos, negsuc, ◌==◌, nat_lt, if◌then◌else◌, List, [], ◌∷◌, codes, decimal, Option, Some, None}
use Rattle.std.specs.Fmt.{signed_decimal}
use Rattle.std.specs.Int.{to_be_bytes, w32}
use Rattle.mix_bits.specs.Text.{hexadecimal}
use Rattle.mix_bits.specs.declared.file.File.{File}
use Rattle.mix_bits.specs.declared.file.File.TheVariants.{Flat, Rsrc, Pef}
use Rattle.rsrc_fork.specs.declared.error.RsrcError.{RsrcError}
use Rattle.rsrc_fork.specs.declared.error.RsrcError.TheVariants.{NoMemory as NoForkMemory, Short, Overlap, BadOffset, Twice, Compressed}
use Rattle.pef_head.specs.declared.error.PefError.{PefError}
use Rattle.pef_head.specs.Parts.{ImportParts, import_count, import_of}
use Rattle.pef_head.specs.PartsByNumber.{cut}
use Rattle.pef_head.specs.Refusals.{refusal_of}
use Rattle.mix_load.specs.declared.error.LoadError.{LoadError}
use Rattle.mix_load.specs.declared.error.LoadError.TheVariants.{NoMemory, Empty, Rsrc as NoFork, NoCode, Far, JumpTable, Pef as NoHead, TooLarge, Reloc, Unresolved, NoMain}
use Rattle.look_text.specs.Pieces.{joined}

-- a file without a byte
abbrev pub empty_text : File → List ℕ
empty_text Flat = codes "the flat file has no byte"
empty_text Rsrc = codes "the fork's file has no byte"
empty_text Pef = codes "the container's file has no byte"

-- a CODE that is missing; 1 stands for all of them but CODE 0
abbrev pub no_code_text : ℤ → List ℕ
no_code_text (pos n) =
    if n == 1 then codes "the fork has no CODE above 0" else joined (codes "the fork has no CODE " ∷ decimal n ∷ [])
no_code_text (negsuc n) = joined (codes "the fork has no CODE " ∷ signed_decimal (negsuc n) ∷ [])

abbrev pub far_text : ℤ → List ℕ
far_text id = joined (codes "CODE " ∷ signed_decimal id ∷ codes " is of the far model, which is not loaded" ∷ [])

-- an entry of the jump table by its place, or 0 for the table as a whole
abbrev pub table_refusal_text : ℕ → List ℕ
table_refusal_text at =
    if at == 0 then codes "CODE 0 has no jump table above A5, or a CODE has fewer than 4 bytes"
    else joined (codes "the jump table's entry at " ∷ decimal at ∷ codes " in CODE 0 names no place in a CODE" ∷ [])

-- where a program would end, which has eight digits
abbrev pub large_text : ℕ → List ℕ
large_text end = joined (codes "the program would end at $" ∷ hexadecimal 8 end ∷ codes ", in the quarter of RAM that is the stack's" ∷ [])

abbrev pub large_by : ℕ → Option (List ℕ)
large_by end = if nat_lt end 0x1_0000_0000 then Some (large_text end) else None

-- a resource by its type and its id
abbrev pub resource_text : ℕ → ℤ → List ℕ → List ℕ
resource_text kind id rest = joined (codes "the resource " ∷ to_be_bytes w32 kind ∷ codes " " ∷ signed_decimal id ∷ rest ∷ [])

-- an import that the host lacks
unfoldable pub lacking_text : ℕ → ImportParts → List ℕ
lacking_text i import =
    joined (codes "the host has no " ∷ import.name ∷ codes " of " ∷ import.library ∷ codes ", which is import " ∷ decimal i ∷ codes " of the container" ∷ [])

abbrev pub lacking_in : Option PefError → List ℕ → ℕ → Option (List ℕ)
lacking_in None bytes i = if nat_lt i (import_count bytes) then Some (lacking_text i (cut 255 (import_of bytes i))) else None
lacking_in (Some e) bytes i = None

-- in the container's file
abbrev pub lacking_by : Option (List ℕ) → ℕ → Option (List ℕ)
lacking_by None i = None
lacking_by (Some bytes) i = lacking_in (refusal_of bytes) bytes i

abbrev pub fork_refusal_text : RsrcError → Option (List ℕ)
fork_refusal_text NoForkMemory = None
fork_refusal_text (Short len) = None
fork_refusal_text Overlap = None
fork_refusal_text (BadOffset at) = None
fork_refusal_text (Twice kind id) = Some (resource_text kind id (codes " stands twice in the fork"))
fork_refusal_text (Compressed kind id) = Some (resource_text kind id (codes " is compressed"))

-- the sentence, where it is defined, for a container's file
abbrev pub sentence_of : Option (List ℕ) → LoadError → Option (List ℕ)
sentence_of file NoMemory = None
sentence_of file (Empty which) = Some (empty_text which)
sentence_of file (NoFork e) = fork_refusal_text e
sentence_of file (NoCode id) = Some (no_code_text id)
sentence_of file (Far id) = Some (far_text id)
sentence_of file (JumpTable at) = Some (table_refusal_text at)
sentence_of file (NoHead e) = None
sentence_of file (TooLarge end) = large_by end
sentence_of file (Reloc e) = None
sentence_of file (Unresolved i) = lacking_by file i
sentence_of file NoMain = None
