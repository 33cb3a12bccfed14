-- The lines of the trace for a call that ends before it runs a program.
use Rattle.std.specs.Prelude.{ℕ, ℤ, pos, List, ◌++◌, codes, Option, None, Some}
use Rattle.std.specs.Fmt.{signed_decimal}
use Rattle.mix_bits.specs.declared.file.File.{File}
use Rattle.mix_bits.specs.declared.file.File.TheVariants.{Flat, Rsrc, Pef}
use Rattle.job_words.specs.Settings.{key_text}
use Rattle.job_words.specs.declared.job.Key.{Key}
use Rattle.job_words.specs.declared.job.Key.TheVariants.{Program, Image, Text, Script}
use Rattle.rsrc_fork.specs.declared.error.RsrcError.{RsrcError}
use Rattle.rsrc_fork.specs.declared.error.RsrcError.TheVariants.{NoMemory as NoForkMemory, Short as ForkShort, Overlap, BadOffset, Twice, Compressed}
use Rattle.pef_head.specs.declared.error.PefError.{PefError}
use Rattle.pef_head.specs.declared.error.PefError.TheVariants.{Short as HeadShort, Magic, Architecture, Version, Section, NoLoader, Loader, Name, Init}
use Rattle.pef_reloc.specs.declared.error.RelocError.{RelocError}
use Rattle.pef_reloc.specs.declared.error.RelocError.TheVariants.{Pattern, Short as RelocShort, Unsupported, OutsideSection, ImportIndex, SectionIndex, RepeatFront, Work}
use Rattle.mix_load.specs.declared.error.LoadError.{LoadError}
use Rattle.mix_load.specs.declared.error.LoadError.TheVariants.{NoMemory, Empty, Rsrc as NoFork, NoCode, Far, JumpTable, Pef as NoHead, TooLarge, Reloc, Unresolved, NoMain}

abbrev pub memory_line : List ℕ
memory_line = codes "memory\n"

-- a line of a name and a number
abbrev pub numbered : List ℕ → ℤ → List ℕ
numbered name number = name ++ codes " " ++ signed_decimal number ++ codes "\n"

abbrev pub words_line : ℕ → List ℕ
words_line place = numbered (codes "words") (pos place)

abbrev pub fetch_line : Key → List ℕ
fetch_line key = codes "fetch " ++ key_text key ++ codes "\n"

-- why a file or a program is refused: a name and a number
pub record Refusal : Type 0 where
  pub name : List ℕ
  pub number : ℤ

abbrev pub refusal : List ℕ → ℤ → Refusal
refusal name number = record { name = name; number = number }

abbrev pub load_line : Refusal → List ℕ
load_line r = numbered (codes "load " ++ r.name) r.number

-- the numbers of the files
abbrev pub file_number : File → ℕ
file_number Flat = 0
file_number Rsrc = 1
file_number Pef = 2

abbrev pub key_number : Key → ℕ
key_number (Program file) = file_number file
key_number Image = 3
key_number Text = 4
key_number Script = 5

abbrev pub long_file : Key → Refusal
long_file key = refusal (codes "long") (pos (key_number key))

abbrev pub fork_refusal : RsrcError → Refusal
fork_refusal NoForkMemory = refusal (codes "memory") (pos 0)
fork_refusal (ForkShort length) = refusal (codes "rsrc-short") (pos length)
fork_refusal Overlap = refusal (codes "rsrc-overlap") (pos 0)
fork_refusal (BadOffset offset) = refusal (codes "rsrc-offset") (pos offset)
fork_refusal (Twice kind id) = refusal (codes "rsrc-twice") id
fork_refusal (Compressed kind id) = refusal (codes "rsrc-compressed") id

abbrev pub head_refusal : PefError → Refusal
head_refusal (HeadShort length) = refusal (codes "pef-short") (pos length)
head_refusal Magic = refusal (codes "pef-magic") (pos 0)
head_refusal Architecture = refusal (codes "pef-architecture") (pos 0)
head_refusal Version = refusal (codes "pef-version") (pos 0)
head_refusal (Section section) = refusal (codes "pef-section") (pos section)
head_refusal NoLoader = refusal (codes "pef-noloader") (pos 0)
head_refusal (Loader place) = refusal (codes "pef-loader") (pos place)
head_refusal (Name place) = refusal (codes "pef-name") (pos place)
head_refusal Init = refusal (codes "pef-init") (pos 0)

abbrev pub reloc_refusal : RelocError → Refusal
reloc_refusal (Pattern place) = refusal (codes "pattern") (pos place)
reloc_refusal (RelocShort place) = refusal (codes "reloc-short") (pos place)
reloc_refusal (Unsupported place) = refusal (codes "reloc-unsupported") (pos place)
reloc_refusal (OutsideSection place) = refusal (codes "reloc-outside") (pos place)
reloc_refusal (ImportIndex place) = refusal (codes "reloc-import") (pos place)
reloc_refusal (SectionIndex place) = refusal (codes "reloc-section") (pos place)
reloc_refusal (RepeatFront place) = refusal (codes "reloc-repeat") (pos place)
reloc_refusal Work = refusal (codes "reloc-work") (pos 0)

-- the name and the number of a refused program; none for want of memory, which has a line of its own
abbrev pub load_refusal : LoadError → Option Refusal
load_refusal NoMemory = None
load_refusal (Empty file) = Some (refusal (codes "empty") (pos (file_number file)))
load_refusal (NoFork error) = Some (fork_refusal error)
load_refusal (NoCode id) = Some (refusal (codes "nocode") id)
load_refusal (Far id) = Some (refusal (codes "far") id)
load_refusal (JumpTable place) = Some (refusal (codes "jumptable") (pos place))
load_refusal (NoHead error) = Some (head_refusal error)
load_refusal (TooLarge end) = Some (refusal (codes "toolarge") (pos end))
load_refusal (Reloc error) = Some (reloc_refusal error)
load_refusal (Unresolved number) = Some (refusal (codes "unresolved") (pos number))
load_refusal NoMain = Some (refusal (codes "nomain") (pos 0))
