-- The files of a program, and the program as it starts.
use Rattle.std.specs.Prelude.{ℕ, ◌≡◌, ◌==◌, List, [], ◌∷◌, ◌++◌, length, codes, decimal, if◌then◌else◌, slice_index, Option, Some, None, Ok, Err}
use Rattle.mix_bits.specs.Text.{hexadecimal}
use Rattle.mix_bits.specs.declared.isa.Isa.{Isa}
use Rattle.big_memory.specs.Numbers.{long_at}
use Rattle.rsrc_fork.specs.References.{resources_of}
use Rattle.switch_frame.specs.declared.active.Active.{Active}
use Rattle.switch_frame.specs.declared.active.Active.TheVariants.{M68, Ppc}
use Rattle.switch_frame.specs.declared.program.Program.{Program}
use Rattle.switch_frame.specs.Program.{program_start}
use Rattle.mix_load.specs.declared.files.Files.{Files}
use Rattle.mix_load.specs.Load.{load_of}
use Rattle.mix_load.specs.Segments.{id_count}
use Rattle.look_text.specs.declared.mapped.Mapped.{Mapped}
use Rattle.look_text.specs.declared.mapped.Mapped.TheVariants.{Loaded, Refused}
use Rattle.look_text.specs.Forks.{fork_end, fork_text}
use Rattle.look_text.specs.Containers.{container_text}
use Rattle.look_text.specs.Pieces.{joined}

unfoldable pub ram_line : ℕ → List ℕ
ram_line len = joined (codes "RAM: " ∷ decimal len ∷ codes " bytes\n" ∷ [])

unfoldable pub flat_line : ℕ → List ℕ
flat_line size = joined (codes "flat file: at 00010000, " ∷ decimal size ∷ codes " bytes\n" ∷ [])

abbrev pub flat_text : Option (List ℕ) → List ℕ
flat_text None = []
flat_text (Some bytes) = flat_line (length bytes)

-- the CODEs of the fork's file, if there is one, and where they end
abbrev pub fork_file_text : ℕ → Option (List ℕ) → List ℕ
fork_file_text ids None = []
fork_file_text ids (Some bytes) = fork_text ids (resources_of bytes)

abbrev pub fork_file_end : ℕ → Option (List ℕ) → ℕ
fork_file_end ids None = program_start
fork_file_end ids (Some bytes) = fork_end ids (resources_of bytes)

abbrev pub container_file_text : ℕ → Option (List ℕ) → List ℕ
container_file_text start None = []
container_file_text start (Some bytes) = container_text bytes start

-- the pieces of files, with the CODEs below a count of ids
abbrev pub pieces_text : ℕ → Files → List ℕ
pieces_text ids files =
    flat_text files.flat ++ (fork_file_text ids files.rsrc ++ container_file_text (fork_file_end ids files.rsrc) files.pef)

-- what could be read of files, behind the size of RAM
abbrev pub files_text : ℕ → ℕ → Files → List ℕ
files_text ids len files = ram_line len ++ pieces_text ids files

unfoldable pub vector_text : ℕ → List ℕ
vector_text vector = if vector == 0 then [] else joined (codes "main vector: at " ∷ hexadecimal 8 vector ∷ codes "\n" ∷ [])

unfoldable pub file_text : Active → List ℕ
file_text (M68 r) =
    joined (codes "entry: 68k at " ∷ hexadecimal 8 r.pc ∷ codes ", a5 " ∷ hexadecimal 8 (slice_index r.a 5) ∷ codes ", a7 " ∷ hexadecimal 8 (slice_index r.a 7) ∷ codes "\n" ∷ [])
file_text (Ppc r) =
    joined (codes "entry: ppc at " ∷ hexadecimal 8 r.pc ∷ codes ", r1 " ∷ hexadecimal 8 (slice_index r.gpr 1) ∷ codes ", r2 " ∷ hexadecimal 8 (slice_index r.gpr 2) ∷ codes "\n" ∷ [])

-- the heap, and the stack behind it
unfoldable pub room_text : ℕ → ℕ → ℕ → List ℕ
room_text low high end =
    joined (codes "heap: from " ∷ hexadecimal 8 low ∷ codes " to " ∷ hexadecimal 8 high
    ∷ codes "\nstack: from " ∷ hexadecimal 8 high ∷ codes " to " ∷ hexadecimal 8 end ∷ codes "\n" ∷ [])

-- a program as it starts, with its main vector as the gate page tells it
abbrev pub start_text : Program → List ℕ
start_text p = vector_text (long_at 0x1024 p.ram.bytes) ++ (file_text p.active ++ room_text p.heap_lo p.heap_hi (length p.ram.bytes))

-- the files of a job were loaded, or they were refused by this rule
abbrev pub IsMapped : Files → Isa → ℕ → Mapped → Type 0
IsMapped files main len (Loaded text) =
    (p : Program) × (load_of files main len ≡ Ok p) × (text.items ≡ files_text id_count len files ++ start_text p)
IsMapped files main len (Refused text e) = (load_of files main len ≡ Err e) × (text.items ≡ files_text id_count len files)
