-- What every loaded program meets.
use Rattle.std.specs.Prelude.{◌≡◌, ℕ, zero, suc, ◌+◌, ◌-◌, ◌*◌, ◌/◌, ◌%◌, ◌<◌, ◌≤◌, ◌==◌, nat_le, nat_lt, ◌&&◌, if◌then◌else◌, List, [], ◌∷◌, length, replicate, Option, Some, None}
use Rattle.mix_bits.specs.declared.isa.Isa.{Isa}
use Rattle.mix_bits.specs.declared.isa.Isa.TheVariants.{M68, Ppc}
use Rattle.big_memory.specs.Map.{host_vector_at, host_code_at, host_functions}
use Rattle.big_memory.specs.Memory.{Memory, floor_of}
use Rattle.big_memory.specs.Numbers.{long_at}
use Rattle.switch_frame.specs.Pieces.{Piece, long_piece}

-- where the loaded program begins
abbrev pub program_start : ℕ
program_start = 0x10000

-- the transition vectors of the first host functions: each a code address, and no TOC
unfoldable pub vectors : ℕ → List Piece
vectors zero = []
vectors (suc k) = long_piece (host_vector_at k + 4) 0 ∷ long_piece (host_vector_at k) (host_code_at k) ∷ vectors k

-- what the gate page tells the program: where its 68K code starts, its main vector, its A5, and the size of RAM
unfoldable pub told : ℕ → ℕ → ℕ → ℕ → List Piece → List Piece
told entry vector a5 len before =
    long_piece 0x102C len ∷ long_piece 0x1028 a5 ∷ long_piece 0x1024 vector ∷ long_piece 0x1020 entry ∷ before

-- the longs of the gate page; all else there is 0
abbrev pub gate_longs : ℕ → ℕ → ℕ → ℕ → List Piece
gate_longs entry vector a5 len = told entry vector a5 len (vectors host_functions)

-- memory in which nothing was put
unfoldable pub blank : ℕ → List ℕ
blank n = replicate n 0

-- the long at an address of the transition vectors of the first n host functions, 0 outside them
unfoldable pub vector_long : ℕ → ℕ → ℕ
vector_long n a =
    if nat_le (host_vector_at 0) a && nat_lt a (host_vector_at n) && a % 8 == 0 then host_code_at ((a - host_vector_at 0) / 8) else 0

-- the long at an address of the gate page, in memory of `len` bytes: none where any value may stand, for the entry and
-- the main vector
unfoldable pub gate_long : ℕ → ℕ → ℕ → Option ℕ
gate_long a5 len a =
    if a == 0x1020 then None else (if a == 0x1024 then None else (if a == 0x1028 then Some a5 else (if a == 0x102C then Some len else Some (vector_long host_functions a))))

-- a number is the one that is told, if one is
abbrev pub Stands : Option ℕ → ℕ → Type 0
Stands None value = Unit {0}
Stands (Some told) value = value ≡ told

-- memory has the gate page of the memory map, whatever entry and main vector it tells
pub record HasGatePage (a5 : ℕ) (bytes : List ℕ) : Type 0 where
  pub longs : (k : ℕ) → k < 1024 → Stands (gate_long a5 (length bytes) (0x1000 + 4 * k)) (long_at (0x1000 + 4 * k) bytes)

-- the stack pointer with which a main program is to end; PowerPC code starts with it, 68K code 4 below, at its return address
abbrev pub start_sp_of : Isa → ℕ → ℕ
start_sp_of M68 len = len
start_sp_of Ppc len = len - 64

-- a heap's bounds: it goes from a multiple of 16, behind the program's first address, to the stack's floor
pub record HasHeap (low high : ℕ) (memory : Memory) : Type 0 where
  pub aligned : low % 16 ≡ 0
  pub behind : program_start ≤ low
  pub ordered : low ≤ high
  pub whole : high ≡ floor_of memory
