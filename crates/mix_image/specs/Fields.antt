-- The fields of an image, read in order: each with the refusal that comes where it is the first that does not pass.
use Rattle.std.specs.Prelude.{ℕ, zero, suc, ◌+◌, ◌*◌, ◌/◌, ◌%◌, ◌==◌, nat_le, nat_lt, Bool, false, ◌&&◌, if◌then◌else◌, List, [], ◌++◌, length, replicate, slice_index, Option, Some, None, Result, Ok, Err}
use Rattle.mix_bits.specs.Results.{◌>>=◌}
use Rattle.mix_bits.specs.declared.isa.Isa.{Isa}
use Rattle.mix_bits.specs.declared.isa.Isa.TheVariants.{M68 as set_m68, Ppc as set_ppc}
use Rattle.m68_isa.specs.Longs.{file_of as m68_file}
use Rattle.ppc_isa.specs.Longs.{file_of as ppc_file}
use Rattle.big_memory.specs.Lists.{part}
use Rattle.big_memory.specs.Memory.{Memory}
use Rattle.big_memory.specs.Numbers.{long_at, longs_at}
use Rattle.host_heap.specs.Space.{Space, block_limit}
use Rattle.host_heap.specs.Place.{can_append, placed}
use Rattle.switch_frame.specs.declared.active.Active.{Active}
use Rattle.switch_frame.specs.declared.active.Active.TheVariants.{M68, Ppc}
use Rattle.switch_frame.specs.Program.{blank, program_start, start_sp_of}
use Rattle.switch_frame.specs.Records.{isa_of}
use Rattle.mix_engine.specs.declared.machine.Machine.{Machine}
use Rattle.mix_image.specs.declared.error.ImageError.{ImageError}
use Rattle.mix_image.specs.declared.error.ImageError.TheVariants.{Short, Magic, Ram, Main, StartSp, Heap, Block as Blocks, Active as Actives, Ccr, Page, Extra}
use Rattle.mix_image.specs.declared.head.Head.{Head}
use Rattle.mix_image.specs.Spelling.{is_blank, mark_first, mark_second}

-- a value, or a refusal where it does not pass its test
abbrev pub only_if : {A : Type 0} → Bool → ImageError → A → Result A ImageError
only_if passes refusal value = if passes then Ok value else Err refusal

-- the long at a place of the image
abbrev pub long_from : List ℕ → ℕ → Result ℕ ImageError
long_from bytes at = if nat_lt (length bytes) (at + 4) then Err (Short (length bytes)) else Ok (long_at at bytes)

abbrev pub magic_of : List ℕ → Result (Unit {0}) ImageError
magic_of bytes =
    if nat_lt (length bytes) 8 then Err (Short (length bytes))
    else only_if ((long_at 0 bytes == mark_first) && (long_at 4 bytes == mark_second)) Magic (record {})

abbrev pub kib_of : List ℕ → Result ℕ ImageError
kib_of bytes = long_from bytes 8 >>= λ kib. only_if (nat_le 128 kib && nat_le kib 16384) (Ram kib) kib

abbrev pub set_of : ℕ → ImageError → Result Isa ImageError
set_of value refusal = if value == 0 then Ok set_m68 else only_if (value == 1) refusal set_ppc

abbrev pub main_of : List ℕ → Result Isa ImageError
main_of bytes = long_from bytes 16 >>= λ value. set_of value (Main value)

abbrev pub start_of : List ℕ → Isa → ℕ → Result ℕ ImageError
start_of bytes main kib = long_from bytes 20 >>= λ sp. only_if (sp == start_sp_of main (1024 * kib)) (StartSp sp) sp

-- a heap's bounds: from a multiple of 16 behind the program's first address up to the stack's floor
abbrev pub are_bounds : ℕ → ℕ → ℕ → Bool
are_bounds low high kib = (low % 16 == 0) && (nat_le program_start low && (nat_le low high && (high == 768 * kib)))

abbrev pub bounds_of : List ℕ → ℕ → Result (ℕ × ℕ) ImageError
bounds_of bytes kib = long_from bytes 24 >>= λ low. long_from bytes 28 >>= λ high. only_if (are_bounds low high kib) Heap (low, high)

abbrev pub count_of : List ℕ → Result ℕ ImageError
count_of bytes = long_from bytes 32 >>= λ count. only_if (nat_le count block_limit) (Blocks count) count

unfoldable pub head_of : List ℕ → Result Head ImageError
head_of bytes =
    magic_of bytes >>= λ _.
    kib_of bytes >>= λ kib.
    long_from bytes 12 >>= λ a5.
    main_of bytes >>= λ main.
    start_of bytes main kib >>= λ start_sp.
    bounds_of bytes kib >>= λ bounds.
    count_of bytes >>= λ count.
    Ok (record { kib = kib; a5 = a5; main = main; start_sp = start_sp; low = bounds.0; high = bounds.1; count = count })

-- the heap with the next block, which stands behind all others
abbrev pub block_from : List ℕ → Space → ℕ → Result Space ImageError
block_from bytes s k =
    long_from bytes (36 + 8 * k) >>= λ address.
    long_from bytes (40 + 8 * k) >>= λ size.
    only_if (can_append s size address) (Blocks k) (placed s size address)

unfoldable pub blocks_from : List ℕ → Space → ℕ → Result Space ImageError
blocks_from bytes s zero = Ok s
blocks_from bytes s (suc k) = blocks_from bytes s k >>= λ t. block_from bytes t k

abbrev pub empty_heap : ℕ → ℕ → Space
empty_heap low high = record { low = low; high = high; blocks = [] }

-- the registers from a place on
abbrev pub m68_from : List ℕ → ℕ → Result Active ImageError
m68_from bytes at =
    if nat_lt (length bytes) (at + 72) then Err (Short (length bytes))
    else only_if (nat_lt (long_at (at + 68) bytes) 32) (Ccr (long_at (at + 68) bytes)) (M68 (m68_file (longs_at 18 at bytes)))

abbrev pub ppc_from : List ℕ → ℕ → Result Active ImageError
ppc_from bytes at = if nat_lt (length bytes) (at + 148) then Err (Short (length bytes)) else Ok (Ppc (ppc_file (longs_at 37 at bytes)))

abbrev pub file_from : List ℕ → ℕ → Isa → Result Active ImageError
file_from bytes at set_m68 = m68_from bytes at
file_from bytes at set_ppc = ppc_from bytes at

unfoldable pub active_from : List ℕ → ℕ → Result Active ImageError
active_from bytes at = long_from bytes at >>= λ value. set_of value (Actives value) >>= λ set. file_from bytes (at + 4) set

-- how many bytes the registers of a set have
abbrev pub file_size : Isa → ℕ
file_size set_m68 = 72
file_size set_ppc = 148

-- the page k, none where all its bytes are 0
abbrev pub full_page : List ℕ → ℕ → ℕ → Result (Option (List ℕ)) ImageError
full_page bytes at k =
    if nat_lt (length bytes) (at + 1025) then Err (Short (length bytes))
    else (if is_blank (part (at + 1) 1024 bytes) then Err (Page k) else Ok (Some (part (at + 1) 1024 bytes)))

abbrev pub page_from : List ℕ → ℕ → ℕ → Result (Option (List ℕ)) ImageError
page_from bytes at k =
    if nat_lt (length bytes) (at + 1) then Err (Short (length bytes))
    else (if slice_index bytes at == 0 then Ok None
    else (if slice_index bytes at == 1 then full_page bytes at k else Err (Page k)))

-- its bytes, and how many bytes spell it
abbrev pub page_bytes : Option (List ℕ) → List ℕ
page_bytes None = blank 1024
page_bytes (Some bytes) = bytes

abbrev pub page_size : Option (List ℕ) → ℕ
page_size None = 1
page_size (Some bytes) = 1025

-- bytes of RAM, and the place behind those that spell them
pub record Pages : Type 0 where
  pub bytes : List ℕ
  pub end : ℕ

abbrev pub more_pages : Pages → Option (List ℕ) → Pages
more_pages before page = record { bytes = before.bytes ++ page_bytes page; end = before.end + page_size page }

unfoldable pub pages_from : List ℕ → ℕ → ℕ → Result Pages ImageError
pages_from bytes at zero = Ok (record { bytes = []; end = at })
pages_from bytes at (suc k) = pages_from bytes at k >>= λ before. page_from bytes before.end k >>= λ page. Ok (more_pages before page)

-- memory of these bytes, with nothing guarded
abbrev pub bare : List ℕ → Memory
bare bytes = record { bytes = bytes; marks = replicate (length bytes / 16) false }

unfoldable pub memory_from : List ℕ → ℕ → ℕ → Result Memory ImageError
memory_from bytes at kib = pages_from bytes at kib >>= λ pages. only_if (nat_le (length bytes) pages.end) (Extra pages.end) (bare pages.bytes)

-- the machine whose fields the image holds, with nothing guarded
unfoldable pub fields_of : List ℕ → Result Machine ImageError
fields_of bytes =
    head_of bytes >>= λ head.
    blocks_from bytes (empty_heap head.low head.high) head.count >>= λ heap.
    long_from bytes (36 + 8 * head.count) >>= λ top.
    active_from bytes (40 + 8 * head.count) >>= λ active.
    memory_from bytes (44 + 8 * head.count + file_size (isa_of active)) head.kib >>= λ ram.
    Ok (record { active = active; body = record { ram = ram; heap = heap; top = top; a5 = head.a5; main = head.main; start_sp = head.start_sp } })
