-- The layout of a routine descriptor, as this project takes it
-- (Inside Macintosh: PowerPC System Software, chapter 2).
use Rattle.std.specs.Prelude.{ℕ, ◌+◌, ◌/◌, ◌%◌, ◌^◌, ◌==◌, nat_lt, Bool, true, false, not, ◌&&◌, if◌then◌else◌, Option, Some, None, is_none, unwrap_or}
use Rattle.mix_bits.specs.declared.isa.Isa.{Isa}
use Rattle.mix_bits.specs.declared.isa.Isa.TheVariants.{M68, Ppc}
use Rattle.big_memory.specs.Memory.{Memory, in_memory}
use Rattle.big_memory.specs.Numbers.{number_at}
use Rattle.routine_desc.specs.declared.record.Rec.{Rec}
use Rattle.routine_desc.specs.declared.record.BadDesc.{BadDesc}
use Rattle.routine_desc.specs.declared.record.BadDesc.TheVariants.{Access, Magic, Version, Reserved, Count, Isa as BadIsa, Flags}

-- the word with which a descriptor begins
abbrev pub mixed_mode_magic : ℕ
mixed_mode_magic = 0xAAFE

-- whether flags have one of a power of two
abbrev pub has_flag : ℕ → ℕ → Bool
has_flag flags flag = flags / flag % 2 == 1

-- no record needs preparing or holds an index, and there are no other flags
abbrev pub are_good_flags : ℕ → Bool
are_good_flags flags = nat_lt flags 0x20 && not (has_flag flags 2)

-- the first rule that a header breaks
abbrev pub bad_header : Memory → ℕ → Option BadDesc
bad_header m a =
    if not (in_memory m a 12) then Some Access
    else (if not (number_at a 2 m.bytes == mixed_mode_magic) then Some Magic
    else (if not (number_at (a + 2) 1 m.bytes == 7) then Some Version
    else (if not ((number_at (a + 4) 4 m.bytes == 0) && (number_at (a + 8) 1 m.bytes == 0)) then Some Reserved
    else (if nat_lt 63 (number_at (a + 10) 2 m.bytes) then Some Count
    else None))))

-- an ISA code: the set of a routine's code, and whether that is 68K code of the Code Fragment Manager (CFM-68K), which
-- has its own A5
abbrev pub code_at : ℕ → Option (Isa × Bool)
code_at code = if code == 0 then Some (M68, false) else (if code == 1 then Some (Ppc, false) else (if code == 16 then Some (M68, true) else None))

-- the same of a record that is read, whose code is one of these; for other codes any set does
abbrev pub isa_of : ℕ → Isa
isa_of code = (unwrap_or (code_at code) (M68, false)).0

abbrev pub is_cfm : ℕ → Bool
is_cfm code = (unwrap_or (code_at code) (M68, false)).1

-- the first rule that a record breaks, but for the signature of its procInfo
abbrev pub bad_record : Memory → ℕ → Option BadDesc
bad_record m p =
    if not (in_memory m p 20) then Some Access
    else (if not ((number_at (p + 4) 1 m.bytes == 0) && (number_at (p + 12) 4 m.bytes == 0)) then Some Reserved
    else (if is_none (code_at (number_at (p + 5) 1 m.bytes)) then Some BadIsa
    else (if not (are_good_flags (number_at (p + 6) 2 m.bytes)) then Some Flags
    else None)))

-- a relative target is counted from the descriptor's first byte
abbrev pub target_of : ℕ → ℕ → ℕ → ℕ
target_of a flags proc = if has_flag flags 1 then (a + proc) % 2 ^ 32 else proc

-- the record at p of the descriptor at a
abbrev pub record_at : Memory → ℕ → ℕ → Rec
record_at m a p =
    record {
      info = number_at p 4 m.bytes;
      isa = isa_of (number_at (p + 5) 1 m.bytes);
      flags = number_at (p + 6) 2 m.bytes;
      target = target_of a (number_at (p + 6) 2 m.bytes) (number_at (p + 8) 4 m.bytes);
      selector = number_at (p + 16) 4 m.bytes;
      cfm = is_cfm (number_at (p + 5) 1 m.bytes);
    }
