-- What is tested of memory that came from outside: whether it holds a whole chain but for the guard, and the gate page.
use Rattle.std.specs.Prelude.{◌≡◌, ℕ, zero, suc, ◌+◌, ◌*◌, ◌%◌, ◌<◌, ◌==◌, nat_le, nat_lt, Bool, false, ◌&&◌, ◌||◌, if◌then◌else◌, List, length, Option, Some, None, Result, Ok, Err}
use Rattle.mix_bits.specs.Addresses.{onward}
use Rattle.mix_bits.specs.declared.isa.Isa.{Isa}
use Rattle.mix_bits.specs.declared.isa.Isa.TheVariants.{M68, Ppc}
use Rattle.mix_bits.specs.Isas.{is_isa}
use Rattle.big_memory.specs.Memory.{Memory, floor_of}
use Rattle.big_memory.specs.Numbers.{long_at}
use Rattle.proc_info.specs.Signature.{has_signature}
use Rattle.switch_frame.specs.declared.kind.Kind.{Kind}
use Rattle.switch_frame.specs.Sets.{callee_isa, caller_isa, frame_size, kind_at, kind_told}
use Rattle.switch_frame.specs.Chain.{most_frames}
use Rattle.switch_frame.specs.Program.{Stands, gate_long}

-- whether a frame's head, and the smaller of the two frames, can lie at an address
abbrev pub is_there : Memory → ℕ → Bool
is_there m lo = nat_le (floor_of m) lo && ((lo % 16 == 0) && nat_le (lo + 112) (length m.bytes))

-- whether it says that it ends where a frame of this caller's set does
abbrev pub ends_right : Memory → ℕ → Isa → Bool
ends_right m lo caller = (long_at (lo + 20) m.bytes == lo + frame_size caller) && nat_le (lo + frame_size caller) (length m.bytes)

-- whether longs are those of a register file with zeros behind it: the last long of a 68000's holds five bits
abbrev pub holds_file : Isa → ℕ → List ℕ → Bool
holds_file M68 a bytes = nat_lt (long_at (a + 68) bytes) 32 && ((long_at (a + 72) bytes == 0) && (long_at (a + 76) bytes == 0))
holds_file Ppc a bytes = (long_at (a + 148) bytes == 0) && ((long_at (a + 152) bytes == 0) && (long_at (a + 156) bytes == 0))

-- whether a frame that ends at `hi` and counts `depth` frames can have the next outer one at `outer`: above it, and with
-- one frame less, where that one's count lies in memory; its address is a sum of 32 bits
abbrev pub is_below : Memory → ℕ → ℕ → ℕ → Bool
is_below m hi depth outer =
    nat_le hi outer && (nat_lt (length m.bytes) (onward outer 28 + 4) || (depth == long_at (onward outer 28) m.bytes + 1))

-- the same of a frame at `lo` as it tells these: the outermost one is the main program's
abbrev pub fits_outer : Memory → Isa → Isa → ℕ → Bool
fits_outer m main caller lo =
    if long_at lo m.bytes == 0 then (long_at (lo + 28) m.bytes == 1) && is_isa caller main
    else is_below m (long_at (lo + 20) m.bytes) (long_at (lo + 28) m.bytes) (long_at lo m.bytes)

-- whether a frame at `lo`, of this kind, is one that a chain can have there, with `callee` the set of the code inside it
abbrev pub is_image : Memory → Isa → Isa → ℕ → Option Kind → Bool
is_image m main callee lo None = false
is_image m main callee lo (Some kind) =
    ends_right m lo (caller_isa kind)
    && (holds_file (caller_isa kind) (lo + 32) m.bytes
    && (has_signature (long_at (lo + 8) m.bytes)
    && (is_isa (callee_isa kind) callee
    && (nat_le (long_at (lo + 28) m.bytes) most_frames && fits_outer m main (caller_isa kind) lo))))

unfoldable pub is_good : Memory → Isa → Isa → ℕ → Bool
is_good m main callee lo = is_there m lo && is_image m main callee lo (kind_at (long_at (lo + 4) m.bytes))

-- the set of the caller in the frame at `lo`
abbrev pub caller_at : Memory → ℕ → Isa
caller_at m lo = caller_isa (kind_told (long_at (lo + 4) m.bytes))

-- how many frames stand from `lo` outward, after `count` inside it, at most `most` more; or where the first stands that
-- is not good
unfoldable pub walk : Memory → Isa → ℕ → ℕ → Isa → ℕ → Result ℕ ℕ
walk m main zero count callee lo = Err lo
walk m main (suc most) count callee lo =
    if is_good m main callee lo
    then (if long_at lo m.bytes == 0 then Ok (suc count) else walk m main most (suc count) (caller_at m lo) (long_at lo m.bytes))
    else Err lo

-- the same of a chain that begins at `top`. Without a frame the main program runs
unfoldable pub checked : Memory → ℕ → Isa → Isa → Result ℕ ℕ
checked m top active main = if top == 0 then (if is_isa active main then Ok 0 else Err 0) else walk m main most_frames 0 active top

-- the first long of the gate page that is not as the page has it
pub record IsFirstWrong (a5 : ℕ) (bytes : List ℕ) (a : ℕ) : Type 0 where
  pub place : ℕ
  pub within : place < 1024
  pub address : a ≡ 0x1000 + 4 * place
  pub wrong : Stands (gate_long a5 (length bytes) a) (long_at a bytes) → ⊥
  pub before : (k : ℕ) → k < place → Stands (gate_long a5 (length bytes) (0x1000 + 4 * k)) (long_at (0x1000 + 4 * k) bytes)
