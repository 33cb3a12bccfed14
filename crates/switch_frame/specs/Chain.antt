-- The chain of frames in memory, from the innermost outward: read as a function of the bytes, and as a relation.
use Rattle.std.specs.Prelude.{◌≡◌, ℕ, zero, suc, ◌+◌, ◌-◌, ◌*◌, ◌/◌, ◌%◌, ◌^◌, ◌<◌, ◌≤◌, ◌==◌, nat_le, nat_lt, Bool, true, false, ◌&&◌, ◌||◌, if◌then◌else◌, List, [], ◌∷◌, length, slice_index_or}
use Rattle.big_memory.specs.Lists.{part, put}
use Rattle.big_memory.specs.Lists.{zeros}
use Rattle.big_memory.specs.Memory.{Memory, IsRam}
use Rattle.big_memory.specs.Numbers.{AreLongs, long_at}
use Rattle.proc_info.specs.Signature.{has_signature}
use Rattle.switch_frame.specs.declared.active.Active.{Active}
use Rattle.switch_frame.specs.declared.active.Active.TheVariants.{M68, Ppc}
use Rattle.switch_frame.specs.Sets.{caller_isa, callee_isa, frame_size}
use Rattle.switch_frame.specs.Records.{Record, isa_of, image, record_at}

-- where the innermost of some frames begins, 0 without one
abbrev pub outer_of : List Record → ℕ
outer_of [] = 0
outer_of (r ∷ rs) = r.lo

-- the records of n frames, each of which tells where the next outer one begins
unfoldable pub read_chain : ℕ → List ℕ → ℕ → List Record
read_chain zero bytes top = []
read_chain (suc n) bytes top = record_at top bytes ∷ read_chain n bytes (long_at top bytes)

-- the records of the frames from `top` outward, innermost first, which tells how many are live
unfoldable pub records : List ℕ → ℕ → List Record
records bytes top = read_chain (if top == 0 then 0 else long_at (top + 28) bytes) bytes top

-- at most so many frames are live
abbrev pub most_frames : ℕ
most_frames = 256

-- what every register file meets
pub record ArePpc (gpr : List ℕ) (cr lr ctr xer pc : ℕ) : Type 0 where
  pub general : AreLongs 32 gpr
  pub cr_fits : cr < 2 ^ 32
  pub lr_fits : lr < 2 ^ 32
  pub ctr_fits : ctr < 2 ^ 32
  pub xer_fits : xer < 2 ^ 32
  pub pc_fits : pc < 2 ^ 32

pub record AreM68 (d a : List ℕ) (pc : ℕ) : Type 0 where
  pub data_registers : AreLongs 8 d
  pub address_registers : AreLongs 8 a
  pub pc_fits : pc < 2 ^ 32

abbrev pub IsFile : Active → Type 0
IsFile (M68 file) = AreM68 file.d file.a file.pc
IsFile (Ppc file) = ArePpc file.gpr file.cr file.lr file.ctr file.xer file.pc

-- a frame lies below the next outer one, and its caller is of the set that the next outer frame's caller called
abbrev pub IsInside : Record → List Record → Type 0
IsInside r [] = Unit {0}
IsInside r (s ∷ rs) = (r.hi ≤ s.lo) × (callee_isa s.kind ≡ isa_of r.caller)

-- the fields of a frame hold the numbers of a record
pub record IsHeld (r : Record) : Type 0 where
  pub file : IsFile r.caller
  pub info_fits : r.info < 2 ^ 32
  pub selector_fits : r.selector < 2 ^ 32
  pub target_fits : r.target < 2 ^ 32
  pub want_fits : r.want < 2 ^ 32

-- what a live record meets in memory of `len` bytes, whatever frames are outside it
pub record FitsAlone (len : ℕ) (r : Record) : Type 0 where
  pub held : IsHeld r
  pub signature : has_signature r.info ≡ true
  pub kind : caller_isa r.kind ≡ isa_of r.caller
  pub size : r.hi ≡ r.lo + frame_size (isa_of r.caller)
  pub aligned : r.lo % 16 ≡ 0
  pub stack : len - len / 4 ≤ r.lo
  pub within : r.hi ≤ len

-- and inside the records of the frames outside it
pub record Fits (len : ℕ) (r : Record) (rs : List Record) : Type 0 where
  pub alone : FitsAlone len r
  pub inside : IsInside r rs

-- each record fits, and its range holds its image
abbrev pub Frames : ℕ → List ℕ → List Record → Type 0
Frames len bytes [] = Unit {0}
Frames len bytes (r ∷ rs) =
    (part r.lo (r.hi - r.lo) bytes ≡ image r (outer_of rs) (suc (length rs))) × Fits len r rs × Frames len bytes rs

-- the frames of these records stand in memory, and the innermost begins at `top`
pub record Links (m : Memory) (top : ℕ) (rs : List Record) : Type 0 where
  pub ram : IsRam m
  pub first : top ≡ outer_of rs
  pub few : length rs ≤ most_frames
  pub frames : Frames (length m.bytes) m.bytes rs

-- whether a unit of 16 bytes lies in the range of one of these records
abbrev pub covered : ℕ → List Record → Bool
covered unit [] = false
covered unit (r ∷ rs) = (nat_le r.lo (16 * unit) && nat_lt (16 * unit) r.hi) || covered unit rs

-- a whole chain: its frames stand in memory, and exactly their units are guarded
pub record Chain (m : Memory) (top : ℕ) (rs : List Record) : Type 0 where
  pub links : Links m top rs
  pub guarded : (unit : ℕ) → slice_index_or m.marks unit false ≡ covered unit rs

-- the memory beside the frames: 0 in their ranges
abbrev pub cleared : List ℕ → List Record → List ℕ
cleared bytes [] = bytes
cleared bytes (r ∷ rs) = put r.lo (zeros (r.hi - r.lo)) (cleared bytes rs)

-- what loads read: that memory, with the records' images in their ranges
abbrev pub view : List ℕ → List Record → List ℕ
view bytes [] = bytes
view bytes (r ∷ rs) = put r.lo (image r (outer_of rs) (suc (length rs))) (view bytes rs)
