-- Laws of chains of frames.
use Rattle.std.proofs.Common.{◌≡◌, ◌⊎◌, inl, inr, ℕ, suc, ◌+◌, ◌-◌, ◌^◌, ◌<◌, ◌≤◌, ◌==◌, false, lit<, lit≤, List, [], ◌∷◌, length, arith, ap, ◌∙◌, refl}
use Rattle.std.proofs.lemmas.Bool.Decides.{nat_tests}
use Rattle.big_memory.specs.Lists.{put}
use Rattle.big_memory.specs.Memory.{Memory, IsRam}
use Rattle.big_memory.proofs.Lists.{length-put, part-put_apart}
use Rattle.switch_frame.specs.Sets.{frame_size}
use Rattle.switch_frame.specs.Records.{Record, isa_of, image}
use Rattle.switch_frame.specs.laws.Chain.{Above, Apart}
use Rattle.switch_frame.specs.Chain.{Fits, Frames, outer_of, records, read_chain, cleared}
use Rattle.switch_frame.specs.inner.Parts.{depth_at}
use Rattle.big_memory.specs.Lists.{zeros}
use Rattle.switch_frame.specs.laws.FrameLaws.{FramesAbove}
use Rattle.switch_frame.specs.laws.Laws.{ReadsBack, ReadsOuter, BeginsEmpty, KeepsLength, TopIsLong}
use Rattle.switch_frame.proofs.Pieces.{length-zeros}
use Rattle.switch_frame.proofs.Images.{IsReadAt, image-back, length-image, size-least}

-- memory that is as long as a Ram
pub record IsLen (len : ℕ) : Type 0 where
  pub least : 131072 ≤ len
  pub most : len ≤ 16777216

pub len-ram : (m : Memory) → IsRam m → IsLen (length m.bytes)
len-ram m ram = record { least = ram.least; most = ram.most }

-- the range of a record that fits
pub record IsRange (len : ℕ) (r : Record) : Type 0 where
  pub some : r.lo + 112 ≤ r.hi
  pub end : r.hi ≤ len
  pub start : 98304 ≤ r.lo

pub range-fits : (len : ℕ) (r : Record) (rs : List Record) → IsLen len → Fits len r rs → IsRange len r
range-fits len r rs ok fits =
    let least = size-least r.caller in
    record { some = omega (arith, fits.alone.size); end = fits.alone.within; start = omega (arith, fits.alone.stack, ok.least) }

pub length-image_fits : (len : ℕ) (r : Record) (rs : List Record) (outer depth : ℕ) → Fits len r rs → length (image r outer depth) ≡ r.hi - r.lo
length-image_fits len r rs outer depth fits = length-image r outer depth fits.alone.held.file ∙ (let e : frame_size (isa_of r.caller) ≡ r.hi - r.lo = omega (arith, fits.alone.size) in e)

-- an innermost frame's lo is in the stack
outer-small : (len : ℕ) (bytes : List ℕ) (rs : List Record) → IsLen len → Frames len bytes rs → outer_of rs < 2 ^ 32
outer-small len bytes [] ok frames = lit< tt
outer-small len bytes (r ∷ rs) ok frames = let range : IsRange len r = range-fits len r rs ok frames.1 in omega (arith, range.some, range.end, ok.most)

pub top_is_long : TopIsLong
top_is_long m top rs links =
    let small : outer_of rs < 2 ^ 32 = outer-small (length m.bytes) m.bytes rs (len-ram m links.ram) links.frames in omega (arith, links.first, small)

-- the frame of the first record, read by its layout
pub first-back : (len : ℕ) (bytes : List ℕ) (r : Record) (rs : List Record) → IsLen len → length rs < 2 ^ 31 → Frames len bytes (r ∷ rs) → IsReadAt bytes r (outer_of rs) (suc (length rs))
first-back len bytes r rs ok few frames =
    let fits = frames.1 in
    let hi : r.hi < 2 ^ 32 = omega (arith, fits.alone.within, ok.most) in
    image-back bytes (r.hi - r.lo) r (outer_of rs) (suc (length rs)) frames.0 fits.alone.held.file fits.alone.kind (outer-small len bytes rs ok frames.2) (omega arith)
    fits.alone.held.info_fits fits.alone.held.selector_fits fits.alone.held.target_fits hi fits.alone.held.want_fits

-- the chain read from the bytes
chain-back : (len : ℕ) (bytes : List ℕ) (rs : List Record) → IsLen len → length rs < 2 ^ 31 → Frames len bytes rs → read_chain (length rs) bytes (outer_of rs) ≡ rs
unfolding read_chain
chain-back len bytes [] ok few frames = refl
chain-back len bytes (r ∷ rs) ok few frames =
    let back : IsReadAt bytes r (outer_of rs) (suc (length rs)) = first-back len bytes r rs ok (omega arith) frames in
    rw (back.record_is, back.outer_is) (ap (λ xs. r ∷ xs) (chain-back len bytes rs ok (omega arith) frames.2))

pub depth-back : (len : ℕ) (bytes : List ℕ) (rs : List Record) → IsLen len → length rs < 2 ^ 31 → Frames len bytes rs → depth_at bytes (outer_of rs) ≡ length rs
depth-back len bytes [] ok few frames = refl
depth-back len bytes (r ∷ rs) ok few frames =
    let back : IsReadAt bytes r (outer_of rs) (suc (length rs)) = first-back len bytes r rs ok (omega arith) frames in
    let range : IsRange len r = range-fits len r rs ok frames.1 in
    let live : (r.lo == 0) ≡ false = grind (arith, nat_tests, range.start) in
    rw live back.depth_is

frames-back : (len : ℕ) (bytes : List ℕ) (rs : List Record) → IsLen len → length rs < 2 ^ 31 → Frames len bytes rs → records bytes (outer_of rs) ≡ rs
unfolding records
frames-back len bytes rs ok few frames = rw (depth-back len bytes rs ok few frames) (chain-back len bytes rs ok few frames)

pub reads_back : ReadsBack
reads_back m top rs links =
    ap (λ t. records m.bytes t) links.first ∙ frames-back (length m.bytes) m.bytes rs (len-ram m links.ram) (omega (arith, links.few)) links.frames

pub reads_outer : ReadsOuter
reads_outer m top r rs links = record { ram = links.ram; first = refl; few = omega (arith, links.few); frames = links.frames.2 }

pub begins_empty : BeginsEmpty
begins_empty m ram free = record { links = record { ram = ram; first = refl; few = lit≤ tt; frames = tt }; guarded = free }

pub above-less : (lo hi : ℕ) (rs : List Record) → lo ≤ hi → Above hi rs → Above lo rs
above-less lo hi [] less above = tt
above-less lo hi (r ∷ rs) less above = (omega (arith, above.0), above-less lo hi rs less above.1)

pub apart-above : (a n : ℕ) (rs : List Record) → Above (a + n) rs → Apart a n rs
apart-above a n [] above = tt
apart-above a n (r ∷ rs) above = (inr above.0, apart-above a n rs above.1)

pub frames_above : FramesAbove
frames_above len bytes r [] inside frames = tt
frames_above len bytes r (s ∷ rs) inside frames =
    let hi : r.hi ≤ s.hi = omega (arith, inside.0, frames.1.alone.size) in
    (inside.0, above-less r.hi s.hi rs hi (frames_above len bytes s rs frames.1.inside frames.2))

-- a write apart from the frames keeps them
pub frames-kept : (len a : ℕ) (ys bytes : List ℕ) (rs : List Record) → IsLen len → a + length ys ≤ length bytes → Apart a (length ys) rs → Frames len bytes rs → Frames len (put a ys bytes) rs
frames-kept len a ys bytes [] ok within apart frames = tt
frames-kept len a ys bytes (r ∷ rs) ok within apart frames =
    let range : IsRange len r = range-fits len r rs ok frames.1 in
    let other : (r.lo + (r.hi - r.lo) ≤ a) ⊎ (a + length ys ≤ r.lo) = elim apart.0 [ inl below ↦ inl (omega arith) | inr above ↦ inr above ] in
    (part-put_apart r.lo (r.hi - r.lo) a ys bytes within other ∙ frames.0, frames.1, frames-kept len a ys bytes rs ok within apart.1 frames.2)

-- the memory beside the frames is as long
pub length-cleared : (bytes : List ℕ) (rs : List Record) → Frames (length bytes) bytes rs → IsLen (length bytes) → length (cleared bytes rs) ≡ length bytes
length-cleared bytes [] frames ok = refl
length-cleared bytes (r ∷ rs) frames ok =
    let rest : length (cleared bytes rs) ≡ length bytes = length-cleared bytes rs frames.2 ok in
    let range : IsRange (length bytes) r = range-fits (length bytes) r rs ok frames.1 in
    let size : length (zeros (r.hi - r.lo)) ≡ r.hi - r.lo = length-zeros (r.hi - r.lo) in
    length-put r.lo (zeros (r.hi - r.lo)) (cleared bytes rs) (omega (arith, range.some, range.end)) ∙ rest

pub keeps_length : KeepsLength
keeps_length m top rs links = length-cleared m.bytes rs links.frames (len-ram m links.ram)
