-- Laws of a frame's range and of its marks.
use Rattle.std.proofs.Common.{◌≡◌, inl, inr, ℕ, ◌+◌, ◌-◌, ◌*◌, ◌/◌, ◌%◌, ◌<◌, ◌≤◌, nat_lt, nat_le, false, ◌&&◌, [], ◌∷◌, length, get_or, replicate, cond, arith, ap, sym, ◌∙◌, refl}
use Rattle.std.proofs.lemmas.Bool.Decides.{nat_tests}
use Rattle.std.proofs.lemmas.List.{ext_get_or, length-replicate}
use Rattle.mix_bits.specs.declared.isa.Isa.{Isa}
use Rattle.mix_bits.specs.declared.isa.Isa.TheVariants.{M68, Ppc}
use Rattle.big_memory.specs.Lists.{put}
use Rattle.big_memory.specs.Memory.{Memory, floor_of}
use Rattle.big_memory.proofs.Lists.{length-put, get_or-put_replicate}
use Rattle.switch_frame.specs.Sets.{frame_size}
use Rattle.switch_frame.specs.Records.{isa_of}
use Rattle.switch_frame.specs.laws.Chain.{IsFrameRange}
use Rattle.switch_frame.specs.ChainClauses.{in_range}
use Rattle.switch_frame.specs.laws.RangeLaws.{FitsIsRange, MarkAt, MarksKept, MarksSame, RangeMoves, TopTells}
use Rattle.switch_frame.proofs.Linked.{IsRange, len-ram, range-fits}

pub top_tells : TopTells
top_tells m top r [] links =
    let range : IsRange (length m.bytes) r = range-fits (length m.bytes) r [] (len-ram m links.ram) links.frames.1 in
    (omega (arith, links.first, range.start), inl refl)
top_tells m top r (s ∷ rs) links =
    let range : IsRange (length m.bytes) r = range-fits (length m.bytes) r (s ∷ rs) (len-ram m links.ram) links.frames.1 in
    let inside : r.hi ≤ s.lo = links.frames.1.inside.0 in
    (omega (arith, links.first, range.start), inr (omega (arith, links.first, range.some)))

range-size : (m : Memory) (lo hi : ℕ) (isa : Isa) → hi ≡ lo + frame_size isa → lo % 16 ≡ 0 → floor_of m ≤ lo → hi ≤ length m.bytes → IsFrameRange m lo hi
range-size m lo hi M68 size aligned stack within =
    record { first = aligned; last = omega arith; stack = stack; order = omega arith; small = omega arith; within = within }
range-size m lo hi Ppc size aligned stack within =
    record { first = aligned; last = omega arith; stack = stack; order = omega arith; small = omega arith; within = within }

pub fits_is_range : FitsIsRange
fits_is_range m r fits = range-size m r.lo r.hi (isa_of r.caller) fits.size fits.aligned fits.stack fits.within

pub range_moves : RangeMoves
range_moves m n lo hi same range =
    record { first = range.first; last = range.last; stack = omega (arith, same, range.stack); order = range.order; small = range.small; within = omega (arith, same, range.within) }

-- the marks of a range set or cleared
range-units : (lo hi unit : ℕ) → lo % 16 ≡ 0 → hi % 16 ≡ 0 → lo < hi → (nat_le (lo / 16) unit && nat_lt unit (lo / 16 + (hi - lo) / 16)) ≡ in_range lo hi unit
range-units lo hi unit low high order =
    let first : nat_le (lo / 16) unit ≡ nat_le lo (16 * unit) = grind (arith, nat_tests) in
    let last : nat_lt unit (lo / 16 + (hi - lo) / 16) ≡ nat_lt (16 * unit) hi = grind (arith, nat_tests) in
    rw (first, last) refl

below-range : (lo hi unit : ℕ) → 16 * unit < lo → in_range lo hi unit ≡ false
below-range lo hi unit low = grind (arith, nat_tests)

pub mark_at : MarkAt
mark_at m lo hi unit on ram range =
    get_or-put_replicate (lo / 16) ((hi - lo) / 16) unit on false m.marks (omega (arith, ram.units, range.first, range.last, range.order, range.within))
    ∙ ap (λ b. cond b on (get_or m.marks unit false)) (range-units lo hi unit range.first range.last range.order)

pub marks_kept : MarksKept
marks_kept m lo hi on ram range =
    let count : length (replicate ((hi - lo) / 16) on) ≡ (hi - lo) / 16 = length-replicate ((hi - lo) / 16) on in
    let same : length (put (lo / 16) (replicate ((hi - lo) / 16) on) m.marks) ≡ length m.marks
    = length-put (lo / 16) (replicate ((hi - lo) / 16) on) m.marks (omega (arith, ram.units, range.first, range.last, range.order, range.within)) in
    record {
      units = ram.units ∙ ap (λ n. 16 * n) (sym same);
      least = ram.least;
      most = ram.most;
      whole = ram.whole;
      clear = λ unit low.
          mark_at m lo hi unit on ram range ∙ ap (λ b. cond b on (get_or m.marks unit false)) (below-range lo hi unit (omega (arith, range.stack, low))) ∙ ram.clear unit low;
    }

pub marks_same : MarksSame
marks_same m n s t rs here there same =
    let count : length m.marks ≡ length n.marks = omega (arith, here.links.ram.units, there.links.ram.units, same) in
    ext_get_or false _ _ count (λ unit within. here.guarded unit ∙ sym (there.guarded unit))
