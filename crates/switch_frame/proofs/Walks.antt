-- A walk from frame to frame, and what a good frame meets.
use Rattle.std.proofs.Common.{◌≡◌, ℕ, suc, ◌+◌, ◌-◌, ◌%◌, ◌<◌, ◌≤◌, ◌==◌, nat_le, true, false, ◌&&◌, length, Option, Some, None, Result, Ok, Err, arith, add-one, ap, sym, ◌∙◌, refl}
use Rattle.std.proofs.lemmas.Bool.{and_from, and_parts}
use Rattle.std.proofs.lemmas.Bool.Decides.{nat_tests}
use Rattle.mix_bits.specs.declared.isa.Isa.{Isa}
use Rattle.mix_bits.specs.declared.isa.Isa.TheVariants.{M68, Ppc}
use Rattle.big_memory.specs.Memory.{Memory, floor_of}
use Rattle.big_memory.specs.Numbers.{long_at}
use Rattle.proc_info.specs.Signature.{has_signature}
use Rattle.switch_frame.specs.declared.kind.Kind.{Kind}
use Rattle.switch_frame.specs.Sets.{callee_isa, caller_isa, frame_size, kind_at}
use Rattle.switch_frame.specs.Chain.{most_frames}
use Rattle.mix_bits.specs.Isas.{is_isa}
use Rattle.switch_frame.specs.Checks.{caller_at, ends_right, fits_outer, holds_file, is_good, is_image, is_there, walk}

-- one step of a walk
pub walk-bad : (m : Memory) (main callee : Isa) (most count lo : ℕ) → is_good m main callee lo ≡ false → walk m main (suc most) count callee lo ≡ Err lo
unfolding walk
walk-bad m main callee most count lo bad = rw bad refl

pub walk-last : (m : Memory) (main callee : Isa) (most count lo : ℕ) → is_good m main callee lo ≡ true → (long_at lo m.bytes == 0) ≡ true → walk m main (suc most) count callee lo ≡ Ok (suc count)
unfolding walk
walk-last m main callee most count lo good last = rw (good, last) refl

pub walk-on : (m : Memory) (main callee : Isa) (most count lo : ℕ) → is_good m main callee lo ≡ true → (long_at lo m.bytes == 0) ≡ false
    → walk m main (suc most) count callee lo ≡ walk m main most (suc count) (caller_at m lo) (long_at lo m.bytes)
unfolding walk
walk-on m main callee most count lo good on = rw (good, on) refl

pub walk-ends : (m : Memory) (main callee : Isa) (count lo : ℕ) → walk m main 0 count callee lo ≡ Err lo
unfolding walk
walk-ends m main callee count lo = refl

-- the same as a loop sees it, that counts up to `most`
left : (most count : ℕ) → count < most → most - count ≡ suc (most - (count + 1))
left most count less = omega arith

pub stops-bad : (m : Memory) (main callee : Isa) (most count lo : ℕ) (whole : Result ℕ ℕ) → count < most → whole ≡ walk m main (most - count) count callee lo → is_good m main callee lo ≡ false → Err lo ≡ whole
stops-bad m main callee most count lo whole less so_far bad =
    sym (so_far ∙ ap (λ n. walk m main n count callee lo) (left most count less) ∙ walk-bad m main callee (most - (count + 1)) count lo bad)

pub stops-last : (m : Memory) (main callee : Isa) (most count lo outer : ℕ) (whole : Result ℕ ℕ) → count < most → whole ≡ walk m main (most - count) count callee lo → is_good m main callee lo ≡ true
    → outer ≡ long_at lo m.bytes → outer ≡ 0 → Ok (count + 1) ≡ whole
stops-last m main callee most count lo outer whole less so_far good read none =
    let last : (long_at lo m.bytes == 0) ≡ true = ap (λ n. n == 0) (sym read ∙ none) in
    sym (so_far ∙ ap (λ n. walk m main n count callee lo) (left most count less) ∙ walk-last m main callee (most - (count + 1)) count lo good last ∙ ap Ok (sym (add-one count)))

pub goes-on : (m : Memory) (main callee caller : Isa) (most count lo outer : ℕ) (whole : Result ℕ ℕ) → count < most → whole ≡ walk m main (most - count) count callee lo → is_good m main callee lo ≡ true
    → outer ≡ long_at lo m.bytes → (outer == 0) ≡ false → caller ≡ caller_at m lo → whole ≡ walk m main (most - (count + 1)) (count + 1) caller outer
goes-on m main callee caller most count lo outer whole less so_far good read on is =
    let more : (long_at lo m.bytes == 0) ≡ false = ap (λ n. n == 0) (sym read) ∙ on in
    so_far ∙ ap (λ n. walk m main n count callee lo) (left most count less) ∙ walk-on m main callee (most - (count + 1)) count lo good more
    ∙ ap (λ k. walk m main (most - (count + 1)) k (caller_at m lo) (long_at lo m.bytes)) (sym (add-one count))
    ∙ ap (λ set. walk m main (most - (count + 1)) (count + 1) set (long_at lo m.bytes)) (sym is)
    ∙ ap (λ a. walk m main (most - (count + 1)) (count + 1) caller a) (sym read)

pub stops-end : (m : Memory) (main callee : Isa) (most count lo : ℕ) (whole : Result ℕ ℕ) → most ≤ count → whole ≡ walk m main (most - count) count callee lo → Err lo ≡ whole
stops-end m main callee most count lo whole past so_far =
    let none : most - count ≡ 0 = omega arith in
    sym (so_far ∙ ap (λ n. walk m main n count callee lo) none ∙ walk-ends m main callee count lo)

-- the same set
pub set-same : (one other : Isa) → is_isa one other ≡ true → one ≡ other
set-same M68 M68 same = refl
set-same M68 Ppc same = absurd (cc)
set-same Ppc M68 same = absurd (cc)
set-same Ppc Ppc same = refl

pub same-set : (one : Isa) → is_isa one one ≡ true
same-set M68 = refl
same-set Ppc = refl

-- what a good frame meets
pub record IsGood (m : Memory) (main callee : Isa) (lo : ℕ) (kind : Kind) : Type 0 where
  pub stack : floor_of m ≤ lo
  pub aligned : lo % 16 ≡ 0
  pub there : lo + 112 ≤ length m.bytes
  pub kind_is : kind_at (long_at (lo + 4) m.bytes) ≡ Some kind
  pub hi : long_at (lo + 20) m.bytes ≡ lo + frame_size (caller_isa kind)
  pub within : lo + frame_size (caller_isa kind) ≤ length m.bytes
  pub file : holds_file (caller_isa kind) (lo + 32) m.bytes ≡ true
  pub signature : has_signature (long_at (lo + 8) m.bytes) ≡ true
  pub called : callee_isa kind ≡ callee
  pub few : long_at (lo + 28) m.bytes ≤ most_frames
  pub outer : fits_outer m main (caller_isa kind) lo ≡ true

good-there : (m : Memory) (lo : ℕ) → is_there m lo ≡ true → (floor_of m ≤ lo) × (lo % 16 ≡ 0) × (lo + 112 ≤ length m.bytes)
good-there m lo is =
    let first = and_parts (nat_le (floor_of m) lo) ((lo % 16 == 0) && nat_le (lo + 112) (length m.bytes)) is in
    let rest = and_parts (lo % 16 == 0) (nat_le (lo + 112) (length m.bytes)) first.1 in
    (grind (arith, nat_tests, first.0), grind (arith, nat_tests, rest.0), grind (arith, nat_tests, rest.1))

good-image : (m : Memory) (main callee : Isa) (lo : ℕ) (found : Option Kind) → kind_at (long_at (lo + 4) m.bytes) ≡ found → is_there m lo ≡ true → is_image m main callee lo found ≡ true → (kind : Kind) × IsGood m main callee lo kind
good-image m main callee lo None is there image = absurd (cc)
good-image m main callee lo (Some kind) is there image =
    let at = good-there m lo there in
    let range = and_parts (ends_right m lo (caller_isa kind)) _ image in
    let file = and_parts (holds_file (caller_isa kind) (lo + 32) m.bytes) _ range.1 in
    let signature = and_parts (has_signature (long_at (lo + 8) m.bytes)) _ file.1 in
    let called = and_parts (is_isa (callee_isa kind) callee) _ signature.1 in
    let few = and_parts (nat_le (long_at (lo + 28) m.bytes) most_frames) _ called.1 in
    let ends = and_parts (long_at (lo + 20) m.bytes == lo + frame_size (caller_isa kind)) _ range.0 in (
      kind,
      record {
        stack = at.0;
        aligned = at.1;
        there = at.2;
        kind_is = is;
        hi = grind (arith, nat_tests, ends.0);
        within = grind (arith, nat_tests, ends.1);
        file = file.0;
        signature = signature.0;
        called = set-same (callee_isa kind) callee called.0;
        few = grind (arith, nat_tests, few.0);
        outer = few.1;
      },
    )

pub good-tells : (m : Memory) (main callee : Isa) (lo : ℕ) → is_good m main callee lo ≡ true → (kind : Kind) × IsGood m main callee lo kind
unfolding is_good
good-tells m main callee lo good =
    let parts = and_parts (is_there m lo) (is_image m main callee lo (kind_at (long_at (lo + 4) m.bytes))) good in
    good-image m main callee lo (kind_at (long_at (lo + 4) m.bytes)) refl parts.0 parts.1

pub good-at : (m : Memory) (main callee : Isa) (lo : ℕ) → is_good m main callee lo ≡ true → lo + 112 ≤ length m.bytes
good-at m main callee lo good = (good-tells m main callee lo good).1.there

pub good-is : (m : Memory) (main callee : Isa) (lo : ℕ) (kind : Kind) → IsGood m main callee lo kind → is_good m main callee lo ≡ true
unfolding is_good
good-is m main callee lo kind good =
    let stack : nat_le (floor_of m) lo ≡ true = grind (arith, nat_tests, good.stack) in
    let aligned : (lo % 16 == 0) ≡ true = grind (arith, nat_tests, good.aligned) in
    let there : nat_le (lo + 112) (length m.bytes) ≡ true = grind (arith, nat_tests, good.there) in
    let hi : (long_at (lo + 20) m.bytes == lo + frame_size (caller_isa kind)) ≡ true = grind (arith, nat_tests, good.hi) in
    let within : nat_le (lo + frame_size (caller_isa kind)) (length m.bytes) ≡ true = grind (arith, nat_tests, good.within) in
    let few : nat_le (long_at (lo + 28) m.bytes) most_frames ≡ true = grind (arith, nat_tests, good.few) in
    let called : is_isa (callee_isa kind) callee ≡ true = ap (λ set. is_isa (callee_isa kind) set) (sym good.called) ∙ same-set (callee_isa kind) in
    let image : is_image m main callee lo (Some kind) ≡ true
    = and_from _ _ (and_from _ _ hi within) (and_from _ _ good.file (and_from _ _ good.signature (and_from _ _ called (and_from _ _ few good.outer)))) in
    and_from _ _ (and_from _ _ stack (and_from _ _ aligned there)) (ap (λ found. is_image m main callee lo found) good.kind_is ∙ image)
