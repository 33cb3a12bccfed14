use Rattle.std.proofs.Common.{◌≡◌, ◌%◌, ◌/◌, ◌*◌, ℕ, false, List, replicate, get_or, arith, ap, ◌∙◌, refl}
use Rattle.std.proofs.lemmas.List.{places}
use Rattle.big_memory.specs.Marks.{marks_of}
use Rattle.big_memory.specs.Memory.{Memory, zeroed}
use Rattle.big_memory.proofs.Packed.{length-marks, marks-zeros}
use Rattle.big_memory.proofs.ram.Ram.new.Goals as goal

-- memory made of zeros
zeros : (n : ℕ) (bytes guard : List ℕ) → n % 1024 ≡ 0 → bytes ≡ replicate n 0 → guard ≡ replicate (n / 16 / 32) 0 → (let m : Memory = record { bytes = bytes; marks = marks_of guard } in m ≡ zeroed n)
zeros n bytes guard whole all clear =
    let units : 32 * (n / 16 / 32) ≡ n / 16 = omega arith in
    let marks : marks_of guard ≡ replicate (n / 16) false = ap marks_of clear ∙ marks-zeros (n / 16 / 32) ∙ ap (λ k. replicate k false) units in
    rw (all, marks) refl

none-marked : (n unit : ℕ) → get_or (replicate n false) unit false ≡ false
none-marked n unit = grind (arith, places)

pub invariant_of-result : goal.invariant_of-result
invariant_of-result c =
    let bytes = c.in_ok-vec.ensures.len in let guard = c.in_ok-vec-2.ensures.len in
    let marks : marks_of c.in_ok-vec-2.field-0.items ≡ replicate (32 * (c.args.bytes / 16 / 32)) false =
    ap marks_of (c.in_ok-vec-2.ensures.items_if_clones_equal (λ y same. same)) ∙ marks-zeros (c.args.bytes / 16 / 32) in
    record {
      clear = λ unit low. ap (λ ms. get_or ms unit false) marks ∙ none-marked (32 * (c.args.bytes / 16 / 32)) unit;
      units = omega (arith, bytes, guard, c.requires.whole, length-marks c.in_ok-vec-2.field-0.items);
      least = omega (arith, bytes);
      most = omega (arith, bytes);
      whole = omega (arith, bytes, c.requires.whole);
    }

pub returns-clause-zeros : goal.returns-clause-zeros
returns-clause-zeros c =
    zeros c.args.bytes _ _ c.requires.whole (c.in_ok-vec.ensures.items_if_clones_equal (λ y same. same)) (c.in_ok-vec-2.ensures.items_if_clones_equal (λ y same. same))

pub returns-clause-whole : goal.returns-clause-whole
returns-clause-whole c = invariant_of-result c
