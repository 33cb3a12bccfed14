-- What holds of the sections and the relocation words of a container that was read.
use Rattle.std.proofs.Common.{◌≡◌, ◌∙◌, refl, ℕ, zero, suc, ◌+◌, ◌-◌, ◌*◌, ◌%◌, ◌^◌, ◌<◌, ◌≤◌, Bool, true, false, true≢false, not, ◌||◌, ◌==◌, ◌⊎◌, inl, inr, List, length, slice_range, Option, Some, None, length-take, length-drop, pow_mono, arith}
use Rattle.std.proofs.Math.Nat.{mul-mod_right}
use Rattle.std.proofs.lemmas.Bool.Decides.{nat_tests}
use Rattle.pef_head.specs.declared.loader.Loader.{Loader}
use Rattle.pef_head.specs.ContainerClauses.{IsSection}
use Rattle.pef_head.specs.Container.{exponent_of, packed_of, offset_of}
use Rattle.mix_bits.specs.Fields.{long_at}
use Rattle.pef_head.specs.PartsClauses.{IsLoadable}
use Rattle.pef_head.specs.Parts.{section_at}
use Rattle.pef_head.specs.inner.Parts.{relocs_at}
use Rattle.pef_head.specs.Places.{relocation, words_end, words_start}
use Rattle.pef_head.specs.inner.Places.{is_for}
use Rattle.mix_bits.specs.SearchOperator.{◌or◌}
use Rattle.mix_bits.specs.Search.{refused, least}
use Rattle.mix_bits.proofs.Searches.{fails_below}
use Rattle.pef_head.proofs.Whole.{instantiable}

slice_length : (bytes : List ℕ) (start end : ℕ) → end ≤ length bytes → length (slice_range bytes start end) ≡ end - start
slice_length bytes start end fits = simp (length-take, length-drop) (omega arith)

slice_small : (bytes : List ℕ) (start end : ℕ) → length (slice_range bytes start end) ≤ length bytes
slice_small bytes start end = simp (length-take, length-drop) (omega arith)

module _ (e : ℕ) (few : e ≤ 12) where
  of_units : (a b : Bool) → (2 ^ e % 16 == 0) ≡ a → (16 % 2 ^ e == 0) ≡ b → not (a || b) ≡ false → (2 ^ e % 16 ≡ 0) ⊎ (16 % 2 ^ e ≡ 0)
  of_units true b p q one = inl (grind (arith, nat_tests))
  of_units false true p q one = inr (grind (arith, nat_tests))
  of_units false false p q one = absurd (true≢false one)

  -- of a power of two and 16 one divides the other
  divides_at : (2 ^ e % 16 ≡ 0) ⊎ (16 % 2 ^ e ≡ 0)
  divides_at = of_units (2 ^ e % 16 == 0) (16 % 2 ^ e == 0) refl refl (fails_below (λ k. not (2 ^ k % 16 == 0 || 16 % 2 ^ k == 0)) 13 e refl (omega (arith, few)))

  positive_at : 2 ^ 0 ≤ 2 ^ e
  positive_at = let none : 0 ≤ e = omega arith in pow_mono none

pub loadable : (bytes : List ℕ) (k : ℕ) → IsSection bytes k → length bytes ≤ 2 ^ 24 → IsLoadable (section_at bytes k)
loadable bytes k section small =
    let parts = instantiable bytes k section.well_formed in
    let long = slice_length bytes (offset_of bytes k) (offset_of bytes k + packed_of bytes k) section.bytes_fit in
    record {
      kind = parts.kind;
      kept = parts.kept;
      aligned = pow_mono section.aligned;
      positive = positive_at (exponent_of bytes k) section.aligned;
      divides = divides_at (exponent_of bytes k) section.aligned;
      whole = λ plain. long ∙ (added (offset_of bytes k) (packed_of bytes k) ∙ parts.packed plain);
      small = at_most _ (length bytes) (slice_small bytes (offset_of bytes k) (offset_of bytes k + packed_of bytes k)) small;
    }
  where
    added : (a b : ℕ) → a + b - a ≡ b
    added a b = omega arith

    at_most : (a b : ℕ) → a ≤ b → b ≤ 2 ^ 24 → a ≤ 2 ^ 24
    at_most a b p q = omega arith

pub least_below : (test : ℕ → Bool) (n k : ℕ) → least test n ≡ Some k → k < n
least_below test zero k found = absurd (cc)
least_below test (suc n) k found = by (least test n) refl (test n) refl found (λ i h. least_below test n i h)
  where
    by : (o : Option ℕ) → least test n ≡ o → (t : Bool) → test n ≡ t → (o or refused t n) ≡ Some k
        → ((i : ℕ) → least test n ≡ Some i → i < n) → k < suc n
    by (Some i) before t q h earlier =
        let same : i ≡ k = cc in
        omega (arith, earlier i before, same)
    by None before true q h earlier =
        let same : n ≡ k = cc in
        omega (arith, same)
    by None before false q h earlier = absurd (cc)

module _ (bytes : List ℕ) (l : Loader) (k : ℕ) (fits : l.end ≤ length bytes)
    (words : (h : ℕ) → h < l.headers → words_end bytes l h ≤ l.end) where
  pub relocs_even : length (relocs_at bytes l k) % 2 ≡ 0
  relocs_even = by (least (is_for bytes l k) l.headers) refl
    where
      even : (start n : ℕ) → start + 2 * n ≤ length bytes → length (slice_range bytes start (start + 2 * n)) % 2 ≡ 0
      even start n fit =
          let long : length (slice_range bytes start (start + 2 * n)) ≡ 2 * n = slice_length bytes start (start + 2 * n) fit ∙ omega arith in
          rw long (mul-mod_right 2 n)

      by : (o : Option ℕ) → least (is_for bytes l k) l.headers ≡ o → length (relocs_at bytes l k) % 2 ≡ 0
      by None q = rw q refl
      by (Some h) q =
          rw q (even (words_start bytes l h) (long_at bytes (relocation l h + 4)) (within (words_end bytes l h) (words h (least_below (is_for bytes l k) l.headers h q))))
        where
          within : (n : ℕ) → n ≤ l.end → n ≤ length bytes
          within n le = omega arith

  pub relocs_small : length bytes ≤ 2 ^ 24 → length (relocs_at bytes l k) ≤ 2 ^ 24
  relocs_small small = by (least (is_for bytes l k) l.headers) refl
    where
      at_most : (a : ℕ) → a ≤ length bytes → a ≤ 2 ^ 24
      at_most a p = omega arith

      by : (o : Option ℕ) → least (is_for bytes l k) l.headers ≡ o → length (relocs_at bytes l k) ≤ 2 ^ 24
      by None q = rw q (omega arith)
      by (Some h) q = rw q (at_most _ (slice_small bytes (words_start bytes l h) (words_end bytes l h)))
