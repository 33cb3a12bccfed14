-- No rule refuses a file exactly where it is a container.
use Rattle.std.proofs.Common.{◌≡◌, ◌∙◌, sym, ap, subst, refl, ℕ, ◌+◌, ◌<◌, ◌≤◌, Bool, true, false, ◌&&◌, nat_lt, List, length, Option, Some, None, IsSome, unwrap_or, true≢false, arith}
use Rattle.std.proofs.lemmas.Bool.Decides.{nat_tests}
use Rattle.pef_head.specs.declared.error.PefError.{PefError}
use Rattle.pef_head.specs.declared.loader.Loader.{Loader}
use Rattle.pef_head.specs.declared.error.PefError.TheVariants.{Loader as Table}
use Rattle.std.specs.Option.{option_map}
use Rattle.mix_bits.specs.Fields.{long_at}
use Rattle.pef_head.specs.Container.{is_bad_section, is_malformed, is_pattern, kind_of, total_of, unpacked_of, packed_of, offset_of, exponent_of, section_count, section_header, instantiated_count, loader_section}
use Rattle.pef_head.specs.Loader.{loader_in, loader_of}
use Rattle.pef_head.specs.Places.{holds, library, relocated, relocation, symbol, symbols_end, words_end}
use Rattle.pef_head.specs.inner.Places.{is_for}
use Rattle.pef_head.specs.Owners.{is_lost, owners}
use Rattle.pef_head.specs.Refusals.{is_bad_relocation}
use Rattle.pef_head.specs.inner.Refusals.{entries_refusal, header_refusal, init_refusal, is_nameless_library, is_nameless_symbol, leaves_symbols, loader_refusal, names_refusal, sections_refusal, tables_refusal, refusal_in_parts}
use Rattle.mix_bits.specs.SearchOperator.{◌or◌}
use Rattle.mix_bits.specs.Search.{least}
use Rattle.pef_head.specs.Whole.{IsContainer, IsInstantiable, IsLoader}
use Rattle.pef_head.proofs.Counts.{any_none, none_below, one_counted, only_counted}
use Rattle.pef_head.proofs.Outcomes.{all_false, allowed, both_false, both_same, is_below, is_over, is_same, inner_false, made_false, map_none, none_map, not_below, not_other, not_over, not_same, not_true, or_both, or_none, other, parts_false, same_both, same_unless, three_false, unless_same, unrefused}
use Rattle.pef_head.proofs.Passed.{in_file, library_each, owned_each, symbol_each, well_formed, words_each}
use Rattle.mix_bits.proofs.Searches.{fails_below, least_none}

module _ (bytes : List ℕ) where
  pub instantiable : (k : ℕ) → is_malformed bytes k ≡ false → IsInstantiable bytes k
  instantiable k h =
      let ends = parts_false _ _ _ _ h in
      let inner = inner_false _ _ _ _ h in
      record {
        kind = ends.0;
        aligned = not_below 12 (exponent_of bytes k) inner.0;
        kept = not_below (total_of bytes k) (unpacked_of bytes k) inner.1;
        packed = same_unless (is_pattern (kind_of bytes k)) (packed_of bytes k) (unpacked_of bytes k) ends.1;
      }

  malformed_no : (k : ℕ) → IsInstantiable bytes k → is_malformed bytes k ≡ false
  malformed_no k s =
      all_false _ _ _ _ s.kind (is_below 12 (exponent_of bytes k) s.aligned)
      (is_below (total_of bytes k) (unpacked_of bytes k) s.kept)
      (unless_same (is_pattern (kind_of bytes k)) (packed_of bytes k) (unpacked_of bytes k) s.packed)

  bad_no : (k : ℕ) → offset_of bytes k + packed_of bytes k ≤ length bytes
      → (k < instantiated_count bytes → IsInstantiable bytes k) → is_bad_section bytes k ≡ false
  bad_no k fits good =
      both_false _ _ (is_below (length bytes) (offset_of bytes k + packed_of bytes k) fits)
      (by (nat_lt k (instantiated_count bytes)) refl)
    where
      by : (b : Bool) → nat_lt k (instantiated_count bytes) ≡ b → (b && is_malformed bytes k) ≡ false
      by true q = malformed_no k (good (grind (arith, nat_tests)))
      by false q = refl

  module _ (l : Loader) where
    loader_is : tables_refusal l ≡ None → entries_refusal bytes l ≡ None → names_refusal bytes l ≡ None → init_refusal bytes l ≡ None → IsLoader bytes l
    loader_is tables entries named init =
        let three = or_none _ _ tables in
        let two = or_none _ _ three.0 in
        let one = or_none _ _ two.0 in
        let firsts = or_none (option_map (λ j. Table (library l j)) (least (leaves_symbols bytes l) l.libraries)) _ (or_none _ _ entries).0 in
        let bad = λ (h : ℕ) (lt : h < l.headers). three_false _ _ _ (fails_below (is_bad_relocation bytes l) l.headers h (map_none _ _ (or_none _ _ entries).1) lt) in
        record {
          header_fits = not_below l.end (l.start + 56) (allowed _ _ one.0);
          libraries_fit = not_below l.end (library l l.libraries) (allowed _ _ one.1);
          symbols_fit = not_below l.end (symbol l l.symbols) (allowed _ _ two.1);
          relocations_fit = not_below l.end (relocation l l.headers) (allowed _ _ three.1);
          within = λ j lt. not_below l.symbols (symbols_end bytes l j) (fails_below (leaves_symbols bytes l) l.libraries j (map_none (λ j. Table (library l j)) _ firsts.0) lt);
          owned = λ i lt. only_counted (holds bytes l i) l.libraries (owned_each bytes l entries named i lt);
          instantiated = λ h lt. not_over (instantiated_count bytes) (relocated bytes l h) (bad h lt).0;
          once = λ h g lt before.
              not_same (relocated bytes l g) (relocated bytes l h)
              (none_below (is_for bytes l (relocated bytes l h)) h g (bad h lt).1 before);
          words = words_each bytes l entries named;
          libraries_named = library_each bytes l entries named;
          symbols_named = symbol_each bytes l entries named;
          no_init = not_other (long_at bytes (l.start + 8)) 0xFFFF_FFFF (allowed _ _ init);
        }

    tables_no : IsLoader bytes l → tables_refusal l ≡ None
    tables_no s =
        or_both _ _ (or_both _ _ (or_both _ _
        (unrefused _ _ (is_below l.end (l.start + 56) s.header_fits))
        (unrefused _ _ (is_below l.end (library l l.libraries) s.libraries_fit)))
        (unrefused _ _ (is_below l.end (symbol l l.symbols) s.symbols_fit)))
        (unrefused _ _ (is_below l.end (relocation l l.headers) s.relocations_fit))

    entries_no : IsLoader bytes l → entries_refusal bytes l ≡ None
    entries_no s =
        or_both _ _ (or_both _ _
        (none_map _ _ (least_none (leaves_symbols bytes l) l.libraries (λ j lt. is_below l.symbols (symbols_end bytes l j) (s.within j lt))))
        (none_map _ _ (least_none (is_lost bytes l) l.symbols
        (λ i lt. is_same (owners bytes l l.libraries i) 1 (one_counted (holds bytes l i) l.libraries (s.owned i lt))))))
        (none_map _ _ (least_none (is_bad_relocation bytes l) l.headers
        (λ h lt. made_false _ _ _ (is_over (instantiated_count bytes) (relocated bytes l h) (s.instantiated h lt))
        (any_none (is_for bytes l (relocated bytes l h)) h (λ g before. other (relocated bytes l g) (relocated bytes l h) (s.once h g lt before)))
        (is_below l.end (words_end bytes l h) (s.words h lt)))))

    names_no : IsLoader bytes l → names_refusal bytes l ≡ None
    names_no s =
        or_both _ _
        (none_map _ _ (least_none (is_nameless_library bytes l) l.libraries (λ j lt. not_true _ (s.libraries_named j lt))))
        (none_map _ _ (least_none (is_nameless_symbol bytes l) l.symbols (λ i lt. not_true _ (s.symbols_named i lt))))

    loader_no : IsLoader bytes l → (tables_refusal l or entries_refusal bytes l or names_refusal bytes l or init_refusal bytes l) ≡ None
    loader_no s =
        or_both _ _ (or_both _ _ (or_both _ _ (tables_no s) (entries_no s)) (names_no s))
        (unrefused _ _ (is_same (long_at bytes (l.start + 8)) 0xFFFF_FFFF s.no_init))

  loader_tested : (o : Option ℕ) → loader_section bytes ≡ o → loader_refusal bytes o ≡ None → IsSome o × IsLoader bytes (loader_of bytes)
  loader_tested None q h = absurd (cc)
  loader_tested (Some k) q h =
      let same : loader_of bytes ≡ loader_in bytes k = ap (λ (o : Option ℕ). loader_in bytes (unwrap_or o 0)) q in
      let init = or_none _ _ h in
      let named = or_none _ _ init.0 in
      let entries = or_none _ _ named.0 in
      (refl, subst (IsLoader bytes) (sym same) (loader_is (loader_in bytes k) entries.0 entries.1 named.1 init.1))

  loader_passes : (o : Option ℕ) → loader_section bytes ≡ o → IsSome o → IsLoader bytes (loader_of bytes) → loader_refusal bytes o ≡ None
  loader_passes None q there s = absurd (true≢false (sym there))
  loader_passes (Some k) q there s =
      let same : loader_of bytes ≡ loader_in bytes k = ap (λ (o : Option ℕ). loader_in bytes (unwrap_or o 0)) q in
      loader_no (loader_in bytes k) (subst (IsLoader bytes) same s)

  pub container_is : refusal_in_parts bytes ≡ None → IsContainer bytes
  container_is passes =
      let loader = or_none _ _ passes in
      let heads = or_none _ _ loader.0 in
      let short = or_none _ _ heads.0 in
      let version = or_none _ _ short.0 in
      let architecture = or_none _ _ version.0 in
      let magic = or_none _ _ architecture.0 in
      let sections = or_none _ _ heads.1 in
      let none = map_none _ (least (is_bad_section bytes) (section_count bytes)) sections.0 in
      let joy = both_same _ _ _ _ (allowed _ _ magic.1) in
      let enough = not_below (section_count bytes) (instantiated_count bytes) (allowed _ _ sections.1) in
      let tested = loader_tested (loader_section bytes) refl loader.1 in
      record {
        header_fits = not_below (length bytes) 40 (allowed _ _ magic.0);
        joy = joy.0;
        peff = joy.1;
        pwpc = not_other (long_at bytes 8) 0x7077_7063 (allowed _ _ architecture.1);
        version = not_other (long_at bytes 12) 1 (allowed _ _ version.1);
        headers_fit = not_below (length bytes) (section_header (section_count bytes)) (allowed _ _ short.1);
        pieces = λ k lt. in_file bytes k (fails_below (is_bad_section bytes) (section_count bytes) k none lt);
        instantiable = λ k lt.
            let below : k < section_count bytes = omega (arith, enough) in
            instantiable k (well_formed bytes k (fails_below (is_bad_section bytes) (section_count bytes) k none below) lt);
        enough = enough;
        found = tested.0;
        loader = tested.1;
      }

  pub passes_if : IsContainer bytes → refusal_in_parts bytes ≡ None
  passes_if s =
      or_both _ _ (or_both _ _ header sections) (loader_passes (loader_section bytes) refl s.found s.loader)
    where
      header : header_refusal bytes ≡ None
      header =
          or_both _ _ (or_both _ _ (or_both _ _ (or_both _ _
          (unrefused _ _ (is_below (length bytes) 40 s.header_fits))
          (unrefused _ _ (same_both (long_at bytes 0) (long_at bytes 4) 0x4A6F_7921 0x7065_6666 s.joy s.peff)))
          (unrefused _ _ (is_same (long_at bytes 8) 0x7077_7063 s.pwpc)))
          (unrefused _ _ (is_same (long_at bytes 12) 1 s.version)))
          (unrefused _ _ (is_below (length bytes) (section_header (section_count bytes)) s.headers_fit))

      sections : sections_refusal bytes ≡ None
      sections =
          or_both _ _
          (none_map _ _ (least_none (is_bad_section bytes) (section_count bytes) (λ k lt. bad_no k (s.pieces k lt) (s.instantiable k))))
          (unrefused _ _ (is_below (section_count bytes) (instantiated_count bytes) s.enough))

  pub no_container : (e : PefError) → refusal_in_parts bytes ≡ Some e → IsContainer bytes → ⊥
  no_container e refusal s = absurd (some_none _ (sym refusal ∙ passes_if s))
    where
      some_none : (x : PefError) → Some x ≡ None → ⊥
      some_none x h = cc
