-- What is known of a container that no rule refuses.
use Rattle.std.proofs.Common.{◌≡◌, ◌∙◌, sym, ap, subst, refl, ℕ, ◌+◌, ◌<◌, ◌≤◌, Bool, true, false, ◌&&◌, nat_lt, nat_le, List, length, Option, Some, None, unwrap_or, arith}
use Rattle.std.proofs.lemmas.Bool.Decides.{nat_tests}
use Rattle.pef_head.specs.declared.loader.Loader.{Loader}
use Rattle.pef_head.specs.ContainerClauses.{HasHeaders, HasSections}
use Rattle.pef_head.specs.Container.{is_bad_section, is_malformed, packed_of, offset_of, exponent_of, section_count, section_header, instantiated_count, loader_section}
use Rattle.pef_head.specs.Loader.{loader_in, loader_of}
use Rattle.pef_head.specs.PlacesClauses.{HasTables}
use Rattle.pef_head.specs.Places.{has_end, library_name, relocated, symbol_name, words_end}
use Rattle.pef_head.specs.inner.Places.{is_repeated}
use Rattle.pef_head.specs.Owners.{is_lost, owners}
use Rattle.pef_head.specs.Parts.{ImportParts, import_of}
use Rattle.pef_head.specs.inner.Parts.{import_at}
use Rattle.pef_head.specs.PartsByNumber.{cut}
use Rattle.pef_head.specs.Read.{IsRead}
use Rattle.pef_head.specs.Refusals.{is_bad_relocation}
use Rattle.pef_head.specs.inner.Refusals.{entries_refusal, is_nameless_library, is_nameless_symbol, loader_refusal, names_refusal, refusal_in_parts}
use Rattle.mix_bits.specs.Search.{least}
use Rattle.pef_head.proofs.Flat.{flat}
use Rattle.pef_head.proofs.Outcomes.{or_none, map_none, or_false, not_false, not_below, not_other, inner_false, last_false}
use Rattle.mix_bits.proofs.Searches.{fails_below}

module _ (bytes : List ℕ) where
  pub well_formed : (k : ℕ) → is_bad_section bytes k ≡ false → k < instantiated_count bytes → is_malformed bytes k ≡ false
  well_formed k h lt = by (nat_lt k (instantiated_count bytes)) refl (or_false _ _ h).1
    where
      by : (b : Bool) → nat_lt k (instantiated_count bytes) ≡ b → (b && is_malformed bytes k) ≡ false → is_malformed bytes k ≡ false
      by true q p = p
      by false q p = absurd (grind (arith, nat_tests))

  pub in_file : (k : ℕ) → is_bad_section bytes k ≡ false → offset_of bytes k + packed_of bytes k ≤ length bytes
  in_file k h = not_below (length bytes) (offset_of bytes k + packed_of bytes k) (or_false _ _ h).0

  header_in : HasHeaders bytes → (k : ℕ) → k < section_count bytes → section_header k + 28 ≤ length bytes
  header_in headers k lt = let fit = headers.headers_fit in omega arith

  pub sections_are : HasHeaders bytes → least (is_bad_section bytes) (section_count bytes) ≡ None
      → instantiated_count bytes ≤ section_count bytes → HasSections bytes
  sections_are headers none le = record {
    pieces = λ k lt. in_file k (fails_below (is_bad_section bytes) (section_count bytes) k none lt);
    instantiated = λ k lt.
        let below : k < section_count bytes = omega arith in
        let bad = fails_below (is_bad_section bytes) (section_count bytes) k none below in
        let good = well_formed k bad lt in
        let facts = inner_false _ _ _ _ good in
        record {
          header_fits = header_in headers k below;
          bytes_fit = in_file k bad;
          aligned = not_below 12 (exponent_of bytes k) facts.0;
          well_formed = good;
        };
  }

  module _ (l : Loader) (entries : entries_refusal bytes l ≡ None) (named : names_refusal bytes l ≡ None) where
    pub owned_each : (i : ℕ) → i < l.symbols → owners bytes l l.libraries i ≡ 1
    owned_each i lt =
        let none = map_none _ (least (is_lost bytes l) l.symbols) (or_none _ _ (or_none _ _ entries).0).1 in
        not_other _ 1 (fails_below (is_lost bytes l) l.symbols i none lt)

    pub words_each : (h : ℕ) → h < l.headers → words_end bytes l h ≤ l.end
    words_each h lt =
        let none = map_none _ (least (is_bad_relocation bytes l) l.headers) (or_none _ _ entries).1 in
        not_below l.end (words_end bytes l h) (last_false (nat_le (instantiated_count bytes) (relocated bytes l h)) (is_repeated bytes l h) _ (fails_below (is_bad_relocation bytes l) l.headers h none lt))

    pub library_each : (j : ℕ) → j < l.libraries → has_end bytes l (library_name bytes l j) ≡ true
    library_each j lt =
        let none = map_none _ (least (is_nameless_library bytes l) l.libraries) (or_none _ _ named).0 in
        not_false _ (fails_below (is_nameless_library bytes l) l.libraries j none lt)

    pub symbol_each : (i : ℕ) → i < l.symbols → has_end bytes l (symbol_name bytes l i) ≡ true
    symbol_each i lt =
        let none = map_none _ (least (is_nameless_symbol bytes l) l.symbols) (or_none _ _ named).1 in
        not_false _ (fails_below (is_nameless_symbol bytes l) l.symbols i none lt)

  pub tested : (o : Option ℕ) → loader_section bytes ≡ o → loader_refusal bytes o ≡ None
      → (entries_refusal bytes (loader_of bytes) ≡ None) × (names_refusal bytes (loader_of bytes) ≡ None)
  tested None q h = absurd (cc)
  tested (Some k) q h =
      let same : loader_of bytes ≡ loader_in bytes k = ap (λ (o : Option ℕ). loader_in bytes (unwrap_or o 0)) q in
      let named = or_none _ _ (or_none _ _ h).0 in
      let entries = or_none _ _ named.0 in (
        subst (λ (l : Loader). entries_refusal bytes l ≡ None) (sym same) entries.1,
        subst (λ (l : Loader). names_refusal bytes l ≡ None) (sym same) named.1,
      )

  pub is_read : (l : Loader) → refusal_in_parts bytes ≡ None → l ≡ loader_of bytes → HasHeaders bytes → HasSections bytes → HasTables bytes l → IsRead bytes l
  is_read l passes is headers sections tables =
      let facts = tested (loader_section bytes) refl (or_none _ _ passes).1 in
      let entries = subst (λ (l : Loader). entries_refusal bytes l ≡ None) (sym is) facts.0 in
      let named = subst (λ (l : Loader). names_refusal bytes l ≡ None) (sym is) facts.1 in
      record {
        passes = sym (flat bytes) ∙ passes;
        is = is;
        tables = tables;
        headers = headers;
        sections = sections;
        libraries = library_each l entries named;
        symbols = symbol_each l entries named;
        owned = owned_each l entries named;
        words = words_each l entries named;
      }

pub import_same : (bytes now : List ℕ) (l : Loader) (i : ℕ) (r : ImportParts) → bytes ≡ now → l ≡ loader_of bytes
    → r ≡ import_at bytes l i → r ≡ import_of now i
import_same bytes now l i r view is e =
    subst (λ (n : List ℕ). r ≡ import_of n i) view (e ∙ ap (λ (k : Loader). import_at bytes k i) is)

pub import_cut : (bytes now : List ℕ) (l : Loader) (i most : ℕ) (r : ImportParts) → bytes ≡ now → l ≡ loader_of bytes
    → r ≡ cut most (import_at bytes l i) → r ≡ cut most (import_of now i)
import_cut bytes now l i most r view is e =
    subst (λ (n : List ℕ). r ≡ cut most (import_of n i)) view (e ∙ ap (λ (k : Loader). cut most (import_at bytes k i)) is)
