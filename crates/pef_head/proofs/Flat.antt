-- The refusals part by part, and the list of all rules in order.
use Rattle.std.proofs.Common.{◌≡◌, ◌∙◌, ap, refl, ℕ, ◌+◌, nat_lt, List, Option, Some, None, unwrap_or, is_none}
use Rattle.std.specs.Option.{option_map}
use Rattle.mix_bits.specs.SearchOperator.{◌or◌}
use Rattle.pef_head.specs.declared.error.PefError.{PefError}
use Rattle.pef_head.specs.declared.error.PefError.TheVariants.{NoLoader, Loader as Table, Name}
use Rattle.pef_head.specs.Container.{loader_section}
use Rattle.pef_head.specs.Loader.{loader_in}
use Rattle.pef_head.specs.Refusals.{is_bad_relocation, refusal_of}
use Rattle.pef_head.specs.inner.Refusals.{header_refusal, init_refusal, is_nameless_library, is_nameless_symbol, leaves_symbols, loader_refusal, refusal_in_parts}
use Rattle.pef_head.specs.Owners.{is_lost}
use Rattle.pef_head.specs.Places.{library, relocation, symbol}
use Rattle.mix_bits.specs.Search.{least, refused}

module _ {A : Type 0} where
  pub sections_flat : (a b c : Option A) → (a or (b or c)) ≡ (a or b or c)
  sections_flat None b c = refl
  sections_flat (Some x) b c = refl

  -- the rules of the loader section behind others, where there is one
  pub loader_flat : (z a b c d e f g h i j : Option A)
      → (z or ((a or b or c or d) or (e or f or g) or (h or i) or j)) ≡ (z or None or a or b or c or d or e or f or g or h or i or j)
  loader_flat (Some x) a b c d e f g h i j = refl
  loader_flat None (Some x) b c d e f g h i j = refl
  loader_flat None None (Some x) c d e f g h i j = refl
  loader_flat None None None (Some x) d e f g h i j = refl
  loader_flat None None None None (Some x) e f g h i j = refl
  loader_flat None None None None None (Some x) f g h i j = refl
  loader_flat None None None None None None (Some x) g h i j = refl
  loader_flat None None None None None None None (Some x) h i j = refl
  loader_flat None None None None None None None None (Some x) i j = refl
  loader_flat None None None None None None None None None (Some x) j = refl
  loader_flat None None None None None None None None None None j = refl

  -- and where there is none
  pub none_flat : (z : Option A) (x : A) (a b c d e f g h i j : Option A)
      → (z or Some x) ≡ (z or Some x or a or b or c or d or e or f or g or h or i or j)
  none_flat None x a b c d e f g h i j = refl
  none_flat (Some y) x a b c d e f g h i j = refl

module _ (bytes : List ℕ) where
  -- the rules of the loader section, which stands where `o` says, behind others
  abbrev rules : Option PefError → Option ℕ → Option PefError
  rules z o =
      let l = loader_in bytes (unwrap_or o 0) in
      z or refused (is_none o) NoLoader
      or refused (nat_lt l.end (l.start + 56)) (Table l.start)
      or refused (nat_lt l.end (library l l.libraries)) (Table (library l 0))
      or refused (nat_lt l.end (symbol l l.symbols)) (Table (symbol l 0))
      or refused (nat_lt l.end (relocation l l.headers)) (Table (relocation l 0))
      or option_map (λ j. Table (library l j)) (least (leaves_symbols bytes l) l.libraries)
      or option_map (λ i. Table (symbol l i)) (least (is_lost bytes l) l.symbols)
      or option_map (λ h. Table (relocation l h)) (least (is_bad_relocation bytes l) l.headers)
      or option_map (λ j. Name (library l j)) (least (is_nameless_library bytes l) l.libraries)
      or option_map (λ i. Name (symbol l i)) (least (is_nameless_symbol bytes l) l.symbols)
      or init_refusal bytes l

  behind : (z : Option PefError) (o : Option ℕ) → (z or loader_refusal bytes o) ≡ rules z o
  behind z None = none_flat z _ _ _ _ _ _ _ _ _ _ _
  behind z (Some k) = loader_flat z _ _ _ _ _ _ _ _ _ _

  pub flat : refusal_in_parts bytes ≡ refusal_of bytes
  flat =
      ap (λ (z : Option PefError). z or loader_refusal bytes (loader_section bytes)) (sections_flat (header_refusal bytes) _ _)
      ∙ behind _ (loader_section bytes)
