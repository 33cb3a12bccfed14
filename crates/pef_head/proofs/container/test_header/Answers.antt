use Rattle.std.proofs.Common.{◌≡◌, ◌∙◌, ap, sym, subst, ℕ, ◌≤◌, ◌==◌, Bool, true, false, not, nat_lt, List, length, Option, eq-eqb, ne_eqb, lt-ltb, le-ltb}
use Rattle.std.proofs.lemmas.Bool.{and_from, and_left, and_right}
use Rattle.mix_bits.specs.Fields.{long_at}
use Rattle.mix_bits.specs.SearchOperator.{◌or◌}
use Rattle.mix_bits.specs.Search.{refused}
use Rattle.pef_head.specs.declared.error.PefError.{PefError}
use Rattle.pef_head.specs.declared.error.PefError.TheVariants.{Short, Magic, Architecture, Version}
use Rattle.pef_head.specs.Container.{section_count, section_header}
use Rattle.pef_head.specs.inner.Refusals.{has_architecture, has_magic, header_refusal}
use Rattle.pef_head.proofs.container.test_header.Goals as goal
use Rattle.pef_head.proofs.container.test_header.Goals.{then-long_at-ne-JOY-via-then-long_at-ne-JOY, then-long_at-ne-JOY-via-else-long_at-ne-JOY+then-long_at-ne-PEFF}

-- the first refusal, by the answers of the five tests
abbrev by_tests : ℕ → Bool → Bool → Bool → Bool → Bool → Option PefError
by_tests len short magic architecture version long =
    refused short (Short len) or refused (not magic) Magic or refused (not architecture) Architecture or refused (not version) Version
    or refused long (Short len)

module _ (bytes : List ℕ) where
  abbrev cut : Bool
  cut = nat_lt (length bytes) (section_header (section_count bytes))

  abbrev first_version : Bool
  first_version = long_at bytes 12 == 1

  -- what a test says, once those before it are passed
  by_length : (short : Bool) → nat_lt (length bytes) 40 ≡ short
      → by_tests (length bytes) short (has_magic bytes) (has_architecture bytes) first_version cut ≡ header_refusal bytes
  by_length short s = ap (λ (b : Bool). by_tests (length bytes) b (has_magic bytes) (has_architecture bytes) first_version cut) (sym s)

  by_magic : (magic : Bool) → 40 ≤ length bytes → has_magic bytes ≡ magic
      → by_tests (length bytes) false magic (has_architecture bytes) first_version cut ≡ header_refusal bytes
  by_magic magic s m =
      ap (λ (b : Bool). by_tests (length bytes) false b (has_architecture bytes) first_version cut) (sym m) ∙ by_length false (le-ltb (length bytes) 40 s)

  by_architecture : (architecture : Bool) → 40 ≤ length bytes → has_magic bytes ≡ true → has_architecture bytes ≡ architecture
      → by_tests (length bytes) false true architecture first_version cut ≡ header_refusal bytes
  by_architecture architecture s m a = ap (λ (b : Bool). by_tests (length bytes) false true b first_version cut) (sym a) ∙ by_magic true s m

  by_version : (version : Bool) → 40 ≤ length bytes → has_magic bytes ≡ true → has_architecture bytes ≡ true → first_version ≡ version
      → by_tests (length bytes) false true true version cut ≡ header_refusal bytes
  by_version version s m a v = ap (λ (b : Bool). by_tests (length bytes) false true true b cut) (sym v) ∙ by_architecture true s m a

  by_headers : (long : Bool) → 40 ≤ length bytes → has_magic bytes ≡ true → has_architecture bytes ≡ true → first_version ≡ true → cut ≡ long
      → by_tests (length bytes) false true true true long ≡ header_refusal bytes
  by_headers long s m a v c = ap (λ (b : Bool). by_tests (length bytes) false true true true b) (sym c) ∙ by_version true s m a v

-- a field has a value, or another
holds : (n m value : ℕ) → n ≡ m → n ≡ value → (m == value) ≡ true
holds n m value read is = eq-eqb m value (sym read ∙ is)

differs : (n m value : ℕ) → n ≡ m → (n ≡ value → ⊥) → (m == value) ≡ false
differs n m value read other = ne_eqb m value (λ q. other (read ∙ q))

pub returns-then-len-lt40-clause-refusal : goal.returns-then-len-lt40-clause-refusal
returns-then-len-lt40-clause-refusal c = by_length c.args.bytes.now true (lt-ltb _ _ c.if-len-lt40.true)

pub returns-then-long_at-ne-JOY-clause-refusal : goal.returns-then-long_at-ne-JOY-clause-refusal
returns-then-long_at-ne-JOY-clause-refusal c =
    elim c.then-long_at-ne-JOY.branch [ then-long_at-ne-JOY-via-then-long_at-ne-JOY w ↦ by_magic c.args.bytes.now false c.if-len-lt40.false (and_left _ _ (differs c.long_at.result _ _ c.long_at.ensures w.if-long_at-ne-JOY.true)) | then-long_at-ne-JOY-via-else-long_at-ne-JOY+then-long_at-ne-PEFF w ↦ by_magic c.args.bytes.now false c.if-len-lt40.false (and_right _ _ (differs w.long_at-else-long_at-ne-JOY.result _ _ w.long_at-else-long_at-ne-JOY.ensures w.if-long_at-ne-PEFF.true)) ]

pub returns-then-long_at-ne-PWPC-clause-refusal : goal.returns-then-long_at-ne-PWPC-clause-refusal
returns-then-long_at-ne-PWPC-clause-refusal c =
    by_architecture c.args.bytes.now false c.if-len-lt40.false
    (and_from _ _ (holds c.long_at.result _ _ c.long_at.ensures c.if-long_at-ne-JOY.false) (holds c.long_at-else-long_at-ne-JOY.result _ _ c.long_at-else-long_at-ne-JOY.ensures c.if-long_at-ne-PEFF.false))
    (differs c.long_at-2.result _ _ c.long_at-2.ensures c.if-long_at-ne-PWPC.true)

pub returns-then-long_at-ne1-clause-refusal : goal.returns-then-long_at-ne1-clause-refusal
returns-then-long_at-ne1-clause-refusal c =
    by_version c.args.bytes.now false c.if-len-lt40.false
    (and_from _ _ (holds c.long_at.result _ _ c.long_at.ensures c.if-long_at-ne-JOY.false) (holds c.long_at-else-long_at-ne-JOY.result _ _ c.long_at-else-long_at-ne-JOY.ensures c.if-long_at-ne-PEFF.false))
    (holds c.long_at-2.result _ _ c.long_at-2.ensures c.if-long_at-ne-PWPC.false) (differs c.long_at-3.result _ _ c.long_at-3.ensures c.if-long_at-ne1.true)

pub returns-then-len-section_header-clause-refusal : goal.returns-then-len-section_header-clause-refusal
returns-then-len-section_header-clause-refusal c =
    by_headers c.args.bytes.now true c.if-len-lt40.false
    (and_from _ _ (holds c.long_at.result _ _ c.long_at.ensures c.if-long_at-ne-JOY.false) (holds c.long_at-else-long_at-ne-JOY.result _ _ c.long_at-else-long_at-ne-JOY.ensures c.if-long_at-ne-PEFF.false))
    (holds c.long_at-2.result _ _ c.long_at-2.ensures c.if-long_at-ne-PWPC.false) (holds c.long_at-3.result _ _ c.long_at-3.ensures c.if-long_at-ne1.false)
    (subst (λ (n : ℕ). nat_lt (length c.args.bytes.now) n ≡ true) (c.section_header.ensures ∙ ap section_header c.section_count.ensures) (lt-ltb _ _ c.if-len-section_header.true))

pub returns-clause-refusal : goal.returns-clause-refusal
returns-clause-refusal c =
    by_headers c.args.bytes.now false c.if-len-lt40.false
    (and_from _ _ (holds c.long_at.result _ _ c.long_at.ensures c.if-long_at-ne-JOY.false) (holds c.long_at-else-long_at-ne-JOY.result _ _ c.long_at-else-long_at-ne-JOY.ensures c.if-long_at-ne-PEFF.false))
    (holds c.long_at-2.result _ _ c.long_at-2.ensures c.if-long_at-ne-PWPC.false) (holds c.long_at-3.result _ _ c.long_at-3.ensures c.if-long_at-ne1.false)
    (subst (λ (n : ℕ). nat_lt (length c.args.bytes.now) n ≡ false) (c.section_header.ensures ∙ ap section_header c.section_count.ensures) (le-ltb _ _ c.if-len-section_header.false))

pub returns-clause-headers : goal.returns-clause-headers
returns-clause-headers c = record {
  headers_fit = subst (λ (n : ℕ). n ≤ length c.args.bytes.now) (c.section_header.ensures ∙ ap section_header c.section_count.ensures) c.if-len-section_header.false;
  small = c.requires;
}
