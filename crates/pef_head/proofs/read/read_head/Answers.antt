use Rattle.std.proofs.Common.{ap, ◌∙◌, ◌≡◌, ℕ, Option, Some, None, unwrap_or}
use Rattle.std.proofs.lemmas.Result.{IfOk-weaker, err_from_is_err_and}
use Rattle.mix_bits.specs.SearchOperator.{◌or◌}
use Rattle.mix_bits.specs.Search.{least}
use Rattle.pef_head.specs.declared.error.PefError.{PefError}
use Rattle.pef_head.specs.declared.loader.Loader.{Loader}
use Rattle.pef_head.specs.Container.{loader_section}
use Rattle.pef_head.specs.inner.Container.{is_loader}
use Rattle.pef_head.specs.Loader.{loader_in, loader_of}
use Rattle.pef_head.specs.inner.Refusals.{header_refusal, loader_refusal, sections_refusal}
use Rattle.pef_head.proofs.read.read_head.Goals as goal

-- which of three refusals is the first
first : (h s l : Option PefError) (e : PefError) → Some e ≡ h → Some e ≡ (h or s or l)
first h s l e is = ap (λ (r : Option PefError). r or s or l) is

second : (h s l : Option PefError) (e : PefError) → None ≡ h → Some e ≡ s → Some e ≡ (h or s or l)
second h s l e none is = ap (λ (r : Option PefError). r or l) is ∙ ap (λ (r : Option PefError). r or s or l) none

third : (h s l r : Option PefError) → None ≡ h → None ≡ s → r ≡ l → r ≡ (h or s or l)
third h s l r none passed is = is ∙ (ap (λ (o : Option PefError). o or l) passed ∙ ap (λ (o : Option PefError). o or s or l) none)

pub returns-in_err-test_header-clause-refusal : goal.returns-in_err-test_header-clause-refusal
returns-in_err-test_header-clause-refusal c =
    let p = err_from_is_err_and c.from_residual.result c.from_residual.ensures.1 in
    rw (p.1, p.2) (first (header_refusal c.args.bytes.now) (sections_refusal c.args.bytes.now) (loader_refusal c.args.bytes.now (loader_section c.args.bytes.now)) _ c.in_err-test_header.ensures.refusal)

pub returns-in_err-test_header-clause-is : goal.returns-in_err-test_header-clause-is
returns-in_err-test_header-clause-is c =
    let p = err_from_is_err_and c.from_residual.result c.from_residual.ensures.1 in
    rw p.1 tt

pub returns-in_err-test_header-clause-headers : goal.returns-in_err-test_header-clause-headers
returns-in_err-test_header-clause-headers c =
    let p = err_from_is_err_and c.from_residual.result c.from_residual.ensures.1 in
    rw p.1 tt

pub returns-in_err-test_header-clause-sections : goal.returns-in_err-test_header-clause-sections
returns-in_err-test_header-clause-sections c =
    let p = err_from_is_err_and c.from_residual.result c.from_residual.ensures.1 in
    rw p.1 tt

pub returns-in_err-test_header-clause-tables : goal.returns-in_err-test_header-clause-tables
returns-in_err-test_header-clause-tables c =
    let p = err_from_is_err_and c.from_residual.result c.from_residual.ensures.1 in
    rw p.1 tt

pub returns-in_err-test_sections-clause-refusal : goal.returns-in_err-test_sections-clause-refusal
returns-in_err-test_sections-clause-refusal c =
    let p = err_from_is_err_and c.from_residual-in_err-test_sections.result c.from_residual-in_err-test_sections.ensures.1 in
    rw (p.1, p.2) (second (header_refusal c.args.bytes.now) (sections_refusal c.args.bytes.now) (loader_refusal c.args.bytes.now (loader_section c.args.bytes.now)) _ c.in_ok-test_header.ensures.refusal c.in_err-test_sections.ensures.refusal)

pub returns-in_err-test_sections-clause-is : goal.returns-in_err-test_sections-clause-is
returns-in_err-test_sections-clause-is c =
    let p = err_from_is_err_and c.from_residual-in_err-test_sections.result c.from_residual-in_err-test_sections.ensures.1 in
    rw p.1 tt

pub returns-in_err-test_sections-clause-headers : goal.returns-in_err-test_sections-clause-headers
returns-in_err-test_sections-clause-headers c =
    let p = err_from_is_err_and c.from_residual-in_err-test_sections.result c.from_residual-in_err-test_sections.ensures.1 in
    rw p.1 tt

pub returns-in_err-test_sections-clause-sections : goal.returns-in_err-test_sections-clause-sections
returns-in_err-test_sections-clause-sections c =
    let p = err_from_is_err_and c.from_residual-in_err-test_sections.result c.from_residual-in_err-test_sections.ensures.1 in
    rw p.1 tt

pub returns-in_err-test_sections-clause-tables : goal.returns-in_err-test_sections-clause-tables
returns-in_err-test_sections-clause-tables c =
    let p = err_from_is_err_and c.from_residual-in_err-test_sections.result c.from_residual-in_err-test_sections.ensures.1 in
    rw p.1 tt

pub returns-in-Some-clause-refusal : goal.returns-in-Some-clause-refusal
returns-in-Some-clause-refusal c =
    let bytes = c.args.bytes.now in
    third (header_refusal bytes) (sections_refusal bytes) (loader_refusal bytes (loader_section bytes)) _ c.in_ok-test_header.ensures.refusal c.in_ok-test_sections.ensures.refusal
    (c.test_loader.ensures.refusal ∙ ap (λ (o : Option ℕ). loader_refusal bytes o) (c.in-Some.ensures.is ∙ ap (λ (n : ℕ). least (is_loader bytes) n) c.section_count.ensures))

pub returns-in-Some-clause-is : goal.returns-in-Some-clause-is
returns-in-Some-clause-is c =
    let bytes = c.args.bytes.now in
    IfOk-weaker c.test_loader.result (λ (l : Loader). l ≡ loader_in bytes c.in-Some.k) (λ (l : Loader). l ≡ loader_of bytes)
    (λ l is. is ∙ ap (λ (o : Option ℕ). loader_in bytes (unwrap_or o 0)) (c.in-Some.ensures.is ∙ ap (λ (n : ℕ). least (is_loader bytes) n) c.section_count.ensures))
    c.test_loader.ensures.is

pub returns-in-Some-clause-tables : goal.returns-in-Some-clause-tables
returns-in-Some-clause-tables c = c.test_loader.ensures.tables

pub returns-in-None-clause-refusal : goal.returns-in-None-clause-refusal
returns-in-None-clause-refusal c =
    let bytes = c.args.bytes.now in
    third (header_refusal bytes) (sections_refusal bytes) (loader_refusal bytes (loader_section bytes)) _ c.in_ok-test_header.ensures.refusal c.in_ok-test_sections.ensures.refusal
    (ap (λ (o : Option ℕ). loader_refusal bytes o) (c.in-None.ensures.is ∙ ap (λ (n : ℕ). least (is_loader bytes) n) c.section_count.ensures))

pub returns-in-None-clause-is : goal.returns-in-None-clause-is
returns-in-None-clause-is c = tt

pub returns-in-None-clause-headers : goal.returns-in-None-clause-headers
returns-in-None-clause-headers c = tt

pub returns-in-None-clause-sections : goal.returns-in-None-clause-sections
returns-in-None-clause-sections c = tt

pub returns-in-None-clause-tables : goal.returns-in-None-clause-tables
returns-in-None-clause-tables c = tt
