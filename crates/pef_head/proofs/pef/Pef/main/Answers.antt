use Rattle.std.proofs.Common.{◌≡◌, ◌≢◌, ◌∙◌, ap, sym, ℕ, ◌+◌, ◌==◌, Bool, List, Option, Some, None, if◌then◌else◌, eq-eqb, ne_eqb, arith}
use Rattle.mix_bits.specs.Fields.{long_at}
use Rattle.pef_head.specs.declared.loader.Loader.{Loader}
use Rattle.pef_head.specs.Loader.{loader_of}
use Rattle.pef_head.specs.Parts.{main_of}
use Rattle.pef_head.proofs.pef.Pef.main.Goals as goal

-- what stands at the start of the loader section, unless there is no section
abbrev main_at : List ℕ → ℕ → Bool → Option (ℕ × ℕ)
main_at bytes start none = if none then None else Some (long_at bytes start, long_at bytes (start + 4))

main_is : (bytes now : List ℕ) (l : Loader) → bytes ≡ now → l ≡ loader_of bytes → main_at bytes l.start (long_at bytes l.start == 0xFFFF_FFFF) ≡ main_of now
main_is bytes now l view is =
    ap (λ (k : Loader). main_at bytes k.start (long_at bytes k.start == 0xFFFF_FFFF)) is ∙ ap (λ (n : List ℕ). main_of n) view

no_main : (bytes : List ℕ) (start section : ℕ) → section ≡ long_at bytes start → section ≡ 0xFFFF_FFFF → None ≡ main_at bytes start (long_at bytes start == 0xFFFF_FFFF)
no_main bytes start section read is =
    ap (main_at bytes start) (sym (eq-eqb (long_at bytes start) 0xFFFF_FFFF (sym read ∙ is)))

some_main : (bytes : List ℕ) (start section offset : ℕ) → section ≡ long_at bytes start → offset ≡ long_at bytes (start + 4) → section ≢ 0xFFFF_FFFF
    → Some (section, offset) ≡ main_at bytes start (long_at bytes start == 0xFFFF_FFFF)
some_main bytes start section offset first second other =
    ap (λ (n : ℕ). Some (n, offset)) first
    ∙ (ap (λ (n : ℕ). Some (long_at bytes start, n)) second
    ∙ ap (main_at bytes start) (sym (ne_eqb (long_at bytes start) 0xFFFF_FFFF (λ q. other (first ∙ q)))))

pub long_at-requires : goal.long_at-requires
long_at-requires c = let tables = c.self.invariant.tables in omega (arith, tables.header_fits, tables.end_fits)

pub long_at-requires-in_default : goal.long_at-requires-in_default
long_at-requires-in_default c = let tables = c.self.invariant.tables in omega (arith, tables.header_fits, tables.end_fits)

pub overflow_add-start : goal.overflow_add-start
overflow_add-start c = let tables = c.self.invariant.tables in omega (arith, tables.header_fits, tables.end_fits, tables.small)

pub returns-in-4294967295 : goal.returns-in-4294967295
returns-in-4294967295 c =
    no_main c.self.inside.bytes.now c.self.inside.loader.start c.long_at.result c.long_at.ensures c.in-4294967295.is
    ∙ main_is c.self.inside.bytes.now c.args.self.now c.self.inside.loader c.self.view_is c.self.invariant.is

pub returns-in_default : goal.returns-in_default
returns-in_default c =
    let other : c.long_at.result ≢ 0xFFFF_FFFF = omega arith in
    some_main c.self.inside.bytes.now c.self.inside.loader.start c.long_at.result c.long_at-in_default.result c.long_at.ensures c.long_at-in_default.ensures other
    ∙ main_is c.self.inside.bytes.now c.args.self.now c.self.inside.loader c.self.view_is c.self.invariant.is
