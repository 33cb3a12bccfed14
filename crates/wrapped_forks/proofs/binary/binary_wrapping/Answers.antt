use Rattle.std.proofs.Common.{◌≡◌, ◌∙◌, ap, sym, ℕ, ◌≤◌, Bool, true, false, List, length, if◌then◌else◌, Option, Some, None, IfSome, leb-true}
use Rattle.std.proofs.lemmas.Bool.{and_parts}
use Rattle.wrapped_forks.specs.declared.wrapping.Wrapping.{Wrapping}
use Rattle.wrapped_forks.specs.Forks.{binary_wrapping, is_header, level_of}
use Rattle.wrapped_forks.proofs.binary.binary_wrapping.Goals as goal

-- a header has 128 bytes
header_long : (bytes : List ℕ) → is_header bytes ≡ true → 128 ≤ length bytes
header_long bytes is = leb-true 128 (length bytes) (and_parts _ _ (and_parts _ _ (and_parts _ _ (and_parts _ _ is).0).0).0).0

-- behind a header the level decides, and without one there is none
by_header : (bytes : List ℕ) (b : Bool) → b ≡ is_header bytes → (if b then level_of bytes else None) ≡ binary_wrapping bytes
by_header bytes b is = ap (λ (h : Bool). if h then level_of bytes else None) is

each_long : (o : Option Wrapping) (n : ℕ) → 128 ≤ n → IfSome o (λ _. 128 ≤ n)
each_long None n long = tt
each_long (Some w) n long = long

pub is_header-requires : goal.is_header-requires
is_header-requires c = tt

pub level-requires : goal.level-requires
level-requires c = header_long c.args.bytes.now (sym c.is_header.ensures ∙ c.if-is_header.true)

pub returns-then-is_header-clause-wrapping : goal.returns-then-is_header-clause-wrapping
returns-then-is_header-clause-wrapping c = c.level.ensures ∙ by_header c.args.bytes.now true (sym c.if-is_header.true ∙ c.is_header.ensures)

pub returns-then-is_header-clause-long : goal.returns-then-is_header-clause-long
returns-then-is_header-clause-long c = each_long c.level.result (length c.args.bytes.now) (header_long c.args.bytes.now (sym c.is_header.ensures ∙ c.if-is_header.true))

pub returns-else-is_header-clause-wrapping : goal.returns-else-is_header-clause-wrapping
returns-else-is_header-clause-wrapping c = by_header c.args.bytes.now false (sym c.if-is_header.false ∙ c.is_header.ensures)

pub returns-else-is_header-clause-long : goal.returns-else-is_header-clause-long
returns-else-is_header-clause-long c = tt
