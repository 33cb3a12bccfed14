-- How long numbers in decimal are.
use Rattle.std.proofs.Common.{◌≡◌, ℕ, ◌<◌, ◌≤◌, ◌^◌, ◌+◌, ◌++◌, length, length-append, decimal, Bool, true, false, List, arith, sym, subst}
use Rattle.std.proofs.lemmas.Fmt.{length-decimal-le}
use Rattle.mix_bits.specs.LineClauses.{AppendsWithin}

-- a number of 32 bits has at most ten digits
pub decimal_short : (n : ℕ) → n < 2 ^ 32 → length (decimal n) ≤ 10
decimal_short n small = length-decimal-le 10 n (omega arith) (omega (arith, small)) (omega (arith, small))

-- so a line grows by at most ten bytes
pub appended_short : (most : ℕ) (old new : List ℕ) (n : ℕ) (fits : Bool) → n < 2 ^ 32 → AppendsWithin most old new (decimal n) fits → length new ≤ length old + 10
appended_short most old new n true small h =
    subst (λ xs. length xs ≤ length old + 10) (sym h.bytes)
    (subst (λ k. k ≤ length old + 10) (sym (length-append old (decimal n))) (omega (arith, decimal_short n small)))
appended_short most old new n false small h = subst (λ xs. length xs ≤ length old + 10) (sym h.bytes) (omega arith)

-- and a piece for which there is room is appended whole
pub appended_whole : (most : ℕ) (old new piece : List ℕ) (fits : Bool) → length old + length piece ≤ most → AppendsWithin most old new piece fits → new ≡ old ++ piece
appended_whole most old new piece true room h = h.bytes
appended_whole most old new piece false room h = let no : false ≡ true = h.when.1 room in cc
