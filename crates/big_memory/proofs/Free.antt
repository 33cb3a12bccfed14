-- Laws of changes that no refusal covers.
use Rattle.std.proofs.Common.{◌≡◌, ◌≢◌, ◌⊎◌, ◌∷◌, ◌*◌, nat_lt, inl, inr, ℕ, zero, suc, ◌+◌, ◌%◌, ◌<◌, ◌≤◌, Bool, true, false, List, [], length, get_or, Option, None, Some, Result, arith, sym, ◌∙◌, ap, subst, refl}
use Rattle.std.proofs.lemmas.List.{places}
use Rattle.std.proofs.lemmas.Grind.{same_number_lists}
use Rattle.std.proofs.lemmas.Bool.{cases_lt}
use Rattle.std.proofs.lemmas.Bool.Decides.{nat_tests}
use Rattle.big_memory.specs.declared.refusals.Access.{Access}
use Rattle.big_memory.specs.Lists.{part}
use Rattle.big_memory.specs.Memory.{Memory, IsRam, copied, copy_refusal, in_memory, refusal, with_bytes}
use Rattle.big_memory.specs.MemoryClauses.{IsDoneUnless}
use Rattle.big_memory.specs.StoresClauses.{OnlyFree}
use Rattle.big_memory.specs.laws.Laws.{CopiesAreFree, DoneIsFree, FreeJoins, FreeKeepsPage, FreeKeepsRam, FreeKeepsRefusals, NothingIsFree, SamePart, StoresAreFree}
use Rattle.big_memory.proofs.Lists.{length-put, put-nil, get_or-put_outside}
use Rattle.big_memory.proofs.Guarded.{Passes, passes, passes_within}

pub nothing_free : NothingIsFree
nothing_free m = record { marks = refl; long = refl; kept = λ a within refused. refl }

pub free_refusals : FreeKeepsRefusals
free_refusals m n a k free = rw (free.long, free.marks) refl

pub free_joins : FreeJoins
free_joins l m n first next = record {
  marks = next.marks ∙ first.marks;
  long = next.long ∙ first.long;
  kept = λ a within refused.
      next.kept a (omega (arith, first.long, within)) (λ none. refused (sym (free_refusals l m a 1 first) ∙ none)) ∙ first.kept a within refused;
}

-- a memory of the same length and with the same marks
same_ram : (m n : Memory) → n.marks ≡ m.marks → length n.bytes ≡ length m.bytes → IsRam m → IsRam n
same_ram m n marks long ram = record {
  clear = λ unit low. ap (λ ms. get_or ms unit false) marks ∙ ram.clear unit (omega (arith, long, low));
  units = long ∙ ram.units ∙ ap (λ ms. 16 * length ms) (sym marks);
  least = omega (arith, long, ram.least);
  most = omega (arith, long, ram.most);
  whole = ap (λ k. k % 1024) long ∙ ram.whole;
}

pub free_ram : FreeKeepsRam
free_ram m n ram free = same_ram m n free.marks free.long ram

-- a byte that a store may not change lies outside of what was put
outside : (m : Memory) (at n a : ℕ) → IsRam m → refusal m at n ≡ None → refusal m a 1 ≢ None → (a < at) ⊎ (at + n ≤ a)
outside m at n a ram none refused =
    elim (cases_lt a at) [
      | inl before ↦ inl before
      | inr from ↦ elim (cases_lt a (at + n)) [
        | inl to ↦ absurd (refused (passes_within m at n a 1 ram none from (omega arith)))
        | inr after ↦ inr after
      ]
    ]

-- bytes put where they fit
put_free : (m : Memory) (at : ℕ) (ys : List ℕ) → at + length ys ≤ length m.bytes → ((a : ℕ) → refusal m a 1 ≢ None → (a < at) ⊎ (at + length ys ≤ a)) → OnlyFree m (with_bytes at ys m)
put_free m at ys within apart = record {
  marks = refl;
  long = length-put at ys m.bytes within;
  kept = λ a below refused. get_or-put_outside at a ys m.bytes 0 within (apart a refused);
}

same_free : (m n : Memory) → n ≡ m → OnlyFree m n
same_free m n same = subst (λ k. OnlyFree m k) (sym same) (nothing_free m)

stores_some : (m : Memory) (a n : ℕ) (ys : List ℕ) → length ys ≡ n → 0 < n → IsRam m → refusal m a n ≡ None → OnlyFree m (with_bytes a ys m)
stores_some m a n ys size some ram none =
    let all : Passes m a n = passes m a n some none in
    put_free m a ys (omega (arith, size, all.within)) (λ b refused. subst (λ k. (b < a) ⊎ (a + k ≤ b)) (sym size) (outside m a n b ram none refused))

pub stores_free : StoresAreFree
stores_free m a n [] size ram none = same_free m (with_bytes a [] m) (ap (λ bytes. record m { bytes = bytes }) (put-nil a m.bytes))
stores_free m a n (y ∷ ys) size ram none = stores_some m a n (y ∷ ys) size (omega (arith, size)) ram none

-- a call that is done, or refused
unless_free : (reason : Option Access) (m done new : Memory) (result : Result (Unit {0}) Access) → (reason ≡ None → OnlyFree m done) → IsDoneUnless reason m done new result (record {}) → OnlyFree m new
unless_free None m done new result free all = subst (λ n. OnlyFree m n) (sym all.1) (free refl)
unless_free (Some e) m done new result free all = same_free m new all.1

pub done_free : DoneIsFree
done_free m new a n ys result size ram all = unless_free (refusal m a n) m (with_bytes a ys m) new result (stores_free m a n ys size ram) all

pub length-part : (at n : ℕ) (xs : List ℕ) → at + n ≤ length xs → length (part at n xs) ≡ n
length-part at n xs within = grind (arith, places)

-- a copy that is not refused is read from memory
copied_free : (inside : Bool) (m : Memory) (from to n : ℕ) → inside ≡ in_memory m from n → IsRam m → copy_refusal m from to n ≡ None → OnlyFree m (copied m from to n)
copied_free true m from to zero is ram none = stores_free m to 0 [] refl ram refl
copied_free true m from to (suc n) is ram none =
    let within : from + suc n ≤ length m.bytes = grind (arith, nat_tests, is) in
    stores_free m to (suc n) (part from (suc n) m.bytes) (length-part from (suc n) m.bytes within) ram (rw (sym is) at none)
copied_free false m from to n is ram none = absurd (let refused = rw (sym is) at none in cc)

pub copies_free : CopiesAreFree
copies_free m new from to n result ram all = unless_free (copy_refusal m from to n) m (copied m from to n) new result (copied_free (in_memory m from n) m from to n refl ram) all

-- lists that agree on a part
pub same_part : SamePart
same_part at n xs ys same within each = same_number_lists _ _ (grind (arith, places)) (λ k w. grind (arith, places, each (at + k)))

-- a store into the gate page is refused
page_refused : (m : Memory) (a : ℕ) → 0x1000 ≤ a → a < 0x2000 → refusal m a 1 ≢ None
page_refused m a from to none =
    let all : Passes m a 1 = passes m a 1 (omega arith) none in
    let gate : nat_lt a 0x2000 ≡ true = grind (arith, nat_tests) in
    let page : nat_lt 0x1000 (a + 1) ≡ true = grind (arith, nat_tests) in
    let met = all.gate in cc

pub free_page : FreeKeepsPage
free_page m n ram free =
    same_part 0x1000 0x1000 n.bytes m.bytes free.long (omega (arith, ram.least))
    (λ k from to. free.kept k (omega (arith, ram.least, to)) (page_refused m k from (omega (arith, to))))
