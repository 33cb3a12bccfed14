-- Lines of callers, put one after another.
use Rattle.std.proofs.Common.{◌≡◌, ℕ, suc, ◌+◌, ◌≤◌, List, [], ◌∷◌, ◌++◌, length, take, drop, Option, Some, None, Result, Ok, Err, arith, ap, sym, subst, ◌∙◌, refl, add-one}
use Rattle.std.specs.Io.KnownBytes.{Appends}
use Rattle.std.proofs.KnownBytes.{Appends-nil, Appends-trans}
use Rattle.std.proofs.lemmas.List.{length-append, take-append-le}
use Rattle.mix_io.specs.Told.{Puts}
use Rattle.switch_frame.specs.declared.held.Held.{Held}
use Rattle.switch_frame.specs.CallsClauses.{innermost}
use Rattle.switch_frame.specs.Records.{Record}
use Rattle.switch_frame.specs.RecordsClauses.{held_of, record_of}
use Rattle.mix_debug.specs.Crawl.{caller_line, caller_lines}

-- the callers of a chain, as its innermost one is told
none-told : (rs : List Record) → innermost rs ≡ None → rs ≡ []
none-told [] none = refl
none-told (r ∷ rs) none = absurd (let e : Some (held_of r (suc (length rs))) ≡ None = none in cc)

some-told : (rs : List Record) (held : Held) → innermost rs ≡ Some held → rs ≡ record_of held ∷ drop 1 rs
some-told [] held some = absurd (let e : None ≡ Some held = some in cc)
some-told (r ∷ rs) held some = ap (λ (h : Held). record_of h ∷ rs) (same (held_of r (suc (length rs))) held some)
  where
    same : (a b : Held) → Some a ≡ Some b → a ≡ b
    same a b e = cc

pub no-lines : (old : Option (List ℕ)) (k : ℕ) (rs : List Record) → innermost rs ≡ None → Appends old old (caller_lines k rs)
unfolding caller_lines
no-lines old k rs none = subst (λ xs. Appends old old (caller_lines k xs)) (sym (none-told rs none)) (Appends-nil old)

lines-are : (k : ℕ) (rs : List Record) (held : Held) → innermost rs ≡ Some held → caller_lines k rs ≡ caller_line k (record_of held) ++ caller_lines (k + 1) (drop 1 rs)
unfolding caller_lines
lines-are k rs held some = ap (caller_lines k) (some-told rs held some) ∙ ap (λ n. caller_line k (record_of held) ++ caller_lines n (drop 1 rs)) (sym (add-one k))

-- a piece, and then a text of which some may be missing
pub puts-more : {V E : Type 0} (a b c : Option (List ℕ)) (xs ys : List ℕ) (r : Result V E) → Appends a b xs → Puts b c ys r → Puts a c (xs ++ ys) r
puts-more a b c xs ys (Ok v) first then = Appends-trans a b c xs ys first then
puts-more a b c xs ys (Err e) first then = (
  length xs + then.0,
  omega (arith, length-append xs ys, then.1),
  subst (Appends a c) (sym (taken xs ys then.0)) (Appends-trans a b c xs (take then.0 ys) first then.2),
)
  where
    taken : (xs ys : List ℕ) (k : ℕ) → take (length xs + k) (xs ++ ys) ≡ xs ++ take k ys
    taken [] ys k = ap (λ n. take n ys) (Rattle.std.proofs.Common.zero-add k)
    taken (x ∷ xs) ys k = let n : suc (length xs) + k ≡ suc (length xs + k) = omega arith in rw n (ap (λ zs. x ∷ zs) (taken xs ys k))

-- some of the first piece
pub puts-some : (a b : Option (List ℕ)) (xs ys : List ℕ) (k : ℕ) → k ≤ length xs → Appends a b (take k xs) → (n : ℕ) × (n ≤ length (xs ++ ys)) × Appends a b (take n (xs ++ ys))
puts-some a b xs ys k few then = (k, omega (arith, length-append xs ys, few), subst (Appends a b) (sym (take-append-le k xs ys few)) then)

pub lines-put : {V E : Type 0} (a b c : Option (List ℕ)) (k : ℕ) (rs : List Record) (held : Held) (r : Result V E) → innermost rs ≡ Some held → Appends a b (caller_line k (record_of held))
    → Puts b c (caller_lines (k + 1) (drop 1 rs)) r → Puts a c (caller_lines k rs) r
lines-put a b c k rs held r some first then =
    subst (λ xs. Puts a c xs r) (sym (lines-are k rs held some)) (puts-more a b c (caller_line k (record_of held)) (caller_lines (k + 1) (drop 1 rs)) r first then)

pub lines-some : (a b : Option (List ℕ)) (k : ℕ) (rs : List Record) (held : Held) (n : ℕ) → innermost rs ≡ Some held → n ≤ length (caller_line k (record_of held)) → Appends a b (take n (caller_line k (record_of held)))
    → (m : ℕ) × (m ≤ length (caller_lines k rs)) × Appends a b (take m (caller_lines k rs))
lines-some a b k rs held n some few then =
    subst (λ xs. (m : ℕ) × (m ≤ length xs) × Appends a b (take m xs)) (sym (lines-are k rs held some)) (puts-some a b (caller_line k (record_of held)) (caller_lines (k + 1) (drop 1 rs)) n few then)
