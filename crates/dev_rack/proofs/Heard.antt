-- What a device heard, in several steps.
use Rattle.std.proofs.Common.{◌≡◌, ℕ, ◌≤◌, Bool, true, false, ◌||◌, List, [], ◌∷◌, ◌++◌, Option, None, Some, Result, Ok, Err, MatchBool, is_none, refl, sym, ap, subst, ◌∙◌, append_assoc, append-nil, arith}
use Rattle.std.specs.Result.{result_ok}
use Rattle.std.proofs.lemmas.List.Folds.{list_any-append}
use Rattle.mix_io.specs.Counts.{Rose}
use Rattle.mix_io.specs.Told.{Notes}
use Rattle.dev_rack.specs.Slots.{Seen}
use Rattle.dev_rack.specs.SlotsClauses.{Heard}
use Rattle.dev_rack.specs.Accounts.{HeardAll, NotesAll, has_failure}

abbrev Counts : Bool → ℕ → ℕ → Type 0
Counts failed before after = MatchBool failed (Rose before after) (after ≡ before)

rose-later : (a b c : ℕ) → Rose a b → b ≤ c → Rose a c
rose-later a b c r h = grind arith

later-rose : (a b c : ℕ) → a ≤ b → Rose b c → Rose a c
later-rose a b c h r = grind arith

counts-later : (t : Bool) (a b : ℕ) → Counts t a b → a ≤ b
counts-later true a b r = grind arith
counts-later false a b e = omega arith

counts-join : (s t : Bool) (a b c : ℕ) → Counts s a b → Counts t b c → Counts (s || t) a c
counts-join true t a b c p q = rose-later a b c p (counts-later t b c q)
counts-join false true a b c p q = later-rose a b c (counts-later false a b p) q
counts-join false false a b c p q = q ∙ p

notes-join : (a b c : Option (List (ℕ × Option ℕ))) (xs ys : List (ℕ × Option ℕ)) → NotesAll a b xs → NotesAll b c ys → NotesAll a c (xs ++ ys)
notes-join None None c xs ys p q = q
notes-join None (Some b) c xs ys p q = cc
notes-join (Some a) b None xs ys p q = tt
notes-join (Some a) None (Some c) xs ys p q = cc
notes-join (Some a) (Some b) (Some c) xs ys p q = q ∙ ap (λ l. l ++ ys) p ∙ append_assoc a xs ys

-- it was asked nothing
pub heard-none : (d : Seen) → HeardAll d d []
heard-none d = record { told = none d.told; count = refl }
  where
    none : (a : Option (List (ℕ × Option ℕ))) → NotesAll a a []
    none None = refl
    none (Some a) = sym (append-nil a)

notes-one : (a b : Option (List (ℕ × Option ℕ))) (word : ℕ) (answer : Option ℕ) → Notes a b word answer → NotesAll a b ((word, answer) ∷ [])
notes-one None b word answer p = p
notes-one (Some a) None word answer p = tt
notes-one (Some a) (Some b) word answer p = p

-- it was asked one word
pub heard-one : {E : Type 0} (before after : Seen) (word : ℕ) (result : Result ℕ E) → Heard before after word result → HeardAll before after ((word, result_ok result) ∷ [])
heard-one before after word (Ok n) h = record { told = notes-one before.told after.told word (Some n) h.told; count = h.cause.same }
heard-one before after word (Err e) h = record { told = notes-one before.told after.told word None h.told; count = h.cause.failed }

-- it was asked these, and then those
pub heard-join : (a b c : Seen) (xs ys : List (ℕ × Option ℕ)) → HeardAll a b xs → HeardAll b c ys → HeardAll a c (xs ++ ys)
heard-join a b c xs ys p q = record {
  told = notes-join a.told b.told c.told xs ys p.told q.told;
  count = subst (λ t. Counts t a.faults c.faults) (sym (list_any-append (λ p. is_none p.1) xs ys))
      (counts-join (has_failure xs) (has_failure ys) a.faults b.faults c.faults p.count q.count);
}
