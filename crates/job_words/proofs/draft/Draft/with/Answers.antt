use Rattle.std.proofs.Common.{◌≡◌, ℕ, ◌+◌, ◌<◌, List, length, cond, get_or, set, Option, Some, None, is_none, is_some, true, if◌then◌else◌, arith, ap, sym, ◌∙◌, refl}
use Rattle.std.specs.List.{count_by}
use Rattle.std.proofs.lemmas.Bool.{and_parts}
use Rattle.std.proofs.lemmas.List.Sums.{sum_by-set}
use Rattle.job_words.specs.Drafts.{given_at, is_alone, is_open, put}
use Rattle.job_words.specs.declared.draft.Draft.{Draft}
use Rattle.job_words.specs.declared.draft.Given.{Given}
use Rattle.job_words.proofs.draft.Draft.with.Goals as goal

-- a slot that is filled is one more
abbrev counted : Option Given → ℕ
counted o = cond (is_some o) 1 0

nothing-counted : (o : Option Given) → is_none o ≡ true → counted o ≡ 0
nothing-counted None free = refl
nothing-counted (Some g) free = cc

one-more : (slots : List (Option Given)) (i : ℕ) (g : Given) → i < length slots → is_none (get_or slots i None) ≡ true → count_by is_some (set slots i (Some g)) ≡ 1 + count_by is_some slots
one-more slots i g less free =
    let sums = sum_by-set counted slots i (Some g) None less in
    let none = nothing-counted (get_or slots i None) free in
    omega arith

pub returns-then-not-has_room-clause-value : goal.returns-then-not-has_room-clause-value
returns-then-not-has_room-clause-value c = ap (λ b. if b then Some (put c.args.self c.args.place c.args.setting) else None) c.if-not-has_room.ensures

pub returns-clause-value : goal.returns-clause-value
returns-clause-value c =
    let filled : ℕ → Draft = λ i. record { slots = set c.args.self.slots i (Some (given_at c.args.place c.args.setting.value)) } in
    ap (λ i. Some (filled i)) c.index.ensures.value ∙ ap (λ b. if b then Some (put c.args.self c.args.place c.args.setting) else None) c.if-not-has_room.ensures

pub returns-clause-more : goal.returns-clause-more
returns-clause-more c =
    let slots = c.args.self.slots in
    let free = (and_parts (is_open c.args.self c.args.setting.name) (is_alone c.args.self c.args.setting.name) (sym c.if-not-has_room.ensures)).0 in
    let less : c.index.result < length slots = omega (arith, c.index.ensures.inside) in
    one-more slots c.index.result (given_at c.args.place c.args.setting.value) less (ap (λ i. is_none (get_or slots i None)) c.index.ensures.value ∙ free)
