-- Claims on the states that machines stand for, one after the other.
use Rattle.std.proofs.Common.{◌≡◌, ℕ, List, [], ◌∷◌, ◌++◌, length, map, drop, Option, refl, sym, ap, ◌∙◌, subst, append_assoc}
use Rattle.std.proofs.Math.Seq.{drop-append_seam, drop-length}
use Rattle.std.proofs.lemmas.List.{map-append}
use Rattle.dev_rack.specs.declared.answers.Asked.{Asked}
use Rattle.dev_rack.specs.Rack.{State as Rack}
use Rattle.dev_rack.specs.Accounts.{Accounts}
use Rattle.toolbox.specs.Calls.{Taken, answers_since}
use Rattle.mixed_machine.specs.State.{State}
use Rattle.mixed_machine.specs.laws.Laws.{AnswersJoin, NoAnswers, ToldJoins, ToldNothing, TookSplits}
use Rattle.mixed_machine.specs.OutsideClauses.{At, Over}
use Rattle.mixed_machine.specs.Outside.{TookAll}
use Rattle.mixed_machine.specs.inner.Outside.{answers_between, state_of}

-- what was taken by calls, and by more of them
pub took-append : TookSplits
took-append [] ys before after took = (before, refl, took)
took-append (x ∷ xs) ys before after took =
    let rest = took-append xs ys took.0 after took.2 in (rest.0, (took.0, took.1, rest.1), rest.2)

took-both : (xs ys : List Taken) (before mid after : List ℕ) → TookAll xs before mid → TookAll ys mid after → TookAll (xs ++ ys) before after
took-both [] ys before mid after first then = subst (λ b. TookAll ys b after) (sym first) then
took-both (x ∷ xs) ys before mid after first then = (first.0, first.1, took-both xs ys first.0 mid after first.2 then)

pub told-both : ToldJoins
told-both xs ys a b c first then after is =
    let second = then after is in
    let whole = first second.0 second.1 in
    (whole.0, whole.1, took-both xs ys whole.0 second.0 after whole.2 second.2)

pub told-none : ToldNothing
told-none a after is = (after, is, refl)

-- the answers of a journal's new entries
since-is : (a b : Rack) (entries : List Asked) → b.journal ≡ a.journal ++ entries → answers_since a b ≡ map (λ e. e.answer) entries
since-is a b entries is =
    ap (λ j. map (λ e. e.answer) (drop (length a.journal) j)) is ∙ ap (map (λ e. e.answer)) (drop-append_seam a.journal entries)

pub since-none : NoAnswers
since-none a = ap (map (λ e. e.answer)) (drop-length a.journal)

pub since-more : AnswersJoin
since-more a b c rest first then =
    let joined : c.journal ≡ a.journal ++ (first.entries ++ then.entries) =
    then.noted ∙ (ap (λ j. j ++ then.entries) first.noted ∙ append_assoc a.journal first.entries then.entries) in
    let all : answers_since a b ++ answers_since b c ≡ answers_since a c =
    ap (λ xs. xs ++ answers_since b c) (since-is a b first.entries first.noted)
    ∙ (ap (λ xs. map (λ e. e.answer) first.entries ++ xs) (since-is b c then.entries then.noted)
    ∙ (sym (map-append (λ e. e.answer) first.entries then.entries) ∙ sym (since-is a c (first.entries ++ then.entries) joined))) in
    sym (append_assoc (answers_since a b) (answers_since b c) rest) ∙ ap (λ xs. xs ++ rest) all

-- nothing was done
pub over-none : (P : State → State → Type 0) (a : At) → ((input : List ℕ) (answers : List (Option ℕ)) → P (state_of a input answers) (state_of a input answers)) → Over P a a
over-none P a same =
    record {
      taken = [];
      told = told-none a.outside.input.left;
      each = λ before after rest took.
          subst (λ input. P (state_of a input (answers_between a a ++ rest)) (state_of a after rest)) (sym took)
          (subst (λ xs. P (state_of a after (xs ++ rest)) (state_of a after rest)) (sym (since-none a.outside.rack)) (same after rest));
    }

-- another claim of the same states
pub over-same : (P Q : State → State → Type 0) (a b : At)
    → ((s : State) (input : List ℕ) (answers : List (Option ℕ)) → P s (state_of b input answers) → Q s (state_of b input answers)) → Over P a b → Over Q a b
over-same P Q a b implies first =
    record {
      taken = first.taken;
      told = first.told;
      each = λ before after rest took. implies (state_of a before (answers_between a b ++ rest)) after rest (first.each before after rest took);
    }

-- one claim after another
pub over-more : (P Q R : State → State → Type 0) (a b c : At) → Accounts a.outside.rack b.outside.rack → Accounts b.outside.rack c.outside.rack
    → ((s t : State) (input : List ℕ) (answers : List (Option ℕ)) → P s t → Q t (state_of c input answers) → R s (state_of c input answers))
    → Over P a b → Over Q b c → Over R a c
over-more P Q R a b c noted then_noted joins first then =
    record {
      taken = first.taken ++ then.taken;
      told = told-both first.taken then.taken a.outside.input.left b.outside.input.left c.outside.input.left first.told then.told;
      each = λ before after rest took.
          let mid = took-append first.taken then.taken before after took in
          subst (λ xs. R (state_of a before xs) (state_of c after rest)) (since-more a.outside.rack b.outside.rack c.outside.rack rest noted then_noted)
          (joins (state_of a before (answers_between a b ++ (answers_between b c ++ rest))) (state_of b mid.0 (answers_between b c ++ rest)) after rest
          (first.each before mid.0 (answers_between b c ++ rest) mid.1) (then.each mid.0 after rest mid.2));
    }
