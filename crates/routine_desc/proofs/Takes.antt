-- What the choice takes.
use Rattle.std.proofs.Common.{◌≡◌, ℕ, Bool, true, false, if◌then◌else◌, List, [], ◌∷◌, filter, Option, Some, None, ap, sym, subst, ◌∙◌, refl}
use Rattle.std.specs.List.{All, Contains}
use Rattle.std.proofs.lemmas.List.Elements.{All-contains_itself, All-filter, All-head, All-nil}
use Rattle.mix_bits.specs.declared.isa.Isa.{Isa}
use Rattle.mix_bits.specs.declared.isa.Isa.TheVariants.{Ppc}
use Rattle.routine_desc.specs.declared.record.Rec.{Rec}
use Rattle.routine_desc.specs.Layout.{has_flag}
use Rattle.mix_bits.specs.Isas.{is_isa}
use Rattle.routine_desc.specs.Choice.{candidates, chosen_among, first_of}
use Rattle.routine_desc.specs.inner.Choice.{has_selector, head_of, is_default, or_else}
use Rattle.routine_desc.specs.laws.Laws.{TakesARecord, TakesNone}
use Rattle.routine_desc.proofs.ChoiceLemmas.{head-first_of}

all_first_of : (P : Rec → Type 0) (xs ys : List Rec) → All P xs → All P ys → All P (first_of xs ys)
all_first_of P [] ys here there = there
all_first_of P (x ∷ xs) ys here there = here

all_if : (P : Rec → Type 0) (b : Bool) (xs : List Rec) → All P xs → All P (if b then xs else [])
all_if P true xs here = here
all_if P false xs here = All-nil P

of_head : (P : Rec → Type 0) (xs : List Rec) (r : Rec) → All P xs → head_of xs ≡ Some r → P r
of_head P [] r here h = absurd (cc)
of_head P (x ∷ xs) r here h = let e : x ≡ r = cc in subst P e (All-head P x xs here)

of_chosen : (P : Rec → Type 0) (caller : Isa) (cs : List Rec) (r : Rec) → All P cs → chosen_among caller cs ≡ Some r → P r
of_chosen P caller [] r here h = absurd (cc)
of_chosen P caller (c ∷ cs) r here h =
    let native = filter (λ c. is_isa c.isa Ppc) (c ∷ cs) in
    let own = filter (λ c. is_isa c.isa caller) (c ∷ cs) in
    of_head P (first_of (if has_flag c.flags 4 then native else []) (first_of own (c ∷ cs))) r
    (all_first_of P (if has_flag c.flags 4 then native else []) (first_of own (c ∷ cs))
    (all_if P (has_flag c.flags 4) native (All-filter (λ c. is_isa c.isa Ppc) P (c ∷ cs) here))
    (all_first_of P own (c ∷ cs) (All-filter (λ c. is_isa c.isa caller) P (c ∷ cs) here) here)) h

all_candidates : (P : Rec → Type 0) (records : List Rec) (selector : Option ℕ) → All P records → All P (candidates records selector)
all_candidates P records None here = here
all_candidates P records (Some s) here =
    all_first_of P (filter (has_selector s) records) (filter is_default records) (All-filter (has_selector s) P records here) (All-filter is_default P records here)

pub takes-record : TakesARecord
takes-record records caller selector r h =
    let Among : Rec → Type 0 = λ r. Contains records r in
    of_chosen Among caller (candidates records selector) r (all_candidates Among records selector (All-contains_itself records)) h

some_else : (x y : Option Rec) (r : Rec) → or_else x (or_else y (Some r)) ≡ None → ⊥
some_else None None r h = cc
some_else None (Some q) r h = cc
some_else (Some q) y r h = cc

chosen_none : (caller : Isa) (cs : List Rec) → chosen_among caller cs ≡ None → cs ≡ []
chosen_none caller [] h = refl
chosen_none caller (c ∷ cs) h =
    let native = (if has_flag c.flags 4 then filter (λ c. is_isa c.isa Ppc) (c ∷ cs) else []) in
    let own = filter (λ c. is_isa c.isa caller) (c ∷ cs) in
    absurd (some_else (head_of native) (head_of own) c (sym (head-first_of native (first_of own (c ∷ cs)) ∙ ap (or_else (head_of native)) (head-first_of own (c ∷ cs))) ∙ h))

pub takes-none : TakesNone
takes-none records caller selector =
    ((λ h. chosen_none caller (candidates records selector) h), (λ h. ap (chosen_among caller) h))
