-- One scan finds what the filters leave.
use Rattle.std.proofs.Common.{◌≡◌, ℕ, Bool, true, false, if◌then◌else◌, List, [], ◌∷◌, filter, length, take, drop, ◌-◌, get_or, ◌<◌, arith, Option, Some, None, is_some, sym, ap, subst, ◌∙◌, refl}
use Rattle.std.proofs.lemmas.List.{same_lists, places}
use Rattle.mix_bits.specs.declared.isa.Isa.{Isa}
use Rattle.mix_bits.specs.declared.isa.Isa.TheVariants.{Ppc}
use Rattle.routine_desc.specs.declared.record.Rec.{Rec}
use Rattle.std.specs.Borrow.{Bor}
use Rattle.routine_desc.specs.Layout.{has_flag}
use Rattle.routine_desc.specs.RecordViews.{picked}
use Rattle.mix_bits.specs.Isas.{is_isa}
use Rattle.routine_desc.specs.inner.Choice.{Found, Scan, chosen_of, found_before, found_of, matches_selector, or_else, scan_of, has_selector, head_of, is_default}
use Rattle.routine_desc.specs.Choice.{candidates, choice, chosen_among, first_of}

-- the head of a filtered list, with one more record before it
head-filter : (b : Bool) (r : Rec) (rs : List Rec) → head_of (if b then r ∷ rs else rs) ≡ (if b then Some r else head_of rs)
head-filter true r rs = refl
head-filter false r rs = refl

-- one more record before the others
pub found-before : (r : Rec) (caller : Isa) (asked : Bool) (rs : List Rec) → found_of caller (if asked then r ∷ rs else rs) ≡ found_before r caller asked (found_of caller rs)
found-before r caller false rs = refl
found-before r caller true rs =
    ap (λ n. record { first = Some r; native = n; own = head_of (filter (λ c. is_isa c.isa caller) (r ∷ rs)) }) (head-filter (is_isa r.isa Ppc) r (filter (λ c. is_isa c.isa Ppc) rs))
    ∙ ap (λ o. record { first = Some r; native = (if is_isa r.isa Ppc then Some r else head_of (filter (λ c. is_isa c.isa Ppc) rs)); own = o }) (head-filter (is_isa r.isa caller) r (filter (λ c. is_isa c.isa caller) rs))

-- the first of two lists that has a record, by their first records
pub head-first_of : (rs others : List Rec) → head_of (first_of rs others) ≡ or_else (head_of rs) (head_of others)
head-first_of [] others = refl
head-first_of (r ∷ rs) others = refl

head-if : (b : Bool) (rs : List Rec) → head_of (if b then rs else []) ≡ (if b then head_of rs else None)
head-if true rs = refl
head-if false rs = refl

-- what is taken of a scan is what the filters take
pub chosen-found : (caller : Isa) (rs : List Rec) → chosen_of (found_of caller rs) ≡ chosen_among caller rs
chosen-found caller [] = refl
chosen-found caller (r ∷ rs) =
    let native = filter (λ c. is_isa c.isa Ppc) (r ∷ rs) in
    let own = filter (λ c. is_isa c.isa caller) (r ∷ rs) in
    sym (head-first_of (if has_flag r.flags 4 then native else []) (first_of own (r ∷ rs))
    ∙ ap (λ x. or_else x (head_of (first_of own (r ∷ rs)))) (head-if (has_flag r.flags 4) native)
    ∙ ap (or_else (if has_flag r.flags 4 then head_of native else None)) (head-first_of own (r ∷ rs)))

-- every record passes where there is no selector
all-pass : (rs : List Rec) → filter (matches_selector None) rs ≡ rs
all-pass [] = refl
all-pass (r ∷ rs) = ap (λ xs. r ∷ xs) (all-pass rs)

pub candidates-all : (rs : List Rec) → filter (matches_selector None) rs ≡ candidates rs None
candidates-all rs = all-pass rs

pub candidates-equal : (rs : List Rec) (s : ℕ) → is_some (head_of (filter (has_selector s) rs)) ≡ true → filter (has_selector s) rs ≡ candidates rs (Some s)
candidates-equal rs s some = equal-first (filter (has_selector s) rs) (filter is_default rs) some
  where
    equal-first : (xs ys : List Rec) → is_some (head_of xs) ≡ true → xs ≡ first_of xs ys
    equal-first [] ys some = cc
    equal-first (x ∷ xs) ys some = refl

pub candidates-default : (rs : List Rec) (s : ℕ) → is_some (head_of (filter (has_selector s) rs)) ≡ false → filter is_default rs ≡ candidates rs (Some s)
candidates-default rs s none = default-first (filter (has_selector s) rs) (filter is_default rs) none
  where
    default-first : (xs ys : List Rec) → is_some (head_of xs) ≡ false → ys ≡ first_of xs ys
    default-first [] ys none = refl
    default-first (x ∷ xs) ys none = cc

-- a scan of one more record before the others
scan_more : (r : Rec) (rs : List Rec) (caller : Isa) (selector : Option ℕ) → scan_of caller selector (r ∷ rs) ≡ record {
  equal = found_before r caller (matches_selector selector r) (scan_of caller selector rs).equal;
  fallback = found_before r caller (is_default r) (scan_of caller selector rs).fallback;
}
scan_more r rs caller selector =
    ap (λ e. record { equal = e; fallback = found_of caller (filter is_default (r ∷ rs)) }) (found-before r caller (matches_selector selector r) (filter (matches_selector selector) rs))
    ∙ ap (λ f. record { equal = found_before r caller (matches_selector selector r) (found_of caller (filter (matches_selector selector) rs)); fallback = f }) (found-before r caller (is_default r) (filter is_default rs))

-- what is taken where no selector is asked for, where a record has it, and where none does
pub choose-all : (scan : Scan) (rs : List Rec) (caller : Isa) (selector : Option ℕ) → selector ≡ None → scan ≡ scan_of caller selector rs → chosen_of scan.equal ≡ choice rs caller selector
choose-all scan rs caller selector none is =
    let plain : scan ≡ scan_of caller None rs = subst (λ o. scan ≡ scan_of caller o rs) none is in
    subst (λ o. chosen_of scan.equal ≡ choice rs caller o) (sym none)
    (ap (λ s. chosen_of s.equal) plain ∙ chosen-found caller (filter (matches_selector None) rs) ∙ ap (chosen_among caller) (candidates-all rs))

pub choose-equal : (scan : Scan) (rs : List Rec) (caller : Isa) (selector : Option ℕ) (s : ℕ) → selector ≡ Some s → scan ≡ scan_of caller selector rs → is_some scan.equal.first ≡ true → chosen_of scan.equal ≡ choice rs caller selector
choose-equal scan rs caller selector s some is found =
    let asked : scan ≡ scan_of caller (Some s) rs = subst (λ o. scan ≡ scan_of caller o rs) some is in
    let there : is_some (head_of (filter (has_selector s) rs)) ≡ true = ap (λ x. is_some x.equal.first) (sym asked) ∙ found in
    subst (λ o. chosen_of scan.equal ≡ choice rs caller o) (sym some)
    (ap (λ x. chosen_of x.equal) asked ∙ chosen-found caller (filter (has_selector s) rs) ∙ ap (chosen_among caller) (candidates-equal rs s there))

pub choose-default : (scan : Scan) (rs : List Rec) (caller : Isa) (selector : Option ℕ) (s : ℕ) → selector ≡ Some s → scan ≡ scan_of caller selector rs → is_some scan.equal.first ≡ false → chosen_of scan.fallback ≡ choice rs caller selector
choose-default scan rs caller selector s some is found =
    let asked : scan ≡ scan_of caller (Some s) rs = subst (λ o. scan ≡ scan_of caller o rs) some is in
    let none : is_some (head_of (filter (has_selector s) rs)) ≡ false = ap (λ x. is_some x.equal.first) (sym asked) ∙ found in
    subst (λ o. chosen_of scan.fallback ≡ choice rs caller o) (sym some)
    (ap (λ x. chosen_of x.fallback) asked ∙ chosen-found caller (filter is_default rs) ∙ ap (chosen_among caller) (candidates-default rs s none))

-- a list behind its first element
rest-whole : (xs : List Rec) → take (length xs - 1) (drop 1 xs) ≡ drop 1 xs
rest-whole xs = same_lists _ _ (grind (arith, places)) (λ k d w. grind (arith, places))

-- the parts of a scan make the scan
pub scan-parts : (recs : List Rec) (d : Rec) (caller : Isa) (selector : Option ℕ) (rest : Scan) (asked default : Bool) (e f : Found) → 0 < length recs
    → rest ≡ scan_of caller selector (take (length recs - 1) (drop 1 recs)) → asked ≡ matches_selector selector (get_or recs 0 d)
    → e ≡ found_before (get_or recs 0 d) caller asked rest.equal → default ≡ is_default (get_or recs 0 d)
    → f ≡ found_before (get_or recs 0 d) caller default rest.fallback → record { equal = e; fallback = f } ≡ scan_of caller selector recs
scan-parts [] d caller selector rest asked default e f some rest_is asked_is e_is default_is f_is = absurd (none some)
  where
    none : 0 < 0 → ⊥
    none h = omega (arith, h)
scan-parts (first ∷ others) d caller selector rest asked default e f some rest_read asked_is e_is default_is f_is =
    let r = first in
    let rs = others in
    let rest_is : rest ≡ scan_of caller selector rs = rest_read ∙ ap (λ xs. scan_of caller selector xs) (rest-whole (first ∷ others)) in
    let equal_is : e ≡ found_before r caller (matches_selector selector r) (scan_of caller selector rs).equal =
    e_is ∙ ap (λ b. found_before r caller b rest.equal) asked_is ∙ ap (λ s. found_before r caller (matches_selector selector r) s.equal) rest_is in
    let fallback_is : f ≡ found_before r caller (is_default r) (scan_of caller selector rs).fallback =
    f_is ∙ ap (λ b. found_before r caller b rest.fallback) default_is ∙ ap (λ s. found_before r caller (is_default r) s.fallback) rest_is in
    ap (λ x. record { equal = x; fallback = f }) equal_is
    ∙ ap (λ x. record { equal = found_before r caller (matches_selector selector r) (scan_of caller selector rs).equal; fallback = x }) fallback_is
    ∙ sym (scan_more r rs caller selector)

-- a record is picked where there is one
pub picked-some : (o : Option (Bor Rec)) → is_some (picked o) ≡ is_some o
picked-some None = refl
picked-some (Some r) = refl
