-- A file is a fork of some resources exactly where the reading gives them.
use Rattle.std.proofs.Common.{◌≡◌, ◌≢◌, refl, ap, sym, subst, ◌∙◌, ℕ, zero, suc, ◌+◌, ◌*◌, ◌<◌, ◌≤◌, Bool, true, false, true≢false, ◌||◌, nat_eq, nat_lt, min, max, if◌then◌else◌, List, [], ◌∷◌, ◌++◌, length, get_or, map, All, Some, is_some, Result, Ok, Err, append_assoc, length-append, arith}
use Rattle.std.proofs.lemmas.Bool.{and_parts, and_from, eq-eqb, eqb-true, ltb-true}
use Rattle.std.proofs.lemmas.Bool.Decides.{Decides-int_eq, nat_tests}
use Rattle.std.proofs.lemmas.List.{append-nil, map-append, get_or_append_left}
use Rattle.std.proofs.lemmas.List.Elements.{All-nil, All-cons, All-head, All-tail, All-push}
use Rattle.std.proofs.lemmas.List.Quantifiers.{all_pairs_push}
use Rattle.std.proofs.Math.Seq.{get_or-append_seam}
use Rattle.std.specs.Ordering.{int_eq}
use Rattle.rsrc_fork.specs.declared.error.RsrcError.{RsrcError}
use Rattle.rsrc_fork.specs.declared.error.RsrcError.TheVariants.{Short, Overlap, BadOffset, Compressed, Twice}
use Rattle.rsrc_fork.specs.declared.header.Areas.{Areas}
use Rattle.rsrc_fork.specs.declared.name.Name.{Name}
use Rattle.rsrc_fork.specs.declared.references.TypeEntry.{TypeEntry}
use Rattle.mix_bits.specs.Fields.{long_at}
use Rattle.mix_bits.specs.Results.{◌>>=◌}
use Rattle.rsrc_fork.specs.Outcome.{each_below}
use Rattle.rsrc_fork.specs.Header.{areas_at, areas_of, list_of}
use Rattle.rsrc_fork.specs.Resources.{Resource, bytes_of, with_resource}
use Rattle.rsrc_fork.specs.inner.Resources.{same_name}
use Rattle.rsrc_fork.specs.References.{data_at, with_reference, with_type, resources_of}
use Rattle.rsrc_fork.specs.inner.References.{with_numbered, with_references, with_types}
use Rattle.rsrc_fork.specs.ReferencesClauses.{id_at, is_compressed, type_count}
use Rattle.rsrc_fork.specs.Listing.{Reference, reference_in, references_in, references_below, list_at, numbered_entry, name_at, start_at, end_at, resource_at, IsSound, HasAreas, AreSound, IsFork}

-- what an answer says of the tests and steps before it
pub if_ok : {A : Type 0} (b : Bool) (e : RsrcError) (r : Result A RsrcError) (x : A)
    → (if b then Err e else r) ≡ Ok x → (b ≡ false) × (r ≡ Ok x)
if_ok true e r x h = absurd (cc)
if_ok false e r x h = (refl, h)

pub bind_ok : {A B : Type 0} (r : Result A RsrcError) (next : A → Result B RsrcError) (y : B)
    → (r >>= next) ≡ Ok y → (x : A) × (r ≡ Ok x) × (next x ≡ Ok y)
bind_ok (Ok x) next y h = (x, refl, h)
bind_ok (Err e) next y h = absurd (cc)

pub ok_is : {A : Type 0} (x y : A) → (let left : Result A RsrcError = Ok x in left ≡ Ok y) → x ≡ y
ok_is x y h = cc

-- three tests of orders, all of them false
fit_from : (a b c d e f : ℕ) → (nat_lt a b || nat_lt c d || nat_lt e f) ≡ false → (b ≤ a) × (d ≤ c) × (f ≤ e)
fit_from a b c d e f h = (grind (arith, nat_tests), grind (arith, nat_tests), grind (arith, nat_tests))

fit_tells : (a b c d e f : ℕ) → b ≤ a → d ≤ c → f ≤ e → (nat_lt a b || nat_lt c d || nat_lt e f) ≡ false
fit_tells a b c d e f one two three = grind (arith, nat_tests)

fits_from : (limit end : ℕ) → nat_lt limit end ≡ false → end ≤ limit
fits_from limit end h = grind (arith, nat_tests)

fits_tells : (limit end : ℕ) → end ≤ limit → nat_lt limit end ≡ false
fits_tells limit end h = grind (arith, nat_tests)

pub keeps : {A : Type 0} (step : A → ℕ → Result A RsrcError) (start : A) (P : ℕ → A → Type 0) → P 0 start
    → ((k : ℕ) (t u : A) → P k t → step t k ≡ Ok u → P (suc k) u)
    → (n : ℕ) (u : A) → each_below step start n ≡ Ok u → P n u
keeps step start P first more zero u h = subst (P 0) (cc) first
keeps step start P first more (suc n) u h =
    let b = bind_ok (each_below step start n) (λ made. step made n) u h in
    more n b.0 u (keeps step start P first more n b.0 b.1) b.2

reaches : {A : Type 0} (step : A → ℕ → Result A RsrcError) (state : ℕ → A) (P : ℕ → Type 0) → ((k : ℕ) → P (suc k) → P k)
    → ((k : ℕ) → P (suc k) → step (state k) k ≡ Ok (state (suc k)))
    → (n : ℕ) → P n → each_below step (state 0) n ≡ Ok (state n)
reaches step state P fewer next zero h = refl
reaches step state P fewer next (suc n) h = rw (reaches step state P fewer next n (fewer n h)) (next n h)

-- two areas share no byte where the lesser end is not above the greater start
abbrev SharesNone : ℕ → ℕ → ℕ → ℕ → Type 0
SharesNone start end other other_end = (place : ℕ) → start ≤ place → place < end → other ≤ place → place < other_end → ⊥

none_from : (start end other other_end : ℕ) → nat_lt (max start other) (min end other_end) ≡ false → SharesNone start end other other_end
none_from start end other other_end h place a b c d = omega (arith, fits_from (max start other) (min end other_end) h)

none_tells : (start end other other_end : ℕ) → SharesNone start end other other_end → nat_lt (max start other) (min end other_end) ≡ false
none_tells start end other other_end h = by (nat_lt (max start other) (min end other_end)) refl
  where
    by : (b : Bool) → nat_lt (max start other) (min end other_end) ≡ b → b ≡ false
    by true q =
        let shared : max start other < min end other_end = ltb-true _ _ q in
        absurd (h (max start other) (omega arith) (omega arith) (omega arith) (omega arith))
    by false q = refl

more_below : (P : ℕ → Type 0) (k : ℕ) → ((i : ℕ) → i < k → P i) → P k → (i : ℕ) → i < suc k → P i
more_below P k below here i lt = by (nat_lt i k) refl
  where
    by : (b : Bool) → nat_lt i k ≡ b → P i
    by true q = below i (grind (arith, nat_tests))
    by false q = let same : k ≡ i = grind (arith, nat_tests) in subst P same here

-- names
same_is : (a b : Name) → same_name a b ≡ true → a ≡ b
same_is a b q =
    let parts = and_parts (nat_eq a.kind b.kind) (int_eq a.id b.id) q in
    let kinds : a.kind ≡ b.kind = eqb-true _ _ parts.0 in
    let ids : a.id ≡ b.id = (Decides-int_eq a.id b.id).0 parts.1 in
    λ i. record { kind = kinds i; id = ids i }

is_same : (a b : Name) → a ≡ b → same_name a b ≡ true
is_same a b e = and_from _ _ (eq-eqb _ _ (ap (λ (n : Name). n.kind) e)) ((Decides-int_eq a.id b.id).1 (ap (λ (n : Name). n.id) e))

module _ (bytes : List ℕ) where
  -- no resource has the name exactly where no reference has it
  abbrev IsOther : Name → Reference → Type 0
  IsOther name r = name_at bytes r ≢ name

  abbrev Lacks : List Reference → Name → Type 0
  Lacks references name = All (IsOther name) references

  lacks_from : (references : List Reference) (name : Name)
      → is_some (bytes_of (map (resource_at bytes) references) name) ≡ false → Lacks references name
  lacks_from [] name h = All-nil (IsOther name)
  lacks_from (r ∷ rs) name h = by (same_name name (name_at bytes r)) refl h (lacks_from rs name)
    where
      by : (same : Bool) → same_name name (name_at bytes r) ≡ same
          → is_some (if same then Some ((resource_at bytes r).1) else bytes_of (map (resource_at bytes) rs) name) ≡ false
          → (is_some (bytes_of (map (resource_at bytes) rs) name) ≡ false → Lacks rs name) → Lacks (r ∷ rs) name
      by true q h rest = absurd (true≢false h)
      by false q h rest = All-cons (IsOther name) r rs (λ e. true≢false (sym (is_same name (name_at bytes r) (sym e)) ∙ q)) (rest h)

  lacks_tells : (references : List Reference) (name : Name)
      → Lacks references name → is_some (bytes_of (map (resource_at bytes) references) name) ≡ false
  lacks_tells [] name h = refl
  lacks_tells (r ∷ rs) name h = by (same_name name (name_at bytes r)) refl (lacks_tells rs name (All-tail (IsOther name) r rs h))
    where
      by : (same : Bool) → same_name name (name_at bytes r) ≡ same
          → is_some (bytes_of (map (resource_at bytes) rs) name) ≡ false
          → is_some (if same then Some ((resource_at bytes r).1) else bytes_of (map (resource_at bytes) rs) name) ≡ false
      by true q rest = absurd (All-head (IsOther name) r rs h (sym (same_is name (name_at bytes r) q)))
      by false q rest = rest

  -- a list that is sound, by its parts
  front : (xs ys : List Reference) → AreSound bytes (xs ++ ys) → AreSound bytes xs
  front xs ys h = record {
    sound = λ k d lt. subst (IsSound bytes) (get_or_append_left xs ys d k lt) (h.sound k d (longer xs ys k lt));
    distinct = λ i j d less lt.
        let low : i < length xs = omega arith in
        subst (λ (one : Reference). name_at bytes one ≢ name_at bytes (get_or xs j d)) (get_or_append_left xs ys d i low)
        (subst (λ (other : Reference). name_at bytes (get_or (xs ++ ys) i d) ≢ name_at bytes other) (get_or_append_left xs ys d j lt)
        (h.distinct i j d less (longer xs ys j lt)));
  }
    where
      longer : (xs ys : List Reference) (k : ℕ) → k < length xs → k < length (xs ++ ys)
      longer xs ys k lt = simp length-append (omega arith)

  back : (xs : List Reference) (r : Reference) → AreSound bytes (xs ++ r ∷ []) → IsSound bytes r × Lacks xs (name_at bytes r)
  back xs r h = (
    subst (IsSound bytes) (get_or-append_seam xs r [] r) (h.sound (length xs) r within),
    λ k d lt.
        subst (λ (one : Reference). name_at bytes one ≢ name_at bytes r) (get_or_append_left xs (r ∷ []) d k lt)
        (subst (λ (other : Reference). name_at bytes (get_or (xs ++ r ∷ []) k d) ≢ name_at bytes other) (get_or-append_seam xs r [] d)
        (h.distinct k (length xs) d lt within)),
  )
    where
      within : length xs < length (xs ++ r ∷ [])
      within = simp length-append (omega arith)

  pushed : (xs : List Reference) (r : Reference) → AreSound bytes xs → IsSound bytes r → Lacks xs (name_at bytes r)
      → AreSound bytes (xs ++ r ∷ [])
  pushed xs r h one other = record {
    sound = All-push (IsSound bytes) xs r h.sound one;
    distinct = all_pairs_push (λ (a b : Reference). name_at bytes a ≢ name_at bytes b) xs r h.distinct other;
  }

  abbrev listed : List Reference → List Resource
  listed references = map (resource_at bytes) references

  data_ok : (r : Reference) (piece : List ℕ) → data_at bytes (areas_at bytes) r.place ≡ Ok piece
      → (r.place + 12 ≤ (areas_at bytes).map_end) × (end_at bytes r ≤ (areas_at bytes).data_end) × ((resource_at bytes r).1 ≡ piece)
  data_ok r piece e =
      let d = if_ok (nat_lt (areas_at bytes).map_end (r.place + 12) || nat_lt (areas_at bytes).data_end (start_at bytes r + 4)
      || nat_lt (areas_at bytes).data_end (end_at bytes r)) (BadOffset r.place) (Ok (resource_at bytes r).1) piece e in
      let fits = fit_from (areas_at bytes).map_end (r.place + 12) (areas_at bytes).data_end (start_at bytes r + 4) (areas_at bytes).data_end (end_at bytes r) d.0 in
      (fits.0, fits.2, ok_is _ _ d.1)

  data_reads : (r : Reference) → IsSound bytes r → data_at bytes (areas_at bytes) r.place ≡ Ok (resource_at bytes r).1
  data_reads r h =
      rw (fit_tells (areas_at bytes).map_end (r.place + 12) (areas_at bytes).data_end (start_at bytes r + 4) (areas_at bytes).data_end (end_at bytes r)
      h.in_map (omega (arith, h.in_data)) h.in_data)

  new_ok : (xs : List Reference) (name : Name) (piece : List ℕ) (read : List Resource)
      → with_resource (listed xs) name piece ≡ Ok read → Lacks xs name × (listed xs ++ (name, piece) ∷ [] ≡ read)
  new_ok xs name piece read e =
      let w = if_ok (is_some (bytes_of (listed xs) name)) (Twice name.kind name.id) (Ok (listed xs ++ (name, piece) ∷ [])) read e in
      (lacks_from xs name w.0, ok_is _ _ w.1)

  new_reads : (xs : List Reference) (name : Name) (piece : List ℕ) → Lacks xs name
      → with_resource (listed xs) name piece ≡ Ok (listed xs ++ (name, piece) ∷ [])
  new_reads xs name piece h = rw (lacks_tells xs name h)

  one_more : (xs : List Reference) (r : Reference) → listed xs ++ resource_at bytes r ∷ [] ≡ listed (xs ++ r ∷ [])
  one_more xs r = sym (map-append (resource_at bytes) xs (r ∷ []))

  -- one more reference
  reference_parts : (xs : List Reference) (r : Reference) (read : List Resource)
      → with_reference bytes (areas_at bytes) r.kind (listed xs) r.place ≡ Ok read
      → (piece : List ℕ) × (data_at bytes (areas_at bytes) r.place ≡ Ok piece) × (is_compressed bytes r.place ≡ false)
      × (with_resource (listed xs) (name_at bytes r) piece ≡ Ok read)
  reference_parts xs r read e =
      let b = bind_ok (data_at bytes (areas_at bytes) r.place)
      (λ piece. if is_compressed bytes r.place then Err (Compressed r.kind (id_at bytes r.place)) else with_resource (listed xs) (name_at bytes r) piece)
      read e in
      let p = if_ok (is_compressed bytes r.place) (Compressed r.kind (id_at bytes r.place)) (with_resource (listed xs) (name_at bytes r) b.0) read b.2 in
      (b.0, b.1, p.0, p.1)

  reference_ok : (xs : List Reference) (r : Reference) (read : List Resource) → AreSound bytes xs
      → with_reference bytes (areas_at bytes) r.kind (listed xs) r.place ≡ Ok read
      → (read ≡ listed (xs ++ r ∷ [])) × AreSound bytes (xs ++ r ∷ [])
  reference_ok xs r read h e =
      let p = reference_parts xs r read e in
      let d = data_ok r p.0 p.1 in
      let n = new_ok xs (name_at bytes r) p.0 read p.3 in (
        sym n.1 ∙ ap (λ piece. listed xs ++ (name_at bytes r, piece) ∷ []) (sym d.2) ∙ one_more xs r,
        pushed xs r h (record { in_map = d.0; in_data = d.1; plain = p.2 }) n.0,
      )

  reference_reads : (xs : List Reference) (r : Reference) → AreSound bytes (xs ++ r ∷ [])
      → with_reference bytes (areas_at bytes) r.kind (listed xs) r.place ≡ Ok (listed (xs ++ r ∷ []))
  reference_reads xs r h =
      let last = back xs r h in
      rw (data_reads r last.0, last.0.plain, new_reads xs (name_at bytes r) (resource_at bytes r).1 last.1, one_more xs r)

  -- the references of one more type
  references_ok : (xs : List Reference) (entry : TypeEntry) (count : ℕ) (read : List Resource) → AreSound bytes xs
      → with_references bytes (areas_at bytes) entry (listed xs) count ≡ Ok read
      → (read ≡ listed (xs ++ references_in entry count)) × AreSound bytes (xs ++ references_in entry count)
  references_ok xs entry count read h =
      keeps (with_numbered bytes (areas_at bytes) entry) (listed xs) Kept
      (ap listed (sym (append-nil xs)), subst (AreSound bytes) (sym (append-nil xs)) h) more count read
    where
      Kept : ℕ → List Resource → Type 0
      Kept j made = (made ≡ listed (xs ++ references_in entry j)) × AreSound bytes (xs ++ references_in entry j)

      more : (j : ℕ) (made next : List Resource) → Kept j made → with_numbered bytes (areas_at bytes) entry made j ≡ Ok next → Kept (suc j) next
      more j made next kept e =
          let one = reference_ok (xs ++ references_in entry j) (reference_in entry j) next kept.1
          (subst (λ (before : List Resource). with_numbered bytes (areas_at bytes) entry before j ≡ Ok next) kept.0 e) in
          let same = append_assoc xs (references_in entry j) (reference_in entry j ∷ []) in
          (one.0 ∙ ap listed same, subst (AreSound bytes) same one.1)

  references_reads : (xs : List Reference) (entry : TypeEntry) (count : ℕ) → AreSound bytes (xs ++ references_in entry count)
      → with_references bytes (areas_at bytes) entry (listed xs) count ≡ Ok (listed (xs ++ references_in entry count))
  references_reads xs entry count h =
      subst (λ (start : List Reference). with_references bytes (areas_at bytes) entry (listed start) count ≡ Ok (listed (xs ++ references_in entry count)))
      (append-nil xs)
      (reaches (with_numbered bytes (areas_at bytes) entry) (λ j. listed (xs ++ references_in entry j)) (λ j. AreSound bytes (xs ++ references_in entry j))
      (λ j more. front (xs ++ references_in entry j) (reference_in entry j ∷ []) (regrouped j more))
      (λ j more. reference_reads (xs ++ references_in entry j) (reference_in entry j) (regrouped j more)
      ∙ ap (λ references. Ok (listed references)) (append_assoc xs (references_in entry j) (reference_in entry j ∷ [])))
      count h)
    where
      regrouped : (j : ℕ) → AreSound bytes (xs ++ references_in entry (suc j))
          → AreSound bytes ((xs ++ references_in entry j) ++ reference_in entry j ∷ [])
      regrouped j h = subst (AreSound bytes) (sym (append_assoc xs (references_in entry j) (reference_in entry j ∷ []))) h

  -- the types
  abbrev FitsType : ℕ → Type 0
  FitsType k = list_at bytes + 2 + 8 * k + 8 ≤ (areas_at bytes).map_end

  record TypesAre (count : ℕ) (read : List Resource) : Type 0 where
    are : read ≡ listed (references_below bytes count)
    good : AreSound bytes (references_below bytes count)
    fit : (i : ℕ) → i < count → FitsType i

  types_ok : (count : ℕ) (read : List Resource) → with_types bytes (areas_at bytes) (list_at bytes) count ≡ Ok read → TypesAre count read
  types_ok count read =
      keeps (with_type bytes (areas_at bytes) (list_at bytes)) [] TypesAre
      (record {
        are = refl;
        good = record { sound = All-nil (IsSound bytes); distinct = λ i j d less lt. absurd (omega arith) };
        fit = λ i lt. absurd (omega arith);
      })
      more count read
    where
      more : (k : ℕ) (made next : List Resource) → TypesAre k made → with_type bytes (areas_at bytes) (list_at bytes) made k ≡ Ok next → TypesAre (suc k) next
      more k made next kept e =
          let t = if_ok (nat_lt (areas_at bytes).map_end (list_at bytes + 2 + 8 * k + 8)) (BadOffset (list_at bytes + 2 + 8 * k))
          (with_references bytes (areas_at bytes) (numbered_entry bytes k) made (numbered_entry bytes k).count) next e in
          let o = references_ok (references_below bytes k) (numbered_entry bytes k) (numbered_entry bytes k).count next kept.good
          (subst (λ (before : List Resource). with_references bytes (areas_at bytes) (numbered_entry bytes k) before (numbered_entry bytes k).count ≡ Ok next) kept.are t.1) in
          let here : FitsType k = fits_from (areas_at bytes).map_end (list_at bytes + 2 + 8 * k + 8) t.0 in
          record { are = o.0; good = o.1; fit = more_below FitsType k kept.fit here }

  types_read : (count : ℕ) → AreSound bytes (references_below bytes count) → ((i : ℕ) → i < count → FitsType i)
      → with_types bytes (areas_at bytes) (list_at bytes) count ≡ Ok (listed (references_below bytes count))
  types_read count good fit =
      reaches (with_type bytes (areas_at bytes) (list_at bytes)) (λ k. listed (references_below bytes k)) Good fewer next count (good, fit)
    where
      Good : ℕ → Type 0
      Good k = AreSound bytes (references_below bytes k) × ((i : ℕ) → i < k → FitsType i)

      fewer : (k : ℕ) → Good (suc k) → Good k
      fewer k h = (front (references_below bytes k) (references_in (numbered_entry bytes k) (numbered_entry bytes k).count) h.0, λ i lt. h.1 i (omega arith))

      next : (k : ℕ) → Good (suc k) → with_type bytes (areas_at bytes) (list_at bytes) (listed (references_below bytes k)) k ≡ Ok (listed (references_below bytes (suc k)))
      next k h = rw (fits_tells (areas_at bytes).map_end (list_at bytes + 2 + 8 * k + 8) (h.1 k (omega arith)))
          (references_reads (references_below bytes k) (numbered_entry bytes k) (numbered_entry bytes k).count h.0)

  -- the areas
  areas_ok : (areas : Areas) → areas_of bytes ≡ Ok areas → (areas_at bytes ≡ areas) × HasAreas bytes
  areas_ok areas e =
      let at = areas_at bytes in
      let apart = nat_lt (max at.data_start at.map_start) (min at.data_end at.map_end) in
      let within = nat_lt (length bytes) at.data_end || nat_lt (length bytes) at.map_end || nat_lt (long_at bytes 12) 28 in
      let s = if_ok (nat_lt (length bytes) 16) (Short (length bytes))
      (if within then Err (BadOffset 0) else (if apart then Err Overlap else Ok at)) areas e in
      let f = if_ok within (BadOffset 0) (if apart then Err Overlap else Ok at) areas s.1 in
      let o = if_ok apart Overlap (Ok at) areas f.1 in
      let fits = fit_from (length bytes) at.data_end (length bytes) at.map_end (long_at bytes 12) 28 f.0 in (
        ok_is at areas o.1,
        record {
          header = fits_from (length bytes) 16 s.0;
          data_fits = fits.0;
          map_fits = fits.1;
          map_whole = fits.2;
          apart = none_from at.data_start at.data_end at.map_start at.map_end o.0;
        },
      )

  areas_read : HasAreas bytes → areas_of bytes ≡ Ok (areas_at bytes)
  areas_read h =
      let at = areas_at bytes in
      rw (
        fits_tells (length bytes) 16 h.header,
        fit_tells (length bytes) at.data_end (length bytes) at.map_end (long_at bytes 12) 28 h.data_fits h.map_fits h.map_whole,
        none_tells at.data_start at.data_end at.map_start at.map_end h.apart,
      )

  pub fork_is : (resources : List Resource) → resources_of bytes ≡ Ok resources → IsFork bytes resources
  fork_is resources e =
      let typed = λ (areas : Areas) (list : ℕ). with_types bytes areas list (type_count bytes list) in
      let a = bind_ok (areas_of bytes) (λ areas. list_of bytes areas >>= typed areas) resources e in
      let h = areas_ok a.0 a.1 in
      let l = bind_ok (list_of bytes (areas_at bytes)) (typed (areas_at bytes)) resources
      (subst (λ (areas : Areas). (list_of bytes areas >>= typed areas) ≡ Ok resources) (sym h.0) a.2) in
      let p = if_ok (nat_lt (areas_at bytes).map_end (list_at bytes + 2)) (BadOffset (long_at bytes 4 + 24)) (Ok (list_at bytes)) l.0 l.1 in
      let t = types_ok (type_count bytes (list_at bytes)) resources
      (subst (λ (list : ℕ). typed (areas_at bytes) list ≡ Ok resources) (sym (ok_is (list_at bytes) l.0 p.1)) l.2) in
      record {
        areas = h.1;
        list_fits = fits_from (areas_at bytes).map_end (list_at bytes + 2) p.0;
        types_fit = t.fit;
        references = t.good;
        listed = t.are;
      }

  pub fork_reads : (resources : List Resource) → IsFork bytes resources → resources_of bytes ≡ Ok resources
  fork_reads resources f =
      rw (areas_read f.areas, fits_tells (areas_at bytes).map_end (list_at bytes + 2) f.list_fits)
      (types_read (type_count bytes (list_at bytes)) f.references f.types_fit ∙ ap Ok (sym f.listed))

  pub no_fork : (e : RsrcError) → resources_of bytes ≡ Err e → (resources : List Resource) → IsFork bytes resources → ⊥
  no_fork e refused resources f = absurd (apart (sym (fork_reads resources f) ∙ refused))
    where
      apart : Ok resources ≡ Err e → ⊥
      apart h = cc
