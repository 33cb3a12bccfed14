-- What a walker holds at each place, behind a step.
use Rattle.std.proofs.Common.{◌≡◌, ℕ, suc, ◌+◌, ◌-◌, ◌<◌, ◌≤◌, ◌==◌, false, All, List, [], ◌∷◌, ◌++◌, length, take, drop, min, None, Some, slice_get, sym, ap, ◌∙◌, subst, length-append, length-drop, arith}
use Rattle.std.proofs.Math.Seq.{take-append_seam}
use Rattle.std.proofs.lemmas.List.{length-take, length-take-le, take-append-le}
use Rattle.std.proofs.lemmas.List.Elements.{All-cons, All-drop, All-head, All-same, All-take, All-weaker}
use Rattle.dev_rack.specs.Accounts.{Accounts}
use Rattle.dev_rack.specs.Rack.{State}
use Rattle.dev_rack.specs.declared.answers.Asked.{Asked}
use Rattle.gdb_steps.specs.Places.{IsFront}
use Rattle.gdb_steps.specs.declared.snapshot.Snapshot.{Snapshot}
use Rattle.gdb_steps.specs.declared.used.Used.{Used}
use Rattle.gdb_steps.specs.inner.Held.{IsCounted, IsHeld, IsSafe, IsWithin}
use Rattle.gdb_steps.proofs.Fronts.{front-short}

front-more : (xs ys more zs : List Asked) → zs ≡ ys ++ more → IsFront xs ys → IsFront xs zs
front-more xs ys more zs is front = front ∙ (sym (take-append-le (length xs) ys more (front-short xs ys front)) ∙ ap (take (length xs)) (sym is))

-- real devices were asked
pub held-later : (i : List ℕ) (r s p : State) (u v : Used) → Accounts r s → IsHeld i r p u → v.input ≤ length i → v.asks ≤ length s.journal → IsHeld i s p v
held-later i r s p u v devices held fits asks =
    record {
      fits = fits;
      asks = asks;
      front = front-more p.journal r.journal devices.entries s.journal devices.noted held.front;
      slots = held.slots ∙ sym devices.slots;
    }

grown : (r s : State) (n : ℕ) → Accounts r s → n ≤ length r.journal → n ≤ length s.journal
grown r s n devices few =
    let long : length s.journal ≡ length r.journal + length devices.entries = ap length devices.noted ∙ length-append r.journal devices.entries in
    omega (arith, long, few)

pub held-same : (i : List ℕ) (r s p : State) (u : Used) → Accounts r s → IsHeld i r p u → IsHeld i s p u
held-same i r s p u devices held = held-later i r s p u u devices held held.fits (grown r s u.asks devices held.asks)

-- devices were played back
pub held-again : (i : List ℕ) (r q : State) (v : Used) → v.input ≤ length i → IsFront q.journal r.journal → length q.slots ≡ length r.slots → v.asks ≡ length q.journal → IsHeld i r q v
held-again i r q v fits front slots asks =
    record { fits = fits; asks = few v.asks (length q.journal) (length r.journal) asks (front-short q.journal r.journal front); front = front; slots = slots }
  where
    few : (a m n : ℕ) → a ≡ m → m ≤ n → a ≤ n
    few a m n e h = omega (arith, e, h)

-- what was asked in a step is forgotten
pub forgot-front : (n : ℕ) (j : List Asked) (p q : State) (asks : List Asked) → n ≤ length j → p.journal ≡ take n j → Accounts p q → asks ≡ take n q.journal → IsFront asks j
forgot-front n j p q asks few is devices forgot =
    let long : length p.journal ≡ n = ap length is ∙ length-take-le n j few in
    let same : asks ≡ take n j =
    forgot ∙ (ap (take n) devices.noted ∙ (ap (λ k. take k (p.journal ++ devices.entries)) (sym long) ∙ (take-append_seam p.journal devices.entries ∙ is))) in
    same ∙ ap (λ k. take k j) (sym (ap length same ∙ length-take-le n j few))

-- one more step
pub counted-more : (cap : ℕ) (u : Used) (us vs : List Used) (k f : ℕ) → vs ≡ take cap (u ∷ us) → IsCounted us k f → (length vs ≤ suc k)
counted-more cap u us vs k f is counted =
    let short : length vs ≡ min cap (suc (length us)) = ap length is ∙ length-take cap (u ∷ us) in
    let few = counted.few in
    grind (arith, short, few)

-- ---- what was used up before steps that can be taken back

pub kept-later : (i : List ℕ) (r s : State) (us : List Used) → Accounts r s → All (IsWithin i r) us → All (IsWithin i s) us
kept-later i r s us devices all = All-weaker (IsWithin i r) (IsWithin i s) (λ u is. record { fits = is.fits; asks = grown r s u.asks devices is.asks }) us all

pub safe-later : (i : List ℕ) (r s : State) (ss : List Snapshot) → Accounts r s → All (IsSafe i r) ss → All (IsSafe i s) ss
safe-later i r s ss devices all = All-weaker (IsSafe i r) (IsSafe i s) (λ k is. record { fits = is.fits; asks = grown r s k.used.asks devices is.asks }) ss all

pub kept-more : (i : List ℕ) (r s p : State) (u : Used) (us vs : List Used) (cap : ℕ) → Accounts r s → vs ≡ take cap (u ∷ us) → IsHeld i r p u → All (IsWithin i r) us → All (IsWithin i s) vs
kept-more i r s p u us vs cap devices is held all =
    All-same (IsWithin i s) vs (take cap (u ∷ us)) is
    (All-take (IsWithin i s) cap (u ∷ us) (kept-later i r s (u ∷ us) devices (All-cons (IsWithin i r) u us (record { fits = held.fits; asks = held.asks }) all)))

none-some : {a : Used} → None ≡ Some a → ⊥
none-some e = cc

pub kept-newest : (i : List ℕ) (r : State) (us : List Used) (v : Used) → slice_get us 0 ≡ Some v → All (IsWithin i r) us → IsWithin i r v
kept-newest i r [] v is all = absurd (none-some is)
kept-newest i r (u ∷ us) v is all = subst (IsWithin i r) (some-is is) (All-head (IsWithin i r) u us all)
  where
    some-is : {a b : Used} → Some a ≡ Some b → a ≡ b
    some-is e = cc

pub held-back : (i : List ℕ) (r p : State) (u v : Used) (us : List Used) → slice_get us 0 ≡ Some v → All (IsWithin i r) us → IsHeld i r p u → IsHeld i r p v
held-back i r p u v us is all held =
    let own = kept-newest i r us v is all in
    record { fits = own.fits; asks = own.asks; front = held.front; slots = held.slots }

pub kept-less : (i : List ℕ) (r : State) (us vs : List Used) → vs ≡ drop 1 us → All (IsWithin i r) us → All (IsWithin i r) vs
kept-less i r us vs is all = All-same (IsWithin i r) vs (drop 1 us) is (All-drop (IsWithin i r) 1 us all)

pub some-steps : (us : List Used) (n : ℕ) → (length us == 0) ≡ false → length us ≤ n → 0 < n
some-steps [] n none few = cc
some-steps (u ∷ us) n none few = omega (arith, few)

pub counted-less : (us vs : List Used) (k f : ℕ) → vs ≡ drop 1 us → IsCounted us k f → IsCounted vs (k - 1) f
counted-less us vs k f is counted =
    let short : length vs ≡ length us - 1 = ap length is ∙ length-drop 1 us in
    let few = counted.few in
    let order = counted.order in
    record { few = omega (arith, short, few); order = omega (arith, order) }

pub counted-one : (cap : ℕ) (u : Used) (us vs : List Used) (k f : ℕ) → vs ≡ take cap (u ∷ us) → IsCounted us k f → IsCounted vs (k + 1) (k + 1)
counted-one cap u us vs k f is counted =
    let few = counted-more cap u us vs k f is counted in
    record { few = omega (arith, few); order = omega arith }

pub same-long : (xs ys : List Asked) → xs ≡ ys → length xs ≤ length ys
same-long xs ys is = let long = ap length is in omega (arith, long)
