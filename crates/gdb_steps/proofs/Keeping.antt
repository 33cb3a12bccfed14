-- Machines that are kept.
use Rattle.std.proofs.Common.{◌≡◌, ◌∙◌, ℕ, suc, ◌+◌, ◌<◌, ◌≤◌, [], ◌∷◌, ◌++◌, All, Bool, true, false, Contains, List, ap, filter, if◌then◌else◌, length, length-append, slice_index_or, sym, subst, arith}
use Rattle.std.proofs.lemmas.List.Elements.{All-cons, All-filter, All-head, All-push, All-same, All-tail}
use Rattle.dev_rack.specs.Rack.{State as Rack}
use Rattle.mix_engine.specs.declared.machine.Machine.{Machine}
use Rattle.gdb_steps.specs.Places.{Begin, Given, IsKept, IsPlace}
use Rattle.gdb_steps.specs.declared.snapshot.Snapshot.{Snapshot}
use Rattle.gdb_steps.specs.declared.used.Used.{Used}
use Rattle.gdb_steps.specs.inner.Held.{IsSafe, IsWithin}
use Rattle.gdb_steps.specs.inner.Images.{IsImage}
use Rattle.gdb_steps.proofs.Firsts.{place-at}

-- the image of a machine at its place
pub kept-image : (b : Begin) (g : Given) (m : Machine) (u : Used) (n : ℕ) (s : Snapshot) → IsImage m u n s → IsPlace b g n (place-at m u) → IsKept b g s
kept-image b g m u n s image is = (
  m,
  image.whole,
  image.image,
  subst (λ k. IsPlace b g k (place-at m s.used)) (sym image.steps_is) (subst (λ v. IsPlace b g n (place-at m v)) (sym image.used_is) is),
)

pub safe-image : (i : List ℕ) (r : Rack) (m : Machine) (u : Used) (n : ℕ) (s : Snapshot) → IsImage m u n s → IsWithin i r u → IsSafe i r s
safe-image i r m u n s image is = subst (IsWithin i r) (sym image.used_is) is

-- ---- the first, and later ones

pub all-kept : (P : Snapshot → Type 0) (first : Snapshot) (later all : List Snapshot) → first ∷ later ≡ all → All P all → All P (first ∷ later)
all-kept P first later all is holds = All-same P (first ∷ later) all is holds

pub all-left : (P : Snapshot → Type 0) (p : Snapshot → Bool) (first : Snapshot) (later left all : List Snapshot) → first ∷ later ≡ all → left ≡ filter p later → All P all → All P (first ∷ left)
all-left P p first later left all is chosen holds =
    let both : All P (first ∷ later) = all-kept P first later all is holds in
    All-cons P first left (All-head P first later both) (All-same P left (filter p later) chosen (All-filter p P later (All-tail P first later both)))

pub all-more : (P : Snapshot → Type 0) (first : Snapshot) (later more all : List Snapshot) (s : Snapshot) → first ∷ later ≡ all → more ≡ later ++ s ∷ [] → All P all → P s → All P (first ∷ more)
all-more P first later more all s is pushed holds one =
    let both : All P (first ∷ later) = all-kept P first later all is holds in
    All-cons P first more (All-head P first later both) (All-same P more (later ++ s ∷ []) pushed (All-push P later s (All-tail P first later both) one))

-- one more, where there was memory for it
pub all-pushed : (P : Snapshot → Type 0) (first : Snapshot) (later more all : List Snapshot) (s : Snapshot) (there : Bool) → first ∷ later ≡ all → more ≡ (if there then later ++ s ∷ [] else later) → All P all → P s → All P (first ∷ more)
all-pushed P first later more all s true is pushed holds one = all-more P first later more all s is pushed holds one
all-pushed P first later more all s false is pushed holds one = subst (λ xs. All P (first ∷ xs)) (sym pushed) (all-kept P first later all is holds)

pub few-pushed : (first : Snapshot) (later more : List Snapshot) (s : Snapshot) (there : Bool) (n : ℕ) → length later < n → more ≡ (if there then later ++ s ∷ [] else later) → length (first ∷ more) ≤ suc n
few-pushed first later more s true n few pushed =
    let long : length more ≡ length later + 1 = ap length pushed ∙ length-append later (s ∷ []) in up (length more) (length later) n long few
  where
    up : (m k n : ℕ) → m ≡ k + 1 → k < n → suc m ≤ suc n
    up m k n e h = omega (arith, e, h)
few-pushed first later more s false n few pushed = up (length more) (length later) n (ap length pushed) few
  where
    up : (m k n : ℕ) → m ≡ k → k < n → suc m ≤ suc n
    up m k n e h = omega (arith, e, h)

pub contains-later : (first : Snapshot) (later : List Snapshot) (i : ℕ) (s : Snapshot) → i < length later → s ≡ slice_index_or later i s → Contains (first ∷ later) s
contains-later first later i s few is = (suc i, up i (length later) few, sym is)
  where
    up : (k n : ℕ) → k < n → suc k < suc n
    up k n h = omega (arith, h)
