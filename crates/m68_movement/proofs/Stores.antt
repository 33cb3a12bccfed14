-- Stores one after another.
use Rattle.std.proofs.Common.{◌≡◌, ℕ, ◌-◌, ◌^◌, ◌<◌, ◌≢◌, ◌∙◌, Bool, true, false, List, [], ◌∷◌, None, Some, Result, Ok, Err, length, refl, sym, ap, subst, get_or, take, drop, take_all, arith}
use Rattle.std.specs.Result.{IsOk}
use Rattle.mix_bits.specs.declared.size.Size.{Size}
use Rattle.mix_bits.specs.declared.size.Size.TheVariants.{Zero, One, Two, Four}
use Rattle.mix_bits.specs.declared.fault.Fault.{Fault}
use Rattle.mix_bits.specs.Sizes.{bytes_of}
use Rattle.mix_bits.specs.Addresses.{onward}
use Rattle.mix_bits.specs.Results.{◌>>=◌}
use Rattle.byteorder.specs.Endian.{big_bytes}
use Rattle.big_memory.specs.declared.refusals.Access.{Access}
use Rattle.big_memory.specs.Faults.{fault_of}
use Rattle.big_memory.specs.laws.Laws.{FreeJoins, FreeKeepsRam, FreeKeepsRefusals, StoresAreFree}
use Rattle.big_memory.specs.Memory.{Memory, IsRam, refusal, stored}
use Rattle.big_memory.specs.Stores.{stored_value}
use Rattle.big_memory.proofs.Longs.{size-bytes}
use Rattle.mix_bits.specs.Addresses.{backward}
use Rattle.m68_ea.specs.Operands.{stored_at}
use Rattle.m68_effects.specs.Multiple.{stored_along, stored_down}
use Rattle.m68_movement.specs.inner.Along.{CanStore, CanStoreAll}

bind-same : (x : Result Memory Fault) (f g : Memory → Result Memory Fault) → ((n : Memory) → f n ≡ g n) → (x >>= f) ≡ (x >>= g)
bind-same (Ok n) f g same = same n
bind-same (Err e) f g same = refl

-- memory refuses it
pub access_refused : (pc : ℕ) (m : Memory) (a : ℕ) (s : Size) (e : Access) (cell : Fault) → FreeKeepsRefusals
    → refusal m a (bytes_of s) ≡ Some e → cell ≡ fault_of pc e → CanStore pc m a s false cell
unfolding stored_value
access_refused pc m a s e cell keeps refused is =
    λ n v free. let same : refusal n a (bytes_of s) ≡ Some e = keeps m n a (bytes_of s) free ∙ refused in rw (same, is) refl

-- it is done
pub can_store : (pc : ℕ) (m : Memory) (a : ℕ) (s : Size) (cell : Fault) → FreeKeepsRefusals → FreeKeepsRam → FreeJoins → StoresAreFree → IsRam m
    → refusal m a (bytes_of s) ≡ None → CanStore pc m a s true cell
unfolding stored_value
can_store pc m a s cell keeps rams joins stores ram none =
    λ n v free.
    let same : refusal n a (bytes_of s) ≡ None = keeps m n a (bytes_of s) free ∙ none in (
      rw same refl,
      joins m n (stored n a s v) free (stores n a (bytes_of s) (big_bytes (bytes_of s) v) (size-bytes s v) (rams m n ram free) same),
    )

-- one more
pub first_refused : (pc : ℕ) (m : Memory) (a step : ℕ) (s : Size) (v : ℕ) (vs : List ℕ) (cell : Fault) → CanStore pc m a s false cell → CanStoreAll pc m a step s (v ∷ vs) false cell
unfolding stored_along
first_refused pc m a step s v vs cell refused = λ n free. rw (refused n v free) refl

pub rest_stores : (done : Bool) (pc : ℕ) (m : Memory) (a step : ℕ) (s : Size) (v : ℕ) (vs : List ℕ) (old cell : Fault)
    → CanStore pc m a s true old → CanStoreAll pc m (onward a step) step s vs done cell → CanStoreAll pc m a step s (v ∷ vs) done cell
unfolding stored_along
rest_stores true pc m a step s v vs old cell can rest = λ n free. let first = can n v free in rw (first.0) (rest (stored n a s v) first.1)
rest_stores false pc m a step s v vs old cell can rest = λ n free. let first = can n v free in rw (first.0) (rest (stored n a s v) first.1)

-- a list by its first value
cons-of : (vs : List ℕ) → 0 < length vs → vs ≡ get_or vs 0 0 ∷ take (length vs - 1) (drop 1 vs)
cons-of [] some = absurd (omega arith)
cons-of (v ∷ vs) some =
    let long : length (v ∷ vs) - 1 ≡ length vs = omega arith in
    rw (long, take_all (length vs) vs (omega arith)) refl

pub first_of_refused : (pc : ℕ) (m : Memory) (a step : ℕ) (s : Size) (vs : List ℕ) (cell : Fault) → 0 < length vs
    → CanStore pc m a s false cell → CanStoreAll pc m a step s vs false cell
first_of_refused pc m a step s vs cell some refused =
    subst (λ xs. CanStoreAll pc m a step s xs false cell) (sym (cons-of vs some)) (first_refused pc m a step s (get_or vs 0 0) (take (length vs - 1) (drop 1 vs)) cell refused)

pub rest_of_stores : (done : Bool) (pc : ℕ) (m : Memory) (a step : ℕ) (s : Size) (vs : List ℕ) (old cell : Fault) → 0 < length vs
    → CanStore pc m a s true old → CanStoreAll pc m (onward a step) step s (take (length vs - 1) (drop 1 vs)) done cell → CanStoreAll pc m a step s vs done cell
rest_of_stores done pc m a step s vs old cell some can rest =
    subst (λ xs. CanStoreAll pc m a step s xs done cell) (sym (cons-of vs some)) (rest_stores done pc m a step s (get_or vs 0 0) (take (length vs - 1) (drop 1 vs)) old cell can rest)

-- what is done once all can be
head-done : (pc : ℕ) (m n : Memory) (a step : ℕ) (s : Size) (v : ℕ) (vs : List ℕ) → stored_at pc m a s v ≡ Ok n → stored_along pc m a step s (v ∷ vs) ≡ stored_along pc n (onward a step) step s vs
unfolding stored_along
head-done pc m n a step s v vs done = rw done refl

pub after_first : (pc : ℕ) (m n : Memory) (a step : ℕ) (s : Size) (vs : List ℕ) → 0 < length vs → stored_at pc m a s (get_or vs 0 0) ≡ Ok n
    → stored_along pc m a step s vs ≡ stored_along pc n (onward a step) step s (take (length vs - 1) (drop 1 vs))
after_first pc m n a step s vs some done =
    ap (λ xs. stored_along pc m a step s xs) (cons-of vs some) ∙ head-done pc m n a step s (get_or vs 0 0) (take (length vs - 1) (drop 1 vs)) done

head-refused : (pc : ℕ) (m : Memory) (a step : ℕ) (s : Size) (v : ℕ) (vs : List ℕ) (e : Fault) → stored_at pc m a s v ≡ Err e → stored_along pc m a step s (v ∷ vs) ≡ Err e
unfolding stored_along
head-refused pc m a step s v vs e refused = rw refused refl

pub not_refused : (pc : ℕ) (m : Memory) (a step : ℕ) (s : Size) (vs : List ℕ) (e : Fault) → 0 < length vs → stored_at pc m a s (get_or vs 0 0) ≡ Err e → IsOk (stored_along pc m a step s vs) → ⊥
not_refused pc m a step s vs e some refused ok =
    let all : stored_along pc m a step s vs ≡ Err e =
    ap (λ xs. stored_along pc m a step s xs) (cons-of vs some) ∙ head-refused pc m a step s (get_or vs 0 0) (take (length vs - 1) (drop 1 vs)) e refused in
    let bad = rw all at ok in
    cc

pub none_done : (pc : ℕ) (m : Memory) (a step : ℕ) (s : Size) (vs : List ℕ) → length vs ≡ 0 → stored_along pc m a step s vs ≡ Ok m
unfolding stored_along
none_done pc m a step s [] none = refl
none_done pc m a step s (v ∷ vs) none = absurd (omega (arith, none))

pub none_to_store : (pc : ℕ) (m : Memory) (a step : ℕ) (s : Size) (vs : List ℕ) (cell : Fault) → length vs ≡ 0 → CanStoreAll pc m a step s vs true cell
none_to_store pc m a step s vs cell none = λ n free. rw (none_done pc n a step s vs none) refl

-- downwards
pub some_bytes : (s : Size) → s ≢ Zero → 0 < bytes_of s
some_bytes Zero some = absurd (some refl)
some_bytes One some = omega arith
some_bytes Two some = omega arith
some_bytes Four some = omega arith

pub few_bytes : (s : Size) → bytes_of s < 2 ^ 32
few_bytes Zero = omega arith
few_bytes One = omega arith
few_bytes Two = omega arith
few_bytes Four = omega arith

step-back : (a n : ℕ) → 0 < n → n < 2 ^ 32 → onward a (backward 0 n) ≡ backward a n
step-back a n some small = grind arith

pub down_along : (pc : ℕ) (m : Memory) (a : ℕ) (s : Size) (vs : List ℕ) → 0 < bytes_of s → bytes_of s < 2 ^ 32 → stored_down pc m a s vs ≡ stored_along pc m (onward a (backward 0 (bytes_of s))) (backward 0 (bytes_of s)) s vs
unfolding stored_along stored_down
down_along pc m a s [] some small = refl
down_along pc m a s (v ∷ vs) some small =
    rw (step-back a (bytes_of s) some small) (bind-same (stored_at pc m (backward a (bytes_of s)) s v) (λ n. stored_down pc n (backward a (bytes_of s)) s vs)
    (λ n. stored_along pc n (onward (backward a (bytes_of s)) (backward 0 (bytes_of s))) (backward 0 (bytes_of s)) s vs)
    (λ n. down_along pc n (backward a (bytes_of s)) s vs some small))
