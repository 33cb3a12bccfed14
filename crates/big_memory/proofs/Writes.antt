-- Memory after a write of its bytes, as what holds them has it, and what a call on it has done.
use Rattle.std.proofs.Common.{◌≡◌, ℕ, ◌+◌, ◌<◌, ◌≤◌, Bool, true, List, [], ◌∷◌, ◌++◌, length, take, drop, Option, None, Some, Result, Ok, Err, arith, sym, ◌∙◌, ap, subst, refl}
use Rattle.std.proofs.lemmas.List.{places}
use Rattle.std.proofs.lemmas.Bool.Decides.{nat_tests}
use Rattle.std.proofs.lemmas.Grind.{same_number_lists}
use Rattle.big_memory.specs.declared.refusals.Access.{Access}
use Rattle.big_memory.specs.Lists.{put}
use Rattle.big_memory.specs.Memory.{Memory, IsRam, in_memory, refusal, with_bytes}
use Rattle.big_memory.specs.MemoryClauses.{IsDoneUnless}
use Rattle.big_memory.proofs.Lists.{length-put, put-nil}
use Rattle.big_memory.proofs.Guarded.{passes}
use Rattle.big_memory.proofs.Rams.{bytes_keep_ram}

abbrev memory : List ℕ → List Bool → Memory
memory bytes marks = record { bytes = bytes; marks = marks }

-- as many bytes as there were
refilled : (items new : List ℕ) (len : ℕ) → length items ≡ len → length new ≡ len → take len (new ++ drop (length new) items) ≡ new
refilled items new len long same = same_number_lists _ _ (grind (arith, places)) (λ k w. grind (arith, places))

-- what lies in memory lies in its bytes
pub holds : (m : Memory) (items old : List ℕ) (marks : List Bool) (n : ℕ) → memory items marks ≡ m → old ≡ items → n ≤ length m.bytes → n ≤ length old
holds m items old marks n view value within = subst (λ bytes. n ≤ length bytes) (sym (value ∙ ap (λ (k : Memory). k.bytes) view)) within

pub room : (m : Memory) (items old : List ℕ) (marks : List Bool) (a n : ℕ) → memory items marks ≡ m → old ≡ items → 0 < n → refusal m a n ≡ None → a + n ≤ length old
room m items old marks a n view value some none = holds m items old marks (a + n) view value (passes m a n some none).within

pub lies : (m : Memory) (a n : ℕ) → 0 < n → in_memory m a n ≡ true → a + n ≤ length m.bytes
lies m a n some inside = grind (arith, nat_tests, inside)

-- the bytes that a write takes are memory's
pub same_bytes : (m : Memory) (items old : List ℕ) (marks : List Bool) → memory items marks ≡ m → old ≡ items → old ≡ m.bytes
same_bytes m items old marks view value = value ∙ ap (λ (k : Memory). k.bytes) view

-- after a piece is put
pub view_after : (m : Memory) (items old new ys : List ℕ) (marks : List Bool) (len at : ℕ) → memory items marks ≡ m → old ≡ items → length old ≡ len → at + length ys ≤ length old → new ≡ put at ys old → memory (take len (new ++ drop (length new) items)) marks ≡ with_bytes at ys m
view_after m items old new ys marks len at view value long within is =
    ap (λ bytes. memory bytes marks) (refilled items new len (ap length (sym value) ∙ long) (ap length is ∙ length-put at ys old within ∙ long) ∙ is ∙ ap (λ bytes. put at ys bytes) value)
    ∙ ap (λ k. with_bytes at ys k) view

pub ram_after : (m : Memory) (items old new ys : List ℕ) (marks : List Bool) (len at : ℕ) → memory items marks ≡ m → IsRam (memory items marks) → old ≡ items → length old ≡ len → at + length ys ≤ length old → new ≡ put at ys old → IsRam (memory (take len (new ++ drop (length new) items)) marks)
ram_after m items old new ys marks len at view ram value long within is =
    subst (λ k. IsRam k) (sym (view_after m items old new ys marks len at view value long within is))
    (bytes_keep_ram m at ys (subst (λ bytes. at + length ys ≤ length bytes) (value ∙ ap (λ (k : Memory). k.bytes) view) within) (subst (λ k. IsRam k) view ram))

-- a piece of no bytes changes nothing
pub view_same : (m : Memory) (ys : List ℕ) (at : ℕ) → length ys ≡ 0 → m ≡ with_bytes at ys m
view_same m [] at none = ap (λ bytes. memory bytes m.marks) (sym (put-nil at m.bytes))
view_same m (y ∷ ys) at none = absurd (omega (arith, none))

-- a call that is done
pub is_done : (reason : Option Access) (m done new : Memory) → reason ≡ None → new ≡ done → IsDoneUnless {T = Unit {0}} reason m done new (Ok (record {})) (record {})
is_done None m done new none is = (refl, is)
is_done (Some e) m done new none is = absurd (cc)

-- or refused
pub is_refused : (reason : Option Access) (m done : Memory) (result : Result (Unit {0}) Access) (e : Access) → reason ≡ Some e → result ≡ Err e → IsDoneUnless {T = Unit {0}} reason m done m result (record {})
is_refused None m done result e some is = absurd (cc)
is_refused (Some f) m done result e some is = (is ∙ ap Err (let same : e ≡ f = cc in same), refl)
