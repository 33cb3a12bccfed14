-- What is left of an input is its end.
use Rattle.std.proofs.Common.{◌≡◌, ℕ, ◌+◌, ◌-◌, ◌≤◌, List, [], ◌∷◌, ◌++◌, length, take, drop, Some, refl, sym, ap, ◌∙◌, subst, append_assoc, length-append, arith}
use Rattle.std.proofs.Math.Seq.{drop-append_seam}
use Rattle.std.proofs.lemmas.List.{take-append-drop}
use Rattle.toolbox.specs.Calls.{Took, Taken}
use Rattle.toolbox.specs.Calls.Taken.{Nothing, Byte, TheEnd}
use Rattle.mix_io.specs.Streams.{Output}
use Rattle.switch_frame.specs.Records.{isa_of}
use Rattle.dev_rack.specs.Accounts.{Accounts}
use Rattle.dev_rack.specs.Rack.{State as Rack}
use Rattle.mixed_machine.specs.declared.stop.Stop.{Stop}
use Rattle.mixed_machine.specs.CountsClauses.{Blames, counts_of}
use Rattle.mixed_machine.specs.Machine.{IsWhole}
use Rattle.mixed_machine.specs.Outside.{ToldAll, TookAll}
use Rattle.mixed_machine.specs.RunsClauses.{Runs}
use Rattle.mix_debug.specs.TrailsClauses.{Keeps, Trail, is_done}
use Rattle.gdb_steps.specs.inner.Steps.{Steps, stands}

took-end : (x : Taken) (before mid : List ℕ) → Took x before mid → (front : List ℕ) × (before ≡ front ++ mid)
took-end Nothing before mid took = ([], took)
took-end (Byte byte) before mid took = (byte ∷ [], took)
took-end TheEnd before mid took = ([], took.0 ∙ sym took.1)

all-end : (xs : List Taken) (before after : List ℕ) → TookAll xs before after → (front : List ℕ) × (before ≡ front ++ after)
all-end [] before after took = ([], took)
all-end (x ∷ xs) before after took =
    let first = took-end x before took.0 took.1 in
    let more = all-end xs took.0 after took.2 in
    (first.0 ++ more.0, first.1 ∙ (ap (λ ys. first.0 ++ ys) more.1 ∙ sym (append_assoc first.0 more.0 after)))

pub record LeftOf (input : List ℕ) (left : List ℕ) : Type 0 where
  pub few : length left ≤ length input
  pub is : drop (length input - length left) input ≡ left

left-of : (input front left : List ℕ) → input ≡ front ++ left → LeftOf input left
left-of input front left is =
    let long : length input ≡ length front + length left = ap length is ∙ length-append front left in
    record {
      few = omega (arith, long);
      is = ap (λ k. drop k input) (less (length input) (length front) (length left) long) ∙ (ap (drop (length front)) is ∙ drop-append_seam front left);
    }
  where
    less : (n f l : ℕ) → n ≡ f + l → n - l ≡ f
    less n f l e = omega (arith, e)

pub told-left : (taken : List Taken) (n : ℕ) (input left : List ℕ) → ToldAll taken (Some (drop n input)) (Some left) → LeftOf input left
told-left taken n input left told =
    let before = told left refl in
    let end = all-end taken before.0 left before.2 in
    left-of input (take n input ++ end.0) left
    (sym (take-append-drop n input) ∙ (ap (λ xs. take n input ++ xs) (sym before.1 ∙ end.1) ∙ sym (append_assoc (take n input) end.0 left)))

-- a step beside what is left of an input
pub rest-left : (taken : List Taken) (n : ℕ) (input first left : List ℕ) → first ≡ drop n input → ToldAll taken (Some first) (Some left) → LeftOf input left
rest-left taken n input first left is told = told-left taken n input left (subst (λ xs. ToldAll taken (Some xs) (Some left)) is told)

pub step-left : (d e : Trail) (taken : ℕ) (input first left : List ℕ) (r s : Rack) (o w t x : Output) (stop : Stop) → first ≡ drop taken input
    → IsWhole d.machine.body (isa_of d.machine.active) → IsWhole e.machine.body (isa_of e.machine.active)
    → Runs 1 (stands d first r o t) (stands e left s w x) stop → Blames stop (counts_of (stands d first r o t)) (counts_of (stands e left s w x))
    → Accounts r s → Keeps (is_done stop) d e
    → Steps d e (stands d (drop taken input) r o t) (stands e (drop (length input - length left) input) s w x) stop
step-left d e taken input first left r s o w t x stop is here there run blames devices keeps =
    let own = rest-left run.run.taken taken input first left is run.run.told in
    subst (λ ys. Steps d e (stands d ys r o t) (stands e (drop (length input - length left) input) s w x) stop) is
    (subst (λ xs. Steps d e (stands d first r o t) (stands e xs s w x) stop) (sym own.is)
    (record { here = here; there = there; run = run; blames = blames; devices = devices; keeps = keeps }))
