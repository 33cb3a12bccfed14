-- Whose count of faults rose, by the status.
use Rattle.std.proofs.Common.{◌≡◌, ℕ, ◌==◌, true, false, Bool, inl, inr, List, [], if◌then◌else◌, Option, Some, None, Ok, sym, ap, subst, ◌∙◌, refl, append-nil}
use Rattle.std.specs.Prelude.{IsSomeAnd, MatchBool}
use Rattle.mix_bits.specs.declared.isa.Isa.{Isa}
use Rattle.mix_io.specs.Counts.{CountRose, CountsStay, Rose}
use Rattle.mix_io.specs.Streams.{Output as Sink, Breaks}
use Rattle.dev_rack.specs.Accounts.{Accounts}
use Rattle.dev_rack.proofs.Steps.{accounts-none}
use Rattle.toolbox.specs.declared.broken.Broken.{Broken}
use Rattle.toolbox.specs.declared.broken.Broken.TheVariants.{Input, Output, Trace}
use Rattle.toolbox.specs.Blames.{BlamesOnly, Counts}
use Rattle.toolbox.specs.CallsClauses.{counts_beside}
use Rattle.mixed_machine.specs.CountsClauses.{Blames}
use Rattle.mixed_machine.specs.declared.stop.Stop.{Stop}
use Rattle.mixed_machine.specs.declared.stop.Stop.TheVariants.{Exit, Fault, Limit, ReadFault, OutFault, TraceFault}
use Rattle.mix_engine.specs.declared.machine.Machine.{Machine}
use Rattle.mix_top.specs.World.{Beside, Keep, Accounted, Closes, Early, OnlyPuts, PutsText, RoseAt, RoseFor}
use Rattle.mix_top.specs.declared.ending.Ending.{Ending}
use Rattle.mix_top.specs.inner.World.{EndsIn}
use Rattle.mix_top.specs.Running.{broken_status}
use Rattle.mix_top.specs.inner.Parts.{Finishes, Keeps}

-- a count that stays, where the status is another one; and one that rose, where it is this one
pub quiet : (n status result old new : ℕ) → (status == n) ≡ false → result ≡ status → new ≡ old → RoseAt n result old new
quiet n status result old new other same calm =
    subst (λ r. RoseAt n r old new) (sym same) (subst (λ b. MatchBool b (Rose old new) (new ≡ old)) (sym other) calm)

pub loud : (n result old new : ℕ) → (n == n) ≡ true → result ≡ n → Rose old new → RoseAt n result old new
loud n result old new one same rose =
    subst (λ r. RoseAt n r old new) (sym same) (subst (λ b. MatchBool b (Rose old new) (new ≡ old)) (sym one) rose)

-- the keeper's counts stay, where the status is not the keeper's
pub steady : (save : Option (List ℕ)) (status result : ℕ) (old new : Keep) → (status == 8) ≡ false → result ≡ status → CountsStay old.faults new.faults → RoseFor save result old new
steady save status result old new other same stay =
    subst (λ r. RoseFor save r old new) (sym same)
    (subst (λ b. MatchBool b (IsSomeAnd save (CountRose old.faults new.faults)) (CountsStay old.faults new.faults)) (sym other) stay)

pub same-counts : (old new : Keep) → new ≡ old → CountsStay old.faults new.faults
same-counts old new same = λ n. ap (λ k. k.faults n) same

-- a status that blames none of the four
pub record IsPlain (status : ℕ) : Type 0 where
  pub input : (status == 5) ≡ false
  pub out : (status == 6) ≡ false
  pub trace : (status == 7) ≡ false
  pub keep : (status == 8) ≡ false

-- the counts of the three
abbrev pub counts_at : Beside → Counts
counts_at w = counts_beside w.outside w.trace

-- no count rose, and the status tells of none
pub accounted-plain : (save : Option (List ℕ)) (old new : Beside) (status result : ℕ) → IsPlain status → result ≡ status → BlamesOnly None (counts_at old) (counts_at new)
    → CountsStay old.keep.faults new.keep.faults → Accounts old.outside.rack new.outside.rack → Accounted save old new result
accounted-plain save old new status result plain same calm keep devices =
    record {
      input = quiet 5 status result old.outside.input.faults new.outside.input.faults plain.input same calm.input;
      out = quiet 6 status result old.outside.out.faults new.outside.out.faults plain.out same calm.out;
      trace = quiet 7 status result old.trace.faults new.trace.faults plain.trace same calm.trace;
      keep = steady save status result old.keep new.keep plain.keep same keep;
      devices = devices;
    }

-- the count of what failed rose, and the status tells it
pub accounted-broke : (save : Option (List ℕ)) (broken : Broken) (old new : Beside) (result : ℕ) → result ≡ broken_status broken → BlamesOnly (Some broken) (counts_at old) (counts_at new)
    → CountsStay old.keep.faults new.keep.faults → Accounts old.outside.rack new.outside.rack → Accounted save old new result
accounted-broke save Input old new result same blames keep devices =
    record {
      input = loud 5 result old.outside.input.faults new.outside.input.faults refl same blames.input;
      out = quiet 6 5 result old.outside.out.faults new.outside.out.faults refl same blames.out;
      trace = quiet 7 5 result old.trace.faults new.trace.faults refl same blames.trace;
      keep = steady save 5 result old.keep new.keep refl same keep;
      devices = devices;
    }
accounted-broke save Output old new result same blames keep devices =
    record {
      input = quiet 5 6 result old.outside.input.faults new.outside.input.faults refl same blames.input;
      out = loud 6 result old.outside.out.faults new.outside.out.faults refl same blames.out;
      trace = quiet 7 6 result old.trace.faults new.trace.faults refl same blames.trace;
      keep = steady save 6 result old.keep new.keep refl same keep;
      devices = devices;
    }
accounted-broke save Trace old new result same blames keep devices =
    record {
      input = quiet 5 7 result old.outside.input.faults new.outside.input.faults refl same blames.input;
      out = quiet 6 7 result old.outside.out.faults new.outside.out.faults refl same blames.out;
      trace = loud 7 result old.trace.faults new.trace.faults refl same blames.trace;
      keep = steady save 7 result old.keep new.keep refl same keep;
      devices = devices;
    }

-- a last line, after which the trace may be the only one that failed
pub accounted-closes : (save : Option (List ℕ)) (old new : Beside) (mid : Sink) (line : List ℕ) (status result : ℕ) → IsPlain status
    → new.outside.input.faults ≡ old.outside.input.faults → new.outside.out.faults ≡ old.outside.out.faults → mid.faults ≡ old.trace.faults
    → CountsStay old.keep.faults new.keep.faults → Accounts old.outside.rack new.outside.rack → Closes mid new.trace [] line status result → Accounted save old new result
accounted-closes save old new mid line status result plain input out trace keep devices (inl (grows, same)) =
    accounted-plain save old new status result plain same (record { input = input; out = out; trace = grows.calm ∙ trace }) keep devices
accounted-closes save old new mid line status result plain input out trace keep devices (inr (breaks, same)) =
    accounted-broke save Trace old new result same (record { input = input; out = out; trace = subst (λ n. Rose n new.trace.faults) trace breaks.rose }) keep devices

-- a call that ended before any step
pub accounted-early : (save : Option (List ℕ)) (old new : Beside) (line : List ℕ) (status : ℕ) (result : Ending) → IsPlain status → Early old new line status result → Accounted save old new result.status
accounted-early save old new line status result plain early =
    accounted-closes save old new old.trace line status result.status plain (ap (λ o. o.input.faults) early.outside) (ap (λ o. o.out.faults) early.outside) refl
    (same-counts old.keep new.keep early.keep) (subst (λ o. Accounts old.outside.rack o.rack) (sym early.outside) (accounts-none old.outside.rack)) early.trace

same-devices : (old new : Beside) → new.outside.rack ≡ old.outside.rack → Accounts old.outside.rack new.outside.rack
same-devices old new same = subst (Accounts old.outside.rack) (sym same) (accounts-none old.outside.rack)

-- a text on the output alone
pub accounted-puts : (old new : Beside) (text : List ℕ) (status : ℕ) (result : Ending) → IsPlain status → OnlyPuts old new result
    → PutsText old.outside.out new.outside.out text status result.status → Accounted None old new result.status
accounted-puts old new text status result plain only (inl (grows, same)) =
    accounted-plain None old new status result.status plain same (record { input = ap (λ i. i.faults) only.input; out = grows.calm; trace = ap (λ t. t.faults) only.trace })
    (same-counts old.keep new.keep only.keep) (same-devices old new only.rack)
accounted-puts old new text status result plain only (inr (stops, same)) =
    accounted-broke None Output old new result.status same (record { input = ap (λ i. i.faults) only.input; out = stops.breaks.rose; trace = ap (λ t. t.faults) only.trace })
    (same-counts old.keep new.keep only.keep) (same-devices old new only.rack)

-- the put of a line failed
pub puts-broke : (old new : Sink) (line piece : List ℕ) (status : ℕ) → piece ≡ line → Breaks old new [] piece → PutsText old new line status 6
puts-broke old new line piece status same breaks =
    inr (record { before = []; line = line; rest = []; order = sym (append-nil line); breaks = subst (λ l. Breaks old new [] l) same breaks }, refl)

-- nothing on it
pub accounted-quiet : (old new : Beside) (status : ℕ) (result : Ending) → IsPlain status → OnlyPuts old new result → new.outside.out ≡ old.outside.out → result.status ≡ status → Accounted None old new result.status
accounted-quiet old new status result plain only out same =
    accounted-plain None old new status result.status plain same (record { input = ap (λ i. i.faults) only.input; out = ap (λ o. o.faults) out; trace = ap (λ t. t.faults) only.trace })
    (same-counts old.keep new.keep only.keep) (same-devices old new only.rack)

exit-other : (n : ℕ) (b : Bool) → (0 == n) ≡ false → (1 == n) ≡ false → ((if b then 0 else 1) == n) ≡ false
exit-other n true zero one = zero
exit-other n false zero one = one

exit-plain : (b : Bool) → IsPlain (if b then 0 else 1)
exit-plain b = record { input = exit-other 5 b refl refl; out = exit-other 6 b refl refl; trace = exit-other 7 b refl refl; keep = exit-other 8 b refl refl }

-- a run that was stopped by the outside, after which nothing was put
stop-broke : (save : Option (List ℕ)) (broken : Broken) (old mid new : Beside) (result : ℕ) → result ≡ broken_status broken → BlamesOnly (Some broken) (counts_at old) (counts_at mid)
    → new.outside ≡ mid.outside → new.trace ≡ mid.trace → CountsStay old.keep.faults new.keep.faults → Accounts old.outside.rack mid.outside.rack → Accounted save old new result
stop-broke save broken old mid new result status rose same traced keep devices =
    let counted : counts_at new ≡ counts_at mid = ap (λ o. counts_beside o new.trace) same ∙ ap (counts_beside mid.outside) traced in
    accounted-broke save broken old new result status (subst (BlamesOnly (Some broken) (counts_at old)) (sym counted) rose) keep
    (subst (λ o. Accounts old.outside.rack o.rack) (sym same) devices)

-- a run that stopped, and what follows it
pub accounted-stop : (save : Option (List ℕ)) (old mid new : Beside) (set : Isa) (stop : Stop) (result : ℕ) → Blames stop (counts_at old) (counts_at mid) → Accounts old.outside.rack mid.outside.rack
    → new.outside ≡ mid.outside → CountsStay old.keep.faults new.keep.faults → Finishes stop set mid.trace new.trace result → Accounted save old new result
accounted-stop save old mid new set (Exit code) result calm devices same keep closes =
    accounted-closes save old new mid.trace _ _ result (exit-plain (code == 0)) (ap (λ o. o.input.faults) same ∙ calm.input) (ap (λ o. o.out.faults) same ∙ calm.out) calm.trace keep
    (subst (λ o. Accounts old.outside.rack o.rack) (sym same) devices) closes
accounted-stop save old mid new set (Fault fault) result calm devices same keep closes =
    accounted-closes save old new mid.trace _ 10 result (record { input = refl; out = refl; trace = refl; keep = refl }) (ap (λ o. o.input.faults) same ∙ calm.input) (ap (λ o. o.out.faults) same ∙ calm.out) calm.trace keep
    (subst (λ o. Accounts old.outside.rack o.rack) (sym same) devices) closes
accounted-stop save old mid new set Limit result calm devices same keep closes =
    accounted-closes save old new mid.trace _ 11 result (record { input = refl; out = refl; trace = refl; keep = refl }) (ap (λ o. o.input.faults) same ∙ calm.input) (ap (λ o. o.out.faults) same ∙ calm.out) calm.trace keep
    (subst (λ o. Accounts old.outside.rack o.rack) (sym same) devices) closes
accounted-stop save old mid new set ReadFault result rose devices same keep closes = stop-broke save Input old mid new result closes.1 rose same closes.0 keep devices
accounted-stop save old mid new set OutFault result rose devices same keep closes = stop-broke save Output old mid new result closes.1 rose same closes.0 keep devices
accounted-stop save old mid new set TraceFault result rose devices same keep closes = stop-broke save Trace old mid new result closes.1 rose same closes.0 keep devices

-- a machine that was kept, and one that was not
pub keeps-calm : (name : Option (List ℕ)) (m : Machine) (old new : Keep) (done : Unit {0}) → Keeps name m old new (Ok done) → CountsStay old.faults new.faults
keeps-calm None m old new done keeps = same-counts old new keeps
keeps-calm (Some name) m old new done keeps = keeps.1.calm

pub accounted-unkept : (name : List ℕ) (old mid new : Beside) (result : ℕ) → result ≡ 8 → Blames Limit (counts_at old) (counts_at mid) → Accounts old.outside.rack mid.outside.rack
    → new.outside ≡ mid.outside → new.trace ≡ mid.trace → CountRose old.keep.faults new.keep.faults name → Accounted (Some name) old new result
accounted-unkept name old mid new result eight calm devices same traced rose =
    subst (Accounted (Some name) old new) (sym eight)
    (record {
      input = ap (λ o. o.input.faults) same ∙ calm.input;
      out = ap (λ o. o.out.faults) same ∙ calm.out;
      trace = ap (λ o. o.faults) traced ∙ calm.trace;
      keep = rose;
      devices = subst (λ o. Accounts old.outside.rack o.rack) (sym same) devices;
    })

-- a call that keeps nothing, among those that may
quiet-keep : (b : Bool) (save : Option (List ℕ)) (old new : Keep) → MatchBool b (IsSomeAnd None (CountRose old.faults new.faults)) (CountsStay old.faults new.faults)
    → MatchBool b (IsSomeAnd save (CountRose old.faults new.faults)) (CountsStay old.faults new.faults)
quiet-keep true save old new rose = absurd rose
quiet-keep false save old new stay = stay

pub ends-quiet : (save : Option (List ℕ)) (Way : Beside → Beside → Ending → Type 0) (old new : Beside) (result : Ending) → EndsIn None Way old new result → EndsIn save Way old new result
ends-quiet save Way old new result ends =
    record {
      accounted = record {
        input = ends.accounted.input;
        out = ends.accounted.out;
        trace = ends.accounted.trace;
        keep = quiet-keep (result.status == 8) save old.keep new.keep ends.accounted.keep;
        devices = ends.accounted.devices;
      };
      way = ends.way;
    }
