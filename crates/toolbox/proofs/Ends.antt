-- What holds of each end of a call, from the parts that it leaves.
use Rattle.std.proofs.Common.{◌≡◌, ℕ, List, Option, None, Some, refl, sym, ap, subst}
use Rattle.big_memory.specs.StoresClauses.{OnlyFree}
use Rattle.dev_rack.specs.Accounts.{Accounts}
use Rattle.mix_io.specs.Streams.{Output}
use Rattle.toolbox.specs.Blames.{BlamesOnly}
use Rattle.toolbox.specs.Effects.{Ask, Effects, Resources}
use Rattle.toolbox.specs.CallsClauses.{GoesOn, KeepsBounds, Place, PutBreaks, ReadBreaks, Stays, counts_beside}
use Rattle.toolbox.specs.inner.Performs.{AreLaws}
use Rattle.toolbox.specs.declared.broken.Broken.TheVariants.{Input as BrokenInput, Output as BrokenOutput}

-- the rack, the heap's bounds and memory
pub record Left (old new : Place) : Type 0 where
  pub devices : Accounts old.outside.rack new.outside.rack
  pub bounds : KeepsBounds old.heap new.heap
  pub free : OnlyFree old.memory new.memory

left : AreLaws → (old new : Place) → new.outside.rack ≡ old.outside.rack → new.heap ≡ old.heap → new.memory ≡ old.memory → Left old new
left laws old new rack heap memory =
    record {
      devices = subst (Accounts old.outside.rack) (sym rack) (laws.begins old.outside.rack);
      bounds = record { low = ap (λ h. h.low) heap; high = ap (λ h. h.high) heap };
      free = subst (OnlyFree old.memory) (sym memory) (laws.nothing old.memory);
    }

pub stays_left : AreLaws → {X : Type 0} (x : Resources → X) (is : X) (old new : Place) → Stays x is old new → Left old new
stays_left laws x is old new end = left laws old new (ap (λ p. p.outside.rack) end.same) (ap (λ p. p.heap) end.same) (ap (λ p. p.memory) end.same)

pub reads_left : AreLaws → {X : Type 0} (x : Resources → X) (Reads : X → Type 0) (old new : Place) → ReadBreaks x Reads old new → Left old new
reads_left laws x Reads old new end = left laws old new (ap (λ p. p.outside.rack) end.same) (ap (λ p. p.heap) end.same) (ap (λ p. p.memory) end.same)

pub puts_left : AreLaws → {X : Type 0} (x : Resources → X) (Says : List ℕ → X → Type 0) (old new : Place) → PutBreaks x Says old new → Left old new
puts_left laws x Says old new end = left laws old new (ap (λ p. p.outside.rack) end.same) (ap (λ p. p.heap) end.same) (ap (λ p. p.memory) end.same)

-- the counts of faults
pub goes_blames : {X : Type 0} (x : Resources → X) (gives : Resources → Effects → X) (asked : Option Ask) (old new : Place) → GoesOn x gives asked old new
    → (trace : Output) → BlamesOnly None (counts_beside old.outside trace) (counts_beside new.outside trace)
goes_blames x gives asked old new end trace = record { input = end.calm; out = end.put.calm; trace = refl }

pub stays_blames : {X : Type 0} (x : Resources → X) (is : X) (old new : Place) → Stays x is old new
    → (trace : Output) → BlamesOnly None (counts_beside old.outside trace) (counts_beside new.outside trace)
stays_blames x is old new end trace =
    record { input = ap (λ p. p.outside.input.faults) end.same; out = ap (λ p. p.outside.out.faults) end.same; trace = refl }

pub reads_blames : {X : Type 0} (x : Resources → X) (Reads : X → Type 0) (old new : Place) → ReadBreaks x Reads old new
    → (trace : Output) → BlamesOnly (Some BrokenInput) (counts_beside old.outside trace) (counts_beside new.outside trace)
reads_blames x Reads old new end trace = record { input = end.rose; out = ap (λ p. p.outside.out.faults) end.same; trace = refl }

pub puts_blames : {X : Type 0} (x : Resources → X) (Says : List ℕ → X → Type 0) (old new : Place) → PutBreaks x Says old new
    → (trace : Output) → BlamesOnly (Some BrokenOutput) (counts_beside old.outside trace) (counts_beside new.outside trace)
puts_blames x Says old new end trace = record { input = ap (λ p. p.outside.input.faults) end.same; out = end.broke.rose; trace = refl }
