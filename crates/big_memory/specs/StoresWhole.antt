-- How a store answers: it is done or refused as a whole, longs one after another too.
use Rattle.std.specs.Prelude.{◌≡◌, Bool, true, false, ℕ, zero, suc, List, [], ◌∷◌, Option, Some, None, Result, Ok, Err}
use Rattle.mix_bits.specs.declared.size.Size.TheVariants.{Four}
use Rattle.mix_bits.specs.Addresses.{onward}
use Rattle.big_memory.specs.declared.refusals.Access.{Access}
use Rattle.big_memory.specs.Memory.{Memory, refusal, stored}
use Rattle.big_memory.specs.StoresClauses.{OnlyFree}

-- the first of two refusals
abbrev pub first_refusal : Option Access → Option Access → Option Access
first_refusal None then = then
first_refusal (Some e) then = Some e

-- why longs stored one after another are refused, if they are: the first refusal of one of them
unfoldable pub longs_refusal : Memory → ℕ → ℕ → Option Access
longs_refusal m a zero = None
longs_refusal m a (suc n) = first_refusal (refusal m a 4) (longs_refusal m (onward a 4) n)

-- the memory with longs put one after another
unfoldable pub with_longs : ℕ → List ℕ → Memory → Memory
with_longs a [] m = m
with_longs a (v ∷ vs) m = with_longs (onward a 4) vs (stored m a Four v)

-- a call that stores: all is done, or nothing, and then the refusal is the answer
abbrev pub Stores : {T : Type 0} → Result T Access → Result Memory Access → Memory → Memory → Type 0
Stores (Ok done) all old new = (all ≡ Ok new) × OnlyFree old new
Stores (Err e) all old new = (all ≡ Err e) × (new ≡ old)

-- a call that stores where that is plainly open: all is done, or nothing
abbrev pub StoresIf : Bool → Result Memory Access → Bool → Memory → Memory → Type 0
StoresIf plain all true old new = (plain ≡ true) × (all ≡ Ok new) × OnlyFree old new
StoresIf plain all false old new = (plain ≡ false) × (new ≡ old)
