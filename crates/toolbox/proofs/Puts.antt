-- What a function puts on the output is what its call says.
use Rattle.std.proofs.Common.{◌≡◌, ℕ, Bool, true, false, List, [], ◌∷◌, Option, Some, None, cond, refl, sym, ◌∙◌, ap}
use Rattle.big_memory.specs.declared.refusals.Access.{Access}
use Rattle.big_memory.specs.declared.refusals.Access.TheVariants.{Outside}
use Rattle.big_memory.specs.Memory.{Memory}
use Rattle.switch_frame.specs.declared.active.Active.{Active}
use Rattle.toolbox.specs.declared.values.Operands.{Operands}
use Rattle.toolbox.specs.declared.function.Function.{Function}
use Rattle.toolbox.specs.declared.function.Function.TheVariants.{UnloadSeg}
use Rattle.toolbox.specs.Effects.{Resources, Effect, effect, made_at, moved_unless, says, takes_from}
use Rattle.toolbox.specs.Effects.Effect.{Gives, Crosses, Leaves, Refuses}
use Rattle.toolbox.specs.Host.{settled}
use Rattle.toolbox.specs.CallsClauses.{host_at}
use Rattle.toolbox.specs.inner.Puts.{piece_of, said_by}
use Rattle.toolbox.specs.Puts.{puts_of, said_in}
use Rattle.toolbox.proofs.Settled.{IsCall, call-is}

made-says : (r : Resources) (size : ℕ) (memory : ℕ → Memory) (at : Option ℕ) → said_by (made_at r size memory at) ≡ []
made-says r size memory None = refl
made-says r size memory (Some a) = refl

moved-says : (r : Resources) (moved : Memory) (refusal : Option Access) → said_by (moved_unless r moved refusal) ≡ []
moved-says r moved None = refl
moved-says r moved (Some e) = refl

taken-says : (r : Resources) (input : List ℕ) → said_by (takes_from r input) ≡ []
taken-says r [] = refl
taken-says r (byte ∷ left) = refl

block-says : (r : Resources) (a : ℕ) (piece : List ℕ) (lies : Bool) → said_by (cond lies (says r piece) (Refuses (Outside a))) ≡ cond lies piece []
block-says r a piece true = refl
block-says r a piece false = refl

ruleset effects = (made-says, moved-says, taken-says, block-says)

effect-says : (f : Function) (o : Operands) (r : Resources) → said_by (effect f o r) ≡ piece_of f o r.memory
effect-says UnloadSeg o r = refl
effect-says f o r = search effects

settled-says : (f : Function) (active : Active) (x : Effect) → said_in (settled f active x) ≡ said_by x
settled-says f active (Gives r results effects) = refl
settled-says f active (Crosses pointer info) = refl
settled-says f active (Leaves code) = refl
settled-says f active (Refuses access) = refl

-- a count of puts that goes on by what a function puts goes on by what its call says
pub counts : (index : ℕ) (regs : Active) (f : Function) (o : Operands) (r : Resources) (old new : Option ℕ) → IsCall index regs f o →
    new ≡ puts_of (piece_of f o r.memory) old → new ≡ puts_of (said_in (host_at index regs r)) old
counts index regs f o r old new call count =
    let says : said_in (host_at index regs r) ≡ piece_of f o r.memory = ap said_in (call-is index regs f o r call) ∙ settled-says f regs (effect f o r) ∙ effect-says f o r in
    count ∙ ap (λ piece. puts_of piece old) (sym says)

-- a function without a piece puts none
pub says_none : (f g : Function) (o : Operands) (m : Memory) (count : Option ℕ) → f ≡ g → piece_of g o m ≡ [] → count ≡ puts_of (piece_of f o m) count
says_none f g o m count same is = sym (ap (λ piece. puts_of piece count) (ap (λ h. piece_of h o m) same ∙ is))
