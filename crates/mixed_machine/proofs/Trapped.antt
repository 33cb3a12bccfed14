-- No trap goes on into other code: CallUniversalProc alone does, and it has no trap.
use Rattle.std.proofs.Common.{◌≡◌, ℕ, Bool, true, false, if◌then◌else◌, List, [], ◌∷◌, Option, Some, None, sym, ap, subst, ◌∙◌}
use Rattle.big_memory.specs.declared.refusals.Access.{Access}
use Rattle.big_memory.specs.Memory.{Memory}
use Rattle.switch_frame.specs.declared.active.Active.{Active}
use Rattle.toolbox.specs.declared.function.Function.{Function}
use Rattle.toolbox.specs.declared.function.Function.TheVariants.{UnloadSeg}
use Rattle.toolbox.specs.declared.values.Operands.{Operands}
use Rattle.toolbox.specs.Functions.{function_at, trap_number}
use Rattle.toolbox.specs.FunctionsClauses.{trap_of}
use Rattle.toolbox.specs.NamesClauses.{IsTrapIndex}
use Rattle.toolbox.proofs.OneNumber.{index_from, numbers-own}
use Rattle.toolbox.specs.Registers.{operands_of}
use Rattle.toolbox.specs.Effects.{Resources, Effect, effect, made_at, moved_unless, takes_from}
use Rattle.toolbox.specs.Effects.Effect.{Gives, Crosses as CrossesInto, Leaves as LeavesWith, Refuses as Refused}
use Rattle.toolbox.specs.Host.{host, settled}
use Rattle.toolbox.specs.Host.Hosted.{Crosses}
use Rattle.mixed_machine.specs.laws.StepLaws.{TrapsNeverCross}

-- a call that crosses is one of CallUniversalProc
abbrev HasNoTrap : Function → Effect → Type 0
HasNoTrap f (Gives r x effects) = Unit {0}
HasNoTrap f (CrossesInto pointer info) = trap_of f ≡ None
HasNoTrap f (LeavesWith code) = Unit {0}
HasNoTrap f (Refused access) = Unit {0}

made-no_trap : (f : Function) (r : Resources) (size : ℕ) (memory : ℕ → Memory) (place : Option ℕ) → HasNoTrap f (made_at r size memory place)
made-no_trap f r size memory None = tt
made-no_trap f r size memory (Some a) = tt

moved-no_trap : (f : Function) (r : Resources) (moved : Memory) (refused : Option Access) → HasNoTrap f (moved_unless r moved refused)
moved-no_trap f r moved None = tt
moved-no_trap f r moved (Some e) = tt

takes-no_trap : (f : Function) (r : Resources) (input : List ℕ) → HasNoTrap f (takes_from r input)
takes-no_trap f r [] = tt
takes-no_trap f r (byte ∷ left) = tt

either-no_trap : (f : Function) (b : Bool) (x y : Effect) → HasNoTrap f x → HasNoTrap f y → HasNoTrap f (if b then x else y)
either-no_trap f true x y first second = first
either-no_trap f false x y first second = second

ruleset no-traps = (made-no_trap, moved-no_trap, takes-no_trap, either-no_trap)

no-trap : (f : Function) (o : Operands) (r : Resources) → HasNoTrap f (effect f o r)
no-trap UnloadSeg o r = tt
no-trap f o r = search no-traps

-- a function that a trap word reaches has that trap
trapped : (word k : ℕ) → trap_number word ≡ Some k → trap_of (function_at k) ≡ Some word
trapped word k is =
    let found = subst (IsTrapIndex word) is (index_from word) in
    ap trap_of (ap function_at found.2 ∙ numbers-own found.0) ∙ found.1

-- so it is not one that crosses
crossing-none : (f : Function) (active : Active) (x : Effect) (pointer info : ℕ) → HasNoTrap f x → settled f active x ≡ Crosses pointer info → trap_of f ≡ None
crossing-none f active (Gives r x effects) pointer info none is = cc
crossing-none f active (CrossesInto at what) pointer info none is = none
crossing-none f active (LeavesWith code) pointer info none is = cc
crossing-none f active (Refused access) pointer info none is = cc

pub traps-never_cross : TrapsNeverCross
unfolding host
traps-never_cross word k pointer info h reached is =
    let none : trap_of (function_at k) ≡ None = crossing-none (function_at k) h.active _ pointer info (no-trap (function_at k) (operands_of (function_at k) h.active) h.resources) is in
    let no = sym none ∙ trapped word k reached in
    cc
