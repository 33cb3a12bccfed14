-- From what a function performs to what a host call answers.
use Rattle.std.proofs.Common.{◌≡◌, ℕ, List, Option, refl, sym, ap, subst, ◌∙◌}
use Rattle.switch_frame.specs.declared.active.Active.{Active}
use Rattle.toolbox.specs.declared.values.Operands.{Operands}
use Rattle.toolbox.specs.declared.values.Results.{Results}
use Rattle.toolbox.specs.declared.function.Function.{Function}
use Rattle.toolbox.specs.Functions.{function_at}
use Rattle.toolbox.specs.Effects.{Resources, Ask, Effect, effect}
use Rattle.toolbox.specs.Effects.Effect.{Gives, Crosses as CrossesInto, Leaves as LeavesWith, Refuses}
use Rattle.toolbox.specs.Registers.{operands_of, answered}
use Rattle.toolbox.specs.Host.{Hosted, host, settled}
use Rattle.toolbox.specs.CallsClauses.{Place, GoesOn, Stays, ReadBreaks, PutBreaks, Reads, Says, host_at, goes_at}
use Rattle.toolbox.specs.inner.Performs.{gives, ReadsInput, SaysPiece}

-- a call's step is its function's effect, settled
host-is : (index : ℕ) (regs : Active) (r : Resources) → host_at index regs r ≡ settled (function_at index) regs (effect (function_at index) (operands_of (function_at index) regs) r)
unfolding host
host-is index regs r = refl

-- the function and the operands of a call
pub record IsCall (index : ℕ) (regs : Active) (f : Function) (o : Operands) : Type 0 where
  pub function : f ≡ function_at index
  pub operands : o ≡ operands_of f regs

pub call-is : (index : ℕ) (regs : Active) (f : Function) (o : Operands) (r : Resources) → IsCall index regs f o → host_at index regs r ≡ settled f regs (effect f o r)
call-is index regs f o r call = host-is index regs r ∙ rw (call.operands, call.function) refl

pub goes : (index : ℕ) (regs next : Active) (f : Function) (o : Operands) (x : Results) (asked : Option Ask) (old new : Place) → IsCall index regs f o →
    next ≡ answered f x regs → GoesOn (effect f o) (gives x) asked old new → GoesOn (host_at index regs) (goes_at next) asked old new
goes index regs next f o x asked old new call after on = record {
  effects = on.effects;
  taken = on.taken;
  does = λ before left rest took. call-is index regs f o _ call ∙ ap (settled f regs) (on.does before left rest took) ∙ rw after refl;
  ask = on.ask;
  told = on.told;
  calm = on.calm;
  put = on.put;
  devices = on.devices;
  bounds = on.bounds;
  free = on.free;
}

pub stays : (index : ℕ) (regs : Active) (f : Function) (o : Operands) (is : Effect) (ends : Hosted) (old new : Place) → IsCall index regs f o →
    settled f regs is ≡ ends → Stays (effect f o) is old new → Stays (host_at index regs) ends old new
stays index regs f o is ends old new call same on = record {
  does = λ around. call-is index regs f o _ call ∙ ap (settled f regs) (on.does around) ∙ same;
  same = on.same;
}

reads : (f : Function) (regs : Active) (x : Effect) → ReadsInput x → Reads (settled f regs x)
reads f regs (Gives r results effects) h = h
reads f regs (CrossesInto pointer info) h = h
reads f regs (LeavesWith code) h = h
reads f regs (Refuses access) h = h

pub cannot_read : (index : ℕ) (regs : Active) (f : Function) (o : Operands) (old new : Place) → IsCall index regs f o →
    ReadBreaks (effect f o) ReadsInput old new → ReadBreaks (host_at index regs) Reads old new
cannot_read index regs f o old new call on = record {
  does = λ around. subst Reads (sym (call-is index regs f o _ call)) (reads f regs _ (on.does around));
  kept = on.kept;
  rose = on.rose;
  same = on.same;
}

says : (f : Function) (regs : Active) (piece : List ℕ) (x : Effect) → SaysPiece piece x → Says piece (settled f regs x)
says f regs piece (Gives r results effects) h = h
says f regs piece (CrossesInto pointer info) h = h
says f regs piece (LeavesWith code) h = h
says f regs piece (Refuses access) h = h

pub cannot_put : (index : ℕ) (regs : Active) (f : Function) (o : Operands) (old new : Place) → IsCall index regs f o →
    PutBreaks (effect f o) SaysPiece old new → PutBreaks (host_at index regs) Says old new
cannot_put index regs f o old new call on = record {
  piece = on.piece;
  some = on.some;
  does = λ around. subst (Says on.piece) (sym (call-is index regs f o _ call)) (says f regs on.piece _ (on.does around));
  broke = on.broke;
  same = on.same;
}
