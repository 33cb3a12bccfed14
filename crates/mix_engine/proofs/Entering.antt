-- The step of a call, from what its parts answer.
use Rattle.std.proofs.Common.{◌≡◌, ℕ, Bool, is_some, Result, Ok, sym, ap, ◌∙◌}
use Rattle.mix_bits.specs.declared.isa.Isa.{Isa}
use Rattle.big_memory.specs.declared.refusals.Access.{Access}
use Rattle.switch_frame.specs.declared.active.Active.{Active}
use Rattle.switch_frame.specs.declared.full.Full.{Full}
use Rattle.switch_frame.specs.Sets.{callee_isa}
use Rattle.switch_frame.specs.Calls.{room_of}
use Rattle.switch_frame.specs.Chain.{records}
use Rattle.toolbox.specs.Effects.{Around}
use Rattle.mode_switch.specs.Callee.{below}
use Rattle.mode_switch.specs.Passed.{Passage, passed}
use Rattle.mode_switch.specs.Wanted.{Crossing, passed_selector}
use Rattle.mixed_machine.specs.declared.body.Body.{Body}
use Rattle.mixed_machine.specs.Enter.{enters, enters_in, enters_with}
use Rattle.mixed_machine.specs.Machine.{IsWhole, callers_of, flat}
use Rattle.switch_frame.specs.Files.{sp_of}
use Rattle.mix_engine.specs.laws.Laws.{AreLaws}
use Rattle.mix_engine.proofs.Changed.{seen-is}
use Rattle.mix_engine.proofs.Framing.{callers-are}

-- once it is known whether there is room
pub enters-by : AreLaws → (b : Body) (set : Isa) (active : Active) (around : Around) (c : Crossing) (sp bytes : ℕ) (room : Result (ℕ × ℕ) Full) → IsWhole b set
    → sp ≡ sp_of active → bytes ≡ below (callee_isa c.kind) c.sig (is_some (passed_selector c))
    → room ≡ room_of b.ram (records b.ram.bytes b.top) sp c.kind bytes → enters (flat b active around) c ≡ enters_in (flat b active around) c room
unfolding enters
enters-by laws b set active around c sp bytes room whole sp_is bytes_are room_is =
    let wanted : ℕ = below (callee_isa c.kind) c.sig (is_some (passed_selector c)) in
    ap (enters_in (flat b active around) c)
    (ap (λ m. room_of m (callers_of b) (sp_of active) c.kind wanted) (seen-is laws b set whole)
    ∙ (ap (λ rs. room_of b.ram rs (sp_of active) c.kind wanted) (callers-are b)
    ∙ (ap (room_of b.ram (records b.ram.bytes b.top) (sp_of active) c.kind) (sym bytes_are)
    ∙ (ap (λ n. room_of b.ram (records b.ram.bytes b.top) n c.kind bytes) (sym sp_is) ∙ sym room_is))))

-- once all that the caller passes was read, or was refused
pub passes-by : AreLaws → (b : Body) (set : Isa) (active : Active) (around : Around) (c : Crossing) (range : ℕ × ℕ) (r : Result Passage Access) → IsWhole b set
    → r ≡ passed b.ram b.a5 active c → enters_in (flat b active around) c (Ok range) ≡ enters_with (flat b active around) c range r
passes-by laws b set active around c range r whole is =
    ap (enters_with (flat b active around) c range) (ap (λ m. passed m b.a5 active c) (seen-is laws b set whole) ∙ sym is)

-- the bytes of a callee's stack, by its set and whether it gets a selector
pub bytes-are : (set : Isa) (bytes : ℕ) (c : Crossing) (passes : Bool) → set ≡ callee_isa c.kind → passes ≡ is_some (passed_selector c) → bytes ≡ below set c.sig passes
    → bytes ≡ below (callee_isa c.kind) c.sig (is_some (passed_selector c))
bytes-are set bytes c passes set_is passes_is is = is ∙ (ap (λ x. below x c.sig passes) set_is ∙ ap (below (callee_isa c.kind) c.sig) passes_is)
