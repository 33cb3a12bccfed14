-- Steps that code does by itself, one after another, and the step behind them.
use Rattle.std.proofs.Common.{◌≡◌, ℕ, zero, suc, ◌-◌, ◌<◌, ◌≤◌, arith, refl, sym, ap, ◌∙◌, subst}
use Rattle.mix_bits.specs.declared.fault.Fault.{Fault as AFault}
use Rattle.mix_io.specs.Streams.{Output}
use Rattle.switch_frame.specs.declared.active.Active.{Active}
use Rattle.switch_frame.specs.Records.{isa_of}
use Rattle.toolbox.specs.Calls.{Outside}
use Rattle.mixed_machine.specs.declared.body.Body.{Body}
use Rattle.mixed_machine.specs.declared.did.Did.{Did}
use Rattle.mixed_machine.specs.declared.did.Did.TheVariants.{Next, Fault}
use Rattle.mixed_machine.specs.Leave.{at_gate}
use Rattle.mixed_machine.specs.Step.{step}
use Rattle.mixed_machine.specs.Machine.{IsWhole, flat}
use Rattle.mixed_machine.specs.OutsideClauses.{At, at}
use Rattle.mixed_machine.specs.laws.Acts.{Acts}
use Rattle.mix_engine.specs.declared.code.Code.{Code}
use Rattle.mix_engine.specs.declared.code.Code.TheVariants.{Next as Goes_on, Leave, Stop, Gate}
use Rattle.mix_engine.specs.laws.Laws.{AreLaws}
use Rattle.mix_engine.specs.inner.Cores.{AreOwn, Codes, CodesAfter, IsOwn, leaves_code}
use Rattle.mix_engine.specs.Worlds.{Seen, TracesOnly}
use Rattle.mix_engine.specs.Beside.{machine_in}
use Rattle.mix_engine.specs.inner.Does.{Does}
use Rattle.mix_engine.specs.Advances.{Advances, GoesOn}
use Rattle.mix_engine.proofs.Amid.{acts-from, amid, amid-seen, does-change}
use Rattle.mix_engine.proofs.Leavings.{same-at, stopped}

-- one more
pub own-more : (n left : ℕ) (before mid after : Active) (b body new : Body) → 0 < left → left ≤ n → AreOwn (n - left) before mid b body → IsOwn mid after body new
    → AreOwn (n - (left - 1)) before after b new
own-more n left before mid after b body new some fewer own more =
    let one : suc (n - left) ≡ n - (left - 1) = omega (arith, some, fewer) in subst (λ k. AreOwn k before after b new) one (mid, body, own, more)

-- the last that is allowed
pub own-last : (n left : ℕ) (cell : AFault) (before mid after : Active) (b body new : Body) → 0 < left → left - 1 ≡ 0 → AreOwn (n - left) before mid b body → IsOwn mid after body new
    → CodesAfter (n - 1) Goes_on cell before after b new
own-last n left cell before mid after b body new some none own last =
    let one : n - left ≡ n - 1 = omega (arith, some, none) in
    record { active = mid; body = body; own = subst (λ k. AreOwn k before mid b body) one own; last = last }

-- amid any outside
own-acts : AreLaws → (cell : AFault) (before after : Active) (b new : Body) (o : Outside) (a : Output) → IsOwn before after b new → Acts step Next cell (at b before o a) (at new after o a)
own-acts laws cell before after b new o a own = amid laws step Next cell b new before after o a a (does-change step cell b new before after a own.1 own.2 own.0)

own-goes : AreLaws → (k : ℕ) (before after : Active) (b new : Body) (o : Outside) (a : Output) → AreOwn k before after b new → GoesOn k (at b before o a) (at new after o a)
own-goes laws zero before after b new o a own = same-at b new before after o a own.0 own.1
own-goes laws (suc k) before after b new o a own =
    (at own.1 own.0 o a, own-goes laws k before own.0 b own.1 o a own.2, λ cell. own-acts laws cell own.0 after own.1 new o a own.3)

-- the step behind them is the code's own, too
pub advances-next : AreLaws → (k : ℕ) (cell : AFault) (before after : Active) (b new : Body) (o : Outside) (a : Output) → CodesAfter k Goes_on cell before after b new
    → Advances k Next cell (at b before o a) (at new after o a)
advances-next laws k cell before after b new o a codes =
    record {
      last = at codes.body codes.active o a;
      goes = own-goes laws k before codes.active b codes.body o a codes.own;
      acts = own-acts laws cell codes.active after codes.body new o a codes.last;
    }

-- or a fault
pub advances-stop : AreLaws → (k : ℕ) (cell : AFault) (before after : Active) (b new : Body) (o : Outside) (a : Output) → IsWhole new (isa_of after) → CodesAfter k Stop cell before after b new
    → Advances k Fault cell (at b before o a) (at new after o a)
advances-stop laws k cell before after b new o a whole codes =
    let first : IsWhole codes.body (isa_of codes.active) = subst (λ x. IsWhole x (isa_of codes.active)) codes.last.2 (subst (λ w. IsWhole new (isa_of w)) codes.last.1 whole) in
    record {
      last = at codes.body codes.active o a;
      goes = own-goes laws k before codes.active b codes.body o a codes.own;
      acts = stopped laws step cell codes.body new codes.active after o a first codes.last.0 codes.last.1 codes.last.2;
    }

-- or one at a gate
pub advances-gate : AreLaws → (k : ℕ) (did : Did) (told cell : AFault) (before mid after : Active) (b body new : Body) (a t : Seen) → CodesAfter k Gate told before mid b body → TracesOnly a t
    → Does at_gate did cell body new mid after a.trace t.trace → Advances k did cell (machine_in b before a) (machine_in new after t)
advances-gate laws k did told cell before mid after b body new a t codes rest does =
    record {
      last = machine_in codes.body codes.active a;
      goes = own-goes laws k before codes.active b codes.body a.outside a.trace codes.own;
      acts = acts-from step at_gate did cell (machine_in codes.body codes.active a) (machine_in body mid a) (machine_in new after t)
          (same-at codes.body body codes.active mid a.outside a.trace codes.last.1 codes.last.2) codes.last.0 (amid-seen laws at_gate did cell body new mid after a t rest does);
    }

-- or one of the host
pub advances-leave : AreLaws → (k : ℕ) (did : Did) (told cell : AFault) (before mid : Active) (b body : Body) (o : Outside) (a : Output) (c : At) → CodesAfter k Leave told before mid b body
    → Acts (λ s. leaves_code mid s told.detail) did cell (at body mid o a) c → Advances k did cell (at b before o a) c
advances-leave laws k did told cell before mid b body o a c codes acts =
    record {
      last = at codes.body codes.active o a;
      goes = own-goes laws k before codes.active b codes.body o a codes.own;
      acts = acts-from step (λ s. leaves_code mid s told.detail) did cell (at codes.body codes.active o a) (at body mid o a) c
          (same-at codes.body body codes.active mid o a codes.last.2 codes.last.3)
          (λ around. codes.last.0 around ∙ ap (λ w. leaves_code w (flat codes.body codes.active around) told.detail) (sym codes.last.2)) acts;
    }

-- one by itself
pub codes-whole : (code : Code) (cell : AFault) (before after : Active) (b new : Body) → IsWhole b (isa_of before) → Codes code cell before after b new → IsWhole new (isa_of after)
codes-whole Goes_on cell before after b new whole codes = codes.1
codes-whole Leave cell before after b new whole codes = subst (λ w. IsWhole new (isa_of w)) (sym codes.2) (subst (λ x. IsWhole x (isa_of before)) (sym codes.3) whole)
codes-whole Stop cell before after b new whole codes = subst (λ w. IsWhole new (isa_of w)) (sym codes.1) (subst (λ x. IsWhole x (isa_of before)) (sym codes.2) whole)
codes-whole Gate cell before after b new whole codes = subst (λ w. IsWhole new (isa_of w)) (sym codes.1) (subst (λ x. IsWhole x (isa_of before)) (sym codes.2) whole)

pub once : (code : Code) (cell : AFault) (before after : Active) (b new : Body) → Codes code cell before after b new → CodesAfter 0 code cell before after b new
once code cell before after b new codes = record { active = before; body = b; own = (refl, refl); last = codes }

no-own : (k : ℕ) (before after : Active) (b new : Body) → k ≡ 0 → AreOwn k before after b new → (after ≡ before) × (new ≡ b)
no-own zero before after b new none own = own
no-own (suc k) before after b new none own = absurd (omega (arith, none))

-- the only one that is allowed
pub only-one : (left : ℕ) (code : Code) (cell : AFault) (before after : Active) (b new : Body) → 0 < left → left ≤ 1 → CodesAfter (1 - left) code cell before after b new
    → Codes code cell before after b new
only-one left code cell before after b new some few codes =
    let none = no-own (1 - left) before codes.active b codes.body (omega (arith, some, few)) codes.own in
    subst (λ x. Codes code cell before after x new) none.1 (subst (λ w. Codes code cell w after codes.body new) none.0 codes.last)
