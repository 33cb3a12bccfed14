-- How the host goes on: by a crossing or a call, told by the set, a word or a number.
use Rattle.std.proofs.Common.{◌≡◌, ◌≢◌, ℕ, None, refl, sym, ap, ◌∙◌, subst, eq-eqb}
use Rattle.std.proofs.lemmas.Bool.{ne_eqb}
use Rattle.mix_bits.specs.declared.fault.Fault.{Fault as AFault}
use Rattle.mix_bits.specs.declared.fault.FaultKind.TheVariants.{NoTrap}
use Rattle.mix_io.specs.Streams.{Output}
use Rattle.mix_bits.specs.Faults.{fault_at}
use Rattle.m68_isa.specs.declared.registers.Regs68.{Regs68}
use Rattle.ppc_isa.specs.declared.registers.RegsPpc.{RegsPpc}
use Rattle.switch_frame.specs.declared.active.Active.{Active}
use Rattle.switch_frame.specs.declared.active.Active.TheVariants.{M68, Ppc}
use Rattle.switch_frame.specs.Records.{isa_of}
use Rattle.routine_desc.specs.Layout.{mixed_mode_magic}
use Rattle.mode_switch.specs.Wanted.{Want, wants_68k, wants_ppc}
use Rattle.mode_switch.specs.Wanted.Want.{Jumps}
use Rattle.toolbox.specs.Functions.{trap_number}
use Rattle.toolbox.specs.Calls.{Outside}
use Rattle.toolbox.specs.Effects.{Around}
use Rattle.toolbox.specs.Host.{host}
use Rattle.toolbox.specs.Host.Hosted.{Crosses}
use Rattle.mixed_machine.specs.declared.body.Body.{Body}
use Rattle.mixed_machine.specs.declared.did.Did.{Did}
use Rattle.mixed_machine.specs.declared.did.Did.TheVariants.{Fault}
use Rattle.switch_frame.specs.Files.{pc_of}
use Rattle.mixed_machine.specs.State.{State, seen}
use Rattle.mixed_machine.specs.Next.{Next}
use Rattle.mixed_machine.specs.Next.Next.{Faults}
use Rattle.mixed_machine.specs.Enter.{crosses}
use Rattle.mixed_machine.specs.Host.{host_of, hosted_by, hosts, traps, traps_to, universal}
use Rattle.mixed_machine.specs.Machine.{IsWhole, flat}
use Rattle.mixed_machine.specs.OutsideClauses.{at}
use Rattle.mixed_machine.specs.laws.Acts.{Acts, Done}
use Rattle.mix_engine.specs.laws.Laws.{AreLaws}
use Rattle.mix_engine.specs.inner.Cores.{leaves_code}
use Rattle.mix_engine.specs.inner.Does.{Does, beside}
use Rattle.mix_engine.proofs.Changed.{seen-is}
use Rattle.mix_io.proofs.Streams.{grows-none}
use Rattle.mix_engine.proofs.Amid.{amid}
use Rattle.mix_engine.proofs.Doing.{does-fault}

-- the same machine
pub same-at : (b new : Body) (before after : Active) (o : Outside) (a : Output) → after ≡ before → new ≡ b → at new after o a ≡ at b before o a
same-at b new before after o a active body = ap (λ w. at new w o a) active ∙ ap (λ x. at x before o a) body

-- an equal step of the same code
pub does-from : (x y : State → Next) (did : Did) (cell : AFault) (b new : Body) (w before after : Active) (a t : Output) → before ≡ w
    → ((around : Around) → x (flat b before around) ≡ y (flat b before around)) → Does y did cell b new w after a t → Does x did cell b new before after a t
does-from x y did cell b new w before after a t is same does =
    let from : Does y did cell b new before after a t = subst (λ z. Does y did cell b new z after a t) (sym is) does in
    record {
      whole = from.whole;
      callers = from.callers;
      inside = from.inside;
      done = λ around out. subst (λ z. Done z did cell (flat b before around) (flat new after around) (beside out a) (beside out t)) (sym (same around)) (from.done around out);
    }

-- code of each set at a universal pointer
pub ppc-universal : AreLaws → (b : Body) (before : Active) (r : RegsPpc) (pointer info : ℕ) (want : Want) → IsWhole b (isa_of before) → before ≡ Ppc r → want ≡ wants_ppc b.ram r pointer info
    → (around : Around) → universal (flat b before around) before pointer info ≡ crosses (flat b before around) want
ppc-universal laws b before r pointer info want whole is exact around =
    ap (λ w. universal (flat b before around) w pointer info) is
    ∙ (ap (λ m. crosses (flat b before around) (wants_ppc m r pointer info)) (seen-is laws b (isa_of before) whole) ∙ ap (crosses (flat b before around)) (sym exact))

pub m68-universal : (b : Body) (before : Active) (r : Regs68) (pointer info : ℕ) → before ≡ M68 r
    → (around : Around) → universal (flat b before around) before pointer info ≡ crosses (flat b before around) (Jumps pointer)
m68-universal b before r pointer info is around = ap (λ w. universal (flat b before around) w pointer info) is

-- a routine descriptor in 68K code, and any other word of line A
traps-magic : (s : State) (r : Regs68) (word : ℕ) → word ≡ mixed_mode_magic → traps s r word ≡ crosses s (wants_68k (seen s) r)
unfolding traps
traps-magic s r word is = rw (eq-eqb word mixed_mode_magic is) refl

traps-other : (s : State) (r : Regs68) (word : ℕ) → word ≢ mixed_mode_magic → traps s r word ≡ traps_to s word (trap_number word)
unfolding traps
traps-other s r word differs = rw (ne_eqb word mixed_mode_magic differs) refl

pub m68-crosses : AreLaws → (b : Body) (before : Active) (r : Regs68) (word : ℕ) (want : Want) → IsWhole b (isa_of before) → before ≡ M68 r → word ≡ mixed_mode_magic → want ≡ wants_68k b.ram r
    → (around : Around) → leaves_code before (flat b before around) word ≡ crosses (flat b before around) want
m68-crosses laws b before r word want whole is magic exact around =
    ap (λ w. leaves_code w (flat b before around) word) is
    ∙ (traps-magic (flat b before around) r word magic
    ∙ (ap (λ m. crosses (flat b before around) (wants_68k m r)) (seen-is laws b (isa_of before) whole) ∙ ap (crosses (flat b before around)) (sym exact)))

pub m68-traps : (before : Active) (r : Regs68) (word : ℕ) (s : State) → before ≡ M68 r → word ≢ mixed_mode_magic → leaves_code before s word ≡ traps_to s word (trap_number word)
m68-traps before r word s is differs = ap (λ w. leaves_code w s word) is ∙ traps-other s r word differs

-- a call of a host function by what it does where it crosses
pub hosts-are : (s : State) (index : ℕ) → hosts s index ≡ hosted_by (universal s s.active) s (host index (host_of s))
unfolding hosts
hosts-are s index = refl

pub hosts-cross : (s : State) (index pointer info : ℕ) → host index (host_of s) ≡ Crosses pointer info → hosts s index ≡ universal s s.active pointer info
hosts-cross s index pointer info is = hosts-are s index ∙ ap (hosted_by (universal s s.active) s) is

-- a trap that none has
pub no-trap : AreLaws → (word : ℕ) (cell : AFault) (b : Body) (active : Active) (o : Outside) (a : Output) → IsWhole b (isa_of active) → trap_number word ≡ None → cell ≡ fault_at (pc_of active) NoTrap word
    → Acts (λ s. traps_to s word (trap_number word)) Fault cell (at b active o a) (at b active o a)
no-trap laws word cell b active o a whole none is =
    amid laws (λ s. traps_to s word (trap_number word)) Fault cell b b active active o a a
    (does-fault grows-none (λ s. traps_to s word (trap_number word)) cell b active a whole (λ around. ap (traps_to (flat b active around) word) none ∙ ap (λ f. Faults f) (sym is)))

-- a step that is a fault, by a machine that is as before
pub stopped : AreLaws → (x : State → Next) (cell : AFault) (b new : Body) (before after : Active) (o : Outside) (a : Output) → IsWhole b (isa_of before)
    → ((around : Around) → x (flat b before around) ≡ Faults cell) → after ≡ before → new ≡ b → Acts x Fault cell (at b before o a) (at new after o a)
stopped laws x cell b new before after o a whole faults active body =
    subst (λ z. Acts x Fault cell (at b before o a) z) (sym (same-at b new before after o a active body))
    (amid laws x Fault cell b b before before o a a (does-fault grows-none x cell b before a whole faults))
