use Rattle.std.proofs.Common.{◌≡◌, refl, sym, ap, ◌∙◌, subst}
use Rattle.big_memory.specs.declared.steps.Did.TheVariants.{Next, Leave}
use Rattle.big_memory.specs.Map.{is_gate}
use Rattle.switch_frame.specs.declared.active.Active.TheVariants.{Ppc}
use Rattle.mixed_machine.specs.inner.Machine.{seen_of}
use Rattle.mix_engine.specs.inner.Cores.{Codes, stopped_at}
use Rattle.mix_engine.proofs.Codes.{code-ppc, no-gate-goes, no-gate-leaves, stopped-ppc}
use Rattle.mix_engine.proofs.code.code_ppc.Goals as goal

pub returns-in-Next-clause-codes : goal.returns-in-Next-clause-codes
returns-in-Next-clause-codes c =
    let r = c.args.regs.now in
    let does = c.in-Next.ensures.does in
    code-ppc Next c.core_ppc.new.fault r c.core_ppc.new.regs c.args.body.now c.core_ppc.new.body (no-gate-goes r c.core_ppc.new.regs (seen_of c.args.body.now) c.core_ppc.new.body.ram does.0) c.in-Next.ensures.number does

pub returns-in-Leave-clause-codes : goal.returns-in-Leave-clause-codes
returns-in-Leave-clause-codes c =
    let r = c.args.regs.now in
    let does = c.in-Leave.ensures.does in
    code-ppc Leave c.core_ppc.new.fault r c.core_ppc.new.regs c.args.body.now c.core_ppc.new.body (no-gate-leaves r (seen_of c.args.body.now) c.core_ppc.new.fault.detail does.0) c.in-Leave.ensures.number does

pub returns-in-Stop-clause-codes : goal.returns-in-Stop-clause-codes
returns-in-Stop-clause-codes c =
    let r = c.args.regs.now in
    let does = c.in-Stop.ensures.does in
    let at : is_gate c.core_ppc.new.regs.pc ≡ is_gate r.pc = ap (λ x. is_gate x.pc) does.1 in
    subst (λ code. Codes code c.core_ppc.new.fault (Ppc r) (Ppc c.core_ppc.new.regs) c.args.body.now c.core_ppc.new.body)
    (sym (c.stopped.ensures ∙ ap stopped_at at))
    (stopped-ppc (is_gate r.pc) c.core_ppc.new.fault r c.core_ppc.new.regs c.args.body.now c.core_ppc.new.body refl does)
