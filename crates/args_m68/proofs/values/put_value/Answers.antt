-- The registers with a value, by the place.
use Rattle.std.proofs.Common.{set, sym, ap, ◌∙◌}
use Rattle.std.specs.Prelude.{◌==◌, not, slice_index}
use Rattle.m68_isa.specs.declared.registers.Regs68.{Regs68}
use Rattle.args_m68.specs.Values.{with_flag, with_value}
use Rattle.args_m68.proofs.Files.{sp-kept}
use Rattle.args_m68.proofs.values.put_value.Goals as goal

pub returns-in-Stack-clause-value : goal.returns-in-Stack-clause-value
returns-in-Stack-clause-value c = sym (ap (λ p. with_value p c.args.size c.args.value c.args.regs.now) c.in-Stack.is)

pub returns-in-Data-clause-value : goal.returns-in-Data-clause-value
returns-in-Data-clause-value c =
    let regs : Regs68 = c.args.regs.now in
    ap (λ v. record regs { d = set regs.d c.in-Data.n v }) c.with_low.ensures ∙ sym (ap (λ p. with_value p c.args.size c.args.value regs) c.in-Data.is)

pub returns-in-Address-clause-value : goal.returns-in-Address-clause-value
returns-in-Address-clause-value c =
    let regs : Regs68 = c.args.regs.now in
    ap (λ v. record regs { a = set regs.a c.in-Address.n v }) c.with_low-in-Address.ensures ∙ sym (ap (λ p. with_value p c.args.size c.args.value regs) c.in-Address.is)

pub returns-in-Address-clause-stack : goal.returns-in-Address-clause-stack
returns-in-Address-clause-stack c =
    ap (λ (r : Regs68). slice_index r.a 7) (returns-in-Address-clause-value c) ∙ sp-kept c.args.place c.args.size c.args.value c.args.regs.now c.requires

pub returns-in-Condition-clause-value : goal.returns-in-Condition-clause-value
returns-in-Condition-clause-value c =
    let regs : Regs68 = c.args.regs.now in
    ap (λ k. record regs { ccr = k }) (c.set.ensures ∙ ap (λ t. with_flag c.in-Condition.flag (not (t == 0)) regs.ccr) c.trunc.ensures)
    ∙ sym (ap (λ p. with_value p c.args.size c.args.value regs) c.in-Condition.is)
