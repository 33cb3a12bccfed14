-- After a refusal the register is as it was.
use Rattle.std.proofs.Common.{◌≡◌, ℕ, List, get_or, set, ap, ◌∙◌}
use Rattle.std.proofs.lemmas.List.{set-get_or, set-set}
use Rattle.args_m68.specs.Values.{Given}
use Rattle.args_m68.proofs.results.put_result68.Goals as goal

undone : (old put kept new : List ℕ) (k v : ℕ) → put ≡ set old k v → kept ≡ put → new ≡ set kept k (get_or old k 0) → new ≡ old
undone old put kept new k v first same last = last ∙ ap (λ xs. set xs k (get_or old k 0)) (same ∙ first) ∙ set-set old k v (get_or old k 0) ∙ set-get_or old k 0

pub returns-in-Err-clause-exact : goal.returns-in-Err-clause-exact
returns-in-Err-clause-exact c =
    let kept = c.in-Err.ensures.exact.1 in
    let a = undone c.args.regs.now.a c.set_register.new.registers c.put_at.new.regs.a c.set_register-in-Err.new.registers 7 c.above_sp-after.result
    c.set_register.ensures.list (ap (λ (g : Given). g.regs.a) kept) c.set_register-in-Err.ensures.list in
    let d = ap (λ (g : Given). g.regs.d) kept in
    let pc = ap (λ (g : Given). g.regs.pc) kept in
    let ccr = ap (λ (g : Given). g.regs.ccr) kept in
    let memory = ap (λ (g : Given). g.memory) kept in
    (cc c.in-Err.ensures.exact.0, λ i. record { regs = record { d = d i; a = a i; pc = pc i; ccr = ccr i }; memory = memory i })
