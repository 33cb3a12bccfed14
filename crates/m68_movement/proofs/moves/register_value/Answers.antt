use Rattle.std.proofs.Common.{◌≡◌, rules, arith}
use Rattle.m68_movement.proofs.moves.register_value.Goals as goal

pub returns-then-mode-eq0 : goal.returns-then-mode-eq0
returns-then-mode-eq0 c = rw c.if-mode-eq0.true (search rules)

pub returns-else-mode-eq0 : goal.returns-else-mode-eq0
returns-else-mode-eq0 c =
    let one : c.args.mode ≡ 1 = omega (arith, c.requires.mode, c.if-mode-eq0.false) in
    rw one (search rules)
