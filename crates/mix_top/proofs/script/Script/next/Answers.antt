-- The next line is a command.
use Rattle.std.proofs.Common.{◌<◌, length, rules}
use Rattle.mix_top.proofs.Splits.{Takes, takes-command}
use Rattle.mix_top.proofs.script.Script.next.Goals as goal

pub invariant_of-self : goal.invariant_of-self
invariant_of-self c =
    let some : 0 < length c.self.inside.rest.now = search rules in
    let takes : Takes c.self.inside.rest.now c.split_line.result.0.now c.split_line.result.1.now
    = record { some = some; first = c.split_line.ensures.line; others = c.split_line.ensures.rest } in
    let own = takes-command c.self.inside.rest.now c.split_line.result.0.now c.split_line.result.1.now c.read_line.result takes c.self.invariant c.read_line.ensures in
    own.left

pub returns : goal.returns
returns c =
    let some : 0 < length c.self.inside.rest.now = search rules in
    let takes : Takes c.self.inside.rest.now c.split_line.result.0.now c.split_line.result.1.now
    = record { some = some; first = c.split_line.ensures.line; others = c.split_line.ensures.rest } in
    let own = takes-command c.self.inside.rest.now c.split_line.result.0.now c.split_line.result.1.now c.read_line.result takes c.self.invariant c.read_line.ensures in
    rw (← c.self.view_is) own.taken
