-- The line's own address stands in front.
use Rattle.std.proofs.Common.{◌≡◌, ◌==◌, true, false, Some, rules}
use Rattle.mix_text.specs.Lines.{address_in, is_silent}
use Rattle.mix_text.proofs.Instructions.{addressed-err, addressed-ok}
use Rattle.mix_text.proofs.line.assemble_line.Goals as goal

pub returns-then-address-at-clause-bytes : goal.returns-then-address-at-clause-bytes
returns-then-address-at-clause-bytes c =
    let loud : is_silent c.args.line.now ≡ false = search rules in
    let some : address_in c.args.line.now ≡ Some c.in-Some.address = search rules in
    let same : (c.in-Some.address == c.args.at) ≡ true = search rules in
    addressed-ok c.assemble_instruction-then-address-at.result (λ b. b.items) c.args.set c.args.line.now c.args.at c.in-Some.address loud some same c.assemble_instruction-then-address-at.ensures.bytes

pub returns-then-address-at-clause-refused : goal.returns-then-address-at-clause-refused
returns-then-address-at-clause-refused c =
    let loud : is_silent c.args.line.now ≡ false = search rules in
    let some : address_in c.args.line.now ≡ Some c.in-Some.address = search rules in
    let same : (c.in-Some.address == c.args.at) ≡ true = search rules in
    addressed-err c.assemble_instruction-then-address-at.result c.args.set c.args.line.now c.args.at c.in-Some.address loud some same c.assemble_instruction-then-address-at.ensures.refused
