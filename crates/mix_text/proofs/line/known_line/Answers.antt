-- The address in front is the line's own.
use Rattle.std.proofs.Common.{◌≡◌, false, Some, rules}
use Rattle.mix_text.specs.Lines.{address_in, is_silent}
use Rattle.mix_text.proofs.Instructions.{behind-given, known-behind}
use Rattle.mix_text.proofs.line.known_line.Goals as goal

pub known_instruction-requires-in-Some : goal.known_instruction-requires-in-Some
known_instruction-requires-in-Some c =
    let loud : is_silent c.args.line.now ≡ false = search rules in
    let some : address_in c.args.line.now ≡ Some c.in-Some.field-0 = search rules in
    known-behind c.args.set c.args.line.now c.args.at c.in-Some.field-0 loud some c.requires

pub returns-in-Some : goal.returns-in-Some
returns-in-Some c =
    let loud : is_silent c.args.line.now ≡ false = search rules in
    let some : address_in c.args.line.now ≡ Some c.in-Some.field-0 = search rules in
    behind-given c.args.set c.args.line.now c.args.at c.in-Some.field-0 _ loud some c.requires c.known_instruction-in-Some.ensures
