-- Three pieces, of which the second is the digits.
use Rattle.std.proofs.Common.{◌++◌, ap, ◌∙◌}
use Rattle.std.specs.Prelude.{codes}
use Rattle.mix_bits.specs.Text.{hexadecimal}
use Rattle.look_why.proofs.Walks.{three_pieces}
use Rattle.look_why.proofs.report.add_address.Goals as goal

pub returns-clause-is : goal.returns-clause-is
returns-clause-is c =
    three_pieces c.args.text.now.items (codes " The line stands at ") (hexadecimal 8 c.args.address) (codes ".")
    c.append.new.list.items c.append-2.new.list.items c.append-3.new.list.items
    c.append.ensures.is
    (c.append-2.ensures.is ∙ ap (λ d. c.append.new.list.items ++ d) (c.bytes.ensures ∙ (c.add_hex.ensures ∙ ap (λ d. d ++ hexadecimal 8 c.args.address) c.new-digits.ensures)))
    c.append-3.ensures.is
