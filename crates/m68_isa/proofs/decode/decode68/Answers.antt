use Rattle.std.proofs.Common.{ℕ, ◌≡◌, ◌<◌, length, slice_index, sym, ap, ◌∙◌, rules, arith}
use Rattle.std.proofs.lemmas.Bool.Decides.{nat_tests}
use Rattle.m68_isa.specs.declared.op.Op68.{Op68}
use Rattle.m68_isa.specs.First.{first_of}
use Rattle.m68_isa.specs.Operations.{operation, read}
use Rattle.m68_isa.proofs.ByOperation.{words_by_operation}
use Rattle.m68_isa.proofs.decode.decode68.Goals as goal

pub returns-else-is_empty-clause-value : goal.returns-else-is_empty-clause-value
returns-else-is_empty-clause-value c =
    let some : 0 < length c.args.words.now = grind (arith, nat_tests, c.is_empty.ensures, c.if-is_empty.false) in
    let first : c.from-word.result ≡ slice_index c.args.words.now 0 = search rules in
    c.read.ensures.value
    ∙ (ap (λ (op : Op68). read op (first_of c.from-word.result) c.args.words.now) c.op_of.ensures.value
    ∙ (ap (λ (word : ℕ). read (operation (first_of word)) (first_of word) c.args.words.now) first
    ∙ sym (words_by_operation c.args.words.now some)))
