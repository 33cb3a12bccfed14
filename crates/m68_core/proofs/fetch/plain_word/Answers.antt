use Rattle.std.proofs.Common.{◌≡◌, ◌≤◌, length, drop, arith, inl, sym, ap, ◌∙◌}
use Rattle.byteorder.specs.Endian.{big_number}
use Rattle.m68_ea.specs.Words.{words_at}
use Rattle.m68_core.proofs.Fetching.{rest-is}
use Rattle.m68_core.proofs.fetch.plain_word.Goals as goal

pub returns-clause-first : goal.returns-clause-first
returns-clause-first c =
    let pc = c.args.pc in
    let m = c.args.ram.now in
    let laws = c.word_laws.ensures in
    let five : 5 ≤ length (words_at m pc) = laws.five pc m c.meets_invariant.ensures.most c.requires in
    let is : c.from.result ≡ big_number 2 (drop c.args.pc c.args.ram.now.bytes) =
    c.from.ensures ∙ (c.read_u16.ensures ∙ (ap (big_number 2) (rest-is c.args.pc c.bytes.result.now) ∙ ap (λ xs. big_number 2 (drop c.args.pc xs)) c.bytes.ensures.is)) in
    (omega arith, is ∙ sym (laws.first pc m c.meets_invariant.ensures.most c.requires))

pub returns-clause-there : goal.returns-clause-there
returns-clause-there c = inl (c.word_laws.ensures.five c.args.pc c.args.ram.now c.meets_invariant.ensures.most c.requires)
