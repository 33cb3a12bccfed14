use Rattle.std.proofs.Common.{arith, take}
use Rattle.asm_m68.proofs.TakenBack.{are_words, taken_back}
use Rattle.m68_isa.specs.Decode.{decoded}
use Rattle.asm_m68.specs.laws.Assembly.{count_of}
use Rattle.asm_m68.proofs.assembler.reassembled68.Goals as goal

pub returns : goal.returns
returns c =
    (c.assemble68.ensures.words (take (count_of (decoded c.args.words.now)) c.args.words.now)).1
    (taken_back c.args.words.now c.args.at c.decode68.result c.text68.new.line c.bytes.result.now
    (are_words c.args.words.now (λ k. omega (arith, c.type_inv.words k))) c.decode68.ensures.value c.text68.ensures.text c.bytes.ensures c.requires)
