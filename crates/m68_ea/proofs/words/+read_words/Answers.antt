use Rattle.std.proofs.Common.{◌+◌, ◌-◌, ◌<◌, drop, take, length, ap, sym, ◌∙◌}
use Rattle.m68_ea.specs.Words.{words_from}
use Rattle.m68_ea.proofs.Reading.{some_of, tail_length, put_rest, rest_kept, words_more}
use Rattle.m68_ea.proofs.words.+read_words.Goals as goal

pub returns-in-Ok-clause-words : goal.returns-in-Ok-clause-words
returns-in-Ok-clause-words t c =
    let some : 0 < length c.args.words.now = some_of c.args.words.now c.is_empty.result c.is_empty.ensures c.if-is_empty.false in
    ap (take (1 + c.read_words.result)) (put_rest c.in-Ok.word c.args.words.now c.read_words.new.words some)
    ∙ words_more c.args.ram.now c.args.a c.in-Ok.word (length c.args.words.now) c.read_words.result c.read_words.new.words some (sym c.in-Ok.is ∙ c.load_word.ensures.is)
    (c.read_words.ensures.words
    ∙ (ap (λ n. words_from n c.args.ram.now c.onward.result) (tail_length c.in-Ok.word c.args.words.now some)
    ∙ ap (λ b. words_from (length c.args.words.now - 1) c.args.ram.now b) c.onward.ensures))

pub returns-in-Ok-clause-rest : goal.returns-in-Ok-clause-rest
returns-in-Ok-clause-rest t c =
    let some : 0 < length c.args.words.now = some_of c.args.words.now c.is_empty.result c.is_empty.ensures c.if-is_empty.false in
    ap (drop (1 + c.read_words.result)) (put_rest c.in-Ok.word c.args.words.now c.read_words.new.words some)
    ∙ rest_kept c.in-Ok.word c.read_words.result c.args.words.now c.read_words.new.words some c.read_words.ensures.rest
