use Rattle.std.proofs.Common.{◌∙◌, ap, sym, refl}
use Rattle.big_memory.specs.Memory.{Memory}
use Rattle.m68_isa.specs.Decode.{decoded}
use Rattle.mix_reach.proofs.Words68.{last-word, next-word, no-word}
use Rattle.mix_reach.proofs.m68.decode_at.Goals as goal

pub returns-in_default-clause-value : goal.returns-in_default-clause-value
returns-in_default-clause-value c =
    let m : Memory = c.args.ram.now in
    c.decode68.ensures.value ∙ sym (ap decoded (last-word 4 m c.args.pc c.in_default.field-0 c.in_default.ensures.is))

pub returns-in_default-load_word-clause-value : goal.returns-in_default-load_word-clause-value
returns-in_default-load_word-clause-value c =
    let m : Memory = c.args.ram.now in
    c.decode68-in_default-load_word.ensures.value ∙ sym (ap decoded (next-word 4 m c.args.pc c.onward-second_at.result c.in-Ok.first _ c.in-Ok.ensures.is c.onward-second_at.ensures (last-word 3 m c.onward-second_at.result c.in_default-load_word.field-0 c.in_default-load_word.ensures.is)))

pub returns-in_default-load_word-2-clause-value : goal.returns-in_default-load_word-2-clause-value
returns-in_default-load_word-2-clause-value c =
    let m : Memory = c.args.ram.now in
    c.decode68-in_default-load_word-2.ensures.value ∙ sym (ap decoded (next-word 4 m c.args.pc c.onward-second_at.result c.in-Ok.first _ c.in-Ok.ensures.is c.onward-second_at.ensures (next-word 3 m c.onward-second_at.result c.onward-third_at.result c.in-Ok-load_word.second _ c.in-Ok-load_word.ensures.is c.onward-third_at.ensures (last-word 2 m c.onward-third_at.result c.in_default-load_word-2.field-0 c.in_default-load_word-2.ensures.is))))

pub returns-in_default-load_word-3-clause-value : goal.returns-in_default-load_word-3-clause-value
returns-in_default-load_word-3-clause-value c =
    let m : Memory = c.args.ram.now in
    c.decode68-in_default-load_word-3.ensures.value ∙ sym (ap decoded (next-word 4 m c.args.pc c.onward-second_at.result c.in-Ok.first _ c.in-Ok.ensures.is c.onward-second_at.ensures (next-word 3 m c.onward-second_at.result c.onward-third_at.result c.in-Ok-load_word.second _ c.in-Ok-load_word.ensures.is c.onward-third_at.ensures (next-word 2 m c.onward-third_at.result c.onward-fourth_at.result c.in-Ok-load_word-2.third _ c.in-Ok-load_word-2.ensures.is c.onward-fourth_at.ensures (last-word 1 m c.onward-fourth_at.result c.in_default-load_word-3.field-0 c.in_default-load_word-3.ensures.is)))))

pub returns-in_default-load_word-4-clause-value : goal.returns-in_default-load_word-4-clause-value
returns-in_default-load_word-4-clause-value c =
    let m : Memory = c.args.ram.now in
    c.decode68-in_default-load_word-4.ensures.value ∙ sym (ap decoded (next-word 4 m c.args.pc c.onward-second_at.result c.in-Ok.first _ c.in-Ok.ensures.is c.onward-second_at.ensures (next-word 3 m c.onward-second_at.result c.onward-third_at.result c.in-Ok-load_word.second _ c.in-Ok-load_word.ensures.is c.onward-third_at.ensures (next-word 2 m c.onward-third_at.result c.onward-fourth_at.result c.in-Ok-load_word-2.third _ c.in-Ok-load_word-2.ensures.is c.onward-fourth_at.ensures (next-word 1 m c.onward-fourth_at.result c.onward-fifth_at.result c.in-Ok-load_word-3.fourth _ c.in-Ok-load_word-3.ensures.is c.onward-fifth_at.ensures (last-word 0 m c.onward-fifth_at.result c.in_default-load_word-4.field-0 c.in_default-load_word-4.ensures.is))))))

pub returns-clause-value : goal.returns-clause-value
returns-clause-value c =
    let m : Memory = c.args.ram.now in
    c.decode68-2.ensures.value ∙ sym (ap decoded (next-word 4 m c.args.pc c.onward-second_at.result c.in-Ok.first _ c.in-Ok.ensures.is c.onward-second_at.ensures (next-word 3 m c.onward-second_at.result c.onward-third_at.result c.in-Ok-load_word.second _ c.in-Ok-load_word.ensures.is c.onward-third_at.ensures (next-word 2 m c.onward-third_at.result c.onward-fourth_at.result c.in-Ok-load_word-2.third _ c.in-Ok-load_word-2.ensures.is c.onward-fourth_at.ensures (next-word 1 m c.onward-fourth_at.result c.onward-fifth_at.result c.in-Ok-load_word-3.fourth _ c.in-Ok-load_word-3.ensures.is c.onward-fifth_at.ensures (next-word 0 m c.onward-fifth_at.result _ c.in-Ok-load_word-4.fifth _ c.in-Ok-load_word-4.ensures.is refl (no-word m _)))))))
