use Rattle.std.proofs.Common.{◌≡◌, ◌+◌, ◌-◌, take, drop, Ok, Some, arith, ap, sym, ◌∙◌}
use Rattle.mix_image.specs.Spelling.{is_blank}
use Rattle.mix_image.proofs.Pagings.{full-blank, full-some}
use Rattle.mix_image.proofs.memory.read_full_page.Goals as goal

pub returns-then-is_blank-clause-exact : goal.returns-then-is_blank-clause-exact
returns-then-is_blank-clause-exact c =
    let size : c.args.at + 1 + 1024 - (c.args.at + 1) ≡ 1024 = omega arith in
    full-blank c.args.bytes.now c.args.at c.args.k (omega arith) (ap (λ n. is_blank (take n (drop (c.args.at + 1) c.args.bytes.now))) (sym size) ∙ sym c.is_blank.ensures ∙ c.if-is_blank.true)

pub returns-else-is_blank-clause-exact : goal.returns-else-is_blank-clause-exact
returns-else-is_blank-clause-exact c =
    let size : c.args.at + 1 + 1024 - (c.args.at + 1) ≡ 1024 = omega arith in
    full-some c.args.bytes.now c.args.at c.args.k (omega arith) (ap (λ n. is_blank (take n (drop (c.args.at + 1) c.args.bytes.now))) (sym size) ∙ sym c.is_blank.ensures ∙ c.if-is_blank.false)
    ∙ ap (λ n. Ok (Some (take n (drop (c.args.at + 1) c.args.bytes.now)))) (sym size)
