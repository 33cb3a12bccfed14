use Rattle.std.proofs.Common.{◌≡◌, length, sym, ap, ◌∙◌}
use Rattle.m68_isa.specs.First.{first_of}
use Rattle.m68_isa.specs.Made.{made}
use Rattle.m68_isa.specs.Decode.{ended}
use Rattle.m68_isa.specs.Operations.{read}
use Rattle.m68_isa.proofs.Whole.{read_other}
use Rattle.m68_isa.proofs.decode.read.Goals as goal

pub returns-in_default : goal.returns-in_default
returns-in_default c =
    let other : read c.args.op (first_of c.args.word) c.args.words.now ≡ ended (made c.args.op (first_of c.args.word) c.args.words.now) (length c.args.words.now) = read_other _ _ _ c.in_default.not-LineA c.in_default.not-LineF in
    record {
      value = c.ended.ensures.value ∙ ap (λ found. ended found (length c.args.words.now)) c.made.ensures.value ∙ sym other;
      fields = c.ended.ensures.fields;
      words = c.ended.ensures.words;
      extended = c.ended.ensures.extended;
    }
