use Rattle.std.proofs.Common.{ap, sym, ◌∙◌}
use Rattle.ppc_isa.specs.declared.op.OpPpc.{OpPpc}
use Rattle.ppc_isa.specs.Fields.{fields_of}
use Rattle.ppc_isa.specs.Made.{made}
use Rattle.mix_reach.specs.laws.Ranges.{plain}
use Rattle.mix_reach.specs.laws.Steps.{word_decoded}
use Rattle.mix_reach.proofs.QuickPpc.{none_told, others_keep}
use Rattle.mix_reach.proofs.ppc.stores.Goals as goal

pub returns-in-Stw : goal.returns-in-Stw
returns-in-Stw c =
    ap (word_decoded c.args.regs.now) (c.op_of.ensures.makes ∙ ap (λ (o : OpPpc). made o (fields_of c.args.word)) c.in-Stw.is) ∙ ap plain (sym c.at_offset.ensures)

pub returns-in-Stwu : goal.returns-in-Stwu
returns-in-Stwu c =
    ap (word_decoded c.args.regs.now) (c.op_of.ensures.makes ∙ ap (λ (o : OpPpc). made o (fields_of c.args.word)) c.in-Stwu.is) ∙ ap plain (sym c.at_offset-in-Stwu.ensures)

pub returns-in-Stb : goal.returns-in-Stb
returns-in-Stb c =
    ap (word_decoded c.args.regs.now) (c.op_of.ensures.makes ∙ ap (λ (o : OpPpc). made o (fields_of c.args.word)) c.in-Stb.is) ∙ ap plain (sym c.at_offset-in-Stb.ensures)

pub returns-in-Stbu : goal.returns-in-Stbu
returns-in-Stbu c =
    ap (word_decoded c.args.regs.now) (c.op_of.ensures.makes ∙ ap (λ (o : OpPpc). made o (fields_of c.args.word)) c.in-Stbu.is) ∙ ap plain (sym c.at_offset-in-Stbu.ensures)

pub returns-in-Sth : goal.returns-in-Sth
returns-in-Sth c =
    ap (word_decoded c.args.regs.now) (c.op_of.ensures.makes ∙ ap (λ (o : OpPpc). made o (fields_of c.args.word)) c.in-Sth.is) ∙ ap plain (sym c.at_offset-in-Sth.ensures)

pub returns-in-Sthu : goal.returns-in-Sthu
returns-in-Sthu c =
    ap (word_decoded c.args.regs.now) (c.op_of.ensures.makes ∙ ap (λ (o : OpPpc). made o (fields_of c.args.word)) c.in-Sthu.is) ∙ ap plain (sym c.at_offset-in-Sthu.ensures)

pub returns-in-Stwx : goal.returns-in-Stwx
returns-in-Stwx c =
    ap (word_decoded c.args.regs.now) (c.op_of.ensures.makes ∙ ap (λ (o : OpPpc). made o (fields_of c.args.word)) c.in-Stwx.is) ∙ ap plain (sym c.at_index.ensures)

pub returns-in-Stwux : goal.returns-in-Stwux
returns-in-Stwux c =
    ap (word_decoded c.args.regs.now) (c.op_of.ensures.makes ∙ ap (λ (o : OpPpc). made o (fields_of c.args.word)) c.in-Stwux.is) ∙ ap plain (sym c.at_index-in-Stwux.ensures)

pub returns-in-Stbx : goal.returns-in-Stbx
returns-in-Stbx c =
    ap (word_decoded c.args.regs.now) (c.op_of.ensures.makes ∙ ap (λ (o : OpPpc). made o (fields_of c.args.word)) c.in-Stbx.is) ∙ ap plain (sym c.at_index-in-Stbx.ensures)

pub returns-in-Stbux : goal.returns-in-Stbux
returns-in-Stbux c =
    ap (word_decoded c.args.regs.now) (c.op_of.ensures.makes ∙ ap (λ (o : OpPpc). made o (fields_of c.args.word)) c.in-Stbux.is) ∙ ap plain (sym c.at_index-in-Stbux.ensures)

pub returns-in-Sthx : goal.returns-in-Sthx
returns-in-Sthx c =
    ap (word_decoded c.args.regs.now) (c.op_of.ensures.makes ∙ ap (λ (o : OpPpc). made o (fields_of c.args.word)) c.in-Sthx.is) ∙ ap plain (sym c.at_index-in-Sthx.ensures)

pub returns-in-Sthux : goal.returns-in-Sthux
returns-in-Sthux c =
    ap (word_decoded c.args.regs.now) (c.op_of.ensures.makes ∙ ap (λ (o : OpPpc). made o (fields_of c.args.word)) c.in-Sthux.is) ∙ ap plain (sym c.at_index-in-Sthux.ensures)

pub returns-in-Stwbrx : goal.returns-in-Stwbrx
returns-in-Stwbrx c =
    ap (word_decoded c.args.regs.now) (c.op_of.ensures.makes ∙ ap (λ (o : OpPpc). made o (fields_of c.args.word)) c.in-Stwbrx.is) ∙ ap plain (sym c.at_index-in-Stwbrx.ensures)

pub returns-in-Sthbrx : goal.returns-in-Sthbrx
returns-in-Sthbrx c =
    ap (word_decoded c.args.regs.now) (c.op_of.ensures.makes ∙ ap (λ (o : OpPpc). made o (fields_of c.args.word)) c.in-Sthbrx.is) ∙ ap plain (sym c.at_index-in-Sthbrx.ensures)

-- no other operation stores
pub returns-in_default : goal.returns-in_default
returns-in_default c =
    ap (word_decoded c.args.regs.now) c.op_of.ensures.makes
    ∙ none_told c.op_of.result c.args.regs.now (fields_of c.args.word)
    (others_keep c.op_of.result c.in_default.not-Stw c.in_default.not-Stwu c.in_default.not-Stb c.in_default.not-Stbu c.in_default.not-Sth c.in_default.not-Sthu c.in_default.not-Stmw c.in_default.not-Stwx c.in_default.not-Stwux c.in_default.not-Stbx c.in_default.not-Stbux c.in_default.not-Sthx c.in_default.not-Sthux c.in_default.not-Stwbrx c.in_default.not-Sthbrx c.in_default.not-Stswi c.in_default.not-Stswx)
