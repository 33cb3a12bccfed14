use Rattle.std.proofs.Common.{slice_range}
use Rattle.pef_head.specs.inner.Names.{is_zero}
use Rattle.pef_head.proofs.Cuts.{cut_none, cut_some}
use Rattle.pef_head.proofs.names.name_within.Goals as goal

pub returns-in-Some : goal.returns-in-Some
returns-in-Some c =
    cut_some is_zero c.args.most c.min.result c.in-Some.len c.first_zero.result (slice_range c.args.bytes.now c.args.from c.args.l.end) c.min.ensures c.first_zero.ensures c.in-Some.is

pub returns-in-None : goal.returns-in-None
returns-in-None c =
    cut_none is_zero c.args.most c.min.result c.first_zero.result (slice_range c.args.bytes.now c.args.from c.args.l.end) c.min.ensures c.first_zero.ensures c.in-None.is
