use Rattle.pef_reloc.proofs.Last.{is_repeat_work_last, is_work_last}
use Rattle.pef_reloc.proofs.Spans.{is_filled_span}
use Rattle.pef_reloc.proofs.Work.{is_beyond_limit, is_within_limit}
use Rattle.pef_reloc.proofs.laws.work_laws.Goals as goal

pub returns : goal.returns
returns c =
    record {
      within = is_within_limit;
      beyond = is_beyond_limit;
      last = is_work_last;
      repeat = is_repeat_work_last;
      span = is_filled_span;
    }
