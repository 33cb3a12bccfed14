use Rattle.switch_frame.proofs.Marked.{fits_is_range, mark_at, marks_kept, marks_same, range_moves, top_tells}
use Rattle.switch_frame.proofs.laws.range_laws.Goals as goal

pub returns-clause-top : goal.returns-clause-top
returns-clause-top c = top_tells

pub returns-clause-range : goal.returns-clause-range
returns-clause-range c = fits_is_range

pub returns-clause-mark : goal.returns-clause-mark
returns-clause-mark c = mark_at

pub returns-clause-marks_kept : goal.returns-clause-marks_kept
returns-clause-marks_kept c = marks_kept

pub returns-clause-marks_same : goal.returns-clause-marks_same
returns-clause-marks_same c = marks_same

pub returns-clause-moves : goal.returns-clause-moves
returns-clause-moves c = range_moves
