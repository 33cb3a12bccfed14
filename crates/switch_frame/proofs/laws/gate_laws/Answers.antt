use Rattle.switch_frame.proofs.Gates.{length-blank, longs_are_page, page_by_bytes, page_has_longs}
use Rattle.switch_frame.proofs.laws.gate_laws.Goals as goal

pub returns-clause-longs : goal.returns-clause-longs
returns-clause-longs c = page_has_longs

pub returns-clause-bytes : goal.returns-clause-bytes
returns-clause-bytes c = page_by_bytes

pub returns-clause-page : goal.returns-clause-page
returns-clause-page c = longs_are_page

pub returns-clause-blank : goal.returns-clause-blank
returns-clause-blank c = length-blank
