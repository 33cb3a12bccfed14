-- The number's digits are at most five.
use Rattle.ppc_text.proofs.Decimals.{appended_short, appended_whole}
use Rattle.ppc_text.proofs.append.add_number.Goals as goal

pub returns-clause-text : goal.returns-clause-text
returns-clause-text c =
    let appended = rw c.from.ensures at c.dec-fits.ensures in
    appended_whole _ _ _ c.args.number c.dec-fits.result c.ranges.number.fits c.requires appended

pub returns-clause-grows : goal.returns-clause-grows
returns-clause-grows c =
    let appended = rw c.from.ensures at c.dec-fits.ensures in
    appended_short _ _ _ c.args.number c.dec-fits.result c.ranges.number.fits appended
