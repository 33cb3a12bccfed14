-- The container stands where the CODEs end.
use Rattle.look_text.proofs.Lines.{three}
use Rattle.look_text.proofs.listing.add_files.Goals as goal

pub returns : goal.returns
returns c =
    three _ _ _ _ _ _ _ _ c.in_ok-add_flat.ensures c.in_ok-end.ensures.text
    (rw c.in_ok-end.ensures.end at c.add_container.ensures)
