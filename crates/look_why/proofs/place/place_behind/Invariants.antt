-- What the rest of the lines leads to, all of them lead to.
use Rattle.look_why.proofs.Places.{Reached}
use Rattle.look_why.proofs.place.place_behind.Given as goal

abbrev pub invariant-lines : goal.invariant-lines
invariant-lines l = Reached l.set l.lines l.text l.at l.left l.rest l.next

abbrev pub decreases-lines : goal.decreases-lines
decreases-lines l = l.left
