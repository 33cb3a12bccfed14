-- The line has the parameter's number, its size, and its place by the route of its convention.
use Rattle.look_text.specs.Info.{param_line}
use Rattle.look_text.proofs.info.add_param.Goals as goal

pub returns : goal.returns
unfolding param_line
returns c = rw (c.from.ensures, c.size_name.ensures, c.first_word.ensures.word, c.place_for.ensures.place, c.route.ensures) at c.add_line.ensures
