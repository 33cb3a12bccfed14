use Rattle.args_ppc.proofs.Apart.{parameters_are_words, words_are_apart, words_are_in_the_frame, words_are_there}
use Rattle.args_ppc.proofs.laws.place_ppc_laws.Goals as goal

pub returns-clause-read : goal.returns-clause-read
returns-clause-read c = words_are_there

pub returns-clause-parameters : goal.returns-clause-parameters
returns-clause-parameters c = parameters_are_words

pub returns-clause-apart : goal.returns-clause-apart
returns-clause-apart c = words_are_apart

pub returns-clause-frame : goal.returns-clause-frame
returns-clause-frame c = words_are_in_the_frame
