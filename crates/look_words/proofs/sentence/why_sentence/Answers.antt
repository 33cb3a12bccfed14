-- Each sentence is about the words and texts that its reason names.
use Rattle.look_words.proofs.sentence.why_sentence.Goals as goal

pub returns-in-Missing : goal.returns-in-Missing
returns-in-Missing c = rw c.in-Missing.is c.missing_sentence.ensures

pub returns-in-Command : goal.returns-in-Command
returns-in-Command c = rw c.in-Command.is c.word_sentence.ensures

pub returns-in-Keyless : goal.returns-in-Keyless
returns-in-Keyless c = rw c.in-Keyless.is c.key_sentence.ensures

pub returns-in-Key : goal.returns-in-Key
returns-in-Key c = rw c.in-Key.is (rw c.text.ensures at c.key_sentence-in-Key.ensures)

pub returns-in-Value : goal.returns-in-Value
returns-in-Value c = rw c.in-Value.is (rw (c.text-in-Value.ensures, c.wants.ensures.text) at c.key_sentence-in-Value.ensures)

pub returns-in-Again : goal.returns-in-Again
returns-in-Again c = rw c.in-Again.is (rw c.before-in-Again.ensures at c.key_sentence-in-Again.ensures)
