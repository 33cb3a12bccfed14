-- The texts of the word and of its key are those of the sentence.
use Rattle.std.proofs.Common.{refl}
use Rattle.look_words.proofs.sentence.refused.Goals as goal

pub returns-in-Command : goal.returns-in-Command
returns-in-Command c = rw (c.in-Command.is, c.word_at.ensures) refl

pub returns-in-Unknown : goal.returns-in-Unknown
returns-in-Unknown c = rw (c.in-Unknown.is, c.word_at-in-Unknown.ensures) refl

pub returns-in-Twice : goal.returns-in-Twice
returns-in-Twice c = rw (c.in-Twice.is, c.word_at-in-Twice.ensures) refl

pub returns-in-Value : goal.returns-in-Value
returns-in-Value c = rw (c.in-Value.is, c.word_at-in-Value.ensures, c.key_wants.ensures) refl

pub returns-in-Missing : goal.returns-in-Missing
returns-in-Missing c = rw (c.in-Missing.is, c.text.ensures, c.key_wants-in-Missing.ensures) refl
