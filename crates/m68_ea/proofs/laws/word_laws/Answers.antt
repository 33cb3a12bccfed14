use Rattle.m68_ea.proofs.Fetch.{five_words, first_of_five}
use Rattle.m68_ea.proofs.laws.word_laws.Goals as goal

pub returns : goal.returns
returns c = record { five = five_words; first = first_of_five }
