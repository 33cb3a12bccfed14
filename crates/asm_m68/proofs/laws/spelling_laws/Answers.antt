use Rattle.asm_m68.proofs.Spelled.{texts_spell, words_spell}
use Rattle.asm_m68.proofs.laws.spelling_laws.Goals as goal

pub returns-clause-instructions : goal.returns-clause-instructions
returns-clause-instructions c = texts_spell

pub returns-clause-words : goal.returns-clause-words
returns-clause-words c = words_spell
