-- The words are no command.
use Rattle.std.proofs.Common.{◌∙◌, refl, sym}
use Rattle.mix_top.proofs.Ways.{ends-of_words}
use Rattle.mix_top.proofs.top.mixed_main_counted.Goals as goal

pub returns-in-Err : goal.returns-in-Err
returns-in-Err g c = ends-of_words _ _ _ c.in-Err.bad.place _ _ _ c.without_steps.ensures.status c.without_steps.ensures.steps (sym c.in-Err.ensures.value) (c.bytes.ensures ∙ c.words_text.ensures) refl refl refl c.close.ensures
