use Rattle.ppc_text.proofs.Apart.{names_apart}
use Rattle.ppc_text.proofs.Decimals.{text_negative, text_positive}
use Rattle.ppc_text.proofs.NameLists.{all_names, names_listed}
use Rattle.ppc_text.proofs.laws.text_laws.Goals as goal

pub returns : goal.returns
returns c = record { count = all_names; distinct = names_apart; names = names_listed; positive = text_positive; negative = text_negative }
