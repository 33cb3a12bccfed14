-- The text is none of the keys before.
use Rattle.std.proofs.Common.{◌≡◌, drop}
use Rattle.job_words.specs.Settings.{name_in}
use Rattle.job_words.proofs.setting.find.Given as goal

abbrev pub invariant-loop-name : goal.invariant-loop-name
invariant-loop-name l = name_in (drop l.name-index l.names) l.key ≡ name_in l.names l.key
