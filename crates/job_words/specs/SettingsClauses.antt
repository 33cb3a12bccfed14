-- Single settings by name.
use Rattle.std.specs.Prelude.{ℕ}
use Rattle.job_words.specs.declared.job.Key.{Key}
use Rattle.job_words.specs.declared.setting.Name.{Name}
use Rattle.job_words.specs.declared.setting.Name.TheVariants.{File}
use Rattle.job_words.specs.declared.setting.Setting.{Setting}
use Rattle.job_words.specs.declared.setting.Value.TheVariants.{Named, Number}
use Rattle.job_words.specs.Settings.{setting}

abbrev pub named : Name → Setting
named name = setting name Named

abbrev pub file : Key → Setting
file key = named (File key)

abbrev pub numbered : Name → ℕ → Setting
numbered name n = setting name (Number n)
