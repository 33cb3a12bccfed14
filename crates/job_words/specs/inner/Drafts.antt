-- How many settings a draft has.
use Rattle.std.specs.Prelude.{ℕ, is_some, count_by}
use Rattle.job_words.specs.declared.draft.Draft.{Draft}

-- how many settings there are, each of which had a word of its own
abbrev pub settings_in : Draft → ℕ
settings_in draft = count_by is_some draft.slots
