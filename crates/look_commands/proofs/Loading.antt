-- A program that was not had is told by its status.
use Rattle.std.proofs.Common.{◌≡◌, ℕ, List, Option, inl, inr, Bool, true, false}
use Rattle.std.specs.Prelude.{Result, Ok}
use Rattle.job_words.specs.declared.job.BadWord.{BadWord}
use Rattle.job_words.specs.declared.job.Command.{Command}
use Rattle.job_words.specs.declared.job.Command.TheVariants.{Run}
use Rattle.look_words.specs.Requests.{IsUnmet, is_run}
use Rattle.look_gdb.specs.declared.start.Settings.{Settings}
use Rattle.look_commands.specs.Served.{ServesRun}
use Rattle.look_commands.specs.Told.{Loads, WritesMap}

pub unmapped : (words : Result Command BadWord) (old new : Option (List ℕ)) (status : ℕ) → IsUnmet (is_run words) status → new ≡ old → WritesMap words old new status
unmapped (Ok (Run job)) old new status lost same = inr (lost, same)
unmapped words old new status lost same = (lost, same)

pub unloaded : (asked : Bool) (old new : Option (List ℕ)) (status : ℕ) → IsUnmet asked status → new ≡ old → Loads asked old new status
unloaded true old new status (inl lost) same = λ is. cc
unloaded true old new status (inr (inl lost)) same = λ is. cc
unloaded true old new status (inr (inr lost)) same = λ is. cc
unloaded false old new status lost same = (lost, same)

pub unserved : (words : Result Command BadWord) (has_input : Bool) (settings : Settings) (left old new : Option (List ℕ)) (status : ℕ) → IsUnmet (is_run words) status → new ≡ old
    → ServesRun words has_input settings left old new status
unserved (Ok (Run job)) has_input settings left old new status lost same = inr (lost, same)
unserved words has_input settings left old new status lost same = (lost, same)
