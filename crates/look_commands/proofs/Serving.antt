-- gdb is served with a program that was loaded, or there was no memory to begin.
use Rattle.std.proofs.Common.{◌≡◌, ◌∙◌, ℕ, List, [], Option, inr, refl, subst, sym}
use Rattle.std.specs.Prelude.{◌==◌, if◌then◌else◌, Some, None, Result, Ok, Err}
use Rattle.std.specs.Io.Buffered.{reader_buffer, reader_capacity, reader_inner, reader_remaining}
use Rattle.std.specs.Io.KnownBytes.{prepend_known}
use Rattle.std.specs.declared.io.buffered.BufReader.{BufReader}
use Rattle.switch_frame.specs.declared.program.Program.{Program}
use Rattle.mix_load.specs.declared.error.LoadError.{LoadError}
use Rattle.mix_load.specs.declared.files.Files.{Files}
use Rattle.job_words.specs.declared.job.Job.{Job}
use Rattle.look_gdb.specs.declared.start.Settings.{Settings}
use Rattle.look_commands.specs.Gdb.{ServesFiles, ServesLoaded, ServesProgram, Wire}
use Rattle.look_commands.specs.Gdb.ServesProgram.{no_memory}
use Rattle.look_commands.specs.GdbClauses.{wire}
use Rattle.look_commands.specs.Served.{ServesOver}

pub loaded : (found : Result Program LoadError) (program : Program) (input : List ℕ) (settings : Settings) (before after : Wire) (status : ℕ) → found ≡ Ok program
    → ServesProgram program input settings before after status → ServesLoaded found input settings before after status
loaded found program input settings before after status is serves = subst (λ f. ServesLoaded f input settings before after status) (sym is) serves

unbegun_of : (found : Result Program LoadError) (input : List ℕ) (settings : Settings) (before : Wire) → ServesLoaded found input settings before before 9
unbegun_of (Ok program) input settings before = no_memory refl refl
unbegun_of (Err error) input settings before = (inr refl, refl)

pub unbegun : (files : Files) (job : Job) (input : List ℕ) (settings : Settings) (before : Wire) → ServesOver files job input settings before 9
unbegun files job input settings before = record { after = before; serves = unbegun_of _ input settings before }

prepended : (known : Option (List ℕ)) → prepend_known [] known ≡ known
prepended None = refl
prepended (Some bytes) = refl

unread_of : (known behind : Option (List ℕ)) (bytes : List ℕ) (capacity : ℕ) → capacity ≡ 8192 → bytes ≡ [] → known ≡ behind
    → (if capacity == 0 then None else prepend_known bytes known) ≡ behind
unread_of known behind bytes capacity room empty same = rw room (rw empty (prepended known ∙ same))

-- what a reader behind an empty buffer has left is all that is left
pub unread : {T A : Type 0} (remaining : T → Option (List ℕ)) (reader : BufReader T A) (behind : T) → reader_inner reader ≡ behind → reader_buffer reader ≡ [] → reader_capacity reader ≡ 8192
    → reader_remaining remaining reader ≡ remaining behind
unread remaining reader behind inner empty capacity =
    let same : remaining reader.inner ≡ remaining behind = rw inner refl in unread_of _ _ _ _ capacity empty same

told : (left held told_left told_held : Option (List ℕ)) (faults out_faults : ℕ) → told_left ≡ left → faults ≡ 0 → told_held ≡ held → out_faults ≡ 0
    → wire told_left faults told_held out_faults ≡ wire left 0 held 0
told left held told_left told_held faults out_faults is calm out_is out_calm = rw is (rw calm (rw out_is (rw out_calm refl)))

pub over : (files : Files) (job : Job) (input : List ℕ) (settings : Settings) (left held told_left told_held : Option (List ℕ)) (faults out_faults : ℕ) (after : Wire) (status : ℕ)
    → told_left ≡ left → faults ≡ 0 → told_held ≡ held → out_faults ≡ 0
    → ServesFiles files job input settings (wire told_left faults told_held out_faults) after status → ServesOver files job input settings (wire left 0 held 0) status
over files job input settings left held told_left told_held faults out_faults after status is calm out_is out_calm serves =
    record { after = after; serves = subst (λ w. ServesFiles files job input settings w after status) (told _ _ _ _ _ _ is calm out_is out_calm) serves }
