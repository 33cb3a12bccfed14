-- That an instruction which is one too many is refused for that last of all.
use Rattle.std.proofs.Common.{◌≡◌, ℕ, ◌+◌, ◌%◌, ◌^◌, nat_lt, Bool, true, false, if◌then◌else◌, length, Some, Result, Ok, Err, refl}
use Rattle.mix_bits.specs.Results.{◌>>=◌}
use Rattle.pef_reloc.specs.declared.error.RelocError.{RelocError}
use Rattle.pef_reloc.specs.declared.error.RelocError.TheVariants.{OutsideSection, RepeatFront, Work}
use Rattle.pef_reloc.specs.declared.section.Source.{Source}
use Rattle.pef_reloc.specs.declared.section.Source.TheVariants.{FromC, FromD, FromImport, FromSection}
use Rattle.pef_reloc.specs.Additions.{Add, Skip, Place, Import, SetC, SetD, State, Refused, allowed, counted, finished, given, refused, added}
use Rattle.pef_reloc.specs.inner.Additions.{base_of, import_at}
use Rattle.pef_reloc.specs.Program.{run_times}
use Rattle.pef_reloc.specs.ProgramClauses.{can_repeat, span_at}
use Rattle.pef_reloc.specs.laws.Laws.{IsRepeatWorkLast, IsWorkLast, else_work, refusal_of, when_over, without_work}

-- an addition, whose long may leave the section
abbrev adds : Bool → Source → Result ℕ RelocError → State → Result State Refused
adds leaves source r s = if leaves then refused (OutsideSection (s.cursor.position % 2 ^ 32)) s else given (allowed s.cursor r) s (added source s)

adds_last : (leaves : Bool) (source : Source) (r : Result ℕ RelocError) (s : State)
    → refusal_of (adds leaves source r (when_over true s)) ≡ else_work (refusal_of (adds leaves source r (when_over false s))) true
adds_last true source r s = refl
adds_last false source (Ok value) s = refl
adds_last false source (Err e) s = refl

-- a base that is set
sets_last : (r : Result ℕ RelocError) (s : State) (next rest : ℕ → State)
    → refusal_of (given (allowed (when_over true s).cursor r) (when_over true s) next) ≡ else_work (refusal_of (given (allowed (when_over false s).cursor r) (when_over false s) rest)) true
sets_last (Ok value) s next rest = refl
sets_last (Err e) s next rest = refl

pub is_work_last : IsWorkLast
is_work_last sources (Add FromC) s = adds_last (nat_lt (length s.section) (s.cursor.position + 4)) FromC (Ok s.cursor.c) s
is_work_last sources (Add FromD) s = adds_last (nat_lt (length s.section) (s.cursor.position + 4)) FromD (Ok s.cursor.d) s
is_work_last sources (Add FromImport) s = adds_last (nat_lt (length s.section) (s.cursor.position + 4)) FromImport (import_at sources s.cursor.index) s
is_work_last sources (Add (FromSection n)) s = adds_last (nat_lt (length s.section) (s.cursor.position + 4)) (FromSection n) (base_of sources n) s
is_work_last sources (Skip n) s = refl
is_work_last sources (Place n) s = refl
is_work_last sources (Import n) s = refl
is_work_last sources (SetC n) s =
    sets_last (base_of sources n) s
    (λ base. record s { cursor = record s.cursor { over = true; c = base } }) (λ base. record s { cursor = record s.cursor { over = false; c = base } })
is_work_last sources (SetD n) s =
    sets_last (base_of sources n) s
    (λ base. record s { cursor = record s.cursor { over = true; d = base } }) (λ base. record s { cursor = record s.cursor { over = false; d = base } })

-- a repeat, which may go back or not
repeat_last : (back : Bool) (place : ℕ) (s : State) (next : State → Result State Refused)
    → refusal_of (if back then (finished (counted (without_work s)) >>= next) else refused (RepeatFront place) (without_work s)) ≡ Some (if back then Work else RepeatFront place)
repeat_last true place s next = refl
repeat_last false place s next = refl

pub is_repeat_work_last : IsRepeatWorkLast
is_repeat_work_last sources words place count further s = repeat_last (can_repeat words place count) place s (run_times sources (span_at words place count) further)
