-- How the end of a walk is told. An exit is told in front of it first, so that one can go back from there; whoever goes on there is told the exit, and its process is gone.
-- Source: GDB manual, appendix 'GDB Remote Serial Protocol', section 'Stop Reply Packets'.
use Rattle.std.specs.Prelude.{ℕ, Bool, true, false}
use Rattle.mix_bits.specs.declared.isa.Isa.{Isa}
use Rattle.gdb_answers.specs.declared.answer.Answer.{Answer}
use Rattle.gdb_answers.specs.declared.stops.Reason.{Reason}
use Rattle.gdb_answers.specs.declared.stops.Reason.TheVariants.{Ends}
use Rattle.gdb_talk.specs.declared.talk.Talk.{Talk}
use Rattle.gdb_talk.specs.Deeds.{exit_answer, stop_answer}
use Rattle.gdb_talk.specs.Talks.{exited, stopped}
use Rattle.gdb_session.specs.declared.target.Halt.{Halt}
use Rattle.gdb_session.specs.declared.target.Halt.TheVariants.{Stopped, Exit}

abbrev pub is_end : Reason → Bool
is_end Ends = true
is_end _ = false

abbrev pub end_answer : Isa → Talk → ℕ → Bool → Answer
end_answer active t code true = exit_answer active t code
end_answer active t code false = stop_answer active t Ends

-- what is answered where a walk ended, while code of a set is active
abbrev pub halt_answer : Isa → Talk → Halt → Answer
halt_answer active t (Stopped reason) = stop_answer active t reason
halt_answer active t (Exit code) = end_answer active t code (is_end t.reason)

abbrev pub end_talk : Isa → Talk → Bool → Talk
end_talk active t true = exited active t
end_talk active t false = stopped active Ends t

-- and what is agreed then
abbrev pub halt_talk : Isa → Talk → Halt → Talk
halt_talk active t (Stopped reason) = stopped active reason t
halt_talk active t (Exit code) = end_talk active t (is_end t.reason)
