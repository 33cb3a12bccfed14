-- Why a run stands, as a stop reply tells it, and names of threads.
-- Source: GDB manual, appendix 'GDB Remote Serial Protocol', sections 'Packets' (thread-id syntax) and 'Stop Reply Packets'; gdb's numbers of signals.
use Rattle.std.specs.Prelude.{ℕ, ◌%◌, nat_le, List, [], ◌++◌, codes, if◌then◌else◌}
use Rattle.mix_bits.specs.declared.isa.Isa.TheVariants.{M68, Ppc}
use Rattle.mix_bits.specs.declared.fault.FaultKind.{FaultKind}
use Rattle.mix_bits.specs.declared.fault.FaultKind.TheVariants.{Illegal, Privileged, BadInstr, Trap, Vector, Odd, Outside, GateStore, FrameStore, GateFetch}
use Rattle.gdb_packets.specs.Hex.{number_text, pair_of}
use Rattle.gdb_answers.specs.declared.stops.Reason.{Reason}
use Rattle.gdb_answers.specs.declared.stops.Reason.TheVariants.{Stepped, Breakpoint, Changed, Begins, Ends, Faults, Interrupted}
use Rattle.gdb_answers.specs.declared.threads.ThreadName.{ThreadName}
use Rattle.gdb_answers.specs.declared.threads.ThreadName.TheVariants.{Only, Of}

abbrev pub error_text : List ℕ
error_text = codes "E01"

-- the one thread of a gdb that knows no processes; else process 1 is the 68K side, and process 2 the PowerPC side
abbrev pub thread_text : ThreadName → List ℕ
thread_text Only = codes "1"
thread_text (Of M68) = codes "p1.1"
thread_text (Of Ppc) = codes "p2.2"

-- SIGILL, SIGTRAP, SIGFPE, SIGBUS, SIGSEGV, and SIGABRT for what only this machine refuses; trap instructions have vectors from 32 on
abbrev pub signal_by : FaultKind → ℕ → ℕ
signal_by Illegal detail = 4
signal_by Privileged detail = 4
signal_by BadInstr detail = 4
signal_by Trap detail = 5
signal_by Vector detail = if nat_le 32 detail then 5 else 8
signal_by Odd detail = 10
signal_by Outside detail = 11
signal_by GateStore detail = 11
signal_by FrameStore detail = 11
signal_by GateFetch detail = 11
signal_by _ detail = 6

-- and SIGINT where gdb asked a running program to stop
abbrev pub signal_of : Reason → ℕ
signal_of Stepped = 5
signal_of Breakpoint = 5
signal_of (Changed address) = 5
signal_of Begins = 5
signal_of Ends = 5
signal_of (Faults fault) = signal_by fault.kind fault.detail
signal_of Interrupted = 2

abbrev pub reason_text : Reason → List ℕ
reason_text Stepped = []
reason_text Breakpoint = codes "swbreak:;"
reason_text (Changed address) = codes "watch:" ++ number_text address ++ codes ";"
reason_text Begins = codes "replaylog:begin;"
reason_text Ends = codes "replaylog:end;"
reason_text (Faults fault) = []
reason_text Interrupted = []

-- what stopped, and why
abbrev pub stop_text : ThreadName → Reason → List ℕ
stop_text name reason = codes "T" ++ pair_of (signal_of reason) ++ codes "thread:" ++ thread_text name ++ codes ";" ++ reason_text reason

-- the process, which is told only to a gdb that knows processes
abbrev pub process_text : ThreadName → List ℕ
process_text Only = []
process_text (Of M68) = codes ";process:1"
process_text (Of Ppc) = codes ";process:2"

-- the program ended with this code, of which gdb gets the low byte
abbrev pub exit_text : ThreadName → ℕ → List ℕ
exit_text name code = codes "W" ++ pair_of (code % 256) ++ process_text name
