-- Processes and threads: `pP.T`, `pP` or `T`, each a number, or 0 or -1 for any.
-- Source: GDB manual, appendix 'GDB Remote Serial Protocol', section 'Packets', thread-id syntax.
use Rattle.std.specs.Prelude.{ℕ, ◌==◌, List, length, drop, codes, bytes_eq, Option, Some, None, if◌then◌else◌}
use Rattle.gdb_packets.specs.Hex.{number_said}
use Rattle.gdb_requests.specs.Parts.{before, begins, behind}
use Rattle.gdb_requests.specs.declared.request.Id.{Id}
use Rattle.gdb_requests.specs.declared.request.Id.TheVariants.{Any, Number}
use Rattle.gdb_requests.specs.declared.request.Thread.{Thread}

abbrev pub numbered : Option ℕ → Option Id
numbered None = None
numbered (Some n) = Some (if n == 0 then Any else Number n)

unfoldable pub id_said : List ℕ → Option Id
id_said text = if bytes_eq text (codes "-1") then Some Any else numbered (number_said text)

unfoldable pub thread_part : List ℕ → Option Id
thread_part text = if length text == 0 then Some Any else id_said text

abbrev pub in_process : Option Id → Option Id → Option Thread
in_process (Some p) (Some t) = Some (record { process = p; thread = t })
in_process (Some p) None = None
in_process None t = None

unfoldable pub thread_said : List ℕ → Option Thread
thread_said text =
    if begins (codes "p") text then in_process (id_said (before 46 (drop 1 text))) (thread_part (behind 46 (drop 1 text)))
    else in_process (Some Any) (id_said text)
