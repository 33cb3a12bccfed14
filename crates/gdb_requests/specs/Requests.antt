-- What the data of a packet asks for, by its first letter.
-- Source: GDB manual, appendix 'GDB Remote Serial Protocol', section 'Packets'.
use Rattle.std.specs.Prelude.{ℕ, ◌==◌, ◌||◌, Bool, true, false, List, [], ◌∷◌, length, drop, codes, bytes_eq, Option, Some, None, if◌then◌else◌}
use Rattle.gdb_packets.specs.Hex.{number_said}
use Rattle.gdb_requests.specs.Parts.{begins, pair_said}
use Rattle.gdb_requests.specs.Queries.{query_said, setting_said, verbose_said}
use Rattle.gdb_requests.specs.Threads.{id_said, thread_said}
use Rattle.gdb_requests.specs.declared.request.Id.{Id}
use Rattle.gdb_requests.specs.declared.request.Id.TheVariants.{Any}
use Rattle.gdb_requests.specs.declared.request.Point.{Point}
use Rattle.gdb_requests.specs.declared.request.Point.TheVariants.{Software, Hardware, Write}
use Rattle.gdb_requests.specs.declared.request.Thread.{Thread}
use Rattle.gdb_requests.specs.declared.request.Request.{Request}
use Rattle.gdb_requests.specs.declared.request.Request.TheVariants.{Extended, Reason, SelectForRegisters, SelectForRunning, Registers, Register, Memory, Continue, Step, BackContinue, BackStep, Insert, Remove, IsAlive, Detach, Kill, Change, Unknown}

abbrev pub alone : List ℕ → Request → Request
alone rest r = if length rest == 0 then r else Unknown

abbrev pub signalled_request : Option ℕ → Request → Request
signalled_request None r = Unknown
signalled_request (Some signal) r = r

abbrev pub memory_of : Option (ℕ × ℕ) → Request
memory_of None = Unknown
memory_of (Some (address, size)) = Memory address size

abbrev pub register_of : Option ℕ → Request
register_of None = Unknown
register_of (Some n) = Register n

abbrev pub alive_of : Option Thread → Request
alive_of None = Unknown
alive_of (Some t) = IsAlive t

abbrev pub detaching : Option Id → Request
detaching None = Unknown
detaching (Some id) = Detach id

abbrev pub selecting : Bool → Option Thread → Request
selecting for_registers None = Unknown
selecting for_registers (Some t) = if for_registers then SelectForRegisters t else SelectForRunning t

abbrev pub pointing : Bool → Point → Option (ℕ × ℕ) → Request
pointing is_set point None = Unknown
pointing is_set point (Some (address, size)) = if is_set then Insert point address size else Remove point address size

-- behind `H`: `g` or `c`, and a thread
unfoldable pub selected : List ℕ → Request
selected text =
    if begins (codes "g") text then selecting true (thread_said (drop 1 text))
    else (if begins (codes "c") text then selecting false (thread_said (drop 1 text)) else Unknown)

-- behind `Z` or `z`: a digit, and a range
unfoldable pub point_said : Bool → List ℕ → Request
point_said is_set text =
    if begins (codes "0,") text then pointing is_set Software (pair_said (drop 2 text))
    else (if begins (codes "1,") text then pointing is_set Hardware (pair_said (drop 2 text))
    else (if begins (codes "2,") text then pointing is_set Write (pair_said (drop 2 text)) else Unknown))

-- behind `D`
unfoldable pub detach_said : List ℕ → Request
detach_said text = if length text == 0 then Detach Any else (if begins (codes ";") text then detaching (id_said (drop 1 text)) else Unknown)

-- behind `b`
unfoldable pub back_said : List ℕ → Request
back_said text = if bytes_eq text (codes "c") then BackContinue else (if bytes_eq text (codes "s") then BackStep else Unknown)

unfoldable pub single_said : ℕ → List ℕ → Request
single_said letter rest =
    if letter == 63 then alone rest Reason
    else (if letter == 33 then alone rest Extended
    else (if letter == 103 then alone rest Registers
    else (if letter == 99 then alone rest Continue
    else (if letter == 115 then alone rest Step
    else (if letter == 107 then alone rest (Kill Any)
    else (if letter == 67 then signalled_request (number_said rest) Continue
    else (if letter == 83 then signalled_request (number_said rest) Step
    else (if letter == 71 || letter == 77 || letter == 80 || letter == 88 then Change else Unknown))))))))

unfoldable pub by_letter : ℕ → List ℕ → Request
by_letter letter rest =
    if letter == 113 then query_said rest
    else (if letter == 81 then setting_said rest
    else (if letter == 118 then verbose_said rest
    else (if letter == 72 then selected rest
    else (if letter == 109 then memory_of (pair_said rest)
    else (if letter == 112 then register_of (number_said rest)
    else (if letter == 90 then point_said true rest
    else (if letter == 122 then point_said false rest
    else (if letter == 84 then alive_of (thread_said rest)
    else (if letter == 68 then detach_said rest
    else (if letter == 98 then back_said rest else single_said letter rest))))))))))

-- what the data of a packet asks for
unfoldable pub request_of : List ℕ → Request
request_of [] = Unknown
request_of (letter ∷ rest) = by_letter letter rest
