-- Which of the numbered calls fails.
use Rattle.std.specs.Prelude.{ℕ, ◌==◌, Bool, List}
use Rattle.std.specs.List.{list_any}
use Rattle.mix_io.specs.Calls.{counted, CallNumbers}

-- calls are numbered from 1
abbrev pub calls_from_one : List ℕ → CallNumbers
calls_from_one fails = record { fails = fails; next = 1 }

abbrev pub fails_next : CallNumbers → Bool
fails_next calls = list_any (λ n. n == calls.next) calls.fails

abbrev pub after_call : CallNumbers → CallNumbers
after_call calls = record { fails = calls.fails; next = counted calls.next }
