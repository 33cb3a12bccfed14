-- The devices in memory: what each holds, what it answers to a word, and what an ask leaves.
use Rattle.std.specs.Prelude.{ℕ, ◌+◌, ◌%◌, ◌^◌, List, [], ◌∷◌, ◌++◌, length, drop, Option, Some, None, is_none, nat_lt, if◌then◌else◌}
use Rattle.mix_io.specs.Calls.{counted_if}

-- a conversation after one more ask: the first 4096 are told, and none after them
abbrev pub noted : Option (List (ℕ × Option ℕ)) → ℕ → Option ℕ → Option (List (ℕ × Option ℕ))
noted None word answer = None
noted (Some asks) word answer = if nat_lt (length asks) 4096 then Some (asks ++ (word, answer) ∷ []) else None

-- ---- a script: the answers that are left, each given once, with none for a failure

pub record Script : Type 0 where
  pub answers : List (Option ℕ)
  pub told : Option (List (ℕ × Option ℕ))
  pub faults : ℕ

abbrev pub first_answer : List (Option ℕ) → Option ℕ
first_answer [] = None
first_answer (answer ∷ answers) = answer

abbrev pub script_answer : Script → Option ℕ
script_answer s = first_answer s.answers

abbrev pub after_script : Script → ℕ → Script
after_script s word =
    record {
      answers = drop 1 s.answers;
      told = noted s.told word (script_answer s);
      faults = counted_if (is_none (script_answer s)) s.faults;
    }

-- ---- a counter: the total of the words, in 32 bits

pub record Count : Type 0 where
  pub total : ℕ
  pub told : Option (List (ℕ × Option ℕ))
  pub faults : ℕ

abbrev pub total_with : Count → ℕ → ℕ
total_with s word = (s.total + word) % 2 ^ 32

abbrev pub after_count : Count → ℕ → Count
after_count s word =
    record {
      total = total_with s word;
      told = noted s.told word (Some (total_with s word));
      faults = s.faults;
    }

-- ---- a tape: the words that it keeps, at most 1024

pub record Words : Type 0 where
  pub words : List ℕ
  pub told : Option (List (ℕ × Option ℕ))
  pub faults : ℕ

-- how many words were held before, or none where the tape is full
abbrev pub tape_answer : Words → Option ℕ
tape_answer s = if nat_lt (length s.words) 1024 then Some (length s.words) else None

abbrev pub after_tape : Words → ℕ → Words
after_tape s word =
    record {
      words = if nat_lt (length s.words) 1024 then s.words ++ word ∷ [] else s.words;
      told = noted s.told word (tape_answer s);
      faults = counted_if (is_none (tape_answer s)) s.faults;
    }
