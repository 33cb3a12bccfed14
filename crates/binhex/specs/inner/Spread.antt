-- Bytes for which packed ones stand, told from the front on without a limit.
use Rattle.std.specs.Prelude.{ℕ, ◌-◌, ◌==◌, ◌++◌, true, false, if◌then◌else◌, List, [], ◌∷◌, replicate}
use Rattle.binhex.specs.declared.runs.Run.{Run}

-- before the first packed byte
abbrev pub no_run : Run
no_run = record {
  byte = 0;
  count = 0;
  is_marked = false;
}

abbrev pub one_of : ℕ → Run
one_of byte = record {
  byte = byte;
  count = 1;
  is_marked = false;
}

-- what the next packed byte stands for
abbrev pub run_behind : Run → ℕ → Run
run_behind run packed =
    if run.is_marked then (if packed == 0 then one_of 0x90 else record {
      byte = run.byte;
      count = packed - 1;
      is_marked = false;
    })
    else (if packed == 0x90 then record {
      byte = run.byte;
      count = 0;
      is_marked = true;
    } else one_of packed)

abbrev pub equal_bytes : Run → List ℕ
equal_bytes run = replicate run.count run.byte

-- all that packed bytes stand for behind a run
abbrev pub spread : Run → List ℕ → List ℕ
spread run [] = []
spread run (byte ∷ packed) = equal_bytes (run_behind run byte) ++ spread (run_behind run byte) packed

-- what is left of a run, and all behind it
abbrev pub left : Run → List ℕ → List ℕ
left run packed = equal_bytes run ++ spread run packed

abbrev pub whole : List ℕ → List ℕ
whole packed = spread no_run packed
