-- Names of the loader section.
use Rattle.std.specs.Prelude.{ℕ, ◌==◌, List, slice_range, take}
use Rattle.std.specs.Option.{option_map_or}
use Rattle.std.specs.List.{position}
use Rattle.pef_head.specs.declared.loader.Loader.{Loader}

-- the bytes of the loader section from a place on, before the first zero
abbrev pub name_at : List ℕ → Loader → ℕ → List ℕ
name_at bytes l from =
    let rest = slice_range bytes from l.end in option_map_or (λ n. take n rest) (position (λ byte. byte == 0) rest) rest
