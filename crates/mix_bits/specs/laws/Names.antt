-- A name at the front of a line, and what stands behind it.
use Rattle.std.specs.Prelude.{ℕ, suc, ◌==◌, Bool, true, false, List, [], ◌∷◌, drop, if◌then◌else◌}
use Rattle.mix_bits.specs.Names.{name_length}

-- the bytes after it
abbrev pub rest_of : List ℕ → List ℕ
rest_of line = drop (suc (name_length line)) line

abbrev pub no_space : List ℕ → Bool
no_space [] = true
no_space (b ∷ bs) = if b == 32 then false else no_space bs

-- what may follow on a name: nothing, or a space and more
abbrev pub ends_name : List ℕ → Bool
ends_name [] = true
ends_name (b ∷ bs) = b == 32
