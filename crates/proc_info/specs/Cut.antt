-- The values of a call's parameters (Inside Macintosh: PowerPC System Software, chapter 2).
use Rattle.std.specs.Prelude.{ℕ, List, [], ◌∷◌}
use Rattle.mix_bits.specs.Sizes.{truncated}
use Rattle.proc_info.specs.declared.param.Param.{Param}

-- each value cut to its parameter's size
abbrev pub cut : List Param → List ℕ → List ℕ
cut (p ∷ ps) (v ∷ vs) = truncated v p.size ∷ cut ps vs
cut _ _ = []
