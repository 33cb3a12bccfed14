-- Fields that some word has, and that word.
use Rattle.std.specs.Prelude.{ℕ, ◌≡◌, ◌+◌, ◌*◌, ◌^◌, ◌<◌}
use Rattle.std.specs.Int.{from_bool}
use Rattle.ppc_isa.specs.declared.fields.Fields.{Fields}

-- fields that some word has
pub record IsFields (f : Fields) : Type 0 where
  pub op : f.op < 64
  pub d : f.d < 32
  pub a : f.a < 32
  pub b : f.b < 32
  pub xo : f.xo < 1024
  pub low : f.low ≡ f.b * 2 ^ 11 + f.xo * 2 + from_bool f.last

-- the word that has these fields
abbrev pub word_with : Fields → ℕ
word_with f = ((f.op * 2 ^ 5 + f.d) * 2 ^ 5 + f.a) * 2 ^ 16 + f.low
