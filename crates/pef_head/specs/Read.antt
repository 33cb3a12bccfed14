-- What is known of a container that was read.
use Rattle.std.specs.Prelude.{◌≡◌, ℕ, ◌<◌, ◌≤◌, true, List, None}
use Rattle.pef_head.specs.declared.loader.Loader.{Loader}
use Rattle.pef_head.specs.ContainerClauses.{HasHeaders, HasSections}
use Rattle.pef_head.specs.Loader.{loader_of}
use Rattle.pef_head.specs.Places.{words_end, library_name, symbol_name, has_end}
use Rattle.pef_head.specs.PlacesClauses.{HasTables}
use Rattle.pef_head.specs.Owners.{owners}
use Rattle.pef_head.specs.Refusals.{refusal_of}

-- what was found when a container was read
pub record IsRead (bytes : List ℕ) (l : Loader) : Type 0 where
  pub passes : refusal_of bytes ≡ None
  pub is : l ≡ loader_of bytes
  pub tables : HasTables bytes l
  pub headers : HasHeaders bytes
  pub sections : HasSections bytes
  pub libraries : (j : ℕ) → j < l.libraries → has_end bytes l (library_name bytes l j) ≡ true
  pub symbols : (i : ℕ) → i < l.symbols → has_end bytes l (symbol_name bytes l i) ≡ true
  pub owned : (i : ℕ) → i < l.symbols → owners bytes l l.libraries i ≡ 1
  pub words : (h : ℕ) → h < l.headers → words_end bytes l h ≤ l.end
