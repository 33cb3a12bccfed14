-- The symbols of texts behind each other.
use Rattle.std.proofs.Common.{◌≡◌, ℕ, List, ◌++◌}
use Rattle.std.proofs.lemmas.List.Elements.{filter_map-append}
use Rattle.binhex.specs.Text.{symbol_of, symbols_of}

pub symbols_append : (xs ys : List ℕ) → symbols_of (xs ++ ys) ≡ symbols_of xs ++ symbols_of ys
symbols_append xs ys = filter_map-append symbol_of xs ys
