use Rattle.ppc_integer.proofs.Filled.{indexed_strings_fill, strings_fill}
use Rattle.ppc_integer.proofs.Stored.{indexed_strings_store, strings_store}
use Rattle.ppc_integer.proofs.Reversed.{loads_little, reverses_back}
use Rattle.ppc_integer.proofs.laws.storage_laws.Goals as goal

pub returns : goal.returns
returns c = record {
  strings = strings_fill;
  indexed = indexed_strings_fill;
  stored = strings_store;
  indexed_stored = indexed_strings_store;
  little = loads_little;
  reversed = reverses_back;
}
