use Rattle.std.proofs.Common.{◌≡◌, length, None}
use Rattle.mix_bits.specs.Search.{least}
use Rattle.mix_load.specs.inner.Sections.{is_missing}
use Rattle.mix_load.specs.SectionsClauses.{import_addresses}
use Rattle.mix_load.proofs.imports.addresses_of.Given as goal

abbrev pub invariant-loop-i : goal.invariant-loop-i
invariant-loop-i l = record {
  passed : least (is_missing l.pef) l.i ≡ None;
  items : l.addresses.items ≡ import_addresses l.pef l.i;
  len : length l.addresses.items ≡ l.i;
}
