-- What a scan keeps, as the definitions have it.
use Rattle.routine_desc.specs.declared.choice.Found.{Found as KeptFound}
use Rattle.routine_desc.specs.declared.choice.Scan.{Scan as KeptScan}
use Rattle.routine_desc.specs.inner.Choice.{Found, Scan}
use Rattle.routine_desc.specs.RecordViews.{picked}

abbrev pub found : KeptFound → Found
found kept = record { first = picked kept.first; native = picked kept.native; own = picked kept.own }

abbrev pub scan : KeptScan → Scan
scan kept = record { equal = found kept.equal; fallback = found kept.fallback }
