-- The laws by their lemmas.
use Rattle.routine_desc.proofs.Bytes.{reads-bytes}
use Rattle.routine_desc.proofs.Held.{holds-records, infos-signed, records-alike}
use Rattle.routine_desc.proofs.Takes.{takes-none, takes-record}
use Rattle.routine_desc.proofs.laws.desc_laws.Goals as goal

pub returns-clause-records : goal.returns-clause-records
returns-clause-records c = holds-records

pub returns-clause-signed : goal.returns-clause-signed
returns-clause-signed c = infos-signed

pub returns-clause-alike : goal.returns-clause-alike
returns-clause-alike c = records-alike

pub returns-clause-bytes : goal.returns-clause-bytes
returns-clause-bytes c = reads-bytes

pub returns-clause-taken : goal.returns-clause-taken
returns-clause-taken c = takes-record

pub returns-clause-none : goal.returns-clause-none
returns-clause-none c = takes-none
