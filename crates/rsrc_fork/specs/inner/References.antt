-- The references of types, one after the other.
use Rattle.std.specs.Prelude.{ℕ, ◌+◌, ◌*◌, List, [], Result}
use Rattle.rsrc_fork.specs.declared.error.RsrcError.{RsrcError}
use Rattle.rsrc_fork.specs.declared.header.Areas.{Areas}
use Rattle.rsrc_fork.specs.declared.references.TypeEntry.{TypeEntry}
use Rattle.rsrc_fork.specs.Outcome.{each_below}
use Rattle.rsrc_fork.specs.Resources.{Resource}
use Rattle.rsrc_fork.specs.References.{with_reference, with_type}

-- the same for the reference of a type with this number
abbrev pub with_numbered : List ℕ → Areas → TypeEntry → List Resource → ℕ → Result (List Resource) RsrcError
with_numbered bytes areas entry before j = with_reference bytes areas entry.kind before (entry.first + 12 * j)

-- the resources before a type, with those that its first references name
abbrev pub with_references : List ℕ → Areas → TypeEntry → List Resource → ℕ → Result (List Resource) RsrcError
with_references bytes areas entry before count = each_below (with_numbered bytes areas entry) before count

-- the resources that the references of all types name, in the order of the type list
abbrev pub with_types : List ℕ → Areas → ℕ → ℕ → Result (List Resource) RsrcError
with_types bytes areas list count = each_below (with_type bytes areas list) [] count
