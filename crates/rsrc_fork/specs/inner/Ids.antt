-- Where the ids of a type end.
use Rattle.std.specs.Prelude.{ℕ, suc, ℤ, pos, negsuc, max, nat_eq, if◌then◌else◌, List, fold}
use Rattle.rsrc_fork.specs.declared.name.Name.{Name}
use Rattle.rsrc_fork.specs.Resources.{Resource}
use Rattle.rsrc_fork.specs.ResourcesClauses.{names_of}

-- the number behind an id, or 0 where it is negative
abbrev pub behind : ℤ → ℕ
behind (pos n) = suc n
behind (negsuc n) = 0

-- where the ids of the type end so far, once a name is looked at
abbrev pub end_with : ℕ → ℕ → Name → ℕ
end_with kind end name = if nat_eq name.kind kind then max end (behind name.id) else end

abbrev pub ids_end : List Resource → ℕ → ℕ
ids_end resources kind = fold (end_with kind) 0 (names_of resources)
