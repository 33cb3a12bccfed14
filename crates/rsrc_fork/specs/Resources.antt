-- Resources in the order of their file, and the look-ups among them.
use Rattle.std.specs.Prelude.{ℕ, ℤ, ◌++◌, ◌∷◌, [], is_some, if◌then◌else◌, List, Option, Result, Ok, Err, ◌&&◌, nat_eq}
use Rattle.std.specs.Map.{lookup}
use Rattle.rsrc_fork.specs.declared.error.RsrcError.{RsrcError}
use Rattle.rsrc_fork.specs.declared.error.RsrcError.TheVariants.{Twice}
use Rattle.rsrc_fork.specs.declared.name.Name.{Name}
use Rattle.std.specs.Ordering.{int_eq}

-- a resource: its name and its bytes
abbrev pub Resource : Type 0
Resource = Name × List ℕ

abbrev pub named : ℕ → ℤ → Name
named kind id = record { kind = kind; id = id }

-- the bytes of the resource of this name
abbrev pub bytes_of : List Resource → Name → Option (List ℕ)
bytes_of resources name = lookup (λ other. nat_eq name.kind other.kind && int_eq name.id other.id) resources

-- the resources, with one more as the last, whose name none of them has
abbrev pub with_resource : List Resource → Name → List ℕ → Result (List Resource) RsrcError
with_resource before name piece =
    if is_some (bytes_of before name) then Err (Twice name.kind name.id) else Ok (before ++ (name, piece) ∷ [])
