-- Names as a look-up compares them.
use Rattle.std.specs.Prelude.{Bool, ◌&&◌, nat_eq}
use Rattle.std.specs.Ordering.{int_eq}
use Rattle.rsrc_fork.specs.declared.name.Name.{Name}

abbrev pub same_name : Name → Name → Bool
same_name a b = nat_eq a.kind b.kind && int_eq a.id b.id
