use Rattle.std.proofs.Common.{◌∙◌, sym}
use Rattle.m68_effects.proofs.changes.change_by_immediate.Goals as goal

pub change_register_by_data-requires : goal.change_register_by_data-requires
change_register_by_data-requires c = sym c.mode_of.ensures.is ∙ c.if-mode_of-eq0.true

pub returns-then-mode_of-eq0 : goal.returns-then-mode_of-eq0
returns-then-mode_of-eq0 c = c.change_register_by_data.ensures

pub returns-in-Add : goal.returns-in-Add
returns-in-Add c = rw c.in-Add.is c.add_data.ensures

pub returns-in-Sub : goal.returns-in-Sub
returns-in-Sub c = rw c.in-Sub.is c.sub_data.ensures

pub returns-in-And : goal.returns-in-And
returns-in-And c = rw c.in-And.is c.and_data.ensures

pub returns-in-Or : goal.returns-in-Or
returns-in-Or c = rw c.in-Or.is c.or_data.ensures

pub returns-in_default : goal.returns-in_default
returns-in_default c = c.change_other_by_data.ensures
