use Rattle.std.proofs.Common.{refl}
use Rattle.gdb_answers.specs.Descriptions.{description_of}
use Rattle.gdb_answers.proofs.descriptions.description_68k.Goals as goal

pub returns : goal.returns
unfolding description_of
returns c = refl
