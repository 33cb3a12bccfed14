-- Words of sizes, conventions and rules.
use Rattle.std.specs.Prelude.{ℕ, List, codes}
use Rattle.mix_bits.specs.declared.size.Size.{Size}
use Rattle.mix_bits.specs.declared.size.Size.TheVariants.{Zero, One, Two, Four}
use Rattle.proc_info.specs.declared.bad_info.BadInfo.{BadInfo}
use Rattle.proc_info.specs.declared.bad_info.BadInfo.TheVariants.{Convention, TopBit, Place, Gap, Twice}
use Rattle.proc_info.specs.declared.conv.Conv.{Conv}
use Rattle.proc_info.specs.declared.conv.Conv.TheVariants.{Pascal, C, Register, D0Pascal, D0C, D1Pascal, StackPascal}

abbrev pub size_name : Size → List ℕ
size_name Zero = codes "none"
size_name One = codes "byte"
size_name Two = codes "word"
size_name Four = codes "long"

abbrev pub conv_name : Conv → List ℕ
conv_name Pascal = codes "Pascal"
conv_name C = codes "C"
conv_name Register = codes "register"
conv_name D0Pascal = codes "Pascal, dispatched by D0"
conv_name D0C = codes "C, dispatched by D0"
conv_name D1Pascal = codes "Pascal, dispatched by D1"
conv_name StackPascal = codes "Pascal, dispatched on the stack"

abbrev pub rule_text : BadInfo → List ℕ
rule_text Convention = codes "1, Convention: bits 0 to 3 are no convention's number"
rule_text TopBit = codes "2, TopBit: bit 31 is set in a register convention"
rule_text Place = codes "3, Place: bits 6 to 10 are no place of a result, or name one where there is no result"
rule_text Gap = codes "4, Gap: the selector has no size, or something stands behind the last parameter"
rule_text Twice = codes "5, Twice: a register is named by two parameters"
