-- What stands past the last parameter.
use Rattle.mix_bits.specs.declared.size.Size.TheVariants.{Zero}
use Rattle.proc_info.specs.declared.param.Param.{Param}

abbrev pub nothing : Param
nothing = record { size = Zero; reg = 0 }
