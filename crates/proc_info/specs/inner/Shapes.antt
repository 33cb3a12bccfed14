-- The signatures of a word that has these parameters, in the three shapes, and what is left once no register is named
-- twice.
use Rattle.std.specs.Prelude.{ℕ, ◌/◌, ◌%◌, List, Result, Ok, Err, if◌then◌else◌}
use Rattle.mix_bits.specs.declared.size.Size.TheVariants.{Zero}
use Rattle.proc_info.specs.declared.bad_info.BadInfo.{BadInfo}
use Rattle.proc_info.specs.declared.bad_info.BadInfo.TheVariants.{Twice}
use Rattle.proc_info.specs.declared.conv.Conv.{Conv}
use Rattle.proc_info.specs.declared.param.Param.{Param}
use Rattle.proc_info.specs.Codes.{size_at}
use Rattle.proc_info.specs.Signature.{Signature, is_twice, of_word}

abbrev pub on_stack : Conv → ℕ → List Param → Signature
on_stack conv w ps = of_word conv w 0 Zero ps

abbrev pub with_selector : Conv → ℕ → List Param → Signature
with_selector conv w ps = of_word conv w 0 (size_at (w / 64 % 4)) ps

abbrev pub in_registers : Conv → ℕ → List Param → Signature
in_registers conv w ps = of_word conv w (w / 64 % 32) Zero ps

-- the signature, if it names no register twice
abbrev pub unless_twice : Signature → Result Signature BadInfo
unless_twice s = if is_twice s.params then Err Twice else Ok s
