-- A machine that was restored is whole.
use Rattle.switch_frame.specs.Records.{isa_of}
use Rattle.mixed_machine.specs.Machine.{IsWhole}
use Rattle.mix_engine.specs.declared.machine.Machine.{Machine}
use Rattle.mix_image.specs.Spelling.{HasSpelling}

pub spelled_whole : (m : Machine) → HasSpelling m → IsWhole m.body (isa_of m.active)
spelled_whole m spelled = spelled.whole
