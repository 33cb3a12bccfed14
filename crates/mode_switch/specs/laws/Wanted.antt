-- What every wanted call meets.
use Rattle.std.specs.Prelude.{◌≡◌, is_some, Ok}
use Rattle.mix_bits.specs.declared.isa.Isa.{Isa}
use Rattle.mix_bits.specs.declared.isa.Isa.TheVariants.{M68 as set_m68}
use Rattle.proc_info.specs.Codes.{is_dispatched}
use Rattle.proc_info.specs.Signature.{signature_of}
use Rattle.switch_frame.specs.Sets.{caller_isa}
use Rattle.mode_switch.specs.Wanted.{Crossing, Want}
use Rattle.mode_switch.specs.Wanted.Want.{Calls, Jumps, Refuses}

-- what every wanted call of a set's code meets
pub record IsMeant (set : Isa) (c : Crossing) : Type 0 where
  pub caller : caller_isa c.kind ≡ set
  pub signature : signature_of c.info ≡ Ok c.sig
  pub selector : is_some c.selector ≡ is_dispatched c.sig.conv

-- PowerPC code never goes on without a call
abbrev pub Means : Isa → Want → Type 0
Means set (Calls c) = IsMeant set c
Means set (Jumps target) = set ≡ set_m68
Means set (Refuses fault) = Unit {0}
