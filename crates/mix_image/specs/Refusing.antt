-- Why bytes are no image of a machine: the first of the tests that they fail (this project's own).
use Rattle.std.specs.Prelude.{◌≡◌, ℕ, List, Err, MatchResult}
use Rattle.switch_frame.specs.Checks.{IsFirstWrong, checked}
use Rattle.switch_frame.specs.Program.{HasGatePage}
use Rattle.switch_frame.specs.Records.{isa_of}
use Rattle.mix_engine.specs.declared.machine.Machine.{Machine}
use Rattle.mix_image.specs.declared.error.ImageError.{ImageError}
use Rattle.mix_image.specs.declared.error.ImageError.TheVariants.{Gate, Frame}
use Rattle.mix_image.specs.Fields.{fields_of}

-- the tests behind the fields: a long of the gate page is wrong, or a frame where the page is right
abbrev pub IsWrong : Machine → ImageError → Type 0
IsWrong m (Gate a) = IsFirstWrong m.body.a5 m.body.ram.bytes a
IsWrong m (Frame lo) = HasGatePage m.body.a5 m.body.ram.bytes × (checked m.body.ram m.body.top (isa_of m.active) m.body.main ≡ Err lo)
IsWrong m _ = ⊥

-- bytes are refused for the first field that is not right, or for what is wrong with the machine of the fields
abbrev pub IsRefused : List ℕ → ImageError → Type 0
IsRefused bytes error = MatchResult (fields_of bytes) (λ m. IsWrong m error) (λ e. error ≡ e)
