-- What every signature keeps to, whichever its word is
-- (Inside Macintosh: PowerPC System Software, chapter 2).
use Rattle.std.specs.Prelude.{ℕ, ◌≡◌, ◌≢◌, ◌<◌, ◌≤◌, false, true, length}
use Rattle.std.specs.List.{All}
use Rattle.mix_bits.specs.declared.size.Size.TheVariants.{Zero}
use Rattle.proc_info.specs.declared.conv.Shape.{Shape}
use Rattle.proc_info.specs.declared.conv.Shape.TheVariants.{Stack, Dispatched, Registers}
use Rattle.proc_info.specs.declared.param.Param.{Param}
use Rattle.proc_info.specs.Codes.{is_place, shape_of}
use Rattle.proc_info.specs.Signature.{Signature, most_params, is_twice}

-- where a parameter is held: in the register convention in one of D0 to D3 and A0 to A3
abbrev pub IsHeld : Shape → ℕ → Type 0
IsHeld Stack reg = reg ≡ 0
IsHeld Dispatched reg = reg ≡ 0
IsHeld Registers reg = reg < 8

-- a parameter has a size
pub record IsParam (shape : Shape) (p : Param) : Type 0 where
  pub sized : p.size ≢ Zero
  pub held : IsHeld shape p.reg

-- what is in use beside the parameters
abbrev pub IsRest : Shape → Signature → Type 0
IsRest Stack s = (s.place ≡ 0) × (s.selector ≡ Zero)
IsRest Dispatched s = (s.place ≡ 0) × (s.selector ≢ Zero)
IsRest Registers s = (is_place s.place s.result ≡ true) × (s.selector ≡ Zero) × (is_twice s.params ≡ false)

pub record KeepsRules (s : Signature) : Type 0 where
  pub few : length s.params ≤ most_params (shape_of s.conv)
  pub each : All (IsParam (shape_of s.conv)) s.params
  pub rest : IsRest (shape_of s.conv) s
