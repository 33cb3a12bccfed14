-- What the words of an instruction tell of where it stores.
use Rattle.std.specs.Prelude.{◌≡◌, ℕ, List}
use Rattle.m68_isa.specs.declared.registers.Regs68.{Regs68}
use Rattle.m68_isa.specs.declared.op.Op68.{Op68}
use Rattle.m68_isa.specs.First.{First}
use Rattle.m68_isa.specs.Decode.{decoded as decoded_68k}
use Rattle.m68_isa.specs.Operations.{read}
use Rattle.mix_reach.specs.declared.reach.Reach.{Reach}
use Rattle.mix_reach.specs.laws.Ranges.{plain}
use Rattle.mix_reach.specs.laws.Steps.{decoded_stores}

-- the words of an instruction tell where it stores, or they and the operation of its first word
pub record Tells (r : Regs68) (ws : List ℕ) (w : Reach) : Type 0 where
  pub is : decoded_stores r (decoded_68k ws) ≡ plain w

pub record TellsBy (r : Regs68) (ws : List ℕ) (f : First) (op : Op68) (w : Reach) : Type 0 where
  pub is : decoded_stores r (read op f ws) ≡ plain w
