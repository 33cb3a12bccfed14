-- Operands in registers, and in memory by the usual modes, (An), (An)+, -(An) and (d16,An), where a read isn't
-- refused, and where a place that is stored into is plainly open.
use Rattle.std.specs.Prelude.{◌≡◌, ℕ, nat_le, Bool, true, false, ◌&&◌, Option, Some, None, Result, Ok, is_ok}
use Rattle.mix_bits.specs.declared.size.Size.{Size}
use Rattle.mix_bits.specs.declared.fault.Fault.{Fault}
use Rattle.m68_isa.specs.declared.registers.Regs68.{Regs68}
use Rattle.m68_isa.specs.declared.operand.Operand.{Operand}
use Rattle.mix_bits.specs.Sizes.{bytes_of}
use Rattle.big_memory.specs.Memory.{Memory}
use Rattle.big_memory.specs.Open.{is_open}
use Rattle.big_memory.specs.StoresClauses.{OnlyFree}
use Rattle.m68_ea.specs.declared.usual.Usual.{Usual}
use Rattle.m68_ea.specs.declared.places.Place68.{Place68}
use Rattle.m68_ea.specs.declared.places.Place68.TheVariants.{Mem}
use Rattle.m68_ea.specs.FindsClauses.{KeepsControl}
use Rattle.m68_ea.specs.Finds.{KeepsOthers}
use Rattle.m68_ea.specs.Operands.{sourced, put_into, value_at}
use Rattle.m68_ea.specs.Places.{placed, with_address}

-- the usual modes in memory
abbrev pub is_usual : ℕ → Bool
is_usual mode = nat_le 2 mode && nat_le mode 5

-- what is not done here is of no kind that is tried, or it is refused
abbrev pub IsLeft : {T E : Type 0} → Bool → Result T E → Type 0
IsLeft tried all = (tried && is_ok all) ≡ false

-- where an operand e stands, and its address register n behind the instruction
pub record IsUsual (r : Regs68) (s : Size) (e : Operand) (n : ℕ) (found : Usual) : Type 0 where
  pub good : e.good ≡ true
  pub stands : placed r e.ea s ≡ (with_address r n found.after, Mem found.at)
  pub next : found.next ≡ e.next

-- such an operand, and its value
pub record FindsUsual (r : Regs68) (m : Memory) (s : Size) (e : Operand) (n : ℕ) (found : Usual) (v : ℕ) : Type 0 where
  pub usual : IsUsual r s e n found
  pub value : value_at (with_address r n found.after) m (Mem found.at) s ≡ Ok v

-- whether a value of a size plainly may be stored at a place in memory
abbrev pub is_open_at : Memory → Place68 → Size → Bool
is_open_at m (Mem a) s = is_open m a (bytes_of s)
is_open_at m p s = false

-- a value that is stored at a place that is open, and the registers p of the instruction's operand; or nothing
-- is changed
abbrev pub PutsUsual : Bool → Regs68 → Result (Regs68 × Memory) Fault → Bool → Regs68 → Regs68 → Memory → Memory → Type 0
PutsUsual plain p all true r q m n = (all ≡ Ok (q, n)) × OnlyFree m n × (q ≡ p)
PutsUsual plain p all false r q m n = (plain ≡ false) × (q ≡ r) × (n ≡ m)

-- an operand e that is found and read, from word `first` on; or it is left, and nothing is changed
abbrev pub TakesUsual : Regs68 → Memory → ℕ → Size → Operand → Bool → Option ℕ → ℕ → Regs68 → Type 0
TakesUsual r m first s e tried (Some v) next q = (tried ≡ true) × (e.good ≡ true) × (sourced r m s e.ea ≡ Ok (q, v)) × (next ≡ e.next) × KeepsOthers r q
TakesUsual r m first s e tried None next q = IsLeft tried (sourced r m s e.ea) × (next ≡ first) × (q ≡ r)

-- an operand e that is found, and a value that is written there; or it is left, since it is of no kind that is
-- tried or not plainly open, and nothing is changed
abbrev pub WritesUsual : Regs68 → Memory → ℕ → Size → Operand → ℕ → Bool → Bool → ℕ → Regs68 → Memory → Type 0
WritesUsual r m first s e v tried true next q n = (tried ≡ true) × (e.good ≡ true) × (put_into r m s e.ea v ≡ Ok (q, n)) × (next ≡ e.next) × KeepsControl r q × OnlyFree m n
WritesUsual r m first s e v tried false next q n = ((tried && is_open_at m (placed r e.ea s).1 s) ≡ false) × (next ≡ first) × (q ≡ r) × (n ≡ m)
