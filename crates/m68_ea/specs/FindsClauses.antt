-- Operands as they are found from an instruction's words, and read and written there.
use Rattle.std.specs.Prelude.{◌≡◌, ℕ, ◌<◌, Bool, true, false, Option, Some, None, Ok, Err}
use Rattle.mix_bits.specs.declared.size.Size.{Size}
use Rattle.mix_bits.specs.declared.fault.Fault.{Fault}
use Rattle.mix_bits.specs.declared.fault.FaultKind.TheVariants.{Illegal}
use Rattle.m68_isa.specs.declared.registers.Regs68.{Regs68}
use Rattle.m68_isa.specs.Operands.{index_of, is_index}
use Rattle.m68_isa.specs.declared.operand.Operand.{Operand}
use Rattle.big_memory.specs.Memory.{Memory}
use Rattle.mix_bits.specs.Faults.{fault_at}
use Rattle.big_memory.specs.StoresClauses.{OnlyFree}
use Rattle.m68_ea.specs.declared.operands.Target.{Target}
use Rattle.m68_ea.specs.declared.places.Place68.{Place68}
use Rattle.m68_ea.specs.declared.places.Place68.TheVariants.{Mem}
use Rattle.m68_ea.specs.PlacesClauses.{HasRegister}
use Rattle.m68_ea.specs.Places.{address_of, indexed, placed, with_address}
use Rattle.m68_ea.specs.Operands.{sourced, value_at, written_at}
use Rattle.m68_ea.specs.Finds.{unless_illegal, KeepsOthers}

-- the registers before an operand was found
abbrev pub before : Regs68 → Target → Regs68
before q t = with_address q t.register t.before

-- the address of a control operand, on whose size nothing depends
abbrev pub FindsAddress : Regs68 → ℕ → (Size → Operand) → Option ℕ → ℕ → Fault → Type 0
FindsAddress r first e (Some a) next cell = (s t : Size) → ((e s).good ≡ true) × (placed r (e s).ea t ≡ (r, Mem a)) × (next ≡ (e s).next)
FindsAddress r first e None next cell = (s t : Size) → ((e s).good ≡ false) × (cell ≡ fault_at r.pc Illegal first)

-- the same of an operand of one size, for instructions that use an address alone
abbrev pub FindsControl : Regs68 → ℕ → Operand → Option ℕ → ℕ → Fault → Type 0
FindsControl r first e (Some a) next cell = (e.good ≡ true) × (address_of r e.ea ≡ a) × (next ≡ e.next)
FindsControl r first e None next cell = (e.good ≡ false) × (cell ≡ fault_at r.pc Illegal first)

-- an operand e that stands in memory at `a`, changes no register, and has `next` behind its words
pub record IsAt (r : Regs68) (s : Size) (e : Operand) (a next : ℕ) : Type 0 where
  pub good : e.good ≡ true
  pub stands : placed r e.ea s ≡ (r, Mem a)
  pub onward : next ≡ e.next

abbrev pub FindsAt : Regs68 → ℕ → Size → Operand → Option ℕ → ℕ → Fault → Type 0
FindsAt r first s e (Some a) next cell = IsAt r s e a next
FindsAt r first s e None next cell = (e.good ≡ false) × (cell ≡ fault_at r.pc Illegal first)

-- the address that an index word gives with a base
abbrev pub FindsIndexed : Regs68 → ℕ → ℕ → ℕ → Option ℕ → Fault → Type 0
FindsIndexed r first word base (Some a) cell = (is_index word ≡ true) × (a ≡ indexed r base (index_of word))
FindsIndexed r first word base None cell = (is_index word ≡ false) × (cell ≡ fault_at r.pc Illegal first)

-- the place of an operand that changes no register
abbrev pub FindsPlace : Regs68 → ℕ → Size → Operand → Option Place68 → ℕ → Fault → Type 0
FindsPlace r first s e (Some p) next cell = (e.good ≡ true) × (placed r e.ea s ≡ (r, p)) × (next ≡ e.next) × HasRegister p
FindsPlace r first s e None next cell = (e.good ≡ false) × (cell ≡ fault_at r.pc Illegal first)

-- an operand e that is found: its place, the registers q with its increment or decrement, and the number
-- of the word behind its own; else the instruction is illegal
abbrev pub Finds : Regs68 → ℕ → Size → Operand → Option Target → ℕ → Fault → Regs68 → Type 0
Finds r first s e (Some t) next cell q =
    (e.good ≡ true) × (placed r e.ea s ≡ (q, t.place)) × (next ≡ e.next) × (before q t ≡ r) × KeepsOthers r q
Finds r first s e None next cell q = (e.good ≡ false) × (cell ≡ fault_at r.pc Illegal first) × (q ≡ r)

-- an operand e that is found and read
abbrev pub Takes : Regs68 → Memory → ℕ → Size → Operand → Option ℕ → ℕ → Fault → Regs68 → Type 0
Takes r m first s e (Some v) next cell q = (e.good ≡ true) × (sourced r m s e.ea ≡ Ok (q, v)) × (next ≡ e.next) × KeepsOthers r q
Takes r m first s e None next cell q = (unless_illegal r.pc first e.good (sourced r m s e.ea) ≡ Err cell) × (q ≡ r)

-- the registers that it names are of the eight
abbrev pub HasTarget : Target → Type 0
HasTarget t = HasRegister t.place × (t.register < 8)

abbrev pub HasFound : Option Target → Type 0
HasFound (Some t) = HasTarget t
HasFound None = Unit {0}

-- the value of an operand that was found; where it can't be read, its registers are as before
abbrev pub Reads : Regs68 → Memory → Size → Target → Option ℕ → Fault → Regs68 → Type 0
Reads r m s t (Some v) cell q = (value_at r m t.place s ≡ Ok v) × (q ≡ r)
Reads r m s t None cell q = (value_at r m t.place s ≡ Err cell) × (q ≡ before r t)

-- writing a place changes neither the program counter nor the condition codes
pub record KeepsControl (r q : Regs68) : Type 0 where
  pub pc : q.pc ≡ r.pc
  pub ccr : q.ccr ≡ r.ccr

-- a value that is written where an operand was found; where it can't be, its registers are as before
abbrev pub Puts : Regs68 → Memory → Size → Target → ℕ → Bool → Fault → Regs68 → Memory → Type 0
Puts r m s t v true cell q n = (written_at r m t.place s v ≡ Ok (q, n)) × OnlyFree m n × KeepsControl r q
Puts r m s t v false cell q n = (written_at r m t.place s v ≡ Err cell) × (q ≡ before r t) × (n ≡ m)
