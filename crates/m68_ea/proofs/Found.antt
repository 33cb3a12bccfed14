-- Operands e that are found, in registers or in memory.
use Rattle.std.proofs.Common.{◌≡◌, ℕ, true, List, slice_index, Some, refl, ap, sym, ◌∙◌}
use Rattle.mix_bits.specs.declared.size.Size.{Size}
use Rattle.mix_bits.specs.declared.fault.Fault.{Fault}
use Rattle.m68_isa.specs.declared.registers.Regs68.{Regs68}
use Rattle.m68_isa.specs.declared.operand.Operand.{Operand}
use Rattle.m68_isa.specs.Operands.{operand_at}
use Rattle.m68_ea.specs.declared.places.Place68.{Place68}
use Rattle.m68_ea.specs.Places.{placed, with_address}
use Rattle.m68_ea.specs.FindsClauses.{Finds}
use Rattle.m68_ea.proofs.Back.{address_kept, moved_back}

-- no register changes
pub found_still : (r : Regs68) (word : ℕ) (s : Size) (e : Operand) (p : Place68) (n next : ℕ) (cell : Fault)
    → e.good ≡ true → placed r e.ea s ≡ (r, p) → next ≡ e.next → Finds r word s e (Some (record { place = p; register = n; before = slice_index r.a n })) next cell r
found_still r word s e p n next cell good stands behind = (good, stands, behind, address_kept r n, record { d = refl; pc = refl; ccr = refl })

-- the same of a mode k that is known by another name
pub found_so : (r : Regs68) (ws : List ℕ) (word first : ℕ) (s : Size) (mode k : ℕ) (p : Place68) (n : ℕ) (cell : Fault)
    → mode ≡ k → (operand_at ws first s k n).good ≡ true → placed r (operand_at ws first s k n).ea s ≡ (r, p) → first ≡ (operand_at ws first s k n).next
    → Finds r word s (operand_at ws first s mode n) (Some (record { place = p; register = n; before = slice_index r.a n })) first cell r
found_so r ws word first s mode k p n cell is good stands behind =
    found_still r word s (operand_at ws first s mode n) p n first cell ((λ i. (operand_at ws first s (is i) n).good) ∙ good) ((λ i. placed r (operand_at ws first s (is i) n).ea s) ∙ stands) (behind ∙ (λ i. (operand_at ws first s (sym is i) n).next))

-- its address register goes on to v
pub found_moved : (r q : Regs68) (word : ℕ) (s : Size) (e : Operand) (p : Place68) (n v next : ℕ) (cell : Fault)
    → e.good ≡ true → placed r e.ea s ≡ (q, p) → next ≡ e.next → q ≡ with_address r n v → Finds r word s e (Some (record { place = p; register = n; before = slice_index r.a n })) next cell q
found_moved r q word s e p n v next cell good stands behind same =
    (good, stands, behind, moved_back r q n v same, record { d = ap (λ (t : Regs68). t.d) same; pc = ap (λ (t : Regs68). t.pc) same; ccr = ap (λ (t : Regs68). t.ccr) same })
