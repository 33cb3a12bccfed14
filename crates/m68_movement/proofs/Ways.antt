-- A move by its operands, where each is known by another name.
use Rattle.std.proofs.Common.{ℕ, ◌≡◌, subst}
use Rattle.mix_bits.specs.declared.size.Size.{Size}
use Rattle.mix_bits.specs.declared.fault.Fault.{Fault}
use Rattle.m68_isa.specs.declared.registers.Regs68.{Regs68}
use Rattle.m68_isa.specs.First.{first_of}
use Rattle.m68_isa.specs.Moves.{move_mode}
use Rattle.big_memory.specs.Memory.{Memory}
use Rattle.big_memory.specs.declared.steps.Did.{Did}
use Rattle.big_memory.specs.StepsClauses.{Does}
use Rattle.m68_movement.specs.inner.Moves.{moved, moves}

same_move : (r q : Regs68) (m n : Memory) (word : ℕ) (did : Did) (cell : Fault) (s size : Size) (a b c d mode lower to upper : ℕ)
    → s ≡ size → a ≡ mode → b ≡ lower → c ≡ to → d ≡ upper
    → Does (moved s (a, b) (c, d) r m word) did cell r q m n → Does (moved size (mode, lower) (to, upper) r m word) did cell r q m n
same_move r q m n word did cell s size a b c d mode lower to upper sized moded lowered placed uppered done =
    let one = subst (λ x. Does (moved x (a, b) (c, d) r m word) did cell r q m n) sized done in
    let two = subst (λ x. Does (moved size (x, b) (c, d) r m word) did cell r q m n) moded one in
    let three = subst (λ x. Does (moved size (mode, x) (c, d) r m word) did cell r q m n) lowered two in
    let four = subst (λ x. Does (moved size (mode, lower) (x, d) r m word) did cell r q m n) placed three in
    subst (λ x. Does (moved size (mode, lower) (to, x) r m word) did cell r q m n) uppered four

pub by_operands : (size s : Size) (word a b c d : ℕ) (r q : Regs68) (m n : Memory) (did : Did) (cell : Fault)
    → s ≡ size → a ≡ (first_of word).mode → b ≡ (first_of word).lower → c ≡ move_mode (first_of word) → d ≡ (first_of word).upper
    → Does (moved s (a, b) (c, d) r m word) did cell r q m n → Does (moves size r m word) did cell r q m n
by_operands size s word a b c d r q m n did cell sized moded lowered placed uppered done =
    same_move r q m n word did cell s size a b c d _ _ _ _ sized moded lowered placed uppered done
