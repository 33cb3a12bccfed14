use Rattle.std.proofs.Common.{ℕ, ◌≡◌, ◌<◌, length, Some, None, subst, arith}
use Rattle.std.proofs.lemmas.List.{get_or_default}
use Rattle.host_heap.specs.Space.{Space}
use Rattle.host_heap.proofs.Lowest.{same_lowest_fit}
use Rattle.host_heap.proofs.Walk.{Walked, Walked-none, Walked-more, IsLowest-before, IsLowest-last, HasNone-last}
use Rattle.host_heap.proofs.blocks.lowest_fit.Goals as goal

pub loop-block-init : goal.loop-block-init
loop-block-init c = Walked-none _ _ c.requires.sound

-- the walk has passed every block
at_end : (s : Space) (size index address : ℕ) → Walked s size index address → index ≡ length s.blocks → Walked s size (length s.blocks) address
at_end s size index address w e = subst (λ (k : ℕ). Walked s size k address) e w

pub returns-then-from-size-clause-value : goal.returns-then-from-size-clause-value
returns-then-from-size-clause-value c =
    let within : c.loop-block.block-index < length c.args.blocks.now = omega arith in
    same_lowest_fit _ _ (Some c.loop-block.address) (IsLowest-before _ _ _ _ _ c.requires.sound c.loop-block.invariant within (get_or_default _ _ (record { address = 0; size = 0 }) _ within) (omega arith))

pub loop-block-preserved : goal.loop-block-preserved
loop-block-preserved c =
    let within : c.loop-block.block-index < length c.args.blocks.now = omega arith in
    Walked-more _ _ _ _ _ c.requires.sound c.loop-block.invariant within (get_or_default _ _ (record { address = 0; size = 0 }) _ within) (omega arith)

pub returns-then-from-size-2-clause-value : goal.returns-then-from-size-2-clause-value
returns-then-from-size-2-clause-value c =
    same_lowest_fit _ _ (Some c.loop-block.address) (IsLowest-last _ _ _ (at_end _ _ _ _ c.loop-block.invariant (omega arith)) (omega arith))

pub returns-else-from-size-2-clause-value : goal.returns-else-from-size-2-clause-value
returns-else-from-size-2-clause-value c =
    same_lowest_fit _ _ None (HasNone-last _ _ _ (at_end _ _ _ _ c.loop-block.invariant (omega arith)) (omega arith))
