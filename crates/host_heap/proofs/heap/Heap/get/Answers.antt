use Rattle.std.proofs.Common.{◌<◌, Some, None, length, refl, sym, ◌∙◌, arith}
use Rattle.host_heap.proofs.Lowest.{place_for-full, same_place_for, IsPlace-from, IsLowest-from}
use Rattle.host_heap.proofs.Keeps.{CanPlace-found, IsLowest-aligned, IsSound-placed, none_begins, taken-none, taken-some}
use Rattle.host_heap.proofs.heap.Heap.get.Goals as goal

pub returns-then-len-eq-BLOCK_LIMIT-clause-value : goal.returns-then-len-eq-BLOCK_LIMIT-clause-value
returns-then-len-eq-BLOCK_LIMIT-clause-value c =
    rw (← c.self.view_is) (sym (place_for-full _ c.args.size (omega (arith, c.self.inside.blocks.ok.0))))

pub returns-then-len-eq-BLOCK_LIMIT-clause-after : goal.returns-then-len-eq-BLOCK_LIMIT-clause-after
returns-then-len-eq-BLOCK_LIMIT-clause-after c = taken-none _ _ (returns-then-len-eq-BLOCK_LIMIT-clause-value c)

pub returns-in_err-address-clause-value : goal.returns-in_err-address-clause-value
returns-in_err-address-clause-value c =
    let few : length c.self.inside.blocks.items < 4096 = let most = c.self.invariant.0.count in omega (arith, most, c.self.inside.blocks.ok.0) in
    rw (← c.self.view_is, c.from_residual.ensures) (same_place_for _ _ _ None few c.rounded-rounded_size.ensures.value (rw c.deref.ensures.value at c.in_err-address.ensures.value))

pub returns-in_err-address-clause-place : goal.returns-in_err-address-clause-place
returns-in_err-address-clause-place c = IsPlace-from _ _ _ (returns-in_err-address-clause-value c)

pub returns-in_err-address-clause-after : goal.returns-in_err-address-clause-after
returns-in_err-address-clause-after c = taken-none _ _ (sym c.from_residual.ensures ∙ returns-in_err-address-clause-value c)

pub add-requires-clause-apart : goal.add-requires-clause-apart
add-requires-clause-apart c =
    none_begins _ _ _ c.self.invariant.0 c.rounded-rounded_size.ensures.least (IsLowest-from _ _ c.in_ok-address.address (rw c.deref.ensures.value at c.in_ok-address.ensures.value)).room

pub invariant_of-self : goal.invariant_of-self
invariant_of-self c =
    let few : length c.self.inside.blocks.items < 4096 = let most = c.self.invariant.0.count in omega (arith, most, c.self.inside.blocks.ok.0) in
    (rw c.add.ensures.items (IsSound-placed _ _ _ c.self.invariant.0 (CanPlace-found _ c.args.size _ _ c.self.invariant.0 few c.rounded-rounded_size.ensures.value (rw c.deref.ensures.value at c.in_ok-address.ensures.value))), omega arith)

pub returns-clause-value : goal.returns-clause-value
returns-clause-value c =
    let few : length c.self.inside.blocks.items < 4096 = let most = c.self.invariant.0.count in omega (arith, most, c.self.inside.blocks.ok.0) in
    rw (← c.self.view_is) (same_place_for _ _ _ (Some c.in_ok-address.address) few c.rounded-rounded_size.ensures.value (rw c.deref.ensures.value at c.in_ok-address.ensures.value))

pub returns-clause-place : goal.returns-clause-place
returns-clause-place c = IsPlace-from _ _ (Some c.in_ok-address.address) (returns-clause-value c)

pub returns-clause-after : goal.returns-clause-after
returns-clause-after c =
    let few : length c.self.inside.blocks.items < 4096 = let most = c.self.invariant.0.count in omega (arith, most, c.self.inside.blocks.ok.0) in
    rw (← c.self.view_is, c.add.ensures.items) (taken-some _ _ _ _ c.rounded-rounded_size.ensures.value (same_place_for _ _ _ (Some c.in_ok-address.address) few c.rounded-rounded_size.ensures.value (rw c.deref.ensures.value at c.in_ok-address.ensures.value)))

pub returns-clause-aligned : goal.returns-clause-aligned
returns-clause-aligned c =
    IsLowest-aligned _ _ _ c.self.invariant.0 (IsLowest-from _ _ c.in_ok-address.address (rw c.deref.ensures.value at c.in_ok-address.ensures.value))

pub returns-then-len-eq-BLOCK_LIMIT-clause-place : goal.returns-then-len-eq-BLOCK_LIMIT-clause-place
returns-then-len-eq-BLOCK_LIMIT-clause-place c = IsPlace-from _ _ None (returns-then-len-eq-BLOCK_LIMIT-clause-value c)

pub returns-then-len-eq-BLOCK_LIMIT-clause-unchanged : goal.returns-then-len-eq-BLOCK_LIMIT-clause-unchanged
returns-then-len-eq-BLOCK_LIMIT-clause-unchanged c = refl

pub returns-in_err-address-clause-aligned : goal.returns-in_err-address-clause-aligned
returns-in_err-address-clause-aligned c = rw c.from_residual.ensures tt

pub returns-in_err-address-clause-unchanged : goal.returns-in_err-address-clause-unchanged
returns-in_err-address-clause-unchanged c = rw c.from_residual.ensures refl

pub lowest_fit-requires-clause-sound : goal.lowest_fit-requires-clause-sound
lowest_fit-requires-clause-sound c = rw c.deref.ensures.value c.self.invariant.0
