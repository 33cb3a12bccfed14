use Rattle.std.proofs.Common.{◌≡◌, ℕ, true, false, List, length, sym, ap, ◌∙◌, arith}
use Rattle.std.specs.Prelude.{◌==◌, ◌≢◌, AllPairs, is_some}
use Rattle.std.proofs.lemmas.Bool.{eqb-true, ne_eqb}
use Rattle.host_heap.specs.declared.block.Block.{Block}
use Rattle.host_heap.proofs.Leaving.{position-any, position-within, removed-passing}
use Rattle.host_heap.proofs.Order.{filter_out_none}
use Rattle.host_heap.proofs.blocks.remove.Goals as goal

-- of two blocks one at most begins at the address
one : (blocks : List Block) (address : ℕ) → AllPairs (λ a b. a.address ≢ b.address) blocks → AllPairs (λ a b. (a.address == address) ≡ true → (b.address == address) ≡ false) blocks
one blocks address distinct = λ i j d l k here.
    ne_eqb _ _ (λ there. distinct i j d l k (eqb-true _ _ here ∙ sym there))

pub returns-in-Some-clause-found : goal.returns-in-Some-clause-found
returns-in-Some-clause-found c =
    let found = rw c.deref.ensures.value at (sym c.number_of.ensures ∙ c.in-Some.is) in
    sym (ap is_some found) ∙ position-any (λ (b : Block). b.address == c.args.address) c.args.blocks.now.items

pub returns-in-Some-clause-items : goal.returns-in-Some-clause-items
returns-in-Some-clause-items c =
    let found = rw c.deref.ensures.value at (sym c.number_of.ensures ∙ c.in-Some.is) in
    c.take_out.ensures.items ∙ removed-passing (λ (b : Block). b.address == c.args.address) _ _ (one _ c.args.address c.requires.distinct) found

pub returns-in-None-clause-found : goal.returns-in-None-clause-found
returns-in-None-clause-found c =
    let found = rw c.deref.ensures.value at (sym c.number_of.ensures ∙ c.in-None.is) in
    sym (ap is_some found) ∙ position-any (λ (b : Block). b.address == c.args.address) c.args.blocks.now.items

pub returns-in-None-clause-items : goal.returns-in-None-clause-items
returns-in-None-clause-items c =
    sym (filter_out_none (λ (b : Block). b.address == c.args.address) _ (sym (returns-in-None-clause-found c)))

pub take_out-requires : goal.take_out-requires
take_out-requires c =
    let found = rw c.deref.ensures.value at (sym c.number_of.ensures ∙ c.in-Some.is) in
    let within = position-within (λ (b : Block). b.address == c.args.address) _ _ (one _ c.args.address c.requires.distinct) found in
    omega (arith, within, c.deref.ensures.len, ap length c.deref.ensures.value)
