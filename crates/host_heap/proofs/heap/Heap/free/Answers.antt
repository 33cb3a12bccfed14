use Rattle.std.proofs.Common.{sym, ◌∙◌, rules, arith}
use Rattle.std.proofs.lemmas.Bool.{OnFalse_from}
use Rattle.host_heap.proofs.Keeps.{IsSound-freed, freed-none}
use Rattle.host_heap.proofs.heap.Heap.free.Goals as goal

pub invariant_of-self : goal.invariant_of-self
invariant_of-self c = (rw c.remove.ensures.items (IsSound-freed _ c.args.a c.self.invariant.0), omega arith)

pub returns-clause-found : goal.returns-clause-found
returns-clause-found c = search rules

pub returns-clause-after : goal.returns-clause-after
returns-clause-after c = search rules

pub returns-clause-unchanged : goal.returns-clause-unchanged
returns-clause-unchanged c =
    OnFalse_from c.remove.result _ (λ e. returns-clause-after c ∙ freed-none _ _ (sym (returns-clause-found c) ∙ e))

pub remove-requires : goal.remove-requires
remove-requires c = record {
  distinct = λ i j d l k. let before = c.self.invariant.0.apart i j d l k in let whole = c.self.invariant.0.aligned i d (omega arith) in omega (arith, before, whole.2);
}
