use Rattle.std.proofs.Common.{◌≡◌, inl, inr, ℕ, ◌/◌, ◌≤◌, false, [], get_or, replicate, Result, Ok, Err, IfOk, sym, subst}
use Rattle.std.proofs.lemmas.Bool.{cases_lt}
use Rattle.std.proofs.lemmas.List.{get_or-replicate, get_or_past, length-replicate}
use Rattle.big_memory.specs.Memory.{Memory, IsRam, zeroed}
use Rattle.mix_bits.specs.declared.no_memory.NoMemory.{NoMemory}
use Rattle.switch_frame.specs.Chain.{Chain, records}
use Rattle.switch_frame.proofs.Linked.{begins_empty, reads_back}
use Rattle.call_tests.proofs.frames.memory.Goals as goal

unmarked : (n unit : ℕ) → get_or (replicate n false) unit false ≡ false
unmarked n unit =
    elim (cases_lt unit n) [
      | inl within ↦ get_or-replicate n unit false false within
      | inr past ↦ get_or_past (replicate n false) unit false (subst (λ k. k ≤ unit) (sym (length-replicate n false)) past)
    ]

starts : (n : ℕ) (m : Memory) → m ≡ zeroed n → IsRam m → Chain m 0 []
starts n m zeros ram = begins_empty m ram (λ unit. rw zeros (unmarked (n / 16) unit))

none : (n : ℕ) (m : Memory) → m ≡ zeroed n → IsRam m → records m.bytes 0 ≡ []
none n m zeros ram = reads_back m 0 [] (starts n m zeros ram).links

chain : (n : ℕ) (r : Result Memory NoMemory) → IfOk r (λ ram. ram ≡ zeroed n) → IfOk r (λ ram. IsRam ram) → IfOk r (λ ram. Chain ram 0 (records ram.bytes 0))
chain n (Ok m) zeros ram = subst (λ rs. Chain m 0 rs) (sym (none n m zeros ram)) (starts n m zeros ram)
chain n (Err e) zeros ram = tt

empty : (n : ℕ) (r : Result Memory NoMemory) → IfOk r (λ ram. ram ≡ zeroed n) → IfOk r (λ ram. IsRam ram) → IfOk r (λ ram. records ram.bytes 0 ≡ [])
empty n (Ok m) zeros ram = none n m zeros ram
empty n (Err e) zeros ram = tt

pub returns-clause-chain : goal.returns-clause-chain
returns-clause-chain c = chain c.args.bytes c.new.result c.new.ensures.zeros c.new.ensures.whole

pub returns-clause-empty : goal.returns-clause-empty
returns-clause-empty c = empty c.args.bytes c.new.result c.new.ensures.zeros c.new.ensures.whole
