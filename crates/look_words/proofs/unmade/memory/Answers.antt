-- Zeros are as many as are asked for.
use Rattle.std.proofs.Common.{◌≡◌, ◌∙◌, ap, ℕ, length}
use Rattle.std.proofs.lemmas.List.{length-replicate}
use Rattle.std.proofs.lemmas.Result.{IfOk-weaker}
use Rattle.big_memory.specs.Memory.{Memory, zeroed}
use Rattle.look_words.proofs.unmade.memory.Goals as goal

zeroed_long : (n : ℕ) (m : Memory) → m ≡ zeroed n → length m.bytes ≡ n
zeroed_long n m is = ap (λ (x : Memory). length x.bytes) is ∙ length-replicate n 0

pub returns : goal.returns
returns c =
    IfOk-weaker c.new.result (λ (ram : Memory). ram ≡ zeroed c.args.bytes) (λ (ram : Memory). length ram.bytes ≡ c.args.bytes) (zeroed_long c.args.bytes) c.new.ensures.zeros
