-- Words that are appended one by one.
use Rattle.std.proofs.Common.{◌≡◌, ℕ, ◌+◌, ◌≤◌, List, [], ◌∷◌, ◌++◌, length, get_or, Result, Ok, Err, arith, sym, ap, ◌∙◌}
use Rattle.std.specs.Result.{IfOk}
use Rattle.mix_bits.specs.Results.{◌>>=◌}
use Rattle.big_memory.specs.declared.refusals.Access.{Access}
use Rattle.big_memory.specs.Memory.{Memory}
use Rattle.ppc_isa.specs.declared.registers.RegsPpc.{RegsPpc}
use Rattle.proc_info.specs.declared.param.Param.{Param}
use Rattle.proc_info.specs.laws.Arguments.{behind}
use Rattle.proc_info.proofs.Chains.{behind_front}
use Rattle.proc_info.specs.inner.Arguments.{Appends}
use Rattle.args_ppc.specs.Words.{value_at as word_value, values_at as word_values}
use Rattle.args_ppc.proofs.Handed.{rest_of, rest-is}

-- how many there are
pub counts-more : {A T : Type 0} (result : Result T Access) (xs : List A) (old mid new : ℕ) → 1 ≤ length xs → mid ≡ old + 1 → IfOk result (λ done. new ≡ mid + length (rest_of xs)) → IfOk result (λ done. new ≡ old + length xs)
counts-more (Ok done) [] old mid new some push others = absurd (omega (arith, some))
counts-more (Ok done) (x ∷ xs) old mid new some push others = omega (arith, push, others, ap length (rest-is x xs))
counts-more (Err e) xs old mid new some push others = tt

-- a word in front of others
pub appends-word : {T : Type 0} (result : Result T Access) (r : RegsPpc) (m : Memory) (i : ℕ) (ps : List Param) (key : Param) (v : ℕ) (old mid new : List ℕ) → 1 ≤ length ps
    → word_value r m i (get_or ps 0 key).size ≡ Ok v → mid ≡ old ++ v ∷ [] → Appends result mid new (word_values r m (i + 1) (rest_of ps)) → Appends result old new (word_values r m i ps)
appends-word (Ok done) r m i [] key v old mid new some read push others = absurd (omega (arith, some))
appends-word (Err e) r m i [] key v old mid new some read push others = absurd (omega (arith, some))
appends-word (Ok done) r m i (p ∷ ps) key v old mid new some read push others =
    let rest = word_values r m (i + 1) ps in
    ap (λ x. behind old (x >>= λ y. rest >>= λ vs. Ok (y ∷ vs))) read ∙ behind_front old v rest ∙ ap (λ xs. behind xs rest) (sym push)
    ∙ ap (λ qs. behind mid (word_values r m (i + 1) qs)) (sym (rest-is p ps)) ∙ others
appends-word (Err e) r m i (p ∷ ps) key v old mid new some read push others =
    ap (λ x. x >>= λ y. word_values r m (i + 1) ps >>= λ vs. Ok (y ∷ vs)) read
    ∙ ap (λ x. x >>= λ vs. Ok (v ∷ vs)) (ap (λ qs. word_values r m (i + 1) qs) (sym (rest-is p ps)) ∙ others)
