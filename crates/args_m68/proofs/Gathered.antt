-- Values that are appended one by one, by their places.
use Rattle.std.proofs.Common.{◌≡◌, ℕ, ◌+◌, ◌≤◌, List, [], ◌∷◌, ◌++◌, length, get_or, Result, Ok, Err, arith, sym, ap, ◌∙◌}
use Rattle.std.specs.Result.{IfOk}
use Rattle.mix_bits.specs.Results.{◌>>=◌}
use Rattle.big_memory.specs.declared.refusals.Access.{Access}
use Rattle.big_memory.specs.Memory.{Memory}
use Rattle.m68_isa.specs.declared.registers.Regs68.{Regs68}
use Rattle.proc_info.specs.declared.param.Param.{Param}
use Rattle.proc_info.specs.laws.Arguments.{behind}
use Rattle.proc_info.proofs.Chains.{behind_front}
use Rattle.args_m68.specs.declared.places.Place.{Place}
use Rattle.proc_info.specs.declared.conv.Route.{Route}
use Rattle.args_m68.specs.Places.{next_base, place_of, widths}
use Rattle.args_m68.specs.Values.{value_at}
use Rattle.proc_info.specs.inner.Arguments.{Appends}
use Rattle.args_m68.specs.Gather.{values_at}
use Rattle.args_m68.proofs.Handed.{rest_of, rest-is}

-- the last value
pub appends-one : (r : Regs68) (m : Memory) (route : Route) (base : ℕ) (ps : List Param) (key : Param) (place : Place) (v : ℕ) (old new : List ℕ) → length ps ≡ 1
    → place ≡ place_of route base (get_or ps 0 key) 0 → value_at r m place (get_or ps 0 key).size ≡ Ok v → new ≡ old ++ v ∷ [] → behind old (values_at r m route base ps) ≡ Ok new
appends-one r m route base [] key place v old new one at read push = absurd (omega (arith, one))
appends-one r m route base (p ∷ q ∷ ps) key place v old new one at read push = absurd (omega (arith, one))
appends-one r m route base (p ∷ []) key place v old new one at read push =
    ap (λ x. behind old (x >>= λ y. Ok (y ∷ []))) (ap (λ q. value_at r m q p.size) (sym at) ∙ read) ∙ ap Ok (sym push)

-- a value in front of others
chain : (r : Regs68) (m : Memory) (route : Route) (base w v : ℕ) (p : Param) (ps : List Param) (place : Place) → w ≡ widths (rest_of (p ∷ ps)) → place ≡ place_of route base p w → value_at r m place p.size ≡ Ok v
    → values_at r m route base (p ∷ ps) ≡ (values_at r m route (next_base route base) ps >>= λ vs. Ok (v ∷ vs))
chain r m route base w v p ps place wide at read =
    ap (λ x. x >>= λ y. values_at r m route (next_base route base) ps >>= λ vs. Ok (y ∷ vs))
    (ap (λ q. value_at r m q p.size) (sym (at ∙ ap (place_of route base p) (wide ∙ ap widths (rest-is p ps)))) ∙ read)

pub appends-more : {T : Type 0} (result : Result T Access) (r : Regs68) (m : Memory) (route : Route) (base w next : ℕ) (ps : List Param) (key : Param) (place : Place) (v : ℕ) (old mid new : List ℕ) → 1 ≤ length ps
    → w ≡ widths (rest_of ps) → place ≡ place_of route base (get_or ps 0 key) w → value_at r m place (get_or ps 0 key).size ≡ Ok v → mid ≡ old ++ v ∷ [] → next ≡ next_base route base
    → Appends result mid new (values_at r m route next (rest_of ps)) → Appends result old new (values_at r m route base ps)
appends-more (Ok done) r m route base w next [] key place v old mid new some wide at read push on others = absurd (omega (arith, some))
appends-more (Err e) r m route base w next [] key place v old mid new some wide at read push on others = absurd (omega (arith, some))
appends-more (Ok done) r m route base w next (p ∷ ps) key place v old mid new some wide at read push on others =
    let rest = values_at r m route (next_base route base) ps in
    ap (behind old) (chain r m route base w v p ps place wide at read) ∙ behind_front old v rest ∙ ap (λ xs. behind xs rest) (sym push)
    ∙ ap (λ n. behind mid (values_at r m route n ps)) (sym on) ∙ ap (λ qs. behind mid (values_at r m route next qs)) (sym (rest-is p ps)) ∙ others
appends-more (Err e) r m route base w next (p ∷ ps) key place v old mid new some wide at read push on others =
    chain r m route base w v p ps place wide at read
    ∙ ap (λ x. x >>= λ vs. Ok (v ∷ vs)) (ap (λ n. values_at r m route n ps) (sym on) ∙ ap (λ qs. values_at r m route next qs) (sym (rest-is p ps)) ∙ others)

-- how many there are
pub counts-more : {A T : Type 0} (result : Result T Access) (xs : List A) (old mid new : ℕ) → 1 ≤ length xs → mid ≡ old + 1 → IfOk result (λ done. new ≡ mid + length (rest_of xs)) → IfOk result (λ done. new ≡ old + length xs)
counts-more (Ok done) [] old mid new some push others = absurd (omega (arith, some))
counts-more (Ok done) (x ∷ xs) old mid new some push others = omega (arith, push, others, ap length (rest-is x xs))
counts-more (Err e) xs old mid new some push others = tt
