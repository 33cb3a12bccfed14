-- The first records, one after the other.
use Rattle.std.proofs.Common.{◌≡◌, ℕ, zero, suc, ◌+◌, ◌*◌, ◌<◌, List, [], ◌∷◌, ◌++◌, length, take, set, Ok, Err, arith, ap, sym, ◌∙◌, refl, zero-add}
use Rattle.std.proofs.lemmas.List.{same_lists, places, get_or-set_same, length-set, map-append}
use Rattle.mix_bits.specs.Results.{◌>>=◌}
use Rattle.big_memory.specs.Memory.{Memory}
use Rattle.routine_desc.specs.declared.record.Rec.{Rec}
use Rattle.routine_desc.specs.declared.record.BadDesc.{BadDesc}
use Rattle.routine_desc.specs.Read.{first_records, read_record}

-- no record
pub records-none : (m : Memory) (a : ℕ) (recs : List Rec) → first_records m a 0 ≡ Ok (take 0 recs)
unfolding first_records
records-none m a recs = refl

-- one more record
pub records-more : (m : Memory) (a k : ℕ) (rs : List Rec) (r : Rec) → first_records m a k ≡ Ok rs → read_record m a (a + 12 + 20 * k) ≡ Ok r → first_records m a (suc k) ≡ Ok (rs ++ r ∷ [])
unfolding first_records
records-more m a k rs r first next =
    ap (λ x. x >>= λ rs. read_record m a (a + 12 + 20 * k) >>= λ r. Ok (rs ++ r ∷ [])) first ∙ ap (λ x. x >>= λ r. Ok (rs ++ r ∷ [])) next

-- a record that is refused
pub records-refused : (m : Memory) (a k : ℕ) (rs : List Rec) (e : BadDesc) → first_records m a k ≡ Ok rs → read_record m a (a + 12 + 20 * k) ≡ Err e → first_records m a (suc k) ≡ Err e
unfolding first_records
records-refused m a k rs e first next =
    ap (λ x. x >>= λ rs. read_record m a (a + 12 + 20 * k) >>= λ r. Ok (rs ++ r ∷ [])) first ∙ ap (λ x. x >>= λ r. Ok (rs ++ r ∷ [])) next

-- and with it all that have it among them
pub records-stay_refused : (m : Memory) (a k j : ℕ) (e : BadDesc) → first_records m a k ≡ Err e → first_records m a (j + k) ≡ Err e
unfolding first_records
records-stay_refused m a k zero e refused = ap (λ n. first_records m a n) (zero-add k) ∙ refused
records-stay_refused m a k (suc j) e refused =
    let more : suc j + k ≡ suc (j + k) = omega arith in
    ap (λ n. first_records m a n) more
    ∙ ap (λ x. x >>= λ rs. read_record m a (a + 12 + 20 * (j + k)) >>= λ r. Ok (rs ++ r ∷ [])) (records-stay_refused m a k j e refused)

-- the list with one more record in its place
pub take-set : (recs : List Rec) (k : ℕ) (r : Rec) → k < length recs → take k recs ++ r ∷ [] ≡ take (k + 1) (set recs k r)
take-set recs k r within = same_lists _ _ (grind (arith, places, length-set {A = Rec})) (λ i d w. grind (arith, places, get_or-set_same))
