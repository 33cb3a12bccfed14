-- A name, and what follows on it, are read back from their line.
use Rattle.std.proofs.Common.{◌≡◌, ℕ, suc, ◌==◌, List, [], ◌∷◌, ◌++◌, length, take, drop, Bool, true, false, if◌then◌else◌, refl, ap, ◌∙◌}
use Rattle.std.proofs.Math.Seq.{take-append_seam}
use Rattle.mix_bits.specs.laws.Names.{ends_name, no_space}
use Rattle.mix_bits.specs.Names.{name_length}
use Rattle.mix_bits.specs.laws.Laws.{NamesReadBack}

no_space_first : (b more : Bool) → (if b then false else more) ≡ true → (b ≡ false) × (more ≡ true)
no_space_first true more h = cc
no_space_first false more h = (refl, h)

name-length : (name rest : List ℕ) → no_space name ≡ true → ends_name rest ≡ true → name_length (name ++ rest) ≡ length name
name-length [] [] h e = refl
name-length [] (b ∷ bs) h e = ap (λ t. if t then 0 else suc (name_length bs)) e
name-length (x ∷ xs) rest h e =
    let parts : ((x == 32) ≡ false) × (no_space xs ≡ true) = no_space_first (x == 32) (no_space xs) h in
    ap (λ b. if b then 0 else suc (name_length (xs ++ rest))) parts.0 ∙ ap suc (name-length xs rest parts.1 e)

drop-past : (name rest : List ℕ) → drop (suc (length name)) (name ++ rest) ≡ drop 1 rest
drop-past [] rest = refl
drop-past (x ∷ xs) rest = drop-past xs rest

pub name_back : NamesReadBack
name_back name rest h e = (
  ap (λ k. take k (name ++ rest)) (name-length name rest h e) ∙ take-append_seam name rest,
  ap (λ k. drop (suc k) (name ++ rest)) (name-length name rest h e) ∙ drop-past name rest,
)
