-- Where the words of a call stand.
use Rattle.std.proofs.Common.{◌≡◌, ℕ, zero, suc, ◌+◌, ◌<◌, true, false, List, [], ◌∷◌, length, get_or, Result, Ok, Err, arith, refl, sym, ap, ◌∙◌}
use Rattle.std.proofs.lemmas.Bool.{lt-ltb, le-ltb}
use Rattle.mix_bits.specs.Results.{◌>>=◌}
use Rattle.big_memory.specs.declared.refusals.Access.{Access}
use Rattle.args_ppc.specs.Words.{value_at, values_at}
use Rattle.args_ppc.specs.laws.Apart.{ParametersAreWords, WordsAreApart, WordsAreInTheFrame, WordsAreThere}

pub words_are_there : WordsAreThere
words_are_there r m i = record {
  registers = λ register is. rw (lt-ltb i 8 is.0) (ap (λ (n : ℕ). Ok (get_or r.gpr n 0)) (sym is.1));
  memory = λ has. rw (le-ltb i 8 has.0) refl;
}

pub words_are_apart : WordsAreApart
words_are_apart one other different = record {
  registers = λ register is too. different (omega (arith, is.1, too.1));
  bytes = λ at has too. different (omega (arith, has.1, has.2, too.1, too.2));
}

pub words_are_in_the_frame : WordsAreInTheFrame
words_are_in_the_frame sig true i at few has = (omega (arith, has.0, has.1), omega (arith, few, has.2))
words_are_in_the_frame sig false i at few has = (omega (arith, has.0, has.1), omega (arith, few, has.2))

-- the first of some values, and the others
parts : (v : Result ℕ Access) (others : Result (List ℕ) Access) (vs : List ℕ) → (v >>= λ x. others >>= λ xs. Ok (x ∷ xs)) ≡ Ok vs
    → (x : ℕ) × (xs : List ℕ) × (v ≡ Ok x) × (others ≡ Ok xs) × (vs ≡ x ∷ xs)
parts (Ok x) (Ok xs) vs e = let same : x ∷ xs ≡ vs = cc in (x, xs, refl, refl, sym same)
parts (Ok x) (Err bad) vs e = absurd (cc)
parts (Err bad) others vs e = absurd (cc)

pub parameters_are_words : ParametersAreWords
parameters_are_words r m first [] vs k d e within = absurd (omega (arith, within))
parameters_are_words r m first (p ∷ ps) vs zero d e within =
    let both = parts (value_at r m first p.size) (values_at r m (first + 1) ps) vs e in
    let here : first + 0 ≡ first = omega arith in
    ap (λ i. value_at r m i p.size) here ∙ both.2 ∙ ap (λ list. Ok (get_or list 0 0)) (sym both.4)
parameters_are_words r m first (p ∷ ps) vs (suc k) d e within =
    let both = parts (value_at r m first p.size) (values_at r m (first + 1) ps) vs e in
    let on : first + suc k ≡ first + 1 + k = omega arith in
    let inner : k < length ps = omega (arith, within) in
    ap (λ i. value_at r m i (get_or ps k d).size) on ∙ parameters_are_words r m (first + 1) ps both.1 k d both.3 inner ∙ ap (λ list. Ok (get_or list (suc k) 0)) (sym both.4)
