-- What the first of some parameters and values adds, and what the others add behind it.
use Rattle.std.proofs.Common.{◌≡◌, ℕ, ◌+◌, ◌-◌, ◌≤◌, List, [], ◌∷◌, ◌++◌, length, take, drop, get_or, arith, sym, ap, ◌∙◌, append_assoc, length-append}
use Rattle.std.proofs.lemmas.List.{take_all}
use Rattle.mix_bits.specs.Sizes.{truncated}
use Rattle.proc_info.specs.declared.param.Param.{Param}
use Rattle.proc_info.specs.Cut.{cut}
use Rattle.args_ppc.proofs.Frames.{length-cut}

-- the others of a list
abbrev pub rest_of : {A : Type 0} → List A → List A
rest_of xs = take (length xs - 1) (drop 1 xs)

pub rest-is : {A : Type 0} (x : A) (xs : List A) → rest_of (x ∷ xs) ≡ xs
rest-is x xs = take_all (length (x ∷ xs) - 1) xs (omega arith)

-- words, each cut to its size
pub cut-behind : (ps : List Param) (vs : List ℕ) (key : Param) (old mid new : List ℕ) (w : ℕ) → 1 ≤ length ps → 1 ≤ length vs
    → w ≡ truncated (get_or vs 0 0) (get_or ps 0 key).size → mid ≡ old ++ w ∷ [] → new ≡ mid ++ cut (rest_of ps) (rest_of vs) → new ≡ old ++ cut ps vs
cut-behind [] vs key old mid new w some many cut-is first second = absurd (omega (arith, some))
cut-behind (p ∷ ps) [] key old mid new w some many cut-is first second = absurd (omega (arith, many))
cut-behind (p ∷ ps) (v ∷ vs) key old mid new w some many cut-is first second =
    second
    ∙ ap (λ xs. xs ++ cut (rest_of (p ∷ ps)) (rest_of (v ∷ vs))) (first ∙ ap (λ n. old ++ n ∷ []) cut-is)
    ∙ ap (λ qs. (old ++ truncated v p.size ∷ []) ++ cut qs (rest_of (v ∷ vs))) (rest-is p ps) ∙ ap (λ ws. (old ++ truncated v p.size ∷ []) ++ cut ps ws) (rest-is v vs)
    ∙ append_assoc old (truncated v p.size ∷ []) (cut ps vs)

pub cut-long : (ps : List Param) (vs old new : List ℕ) → length vs ≡ length ps → new ≡ old ++ cut ps vs → length new ≡ length old + length ps
cut-long ps vs old new same is = ap length is ∙ length-append old (cut ps vs) ∙ ap (λ n. length old + n) (length-cut ps vs same)
