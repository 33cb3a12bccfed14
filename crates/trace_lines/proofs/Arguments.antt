-- The arguments of a call: they are read where they were written, and nothing else is.
use Rattle.std.proofs.Common.{◌≡◌, ℕ, suc, ◌==◌, List, [], ◌∷◌, ◌++◌, length, drop, Bool, true, false, Option, Some, None, if◌then◌else◌, refl, ap, subst, sym, ◌∙◌, arith}
use Rattle.std.specs.Prelude.{codes}
use Rattle.std.specs.Option.{option_and_then, option_map}
use Rattle.std.proofs.lemmas.Bool.{eqb-true}
use Rattle.mix_bits.specs.Sizes.{truncated}
use Rattle.proc_info.specs.declared.param.Param.{Param}
use Rattle.proc_info.specs.Cut.{cut}
use Rattle.call_trace.specs.Lines.{arguments, marked}
use Rattle.trace_lines.specs.inner.Pieces.{marked_value, marked_width}
use Rattle.trace_lines.specs.inner.Reading.{args_in}
use Rattle.trace_lines.proofs.Sized.{behind-value, value-read, value-written}

-- values that have the sizes of their parameters
pub record AreSized (ps : List Param) (vs : List ℕ) : Type 0 where
  pub cut_same : cut ps vs ≡ vs
  pub count : length vs ≡ length ps

heads : (a b : ℕ) (xs ys : List ℕ) → a ∷ xs ≡ b ∷ ys → a ≡ b
heads a b xs ys same = cc

tails : (a b : ℕ) (xs ys : List ℕ) → a ∷ xs ≡ b ∷ ys → xs ≡ ys
tails a b xs ys same = cc

pub args-written : (ps : List Param) (vs : List ℕ) → AreSized ps vs → args_in ps (arguments ps vs) ≡ Some vs
unfolding arguments
args-written [] [] sized = refl
args-written [] (v ∷ vs) sized = absurd (let count : suc (length vs) ≡ 0 = sized.count in omega arith)
args-written (p ∷ ps) [] sized = absurd (let count : 0 ≡ suc (length ps) = sized.count in omega arith)
args-written (p ∷ ps) (v ∷ vs) sized =
    let same : truncated v p.size ∷ cut ps vs ≡ v ∷ vs = sized.cut_same in
    let long : suc (length vs) ≡ suc (length ps) = sized.count in
    let rest : AreSized ps vs = record { cut_same = tails _ _ _ _ same; count = omega arith } in
    ap (option_and_then (λ x. option_map (λ xs. x ∷ xs) (args_in ps (drop (marked_width (codes " ") p.size) (marked (codes " ") p.size v ++ arguments ps vs)))))
    (value-written (codes " ") p.size v (arguments ps vs) (heads _ _ _ _ same))
    ∙ ap (λ t. option_map (λ xs. v ∷ xs) (args_in ps t)) (behind-value (codes " ") p.size v (arguments ps vs))
    ∙ ap (option_map (λ xs. v ∷ xs)) (args-written ps vs rest)

-- arguments that a text is
pub record AreRead (ps : List Param) (vs text : List ℕ) : Type 0 where
  pub text_is : text ≡ arguments ps vs
  pub sized : AreSized ps vs

empty-is : (text : List ℕ) → length text ≡ 0 → text ≡ []
empty-is [] none = refl
empty-is (b ∷ text) none = absurd (let no : suc (length text) ≡ 0 = none in omega arith)

none-by : (text vs : List ℕ) (t : Bool) → (length text == 0) ≡ t → (if t then Some [] else None) ≡ Some vs → AreRead [] vs text
unfolding arguments
none-by text vs true q h =
    let same : [] ≡ vs = (let is : Some [] ≡ Some vs = h in cc) in
    record { text_is = empty-is text (eqb-true (length text) 0 q); sized = record { cut_same = same; count = ap length (sym same) } }
none-by text vs false q h = absurd (let no : None ≡ Some vs = h in cc)

last-by : (p : Param) (ps : List Param) (text vs : List ℕ) (v : ℕ) (o : Option (List ℕ))
    → ((ws : List ℕ) → o ≡ Some ws → AreRead ps ws (drop (marked_width (codes " ") p.size) text))
    → marked_value (codes " ") p.size text ≡ Some v → option_map (λ xs. v ∷ xs) o ≡ Some vs → AreRead (p ∷ ps) vs text
unfolding arguments
last-by p ps text vs v None more q h = absurd (let no : None ≡ Some vs = h in cc)
last-by p ps text vs v (Some ws) more q h =
    let all : v ∷ ws ≡ vs = (let is : Some (v ∷ ws) ≡ Some vs = h in cc) in
    let told = more ws refl in
    let value = value-read (codes " ") p.size v text q in
    let first : truncated v p.size ≡ v = value.sized in
    let others : cut ps ws ≡ ws = told.sized.cut_same in
    let cuts : truncated v p.size ∷ cut ps ws ≡ v ∷ ws = cc in
    subst (λ xs. AreRead (p ∷ ps) xs text) all (record {
      text_is = value.text_is ∙ ap (λ t. marked (codes " ") p.size v ++ t) told.text_is;
      sized = record { cut_same = cuts; count = ap suc told.sized.count };
    })

first-by : (p : Param) (ps : List Param) (text vs : List ℕ) (o : Option ℕ)
    → ((ws : List ℕ) → args_in ps (drop (marked_width (codes " ") p.size) text) ≡ Some ws → AreRead ps ws (drop (marked_width (codes " ") p.size) text))
    → marked_value (codes " ") p.size text ≡ o
    → option_and_then (λ x. option_map (λ xs. x ∷ xs) (args_in ps (drop (marked_width (codes " ") p.size) text))) o ≡ Some vs → AreRead (p ∷ ps) vs text
first-by p ps text vs None more q h = absurd (let no : None ≡ Some vs = h in cc)
first-by p ps text vs (Some v) more q h = last-by p ps text vs v (args_in ps (drop (marked_width (codes " ") p.size) text)) more q h

pub args-read : (ps : List Param) (text vs : List ℕ) → args_in ps text ≡ Some vs → AreRead ps vs text
args-read [] text vs is = none-by text vs (length text == 0) refl is
args-read (p ∷ ps) text vs is =
    first-by p ps text vs (marked_value (codes " ") p.size text) (λ ws. args-read ps (drop (marked_width (codes " ") p.size) text) ws) refl is
