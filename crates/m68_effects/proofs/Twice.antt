-- Exchanging twice, and swapping twice.
use Rattle.std.proofs.Common.{◌≡◌, ◌≢◌, ℕ, ◌^◌, ◌<◌, ◌∙◌, List, length, get_or, Ok, ⊎_elim, refl, sym, ap, subst, arith, get_or-set_same, get_or-set_other}
use Rattle.std.proofs.Math.ListN.{set}
use Rattle.std.proofs.lemmas.List.{length-set, set-set, set_comm, set-get_or}
use Rattle.std.proofs.lemmas.Bool.{cases_eq}
use Rattle.mix_bits.specs.declared.size.Size.TheVariants.{Four}
use Rattle.m68_isa.specs.declared.instructions.Exchange.TheVariants.{Data, Address, DataAddress}
use Rattle.m68_alu.specs.Sizes.{result_flags}
use Rattle.m68_effects.specs.laws.Laws.{ExchangesBack, SwapsBack}
use Rattle.m68_effects.specs.inner.Rows.{halves_swapped}
use Rattle.m68_effects.specs.Parts.{Effect}

-- two elements in each other's place
abbrev exchanged : List ℕ → ℕ → ℕ → List ℕ
exchanged xs x y = set (set xs x (get_or xs y 0)) y (get_or xs x 0)

first-of : (xs : List ℕ) (x y : ℕ) → x < length xs → y < length xs → get_or (exchanged xs x y) y 0 ≡ get_or xs x 0
first-of xs x y below above =
    let here : y < length (set xs x (get_or xs y 0)) = rw length-set above in get_or-set_same (set xs x (get_or xs y 0)) y (get_or xs x 0) 0 here

second-of : (xs : List ℕ) (x y : ℕ) → x < length xs → y < length xs → get_or (exchanged xs x y) x 0 ≡ get_or xs y 0
second-of xs x y below above =
    ⊎_elim (λ same. subst (λ z. get_or (exchanged xs x z) x 0 ≡ get_or xs z 0) same (first-of xs x x below below))
    (λ other. get_or-set_other (set xs x (get_or xs y 0)) y x (get_or xs x 0) 0 other ∙ get_or-set_same xs x (get_or xs y 0) 0 below)
    (cases_eq x y)

-- written back
back-same : (xs : List ℕ) (x : ℕ) → set (set (exchanged xs x x) x (get_or xs x 0)) x (get_or xs x 0) ≡ xs
back-same xs x = simp set-get_or

back-other : (xs : List ℕ) (x y : ℕ) → x ≢ y → set (set (exchanged xs x y) x (get_or xs x 0)) y (get_or xs y 0) ≡ xs
back-other xs x y other =
    let turned : y ≢ x = λ is. other (sym is) in
    let inner : set (exchanged xs x y) x (get_or xs x 0) ≡ set xs y (get_or xs x 0) =
    set_comm (set xs x (get_or xs y 0)) y x (get_or xs x 0) (get_or xs x 0) turned
    ∙ ap (λ zs. set zs y (get_or xs x 0)) (set-set xs x (get_or xs y 0) (get_or xs x 0) ∙ set-get_or xs x 0) in
    ap (λ zs. set zs y (get_or xs y 0)) inner ∙ set-set xs y (get_or xs x 0) (get_or xs y 0) ∙ set-get_or xs y 0

exchanged-twice : (xs : List ℕ) (x y : ℕ) → x < length xs → y < length xs → exchanged (exchanged xs x y) x y ≡ xs
exchanged-twice xs x y below above =
    ap (λ a. set (set (exchanged xs x y) x a) y (get_or (exchanged xs x y) x 0)) (first-of xs x y below above)
    ∙ ap (λ b. set (set (exchanged xs x y) x (get_or xs x 0)) y b) (second-of xs x y below above)
    ∙ ⊎_elim (λ same. subst (λ z. set (set (exchanged xs x z) x (get_or xs x 0)) z (get_or xs z 0) ≡ xs) same (back-same xs x)) (back-other xs x y) (cases_eq x y)

-- one element replaced, and then put back
put-back : (xs : List ℕ) (x a b : ℕ) → b ≡ get_or xs x 0 → set (set xs x a) x b ≡ xs
put-back xs x a b is = set-set xs x a b ∙ ap (set xs x) is ∙ set-get_or xs x 0

pub exchanges_back : ExchangesBack
exchanges_back r m next last Data x y file below above =
    let whole : List ℕ → Effect = λ d. Ok (record r { d = d; pc = last }, m) in
    let count : length r.d ≡ 8 = file.data_registers.count in
    ap whole (exchanged-twice r.d x y (omega arith) (omega arith))
exchanges_back r m next last Address x y file below above =
    let whole : List ℕ → Effect = λ a. Ok (record r { a = a; pc = last }, m) in
    let count : length r.a ≡ 8 = file.address_registers.count in
    ap whole (exchanged-twice r.a x y (omega arith) (omega arith))
exchanges_back r m next last DataAddress x y file below above =
    let whole : List ℕ → List ℕ → Effect = λ d a. Ok (record r { d = d; a = a; pc = last }, m) in
    let data_count : length r.d ≡ 8 = file.data_registers.count in
    let address_count : length r.a ≡ 8 = file.address_registers.count in
    let from_data : x < length r.d = omega arith in
    let from_address : y < length r.a = omega arith in
    let d : List ℕ = set r.d x (get_or r.a y 0) in
    let a : List ℕ = set r.a y (get_or r.d x 0) in
    ap (λ e. whole e (set a y (get_or d x 0))) (put-back r.d x (get_or r.a y 0) (get_or a y 0) (get_or-set_same r.a y (get_or r.d x 0) 0 from_address))
    ∙ ap (whole r.d) (put-back r.a y (get_or r.d x 0) (get_or d x 0) (get_or-set_same r.d x (get_or r.a y 0) 0 from_data))

-- the halves
halves-back : (v : ℕ) → v < 2 ^ 32 → halves_swapped (halves_swapped v) ≡ v
halves-back v fits = omega arith

pub swaps_back : SwapsBack
swaps_back r m next last n file below =
    let v : ℕ = get_or r.d n 0 in
    let whole : List ℕ → ℕ → Effect = λ d w. Ok (record r { d = d; pc = last; ccr = result_flags Four w r.ccr }, m) in
    let count : length r.d ≡ 8 = file.data_registers.count in
    let there : n < length r.d = omega arith in
    let again : halves_swapped (get_or (set r.d n (halves_swapped v)) n 0) ≡ v =
    ap halves_swapped (get_or-set_same r.d n (halves_swapped v) 0 there) ∙ halves-back v (file.data_registers.each n) in
    ap (λ w. whole (set (set r.d n (halves_swapped v)) n w) w) again ∙ ap (λ d. whole d v) (put-back r.d n (halves_swapped v) v refl)
