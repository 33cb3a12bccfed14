-- Parameters as digits of a number, one digit at a time.
use Rattle.std.proofs.Common.{◌≡◌, ◌≢◌, ◌⊎◌, inl, inr, ℕ, zero, suc, ◌+◌, ◌-◌, ◌/◌, ◌%◌, ◌<◌, ◌≤◌, Result, Ok, Err, List, [], ◌∷◌, ◌++◌, length, take, drop, replicate, set, append_assoc, append-nil, drop-cons, get_or, length-set, arith, refl, sym, ap, ◌∙◌}
use Rattle.std.proofs.lemmas.Grind.{common_steps}
use Rattle.std.proofs.lemmas.List.{drop-set-lt}
use Rattle.mix_bits.specs.Results.{◌>>=◌}
use Rattle.proc_info.specs.declared.bad_info.BadInfo.{BadInfo}
use Rattle.proc_info.specs.declared.bad_info.BadInfo.TheVariants.{Gap}
use Rattle.proc_info.specs.declared.conv.Shape.{Shape}
use Rattle.proc_info.specs.declared.param.Param.{Param}
use Rattle.proc_info.specs.inner.Nothing.{nothing}
use Rattle.proc_info.specs.Signature.{base, param_at, params_at}
use Rattle.proc_info.specs.inner.Filling.{Begins}

-- the number 0 says no parameters
pub params_zero : (shape : Shape) (most : ℕ) → params_at shape most 0 ≡ Ok []
unfolding params_at
params_zero shape zero = refl
params_zero shape (suc most) = refl

-- another number says none where no digit may be left
pub params_none : (shape : Shape) (v : ℕ) → v ≢ 0 → params_at shape 0 v ≡ Err Gap
unfolding params_at
params_none shape v some = grind arith

-- nor where its lowest digit has size 0
pub params_gap : (shape : Shape) (most v : ℕ) → v ≢ 0 → v % 4 ≡ 0 → params_at shape most v ≡ Err Gap
unfolding params_at
params_gap shape zero v some gap = grind arith
params_gap shape (suc most) v some gap = grind arith

-- else it says the parameter of its lowest digit, and those of the digits above
pub params_next : (shape : Shape) (most v : ℕ) → v ≢ 0 → v % 4 ≢ 0 → params_at shape (suc most) v ≡ (params_at shape most (v / base shape) >>= λ ps. Ok (param_at shape v ∷ ps))
unfolding params_at
params_next shape most v some sized = grind arith

-- parameters in front of those that are left
abbrev pub behind : List Param → Result (List Param) BadInfo → Result (List Param) BadInfo
behind xs r = r >>= λ ps. Ok (xs ++ ps)

behind-one : (xs : List Param) (p : Param) (r : Result (List Param) BadInfo) → behind xs (r >>= λ ps. Ok (p ∷ ps)) ≡ behind (xs ++ p ∷ []) r
behind-one xs p (Ok ps) = ap Ok (sym (append_assoc xs (p ∷ []) ps))
behind-one xs p (Err e) = refl

behind-none : (r : Result (List Param) BadInfo) → r ≡ behind [] r
behind-none (Ok ps) = refl
behind-none (Err e) = refl

-- the parameters so far stand at the front of a list, and the digits that are left say the others
pub record IsFilling (shape : Shape) (most v : ℕ) (list : List Param) (count left : ℕ) : Type 0 where
  pub few : count ≤ most
  pub rest : drop count list ≡ replicate (length list - count) nothing
  pub front : params_at shape most v ≡ behind (take count list) (params_at shape (most - count) left)

pub filling-none : (shape : Shape) (most v : ℕ) (list : List Param) → list ≡ replicate (length list) nothing → IsFilling shape most v list 0 v
filling-none shape most v list empty =
    let whole : length list ≡ length list - 0 = omega arith in
    let all : most ≡ most - 0 = omega arith in
    record { few = omega arith; rest = empty ∙ ap (λ n. replicate n nothing) whole; front = behind-none (params_at shape most v) ∙ ap (λ n. behind [] (params_at shape n v)) all }

-- one parameter more
rest-more : (list : List Param) (count : ℕ) (p : Param) → count < length list → drop count list ≡ replicate (length list - count) nothing
    → drop (count + 1) (set list count p) ≡ replicate (length (set list count p) - (count + 1)) nothing
rest-more list count p some rest =
    let left : length list - count ≡ suc (length list - (count + 1)) = omega (arith, some) in
    let tail : get_or list count nothing ∷ drop (suc count) list ≡ nothing ∷ replicate (length list - (count + 1)) nothing = sym (drop-cons list count nothing some) ∙ rest ∙ ap (λ n. replicate n nothing) left in
    let behind_it : drop (suc count) list ≡ replicate (length list - (count + 1)) nothing = cc in
    let next : suc count ≡ count + 1 = omega arith in
    drop-set-lt (count + 1) list count p (omega arith) ∙ ap (λ n. drop n list) (sym next) ∙ behind_it ∙ ap (λ n. replicate (n - (count + 1)) nothing) (sym (length-set list count p))

take-more : (list : List Param) (count : ℕ) (p : Param) → count < length list → take (count + 1) (set list count p) ≡ take count list ++ p ∷ []
take-more list count p some = grind (arith, common_steps)

pub filling-more : (shape : Shape) (most v count left above : ℕ) (list : List Param) (p : Param) → most ≤ length list → count ≢ most → left ≢ 0 → left % 4 ≢ 0 → p ≡ param_at shape left → above ≡ left / base shape
    → IsFilling shape most v list count left → IsFilling shape most v (set list count p) (count + 1) above
filling-more shape most v count left above list p room other some sized lowest next amid =
    let small : count < most = omega (arith, amid.few) in
    let one : most - count ≡ suc (most - (count + 1)) = omega arith in
    let inside : count < length list = omega arith in
    record {
      few = omega arith;
      rest = rest-more list count p inside amid.rest;
      front =
          amid.front ∙ ap (λ n. behind (take count list) (params_at shape n left)) one
          ∙ ap (behind (take count list)) (params_next shape (most - (count + 1)) left some sized)
          ∙ behind-one (take count list) (param_at shape left) (params_at shape (most - (count + 1)) (left / base shape))
          ∙ ap (λ x. behind (take count list ++ x ∷ []) (params_at shape (most - (count + 1)) (left / base shape))) (sym lowest)
          ∙ ap (λ xs. behind xs (params_at shape (most - (count + 1)) (left / base shape))) (sym (take-more list count p inside))
          ∙ ap (λ d. behind (take (count + 1) (set list count p)) (params_at shape (most - (count + 1)) d)) (sym next);
    }

-- no digit is left
pub filled : (shape : Shape) (most v count left : ℕ) (list : List Param) → left ≡ 0 → IsFilling shape most v list count left → Begins most list count (params_at shape most v)
filled shape most v count left list none amid =
    record {
      front = amid.front ∙ ap (λ d. behind (take count list) (params_at shape (most - count) d)) none ∙ ap (behind (take count list)) (params_zero shape (most - count)) ∙ ap Ok (append-nil (take count list));
      few = amid.few;
      rest = amid.rest;
    }

-- a digit is left that says no parameter
pub refused : (shape : Shape) (most v count left : ℕ) (list : List Param) → left ≢ 0 → (count ≡ most) ⊎ (left % 4 ≡ 0) → IsFilling shape most v list count left → params_at shape most v ≡ Err Gap
refused shape most v count left list some (inl all) amid =
    let none : most - count ≡ 0 = omega arith in
    amid.front ∙ ap (λ n. behind (take count list) (params_at shape n left)) none ∙ ap (behind (take count list)) (params_none shape left some)
refused shape most v count left list some (inr gap) amid = amid.front ∙ ap (behind (take count list)) (params_gap shape (most - count) left some gap)
