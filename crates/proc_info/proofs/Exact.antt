-- What keeps the rules is the signature of its word.
use Rattle.std.proofs.Common.{◌≡◌, ◌≢◌, ℕ, zero, suc, ◌+◌, ◌*◌, ◌/◌, ◌%◌, ◌^◌, ◌<◌, ◌≤◌, ◌==◌, true, not, ◌&&◌, ◌||◌, nat_le, Ok, Err, List, [], ◌∷◌, length, if◌then◌else◌, arith, refl, sym, ap, subst, ◌∙◌, inl, inr}
use Rattle.std.specs.List.{All}
use Rattle.std.proofs.lemmas.Bool.{eqb-true, ne_eqb, cases_lt}
use Rattle.std.proofs.lemmas.Bool.Decides.{nat_tests}
use Rattle.std.proofs.lemmas.List.Elements.{All-nil, All-head, All-tail}
use Rattle.std.proofs.Math.Nat.{pow-suc}
use Rattle.mix_bits.specs.Results.{◌>>=◌}
use Rattle.mix_bits.specs.declared.size.Size.{Size}
use Rattle.mix_bits.specs.declared.size.Size.TheVariants.{Zero, One, Two, Four}
use Rattle.proc_info.specs.declared.bad_info.BadInfo.{BadInfo}
use Rattle.proc_info.specs.declared.bad_info.BadInfo.TheVariants.{Gap, TopBit, Place, Twice}
use Rattle.proc_info.specs.declared.conv.Conv.{Conv}
use Rattle.proc_info.specs.declared.conv.Conv.TheVariants.{Pascal, C, Register, D0Pascal, D0C, D1Pascal, StackPascal}
use Rattle.proc_info.specs.declared.conv.Shape.{Shape}
use Rattle.proc_info.specs.declared.conv.Shape.TheVariants.{Stack, Dispatched, Registers}
use Rattle.proc_info.specs.declared.param.Param.{Param}
use Rattle.proc_info.specs.Codes.{conv_at, shape_of, size_at, size_code, is_place}
use Rattle.proc_info.specs.CodesClauses.{conv_code}
use Rattle.proc_info.specs.Rules.{IsParam, IsRest, KeepsRules}
use Rattle.proc_info.specs.Signature.{Signature, base, most_params, param_at, params_at, signature_by, signature_of}
use Rattle.proc_info.specs.inner.Shapes.{unless_twice, on_stack, with_selector, in_registers}
use Rattle.proc_info.specs.SignatureClauses.{digit_of_param, params_word, word_by, word_of}
use Rattle.proc_info.proofs.Params.{params_zero, params_next}

size_small : (s : Size) → size_code s < 4
size_small Zero = omega arith
size_small One = omega arith
size_small Two = omega arith
size_small Four = omega arith

size_same : (s : Size) → size_at (size_code s) ≡ s
size_same Zero = refl
size_same One = refl
size_same Two = refl
size_same Four = refl

size_some : (s : Size) → s ≢ Zero → size_code s ≢ 0
size_some Zero some none = some refl
size_some One some none = omega (arith, none)
size_some Two some none = omega (arith, none)
size_some Four some none = omega (arith, none)

conv_small : (c : Conv) → conv_code c < 16
conv_small Pascal = omega arith
conv_small C = omega arith
conv_small Register = omega arith
conv_small D0Pascal = omega arith
conv_small D0C = omega arith
conv_small D1Pascal = omega arith
conv_small StackPascal = omega arith

pub conv_same : (c : Conv) → conv_at (conv_code c) ≡ Ok c
conv_same Pascal = refl
conv_same C = refl
conv_same Register = refl
conv_same D0Pascal = refl
conv_same D0C = refl
conv_same D1Pascal = refl
conv_same StackPascal = refl

-- a number of a lowest digit and others above
low : (shape : Shape) (p : Param) (above : ℕ) → IsParam shape p → (digit_of_param shape p + base shape * above) % 4 ≡ size_code p.size
low Stack p above right = let s : size_code p.size < 4 = size_small p.size in omega arith
low Dispatched p above right = let s : size_code p.size < 4 = size_small p.size in omega arith
low Registers p above right = let s : size_code p.size < 4 = size_small p.size in omega arith

high : (shape : Shape) (p : Param) (above : ℕ) → IsParam shape p → (digit_of_param shape p + base shape * above) / base shape ≡ above
high Stack p above right = let s : size_code p.size < 4 = size_small p.size in omega arith
high Dispatched p above right = let s : size_code p.size < 4 = size_small p.size in omega arith
high Registers p above right =
    let s : size_code p.size < 4 = size_small p.size in
    let r : p.reg < 8 = right.held in
    omega arith

param_is : (p : Param) (size : Size) (reg : ℕ) → size ≡ p.size → reg ≡ p.reg → record { size = size; reg = reg } ≡ p
param_is p size reg sized held = rw (sized, held)

param_same : (shape : Shape) (p : Param) (above : ℕ) → IsParam shape p → param_at shape (digit_of_param shape p + base shape * above) ≡ p
param_same Stack p above right = param_is p _ _ (ap size_at (low Stack p above right) ∙ size_same p.size) (sym right.held)
param_same Dispatched p above right = param_is p _ _ (ap size_at (low Dispatched p above right) ∙ size_same p.size) (sym right.held)
param_same Registers p above right =
    let s : size_code p.size < 4 = size_small p.size in
    let r : p.reg < 8 = right.held in
    param_is p _ _ (ap size_at (low Registers p above right) ∙ size_same p.size) (omega arith)

-- the parameters that the digits of their own number say
params_same : (shape : Shape) (most : ℕ) (ps : List Param) → length ps ≤ most → All (IsParam shape) ps → params_at shape most (params_word shape ps) ≡ Ok ps
params_same shape most [] few each = params_zero shape most
params_same shape zero (p ∷ ps) few each = absurd (omega (arith, few))
params_same shape (suc most) (p ∷ ps) few each =
    let first : IsParam shape p = All-head (IsParam shape) p ps each in
    let others : All (IsParam shape) ps = All-tail (IsParam shape) p ps each in
    let above = params_word shape ps in
    let v = digit_of_param shape p + base shape * above in
    let digit : v % 4 ≡ size_code p.size = low shape p above first in
    let code : size_code p.size ≢ 0 = size_some p.size first.sized in
    let sized : v % 4 ≢ 0 = λ h. code (sym digit ∙ h) in
    let some : v ≢ 0 = λ h. sized (ap (λ n. n % 4) h) in
    let rest : params_at shape most (v / base shape) ≡ Ok ps = ap (params_at shape most) (high shape p above first) ∙ params_same shape most ps (omega (arith, few)) others in
    params_next shape most v some sized ∙ ap (λ r. r >>= λ qs. Ok (param_at shape v ∷ qs)) rest ∙ ap (λ q. Ok (q ∷ ps)) (param_same shape p above first)

digit_small : (p : Param) → IsParam Registers p → digit_of_param Registers p < 32
digit_small p right =
    let s : size_code p.size < 4 = size_small p.size in
    let r : p.reg < 8 = right.held in
    omega arith

-- so many registers fit in so many digits
word_small : (most : ℕ) (ps : List Param) → length ps ≤ most → All (IsParam Registers) ps → params_word Registers ps < 32 ^ most
word_small zero [] few each = omega arith
word_small zero (p ∷ ps) few each = absurd (omega (arith, few))
word_small (suc most) [] few each =
    let above : 0 < 32 ^ most = word_small most [] (omega arith) (All-nil (IsParam Registers)) in
    rw (pow-suc 32 most) (omega (arith, above))
word_small (suc most) (p ∷ ps) few each =
    let above : params_word Registers ps < 32 ^ most = word_small most ps (omega (arith, few)) (All-tail (IsParam Registers) p ps each) in
    let first : digit_of_param Registers p < 32 = digit_small p (All-head (IsParam Registers) p ps each) in
    rw (pow-suc 32 most) (omega (arith, above, first))

-- a place is a number of five bits
bits_small : (place : ℕ) → (nat_le place 14 || (nat_le 16 place && nat_le place 20)) ≡ true → place < 32
bits_small place allowed = elim (cases_lt place 32) [ inl below ↦ below | inr above ↦ grind (arith, nat_tests) ]

place_small : (place : ℕ) (size : Size) → is_place place size ≡ true → place < 32
place_small place Zero allowed = let none : place ≡ 0 = eqb-true place 0 allowed in omega arith
place_small place One allowed = bits_small place allowed
place_small place Two allowed = bits_small place allowed
place_small place Four allowed = bits_small place allowed

-- a signature by its fields
signature_is : (s : Signature) (result : Size) (place : ℕ) (selector : Size) → result ≡ s.result → place ≡ s.place → selector ≡ s.selector → record { conv = s.conv; result = result; place = place; selector = selector; params = s.params } ≡ s
signature_is s result place selector sized placed selects = rw (sized, placed, selects)

-- the word's parts, for each shape
by_same : (shape : Shape) (s : Signature) → length s.params ≤ most_params shape → All (IsParam shape) s.params → IsRest shape s → signature_by shape s.conv (word_by shape s) ≡ Ok s
unfolding signature_by
by_same Stack s few each rest =
    let c : conv_code s.conv < 16 = conv_small s.conv in
    let r : size_code s.result < 4 = size_small s.result in
    let w = word_by Stack s in
    let above : w / 64 ≡ params_word Stack s.params = omega arith in
    let sized : w / 16 % 4 ≡ size_code s.result = omega arith in
    let params : params_at Stack 13 (w / 64) ≡ Ok s.params = ap (params_at Stack 13) above ∙ params_same Stack 13 s.params few each in
    ap (λ r. r >>= λ ps. Ok (on_stack s.conv w ps)) params ∙ ap Ok (signature_is s (size_at (w / 16 % 4)) 0 Zero (ap size_at sized ∙ size_same s.result) (sym rest.0) (sym rest.1))
by_same Dispatched s few each rest =
    let c : conv_code s.conv < 16 = conv_small s.conv in
    let r : size_code s.result < 4 = size_small s.result in
    let t : size_code s.selector < 4 = size_small s.selector in
    let w = word_by Dispatched s in
    let above : w / 256 ≡ params_word Dispatched s.params = omega arith in
    let sized : w / 16 % 4 ≡ size_code s.result = omega arith in
    let selects : w / 64 % 4 ≡ size_code s.selector = omega arith in
    let some : w / 64 % 4 ≢ 0 = λ h. size_some s.selector rest.1 (sym selects ∙ h) in
    let params : params_at Dispatched 12 (w / 256) ≡ Ok s.params = ap (params_at Dispatched 12) above ∙ params_same Dispatched 12 s.params few each in
    ap (λ b. if b then Err Gap else (params_at Dispatched 12 (w / 256) >>= λ ps. Ok (with_selector s.conv w ps))) (ne_eqb _ _ some)
    ∙ ap (λ r. r >>= λ ps. Ok (with_selector s.conv w ps)) params
    ∙ ap Ok (signature_is s (size_at (w / 16 % 4)) 0 (size_at (w / 64 % 4)) (ap size_at sized ∙ size_same s.result) (sym rest.0) (ap size_at selects ∙ size_same s.selector))
by_same Registers s few each rest =
    let c : conv_code s.conv < 16 = conv_small s.conv in
    let r : size_code s.result < 4 = size_small s.result in
    let p : s.place < 32 = place_small s.place s.result rest.0 in
    let small : params_word Registers s.params < 32 ^ 4 = word_small 4 s.params few each in
    let w = word_by Registers s in
    let above : w / 2048 ≡ params_word Registers s.params = omega arith in
    let top : w / 2 ^ 31 ≡ 0 = omega arith in
    let sized : w / 16 % 4 ≡ size_code s.result = omega arith in
    let placed : w / 64 % 32 ≡ s.place = omega arith in
    let result : size_at (w / 16 % 4) ≡ s.result = ap size_at sized ∙ size_same s.result in
    let allowed : is_place (w / 64 % 32) (size_at (w / 16 % 4)) ≡ true = ap (λ n. is_place n (size_at (w / 16 % 4))) placed ∙ ap (is_place s.place) result ∙ rest.0 in
    let params : params_at Registers 4 (w / 2048) ≡ Ok s.params = ap (params_at Registers 4) above ∙ params_same Registers 4 s.params few each in
    let rows = params_at Registers 4 (w / 2048) >>= λ ps. unless_twice (in_registers s.conv w ps) in
    let placing = if not (is_place (w / 64 % 32) (size_at (w / 16 % 4))) then Err Place else rows in
    ap (λ n. if not (n == 0) then Err TopBit else placing) top
    ∙ ap (λ b. if not b then Err Place else rows) allowed
    ∙ ap (λ r. r >>= λ ps. unless_twice (in_registers s.conv w ps)) params
    ∙ ap (λ b. if b then Err Twice else Ok (in_registers s.conv w s.params)) rest.2
    ∙ ap Ok (signature_is s (size_at (w / 16 % 4)) (w / 64 % 32) Zero result placed (sym rest.1))

-- the convention is in the lowest digit
conv_low : (shape : Shape) (s : Signature) → word_by shape s % 16 ≡ conv_code s.conv
conv_low Stack s = let c : conv_code s.conv < 16 = conv_small s.conv in omega arith
conv_low Dispatched s = let c : conv_code s.conv < 16 = conv_small s.conv in omega arith
conv_low Registers s = let c : conv_code s.conv < 16 = conv_small s.conv in omega arith

-- what keeps the rules is the signature of its word
pub kept_same : (s : Signature) → KeepsRules s → signature_of (word_of s) ≡ Ok s
unfolding signature_of
kept_same s kept =
    let found : conv_at (word_of s % 16) ≡ Ok s.conv = ap conv_at (conv_low (shape_of s.conv) s) ∙ conv_same s.conv in
    ap (λ r. r >>= λ c. signature_by (shape_of c) c (word_of s)) found ∙ by_same (shape_of s.conv) s kept.few kept.each kept.rest

-- a refused word is no right signature's
pub refused_for_all : (w : ℕ) (e : BadInfo) → signature_of w ≡ Err e → (s : Signature) → KeepsRules s → word_of s ≢ w
refused_for_all w e refused s kept same =
    let read : signature_of w ≡ Ok s = subst (λ n. signature_of n ≡ Ok s) same (kept_same s kept) in
    cc
