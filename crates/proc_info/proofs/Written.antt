-- The word of the signature of a word is that word.
use Rattle.std.proofs.Common.{◌≡◌, ℕ, zero, suc, ◌+◌, ◌*◌, ◌/◌, ◌%◌, ◌^◌, ◌<◌, ◌==◌, Bool, true, false, not, Result, Ok, Err, List, [], ◌∷◌, if◌then◌else◌, arith, refl, sym, ap, subst, ◌∙◌}
use Rattle.std.proofs.lemmas.Bool.{eqb-true}
use Rattle.mix_bits.specs.Results.{◌>>=◌}
use Rattle.mix_bits.proofs.Every.{every_at}
use Rattle.proc_info.specs.declared.bad_info.BadInfo.{BadInfo}
use Rattle.proc_info.specs.declared.bad_info.BadInfo.TheVariants.{Gap, TopBit, Place}
use Rattle.proc_info.specs.declared.conv.Conv.{Conv}
use Rattle.proc_info.specs.declared.conv.Shape.{Shape}
use Rattle.proc_info.specs.declared.conv.Shape.TheVariants.{Stack, Dispatched, Registers}
use Rattle.proc_info.specs.declared.param.Param.{Param}
use Rattle.proc_info.specs.Codes.{conv_at, shape_of, size_at, size_code, is_place}
use Rattle.proc_info.specs.CodesClauses.{conv_code}
use Rattle.proc_info.proofs.Makes.{made, made_once, tested}
use Rattle.proc_info.specs.Signature.{Signature, base, no_parameters, param_at, params_at, signature_by, signature_of}
use Rattle.proc_info.specs.inner.Shapes.{on_stack, with_selector, in_registers}
use Rattle.proc_info.specs.SignatureClauses.{digit_of_param, params_word, word_by, word_of}
use Rattle.proc_info.specs.inner.Signature.{IsSignature}

-- a size's number is the number that it was read from
pub size_back : (code : ℕ) → code < 4 → size_code (size_at code) ≡ code
size_back code below = eqb-true _ _ (every_at 2 (λ n. size_code (size_at n) == n) code refl below)

-- whether a number is that of the convention with this number, or of none
is_conv_code : Result Conv BadInfo → ℕ → Bool
is_conv_code (Ok conv) code = conv_code conv == code
is_conv_code (Err e) code = true

conv_test : (r : Result Conv BadInfo) (conv : Conv) (code : ℕ) → is_conv_code r code ≡ true → r ≡ Ok conv → conv_code conv ≡ code
unfolding is_conv_code
conv_test (Ok found) conv code holds same = let e : found ≡ conv = cc in ap conv_code (sym e) ∙ eqb-true _ _ holds
conv_test (Err e) conv code holds same = cc

-- a convention's number is the number that it was read from
pub conv_back : (code : ℕ) (conv : Conv) → code < 16 → conv_at code ≡ Ok conv → conv_code conv ≡ code
unfolding is_conv_code
conv_back code conv below found = conv_test (conv_at code) conv code (every_at 4 (λ n. is_conv_code (conv_at n) n) code refl below) found

-- a number is its lowest digit and the digits above
digit_back : (shape : Shape) (v : ℕ) → digit_of_param shape (param_at shape v) + base shape * (v / base shape) ≡ v
digit_back Stack v = let lowest : size_code (size_at (v % 4)) ≡ v % 4 = size_back (v % 4) (omega arith) in omega arith
digit_back Dispatched v = let lowest : size_code (size_at (v % 4)) ≡ v % 4 = size_back (v % 4) (omega arith) in omega arith
digit_back Registers v = let lowest : size_code (size_at (v % 4)) ≡ v % 4 = size_back (v % 4) (omega arith) in omega arith

-- one digit more
params_step : (shape : Shape) (v : ℕ) (none gap : Bool) (rest : Result (List Param) BadInfo) (ps : List Param) → (none ≡ true → v ≡ 0) → ((qs : List Param) → rest ≡ Ok qs → params_word shape qs ≡ v / base shape) → (if none then Ok [] else (if gap then Err Gap else (rest >>= λ qs. Ok (param_at shape v ∷ qs)))) ≡ Ok ps → params_word shape ps ≡ v
params_step shape v true gap rest ps empty above said =
    let nothing : [] ≡ ps = cc in ap (params_word shape) (sym nothing) ∙ sym (empty refl)
params_step shape v false true rest ps empty above said = cc
params_step shape v false false (Err e) ps empty above said = cc
params_step shape v false false (Ok qs) ps empty above said =
    let same : param_at shape v ∷ qs ≡ ps = cc in
    ap (params_word shape) (sym same) ∙ ap (λ n. digit_of_param shape (param_at shape v) + base shape * n) (above qs refl) ∙ digit_back shape v

-- the parameters that a number's digits say have that number as their digits
pub params_back : (shape : Shape) (most v : ℕ) (ps : List Param) → params_at shape most v ≡ Ok ps → params_word shape ps ≡ v
unfolding params_at
params_back shape zero v ps said = params_step shape v (v == 0) true (Err Gap) ps (eqb-true v 0) (λ qs h. cc) said
params_back shape (suc most) v ps said = params_step shape v (v == 0) (v % 4 == 0) (params_at shape most (v / base shape)) ps (eqb-true v 0) (λ qs. params_back shape most (v / base shape) qs) said

-- the word by a convention's shape
shaped_back : (shape : Shape) (w : ℕ) (s : Signature) → shape_of s.conv ≡ shape → word_by shape s ≡ w → word_of s ≡ w
shaped_back shape w s shaped back = subst (λ k. word_by k s ≡ w) (sym shaped) back

-- for each shape
by_back : (shape : Shape) (conv : Conv) (w : ℕ) (s : Signature) → shape_of conv ≡ shape → conv_code conv ≡ w % 16 → signature_by shape conv w ≡ Ok s → word_of s ≡ w
unfolding signature_by
by_back Stack conv w s shaped coded said =
    made (λ t. word_of t ≡ w) (params_at Stack 13 (w / 64)) (on_stack conv w) s
    (λ ps read.
    let params : params_word Stack ps ≡ w / 64 = params_back Stack 13 (w / 64) ps read in
    let result : size_code (size_at (w / 16 % 4)) ≡ w / 16 % 4 = size_back (w / 16 % 4) (omega arith) in
    shaped_back Stack w (on_stack conv w ps) shaped (omega arith))
    said
by_back Dispatched conv w s shaped coded said =
    made (λ t. word_of t ≡ w) (params_at Dispatched 12 (w / 256)) (with_selector conv w) s
    (λ ps read.
    let params : params_word Dispatched ps ≡ w / 256 = params_back Dispatched 12 (w / 256) ps read in
    let result : size_code (size_at (w / 16 % 4)) ≡ w / 16 % 4 = size_back (w / 16 % 4) (omega arith) in
    let selector : size_code (size_at (w / 64 % 4)) ≡ w / 64 % 4 = size_back (w / 64 % 4) (omega arith) in
    shaped_back Dispatched w (with_selector conv w ps) shaped (omega arith))
    (tested (w / 64 % 4 == 0) Gap _ s said).1
by_back Registers conv w s shaped coded said =
    let below = tested (not (w / 2 ^ 31 == 0)) TopBit _ s said in
    let placed = tested (not (is_place (w / 64 % 32) (size_at (w / 16 % 4)))) Place _ s below.1 in
    made_once (λ t. word_of t ≡ w) (params_at Registers 4 (w / 2048)) (in_registers conv w) s
    (λ ps read once.
    let params : params_word Registers ps ≡ w / 2048 = params_back Registers 4 (w / 2048) ps read in
    let result : size_code (size_at (w / 16 % 4)) ≡ w / 16 % 4 = size_back (w / 16 % 4) (omega arith) in
    shaped_back Registers w (in_registers conv w ps) shaped (omega arith))
    placed.1

-- a word whose convention is found
found_back : (w : ℕ) (r : Result Conv BadInfo) (s : Signature) → ((conv : Conv) → r ≡ Ok conv → conv_code conv ≡ w % 16) → (r >>= λ conv. signature_by (shape_of conv) conv w) ≡ Ok s → word_of s ≡ w
found_back w (Ok conv) s coded said = by_back (shape_of conv) conv w s refl (coded conv refl) said
found_back w (Err e) s coded said = cc

-- the word of a word's signature is that word
pub word_back : (w : ℕ) (s : Signature) → signature_of w ≡ Ok s → word_of s ≡ w
unfolding signature_of
word_back w s said = found_back w (conv_at (w % 16)) s (λ conv. conv_back (w % 16) conv (omega arith)) said

-- what a word is read as is a signature
pub is_signature : (w : ℕ) (s : Signature) → w < 2 ^ 32 → signature_of w ≡ Ok s → IsSignature s
is_signature w s fits said =
    let back : word_of s ≡ w = word_back w s said in
    record {
      fits = subst (λ n. n < 2 ^ 32) (sym back) fits;
      back = ap signature_of back ∙ said;
    }

-- the word 0 is that of a call without parameters and result
pub empty_signature : IsSignature no_parameters
unfolding signature_of signature_by params_at
empty_signature = record { fits = omega arith; back = refl }
