-- Each signature keeps the rules.
use Rattle.std.proofs.Common.{◌≡◌, ◌≢◌, ℕ, zero, suc, ◌/◌, ◌%◌, ◌^◌, ◌<◌, ◌≤◌, ◌==◌, Bool, true, false, not, Result, Ok, Err, List, [], ◌∷◌, length, if◌then◌else◌, arith, refl, sym, ap, subst, ◌∙◌}
use Rattle.std.specs.List.{All}
use Rattle.std.proofs.lemmas.Bool.{eq-eqb}
use Rattle.std.proofs.lemmas.List.Elements.{All-nil, All-cons}
use Rattle.mix_bits.specs.Results.{◌>>=◌}
use Rattle.mix_bits.specs.declared.size.Size.TheVariants.{Zero}
use Rattle.proc_info.specs.declared.bad_info.BadInfo.{BadInfo}
use Rattle.proc_info.specs.declared.bad_info.BadInfo.TheVariants.{Gap, TopBit, Place}
use Rattle.proc_info.specs.declared.conv.Conv.{Conv}
use Rattle.proc_info.specs.declared.conv.Shape.{Shape}
use Rattle.proc_info.specs.declared.conv.Shape.TheVariants.{Stack, Dispatched, Registers}
use Rattle.proc_info.specs.declared.param.Param.{Param}
use Rattle.proc_info.specs.Codes.{conv_at, shape_of, size_at, size_code, is_place}
use Rattle.proc_info.specs.Rules.{IsParam, IsRest, KeepsRules}
use Rattle.proc_info.specs.Signature.{Signature, base, most_params, param_at, params_at, signature_by, signature_of}
use Rattle.proc_info.specs.inner.Shapes.{on_stack, with_selector, in_registers}
use Rattle.proc_info.specs.SignatureClauses.{word_of}
use Rattle.proc_info.specs.inner.Signature.{IsSignature}
use Rattle.proc_info.proofs.Makes.{made, made_once, tested}
use Rattle.proc_info.proofs.Written.{size_back}

-- a test that fails
ne_of_eqb : (m n : ℕ) → (m == n) ≡ false → m ≢ n
ne_of_eqb m n fails same = let holds : (m == n) ≡ true = eq-eqb m n same in cc

-- a number that is not 0 is that of a size
size_some : (code : ℕ) → code < 4 → code ≢ 0 → size_at code ≢ Zero
size_some code below some none = some (sym (size_back code below) ∙ ap size_code none)

param_right : (shape : Shape) (v : ℕ) → v % 4 ≢ 0 → IsParam shape (param_at shape v)
param_right Stack v some = record { sized = size_some (v % 4) (omega arith) some; held = refl }
param_right Dispatched v some = record { sized = size_some (v % 4) (omega arith) some; held = refl }
param_right Registers v some = record { sized = size_some (v % 4) (omega arith) some; held = omega arith }

record Right (shape : Shape) (most : ℕ) (ps : List Param) : Type 0 where
  few : length ps ≤ most
  each : All (IsParam shape) ps

right_nil : (shape : Shape) (most : ℕ) → Right shape most []
right_nil shape most = record { few = omega arith; each = All-nil (IsParam shape) }

right_cons : (shape : Shape) (most : ℕ) (p : Param) (ps : List Param) → IsParam shape p → Right shape most ps → Right shape (suc most) (p ∷ ps)
right_cons shape most p ps first right = record { few = omega (arith, right.few); each = All-cons (IsParam shape) p ps first right.each }

-- one digit more
right_step : (shape : Shape) (most v : ℕ) (none gap : Bool) (rest : Result (List Param) BadInfo) (ps : List Param) → (gap ≡ false → v % 4 ≢ 0) → ((qs : List Param) → rest ≡ Ok qs → Right shape most qs) → (if none then Ok [] else (if gap then Err Gap else (rest >>= λ qs. Ok (param_at shape v ∷ qs)))) ≡ Ok ps → Right shape (suc most) ps
right_step shape most v true gap rest ps some above said =
    let nothing : [] ≡ ps = cc in subst (Right shape (suc most)) nothing (right_nil shape (suc most))
right_step shape most v false true rest ps some above said = cc
right_step shape most v false false (Err e) ps some above said = cc
right_step shape most v false false (Ok qs) ps some above said =
    let same : param_at shape v ∷ qs ≡ ps = cc in
    subst (Right shape (suc most)) same (right_cons shape most (param_at shape v) qs (param_right shape v (some refl)) (above qs refl))

right_none : (shape : Shape) (none : Bool) (ps : List Param) → (if none then Ok [] else Err Gap) ≡ Ok ps → Right shape 0 ps
right_none shape true ps said =
    let nothing : [] ≡ ps = cc in subst (Right shape 0) nothing (right_nil shape 0)
right_none shape false ps said = cc

-- the parameters that a number's digits say
params_right : (shape : Shape) (most v : ℕ) (ps : List Param) → params_at shape most v ≡ Ok ps → Right shape most ps
unfolding params_at
params_right shape zero v ps said = right_none shape (v == 0) ps said
params_right shape (suc most) v ps said = right_step shape most v (v == 0) (v % 4 == 0) (params_at shape most (v / base shape)) ps (ne_of_eqb (v % 4) 0) (λ qs. params_right shape most (v / base shape) qs) said

-- the rules by a convention's shape
keeps : (shape : Shape) (s : Signature) → shape_of s.conv ≡ shape → Right shape (most_params shape) s.params → IsRest shape s → KeepsRules s
keeps shape s shaped right rest =
    record {
      few = subst (λ k. length s.params ≤ most_params k) (sym shaped) right.few;
      each = subst (λ k. All (IsParam k) s.params) (sym shaped) right.each;
      rest = subst (λ k. IsRest k s) (sym shaped) rest;
    }

not_false : (b : Bool) → not b ≡ false → b ≡ true
not_false true h = refl
not_false false h = cc

-- for each shape
by_keeps : (shape : Shape) (conv : Conv) (w : ℕ) (s : Signature) → shape_of conv ≡ shape → signature_by shape conv w ≡ Ok s → KeepsRules s
unfolding signature_by
by_keeps Stack conv w s shaped said =
    made KeepsRules (params_at Stack 13 (w / 64)) (on_stack conv w) s
    (λ ps read. keeps Stack (on_stack conv w ps) shaped (params_right Stack 13 (w / 64) ps read) (refl, refl))
    said
by_keeps Dispatched conv w s shaped said =
    let some = tested (w / 64 % 4 == 0) Gap _ s said in
    made KeepsRules (params_at Dispatched 12 (w / 256)) (with_selector conv w) s
    (λ ps read. keeps Dispatched (with_selector conv w ps) shaped (params_right Dispatched 12 (w / 256) ps read) (refl, size_some (w / 64 % 4) (omega arith) (ne_of_eqb (w / 64 % 4) 0 some.0)))
    some.1
by_keeps Registers conv w s shaped said =
    let below = tested (not (w / 2 ^ 31 == 0)) TopBit _ s said in
    let placed = tested (not (is_place (w / 64 % 32) (size_at (w / 16 % 4)))) Place _ s below.1 in
    made_once KeepsRules (params_at Registers 4 (w / 2048)) (in_registers conv w) s
    (λ ps read once. keeps Registers (in_registers conv w ps) shaped (params_right Registers 4 (w / 2048) ps read) (not_false _ placed.0, refl, once))
    placed.1

found_keeps : (w : ℕ) (r : Result Conv BadInfo) (s : Signature) → (r >>= λ conv. signature_by (shape_of conv) conv w) ≡ Ok s → KeepsRules s
found_keeps w (Ok conv) s said = by_keeps (shape_of conv) conv w s refl said
found_keeps w (Err e) s said = cc

-- the signature of a word keeps the rules
pub word_keeps : (w : ℕ) (s : Signature) → signature_of w ≡ Ok s → KeepsRules s
unfolding signature_of
word_keeps w s said = found_keeps w (conv_at (w % 16)) s said

pub signature_keeps : (s : Signature) → IsSignature s → KeepsRules s
signature_keeps s valid = word_keeps (word_of s) s valid.back
