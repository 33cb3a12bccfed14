-- What the parts of a word say of its signature.
use Rattle.std.proofs.Common.{◌≡◌, ◌≢◌, ℕ, ◌/◌, ◌%◌, ◌^◌, ◌<◌, ◌==◌, true, false, not, Result, Ok, Err, IfOk, OnErr, List, if◌then◌else◌, arith, sym, ap, ◌∙◌}
use Rattle.std.proofs.lemmas.Bool.{ne_eqb}
use Rattle.mix_bits.specs.Digits.{digit_of}
use Rattle.mix_bits.specs.Results.{◌>>=◌}
use Rattle.mix_bits.specs.declared.size.Size.{Size}
use Rattle.mix_bits.specs.declared.size.Size.TheVariants.{Zero}
use Rattle.proc_info.specs.declared.bad_info.BadInfo.{BadInfo}
use Rattle.proc_info.specs.declared.bad_info.BadInfo.TheVariants.{TopBit, Place, Gap, Twice}
use Rattle.proc_info.specs.declared.conv.Conv.{Conv}
use Rattle.proc_info.specs.declared.conv.Shape.{Shape}
use Rattle.proc_info.specs.declared.conv.Shape.TheVariants.{Stack, Dispatched, Registers}
use Rattle.proc_info.specs.declared.param.Param.{Param}
use Rattle.proc_info.specs.declared.sig.Sig.{Sig}
use Rattle.proc_info.specs.Codes.{conv_at, shape_of, size_at, is_place}
use Rattle.proc_info.specs.Signature.{Signature, params_at, is_twice, signature_by, signature_of}
use Rattle.proc_info.specs.inner.Shapes.{unless_twice, with_selector, in_registers}
use Rattle.proc_info.specs.SignatureClauses.{word_of}
use Rattle.proc_info.specs.Views.{answered, signature}
use Rattle.proc_info.specs.Rules.{KeepsRules}
use Rattle.proc_info.proofs.Written.{word_back}
use Rattle.proc_info.proofs.Rules.{word_keeps}
use Rattle.proc_info.proofs.Exact.{refused_for_all}

-- the convention's number
pub of_convention : (w code : ℕ) (conv : Conv) (shape : Shape) → code ≡ digit_of w 0 4 → conv_at code ≡ Ok conv → shape_of conv ≡ shape → signature_of w ≡ signature_by shape conv w
unfolding signature_of
of_convention w code conv shape read found shaped =
    let number : w % 16 ≡ code = omega arith in
    ap (λ n. conv_at n >>= λ c. signature_by (shape_of c) c w) number ∙ ap (λ r. r >>= λ c. signature_by (shape_of c) c w) found ∙ ap (λ k. signature_by k conv w) shaped

pub of_no_convention : (w code : ℕ) (e : BadInfo) → code ≡ digit_of w 0 4 → conv_at code ≡ Err e → signature_of w ≡ Err e
unfolding signature_of
of_no_convention w code e read refused =
    let number : w % 16 ≡ code = omega arith in
    ap (λ n. conv_at n >>= λ c. signature_by (shape_of c) c w) number ∙ ap (λ r. r >>= λ c. signature_by (shape_of c) c w) refused

-- a stack convention's word
pub of_stack : (conv : Conv) (w v : ℕ) (result : Size) (ps : List Param) → w < 2 ^ 32 → v ≡ digit_of w 6 26 → result ≡ size_at (digit_of w 4 2) → params_at Stack 13 v ≡ Ok ps → signature_by Stack conv w ≡ Ok (record { conv = conv; result = result; place = 0; selector = Zero; params = ps })
unfolding signature_by
of_stack conv w v result ps fits above sized read =
    let all : v ≡ w / 64 = omega arith in
    let params : params_at Stack 13 (w / 64) ≡ Ok ps = ap (params_at Stack 13) (sym all) ∙ read in
    rw (params, sized)

pub of_stack_refused : (conv : Conv) (w v : ℕ) (e : BadInfo) → w < 2 ^ 32 → v ≡ digit_of w 6 26 → params_at Stack 13 v ≡ Err e → signature_by Stack conv w ≡ Err e
unfolding signature_by
of_stack_refused conv w v e fits above read =
    let all : v ≡ w / 64 = omega arith in
    let params : params_at Stack 13 (w / 64) ≡ Err e = ap (params_at Stack 13) (sym all) ∙ read in
    rw params

-- a dispatched convention's word
pub of_no_selector : (conv : Conv) (w d : ℕ) → d ≡ digit_of w 6 2 → d ≡ 0 → signature_by Dispatched conv w ≡ Err Gap
unfolding signature_by
of_no_selector conv w d read none =
    let none_there : w / 64 % 4 ≡ 0 = sym read ∙ none in
    rw none_there

-- where there is a selector
selected : (conv : Conv) (w : ℕ) → w / 64 % 4 ≢ 0 → signature_by Dispatched conv w ≡ (params_at Dispatched 12 (w / 256) >>= λ ps. Ok (with_selector conv w ps))
unfolding signature_by
selected conv w some =
    let test : (w / 64 % 4 == 0) ≡ false = ne_eqb _ _ some in
    rw test

pub of_dispatched : (conv : Conv) (w d v : ℕ) (result selector : Size) (ps : List Param) → w < 2 ^ 32 → d ≡ digit_of w 6 2 → d ≢ 0 → v ≡ digit_of w 8 24 → result ≡ size_at (digit_of w 4 2) → selector ≡ size_at (digit_of w 6 2) → params_at Dispatched 12 v ≡ Ok ps → signature_by Dispatched conv w ≡ Ok (record { conv = conv; result = result; place = 0; selector = selector; params = ps })
of_dispatched conv w d v result selector ps fits chosen some above sized selects read =
    let there : w / 64 % 4 ≢ 0 = λ h. some (chosen ∙ h) in
    let all : v ≡ w / 256 = omega arith in
    let params : params_at Dispatched 12 (w / 256) ≡ Ok ps = ap (params_at Dispatched 12) (sym all) ∙ read in
    selected conv w there ∙ rw (params, sized, selects)

pub of_dispatched_refused : (conv : Conv) (w d v : ℕ) (e : BadInfo) → w < 2 ^ 32 → d ≡ digit_of w 6 2 → d ≢ 0 → v ≡ digit_of w 8 24 → params_at Dispatched 12 v ≡ Err e → signature_by Dispatched conv w ≡ Err e
of_dispatched_refused conv w d v e fits chosen some above read =
    let there : w / 64 % 4 ≢ 0 = λ h. some (chosen ∙ h) in
    let all : v ≡ w / 256 = omega arith in
    let params : params_at Dispatched 12 (w / 256) ≡ Err e = ap (params_at Dispatched 12) (sym all) ∙ read in
    selected conv w there ∙ rw params

-- a register convention's word
pub of_top_bit : (conv : Conv) (w d : ℕ) → d ≡ digit_of w 31 1 → d ≡ 1 → signature_by Registers conv w ≡ Err TopBit
unfolding signature_by
of_top_bit conv w d read set =
    let some : w / 2 ^ 31 ≢ 0 = omega arith in
    let test : (w / 2 ^ 31 == 0) ≡ false = ne_eqb _ _ some in
    rw test

-- where its top bit is clear
below_top : (conv : Conv) (w d : ℕ) → w < 2 ^ 32 → d ≡ digit_of w 31 1 → d ≢ 1 → signature_by Registers conv w ≡ (if not (is_place (w / 64 % 32) (size_at (w / 16 % 4))) then Err Place else (params_at Registers 4 (w / 2048) >>= λ ps. unless_twice (in_registers conv w ps)))
unfolding signature_by
below_top conv w d fits read clear =
    let none : w / 2 ^ 31 ≡ 0 = omega arith in
    rw none

pub of_no_place : (conv : Conv) (w d place : ℕ) (result : Size) → w < 2 ^ 32 → d ≡ digit_of w 31 1 → d ≢ 1 → place ≡ digit_of w 6 5 → result ≡ size_at (digit_of w 4 2) → is_place place result ≡ false → signature_by Registers conv w ≡ Err Place
of_no_place conv w d place result fits top clear placed sized refused =
    let test : is_place (w / 64 % 32) (size_at (w / 16 % 4)) ≡ false = ap (λ s. is_place (w / 64 % 32) s) (sym sized) ∙ ap (λ n. is_place n result) (sym placed) ∙ refused in
    below_top conv w d fits top clear ∙ rw test

-- where its result has a place
placed_right : (conv : Conv) (w d place : ℕ) (result : Size) → w < 2 ^ 32 → d ≡ digit_of w 31 1 → d ≢ 1 → place ≡ digit_of w 6 5 → result ≡ size_at (digit_of w 4 2) → is_place place result ≡ true → signature_by Registers conv w ≡ (params_at Registers 4 (w / 2048) >>= λ ps. unless_twice (in_registers conv w ps))
placed_right conv w d place result fits top clear placed sized allowed =
    let test : is_place (w / 64 % 32) (size_at (w / 16 % 4)) ≡ true = ap (λ s. is_place (w / 64 % 32) s) (sym sized) ∙ ap (λ n. is_place n result) (sym placed) ∙ allowed in
    below_top conv w d fits top clear ∙ rw test

pub of_registers_refused : (conv : Conv) (w d place v : ℕ) (result : Size) (e : BadInfo) → w < 2 ^ 32 → d ≡ digit_of w 31 1 → d ≢ 1 → place ≡ digit_of w 6 5 → result ≡ size_at (digit_of w 4 2) → is_place place result ≡ true → v ≡ digit_of w 11 21 → params_at Registers 4 v ≡ Err e → signature_by Registers conv w ≡ Err e
of_registers_refused conv w d place v result e fits top clear placed sized allowed above read =
    let all : v ≡ w / 2048 = omega arith in
    let params : params_at Registers 4 (w / 2048) ≡ Err e = ap (params_at Registers 4) (sym all) ∙ read in
    placed_right conv w d place result fits top clear placed sized allowed ∙ rw params

-- where its parameters are read
registers_read : (conv : Conv) (w d place v : ℕ) (result : Size) (ps : List Param) → w < 2 ^ 32 → d ≡ digit_of w 31 1 → d ≢ 1 → place ≡ digit_of w 6 5 → result ≡ size_at (digit_of w 4 2) → is_place place result ≡ true → v ≡ digit_of w 11 21 → params_at Registers 4 v ≡ Ok ps → signature_by Registers conv w ≡ unless_twice (record { conv = conv; result = result; place = place; selector = Zero; params = ps })
registers_read conv w d place v result ps fits top clear placed sized allowed above read =
    let all : v ≡ w / 2048 = omega arith in
    let params : params_at Registers 4 (w / 2048) ≡ Ok ps = ap (params_at Registers 4) (sym all) ∙ read in
    placed_right conv w d place result fits top clear placed sized allowed ∙ rw (params, placed, sized)

pub of_twice : (conv : Conv) (w d place v : ℕ) (result : Size) (ps : List Param) → w < 2 ^ 32 → d ≡ digit_of w 31 1 → d ≢ 1 → place ≡ digit_of w 6 5 → result ≡ size_at (digit_of w 4 2) → is_place place result ≡ true → v ≡ digit_of w 11 21 → params_at Registers 4 v ≡ Ok ps → is_twice ps ≡ true → signature_by Registers conv w ≡ Err Twice
of_twice conv w d place v result ps fits top clear placed sized allowed above read twice =
    registers_read conv w d place v result ps fits top clear placed sized allowed above read ∙ rw twice

pub of_registers : (conv : Conv) (w d place v : ℕ) (result : Size) (ps : List Param) → w < 2 ^ 32 → d ≡ digit_of w 31 1 → d ≢ 1 → place ≡ digit_of w 6 5 → result ≡ size_at (digit_of w 4 2) → is_place place result ≡ true → v ≡ digit_of w 11 21 → params_at Registers 4 v ≡ Ok ps → is_twice ps ≡ false → signature_by Registers conv w ≡ Ok (record { conv = conv; result = result; place = place; selector = Zero; params = ps })
of_registers conv w d place v result ps fits top clear placed sized allowed above read once =
    registers_read conv w d place v result ps fits top clear placed sized allowed above read ∙ rw once

-- what is answered for a word goes back to it
pub goes_back : (w : ℕ) (r : Result Sig BadInfo) → answered r ≡ signature_of w → IfOk r (λ sig. word_of (signature sig) ≡ w)
goes_back w (Ok sig) said = word_back w (signature sig) (sym said)
goes_back w (Err e) said = tt

-- what is answered for a word keeps the rules
pub goes_right : (w : ℕ) (r : Result Sig BadInfo) → answered r ≡ signature_of w → IfOk r (λ sig. KeepsRules (signature sig))
goes_right w (Ok sig) said = word_keeps w (signature sig) (sym said)
goes_right w (Err e) said = tt

-- a word that is refused is the word of nothing that keeps the rules
pub goes_nowhere : (w : ℕ) (r : Result Sig BadInfo) → answered r ≡ signature_of w → OnErr r ((s : Signature) → KeepsRules s → word_of s ≢ w)
goes_nowhere w (Ok sig) said = tt
goes_nowhere w (Err e) said = refused_for_all w e (sym said)
