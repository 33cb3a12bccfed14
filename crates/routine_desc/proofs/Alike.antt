-- Signatures of procInfo words that are called alike.
use Rattle.std.proofs.Common.{◌≡◌, ℕ, ◌/◌, ◌%◌, ◌^◌, ◌==◌, true, not, if◌then◌else◌, List, Result, Ok, Err, arith, ap, sym, ◌∙◌, refl}
use Rattle.std.proofs.lemmas.Bool.Decides.{nat_tests, Decides-eqb}
use Rattle.mix_bits.specs.declared.size.Size.{Size}
use Rattle.mix_bits.specs.declared.size.Size.TheVariants.{Zero}
use Rattle.mix_bits.specs.Results.{◌>>=◌}
use Rattle.proc_info.specs.declared.bad_info.BadInfo.{BadInfo}
use Rattle.proc_info.specs.declared.bad_info.BadInfo.TheVariants.{TopBit, Place, Gap, Twice}
use Rattle.proc_info.specs.declared.conv.Conv.{Conv}
use Rattle.proc_info.specs.declared.conv.Shape.{Shape}
use Rattle.proc_info.specs.declared.conv.Shape.TheVariants.{Stack, Dispatched, Registers}
use Rattle.proc_info.specs.declared.param.Param.{Param}
use Rattle.proc_info.specs.Codes.{conv_at, has_selector, shape_of, size_at, is_dispatched, is_place}
use Rattle.proc_info.specs.Signature.{Signature, is_twice, most_params, params_at, signature_by, signature_of}
use Rattle.proc_info.specs.inner.Shapes.{in_registers, on_stack, unless_twice, with_selector}
use Rattle.routine_desc.specs.Read.{is_alike}
use Rattle.routine_desc.specs.inner.Read.{is_dispatched_in}
use Rattle.routine_desc.specs.laws.Laws.{IsCalledLike}
use Rattle.routine_desc.proofs.RecordChains.{chain_done, if_refused, ok_same, same_parts}

-- the selector size in a word of a convention
abbrev selector_in : Shape → ℕ → Size
selector_in Stack w = Zero
selector_in Dispatched w = size_at (w / 64 % 4)
selector_in Registers w = Zero

abbrev selector_by : Conv → ℕ → Size
selector_by conv w = selector_in (shape_of conv) w

-- what a word says of its signature
record Says (conv : Conv) (size : Size) (s : Signature) : Type 0 where
  conv_is : s.conv ≡ conv
  selector_is : s.selector ≡ size

same_says : (r s : Signature) (x : Result Signature BadInfo) → x ≡ Ok r → x ≡ Ok s → Says r.conv r.selector s
same_says r s x here there = let e : s ≡ r = ok_same s r x there here in record { conv_is = ap (λ x. x.conv) e; selector_is = ap (λ x. x.selector) e }

stack_says : (conv : Conv) (w : ℕ) (s : Signature) (params : Result (List Param) BadInfo) → (params >>= λ ps. Ok (on_stack conv w ps)) ≡ Ok s → Says conv Zero s
stack_says conv w s params h =
    let d = chain_done params (λ ps. Ok (on_stack conv w ps)) s h in same_says (on_stack conv w d.value) s (Ok (on_stack conv w d.value)) refl d.rest

dispatched_says : (conv : Conv) (w : ℕ) (s : Signature) (params : Result (List Param) BadInfo)
    → (if w / 64 % 4 == 0 then Err Gap else (params >>= λ ps. Ok (with_selector conv w ps))) ≡ Ok s → Says conv (size_at (w / 64 % 4)) s
dispatched_says conv w s params h =
    let k = if_refused (w / 64 % 4 == 0) Gap (params >>= λ ps. Ok (with_selector conv w ps)) s h in
    let d = chain_done params (λ ps. Ok (with_selector conv w ps)) s k in
    same_says (with_selector conv w d.value) s (Ok (with_selector conv w d.value)) refl d.rest

registers_says : (conv : Conv) (w : ℕ) (s : Signature) (params : Result (List Param) BadInfo)
    → (if not (w / 2 ^ 31 == 0) then Err TopBit else (if not (is_place (w / 64 % 32) (size_at (w / 16 % 4))) then Err Place else (params >>= λ ps. unless_twice (in_registers conv w ps)))) ≡ Ok s
    → Says conv Zero s
registers_says conv w s params h =
    let rest = params >>= λ ps. unless_twice (in_registers conv w ps) in
    let j = if_refused (not (w / 2 ^ 31 == 0)) TopBit (if not (is_place (w / 64 % 32) (size_at (w / 16 % 4))) then Err Place else rest) s h in
    let k = if_refused (not (is_place (w / 64 % 32) (size_at (w / 16 % 4)))) Place rest s j in
    let d = chain_done params (λ ps. unless_twice (in_registers conv w ps)) s k in
    let r = in_registers conv w d.value in
    same_says r s (Ok r) refl (if_refused (is_twice r.params) Twice (Ok r) s d.rest)

-- the parameters that the digits above a shape's other fields say
abbrev params_in : Shape → ℕ → Result (List Param) BadInfo
params_in shape v = params_at shape (most_params shape) v

says_in : (shape : Shape) (conv : Conv) (w : ℕ) (s : Signature) → signature_by shape conv w ≡ Ok s → Says conv (selector_in shape w) s
unfolding signature_by
says_in Stack conv w s h = stack_says conv w s (params_in Stack (w / 64)) h
says_in Dispatched conv w s h = dispatched_says conv w s (params_in Dispatched (w / 256)) h
says_in Registers conv w s h = registers_says conv w s (params_in Registers (w / 2048)) h

says_by : (conv : Conv) (w : ℕ) (s : Signature) → signature_by (shape_of conv) conv w ≡ Ok s → Says conv (selector_by conv w) s
says_by conv w s h = says_in (shape_of conv) conv w s h

-- the convention's number, its signature's convention, and the selector's size
record Tells (w : ℕ) (s : Signature) : Type 0 where
  conv_is : conv_at (w % 16) ≡ Ok s.conv
  selector_is : s.selector ≡ selector_by s.conv w

tells : (w : ℕ) (s : Signature) → signature_of w ≡ Ok s → Tells w s
unfolding signature_of
tells w s h =
    let d = chain_done (conv_at (w % 16)) (λ conv. signature_by (shape_of conv) conv w) s h in
    let says = says_by d.value w s d.rest in
    record {
      conv_is = d.first ∙ ap Ok (sym says.conv_is);
      selector_is = says.selector_is ∙ ap (λ c. selector_by c w) (sym says.conv_is);
    }

same_in : (shape : Shape) (w v : ℕ) → (has_selector shape ≡ true → w / 64 % 4 ≡ v / 64 % 4) → selector_in shape w ≡ selector_in shape v
same_in Stack w v h = refl
same_in Dispatched w v h = ap size_at (h refl)
same_in Registers w v h = refl

same_size : (conv : Conv) (w v : ℕ) → (is_dispatched conv ≡ true → w / 64 % 4 ≡ v / 64 % 4) → selector_by conv w ≡ selector_by conv v
same_size conv w v h = same_in (shape_of conv) w v h

-- words like a third one have signatures that are called alike
pub called-alike : (u w v : ℕ) (s t : Signature) → is_alike u w ≡ true → is_alike u v ≡ true → signature_of w ≡ Ok s → signature_of v ≡ Ok t → IsCalledLike s t
called-alike u w v s t like also is_s is_t =
    let a = same_parts (u % 16 == w % 16) (is_dispatched_in (conv_at (u % 16))) (u / 64 % 4) (w / 64 % 4) u w like in
    let b = same_parts (u % 16 == v % 16) (is_dispatched_in (conv_at (u % 16))) (u / 64 % 4) (v / 64 % 4) u v also in
    let here : u % 16 ≡ w % 16 = (Decides-eqb (u % 16) (w % 16)).0 a.0 in
    let there : u % 16 ≡ v % 16 = (Decides-eqb (u % 16) (v % 16)).0 b.0 in
    let p = tells w s is_s in
    let q = tells v t is_t in
    let same : s.conv ≡ t.conv = ok_same s.conv t.conv (conv_at (w % 16)) p.conv_is (ap conv_at (sym here ∙ there) ∙ q.conv_is) in
    let test : is_dispatched_in (conv_at (u % 16)) ≡ is_dispatched s.conv = ap is_dispatched_in (ap conv_at here ∙ p.conv_is) in
    record {
      conv = same;
      selector = p.selector_is ∙ same_size s.conv w v (λ yes. sym (a.1 (test ∙ yes)) ∙ b.1 (test ∙ yes)) ∙ ap (λ c. selector_by c v) same ∙ sym q.selector_is;
      whole = λ no. ok_same s t (signature_of w) is_s (ap signature_of (sym (a.2 (test ∙ no)) ∙ b.2 (test ∙ no)) ∙ is_t);
    }

-- a word is like itself
pub alike-same : (w : ℕ) → is_alike w w ≡ true
alike-same w = grind (arith, nat_tests)
