-- The numbers of operands are read back from their texts, and a name from its line.
use Rattle.std.proofs.Common.{◌≡◌, ℕ, zero, suc, ◌+◌, ◌-◌, ◌*◌, ◌/◌, ◌%◌, ◌^◌, ◌<◌, ◌≤◌, List, [], ◌∷◌, ◌++◌, drop, codes, decimal, Bool, true, false, nat_lt, arith, refl, sym, ap, ◌∙◌}
use Rattle.std.proofs.Math.Nat.{pow-suc, div-div-eq-div-mul}
use Rattle.std.proofs.lemmas.Bool.Decides.{nat_tests}
use Rattle.std.proofs.lemmas.Fmt.{decimal_by_steps}
use Rattle.std.specs.Fmt.{digit_glyph}
use Rattle.mix_bits.specs.laws.Names.{ends_name, no_space, rest_of}
use Rattle.mix_bits.specs.Names.{name_of}
use Rattle.mix_bits.specs.Text.{hexadecimal}
use Rattle.mix_bits.proofs.NamesBack.{name_back}
use Rattle.ppc_text.specs.declared.operand.Operand.{Operand}
use Rattle.ppc_text.specs.declared.operand.Operand.TheVariants.{Register, Number, Signed, Displaced, Target}
use Rattle.ppc_text.specs.Operands.{joined, operand_text, operands_text, register_text, signed_text}
use Rattle.ppc_text.proofs.Decimals.{text_positive, text_negative}
use Rattle.asm_ppc.specs.declared.numbers.Numbers.{Numbers}
use Rattle.asm_ppc.specs.declared.numbers.Reading.{Reading}
use Rattle.asm_ppc.specs.Reading.{finished, none, pushed, read, run, start, step}

-- a text after another is read from where that one leads
run-append : (xs ys : List ℕ) (s : Reading) → run s (xs ++ ys) ≡ run (run s xs) ys
run-append [] ys s = refl
run-append (x ∷ xs) ys s = run-append xs ys (step s x)

abbrev reading : Numbers → Bool → Bool → ℕ → Reading
reading f hexadecimal negative value = record { hexadecimal = hexadecimal; negative = negative; value = value; before = f }

digit-step : (f : Numbers) (g : Bool) (m d : ℕ) → d < 10 → m * 10 + d < 2 ^ 32 → step (reading f false g m) (48 + d) ≡ reading f false g (m * 10 + d)
digit-step f g m d small fits = grind (arith, nat_tests)

glyph-step : (f : Numbers) (g : Bool) (m d : ℕ) → d < 16 → m * 16 + d < 2 ^ 32 → step (reading f true g m) (digit_glyph true d) ≡ reading f true g (m * 16 + d)
glyph-step f g m d small fits = grind (arith, nat_tests)

-- decimal digits give their number
abbrev GivesNumber : Numbers → Bool → ℕ → List ℕ → Type 0
GivesNumber f g n ds = n < 2 ^ 32 → run (reading f false g 0) ds ≡ reading f false g n

one-digit : (f : Numbers) (g : Bool) (n : ℕ) → n < 10 → GivesNumber f g n ((48 + n) ∷ [])
one-digit f g n small fits =
    let e : 0 * 10 + n ≡ n = omega arith in
    digit-step f g 0 n small (omega (arith, small)) ∙ ap (reading f false g) e

more-digits : (f : Numbers) (g : Bool) (n : ℕ) (ds : List ℕ) → 10 ≤ n → GivesNumber f g (n / 10) ds → GivesNumber f g n (ds ++ ((48 + n % 10) ∷ []))
more-digits f g n ds large before fits =
    let e : n / 10 * 10 + n % 10 ≡ n = omega arith in
    run-append ds ((48 + n % 10) ∷ []) (reading f false g 0)
    ∙ ap (λ s. step s (48 + n % 10)) (before (omega (arith, fits)))
    ∙ digit-step f g (n / 10) (n % 10) (omega arith) (omega (arith, fits))
    ∙ ap (reading f false g) e

run-decimal : (f : Numbers) (g : Bool) (n : ℕ) → n < 2 ^ 32 → run (reading f false g 0) (decimal n) ≡ reading f false g n
run-decimal f g n fits = decimal_by_steps (GivesNumber f g) (one-digit f g) (more-digits f g) n (omega (arith, fits)) fits

-- the k lowest hexadecimal digits complete a number
run-lowest : (f : Numbers) (g : Bool) (k v : ℕ) → v < 2 ^ 32 → run (reading f true g (v / 16 ^ k)) (hexadecimal k v) ≡ reading f true g v
run-lowest f g zero v fits = let e : v / 1 ≡ v = omega arith in ap (reading f true g) e
run-lowest f g (suc k) v fits =
    let above : v / 16 ^ suc k ≡ v / 16 ^ k / 16 = ap (λ n. v / n) (pow-suc 16 k) ∙ sym (div-div-eq-div-mul v (16 ^ k) 16) in
    let small : v / 16 ^ k ≤ v = omega arith in
    let whole : v / 16 ^ suc k * 16 + v / 16 ^ k % 16 ≡ v / 16 ^ k = omega (arith, above) in
    ap (λ s. run s (hexadecimal k v)) (glyph-step f g (v / 16 ^ suc k) (v / 16 ^ k % 16) (omega arith) (omega (arith, whole, small, fits)) ∙ ap (reading f true g) whole)
    ∙ run-lowest f g k v fits

run-target : (f : Numbers) (v : ℕ) → v < 2 ^ 32 → run (start f) (codes "$" ++ hexadecimal 8 v) ≡ reading f true false v
run-target f v fits =
    let e : v / 16 ^ 8 ≡ 0 = omega (arith, fits) in
    ap (λ n. run (reading f true false n) (hexadecimal 8 v)) (sym e) ∙ run-lowest f false 8 v fits

run-register : (f : Numbers) (n : ℕ) → n < 2 ^ 32 → run (start f) (register_text n) ≡ reading f false false n
run-register f n fits = run-decimal f false n fits

-- sixteen bits as a signed number give these bits
signed-read : (f : Numbers) (n : ℕ) → n < 2 ^ 16 → finished (run (start f) (signed_text n)) ≡ pushed n f
signed-read f n fits = by (nat_lt n (2 ^ 15)) refl
  where
    by : (b : Bool) → nat_lt n (2 ^ 15) ≡ b → finished (run (start f) (signed_text n)) ≡ pushed n f
    by true e =
        let small : n < 2 ^ 15 = grind (arith, nat_tests) in
        ap (λ t. finished (run (start f) t)) (text_positive n small) ∙ ap finished (run-decimal f false n (omega (arith, small)))
    by false e =
        let large : 2 ^ 15 ≤ n = grind (arith, nat_tests) in
        let back : 65536 - (65535 - n + 1) % 65536 ≡ n = omega (arith, large, fits) in
        ap (λ t. finished (run (start f) t)) (text_negative n large fits)
        ∙ ap finished (run-decimal f true (65535 - n + 1) (omega arith))
        ∙ ap (λ m. pushed m f) back

-- An operand's numbers, where they fit what is read.

abbrev pub Small : Operand → Type 0
Small (Register n) = n < 2 ^ 32
Small (Number n) = n < 2 ^ 32
Small (Signed n) = n < 2 ^ 16
Small (Displaced offset base) = (offset < 2 ^ 16) × (base < 2 ^ 32)
Small (Target address) = address < 2 ^ 32

abbrev pub AllSmall : List Operand → Type 0
AllSmall [] = Unit {0}
AllSmall (o ∷ os) = Small o × AllSmall os

abbrev pub taken : Operand → Numbers → Numbers
taken (Register n) f = pushed n f
taken (Number n) f = pushed n f
taken (Signed n) f = pushed n f
taken (Displaced offset base) f = pushed base (pushed offset f)
taken (Target address) f = pushed address f

abbrev pub all_taken : List Operand → Numbers → Numbers
all_taken [] f = f
all_taken (o ∷ os) f = all_taken os (taken o f)

-- a displacement, and its base in brackets
displaced-read : (f : Numbers) (offset base : ℕ) → offset < 2 ^ 16 → base < 2 ^ 32 → finished (run (start f) (operand_text (Displaced offset base))) ≡ pushed base (pushed offset f)
displaced-read f offset base fits small =
    let s : Reading = run (start f) (signed_text offset) in
    let t : Reading = start (pushed offset f) in
    ap finished (run-append ((signed_text offset ++ codes "(") ++ register_text base) (codes ")") (start f))
    ∙ ap (λ u. finished (run u (codes ")"))) (run-append (signed_text offset ++ codes "(") (register_text base) (start f))
    ∙ ap (λ u. finished (run (run u (register_text base)) (codes ")"))) (run-append (signed_text offset) (codes "(") (start f))
    ∙ ap (λ g. finished (run (run (start g) (register_text base)) (codes ")"))) (signed-read f offset fits)
    ∙ ap (λ u. finished (run u (codes ")"))) (run-register (pushed offset f) base small)

operand-read : (o : Operand) (f : Numbers) → Small o → finished (run (start f) (operand_text o)) ≡ taken o f
operand-read (Register n) f small = ap finished (run-register f n small)
operand-read (Number n) f small = ap finished (run-decimal f false n small)
operand-read (Signed n) f small = signed-read f n small
operand-read (Displaced offset base) f small = displaced-read f offset base small.0 small.1
operand-read (Target address) f small = ap finished (run-target f address small)

joined-read : (o : Operand) (os : List Operand) (f : Numbers) → Small o → AllSmall os → finished (run (start f) (joined (o ∷ os))) ≡ all_taken os (taken o f)
joined-read o [] f small rest = operand-read o f small
joined-read o (p ∷ os) f small rest =
    ap finished (run-append (operand_text o) (44 ∷ joined (p ∷ os)) (start f))
    ∙ ap (λ g. finished (run (start g) (joined (p ∷ os)))) (operand-read o f small)
    ∙ joined-read p os (taken o f) rest.0 rest.1

-- A name and what follows.

ends : (os : List Operand) → ends_name (operands_text os) ≡ true
ends [] = refl
ends (o ∷ os) = refl

pub name-back : (n : List ℕ) (os : List Operand) → no_space n ≡ true → name_of (n ++ operands_text os) ≡ n
name-back n os h = (name_back n (operands_text os) h (ends os)).0

tail-read : (os : List Operand) → AllSmall os → read (drop 1 (operands_text os)) ≡ all_taken os none
tail-read [] small = refl
tail-read (o ∷ os) small = joined-read o os none small.0 small.1

pub numbers-back : (n : List ℕ) (os : List Operand) → no_space n ≡ true → AllSmall os → read (rest_of (n ++ operands_text os)) ≡ all_taken os none
numbers-back n os h small = ap read (name_back n (operands_text os) h (ends os)).1 ∙ tail-read os small
