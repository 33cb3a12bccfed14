-- The extension words of an effective address are its text's.
use Rattle.std.proofs.Common.{◌≡◌, ℕ, zero, suc, ◌+◌, ◌*◌, ◌/◌, ◌%◌, ◌^◌, ◌<◌, ◌≤◌, ◌==◌, nat_lt, List, [], ◌∷◌, slice_index, Bool, true, false, if◌then◌else◌, arith, rules, refl, sym, ap, subst, ◌∙◌}
use Rattle.std.proofs.lemmas.Bool.{eqb-true}
use Rattle.std.proofs.lemmas.Bool.Decides.{nat_tests}
use Rattle.mix_bits.specs.Digits.{digit_of}
use Rattle.mix_bits.specs.Sizes.{sign_extended}
use Rattle.mix_bits.specs.declared.size.Size.{Size}
use Rattle.mix_bits.specs.declared.size.Size.TheVariants.{Zero, One, Two, Four}
use Rattle.m68_isa.specs.declared.ea.Ea.TheVariants.{Imm}
use Rattle.m68_isa.specs.declared.operand.Operand.{Operand as Read}
use Rattle.m68_isa.specs.Operands.{immediate_at, immediate_words, plain, index_of, is_index, operand_at, special_at}
use Rattle.m68_isa.specs.laws.Widths.{is_any}
use Rattle.m68_text.specs.declared.operand.Operand.{Operand}
use Rattle.m68_text.specs.Operands.{immediate, place}
use Rattle.asm_m68.specs.laws.Spelling.{long_words}
use Rattle.asm_m68.specs.laws.Spelling.{content, index_word, scale_bits}
use Rattle.asm_m68.proofs.Texts.{IsTold, cut, is_scale}

-- so many words from one on
abbrev pub words_from : List ℕ → ℕ → ℕ → List ℕ
words_from ws k zero = []
words_from ws k (suc n) = slice_index ws k ∷ words_from ws (k + 1) n

-- an operand whose text tells the words from one on up to another
pub record Shows (at : ℕ) (ws : List ℕ) (k : ℕ) (next : ℕ) (o : Operand) : Type 0 where
  pub told : IsTold o
  pub count : ℕ
  pub upto : next ≡ k + count
  pub words : content at (cut o) ≡ words_from ws k count

-- the sign of a word and of a byte of it
pub word_signed : (w : ℕ) → w < 65536 → sign_extended w Two ≡ (if nat_lt w 32768 then w else w + 4294901760)
word_signed w below = search rules

byte_signed : (w : ℕ) → sign_extended w One ≡ (if nat_lt (w % 256) 128 then w % 256 else w % 256 + 4294967040)
byte_signed w = search rules

low_word : (b : Bool) (w : ℕ) → w < 65536 → (if b then w else w + 4294901760) % 65536 % 65536 ≡ w
low_word true w below = omega (arith, below)
low_word false w below = omega (arith, below)

low_byte_of : (b : Bool) (v : ℕ) → v < 256 → (if b then v else v + 4294967040) % 256 % 256 ≡ v
low_byte_of true v below = omega (arith, below)
low_byte_of false v below = omega (arith, below)

pub word_back : (w : ℕ) → w < 65536 → sign_extended w Two % 65536 % 65536 ≡ w
word_back w below = ap (λ v. v % 65536 % 65536) (word_signed w below) ∙ low_word (nat_lt w 32768) w below

abbrev pub cut_index_word : ℕ → ℕ
cut_index_word w = let i = index_of w in index_word (record i { disp = i.disp % 256 }) % 65536

-- a bit that is tested, and a scale, are worth their digits
pub bit_value : (d k : ℕ) → d < 2 → (if d == 1 then k else 0) ≡ d * k
bit_value zero k below = omega arith
bit_value (suc zero) k below = omega arith
bit_value (suc (suc d)) k below = absurd (omega (arith, below))

scale_value : (d : ℕ) → d < 4 → (scale_bits (2 ^ d) ≡ d * 512) × (is_scale (2 ^ d) ≡ true)
scale_value zero below = (refl, refl)
scale_value (suc zero) below = (refl, refl)
scale_value (suc (suc zero)) below = (refl, refl)
scale_value (suc (suc (suc zero))) below = (refl, refl)
scale_value (suc (suc (suc (suc d)))) below = absurd (omega (arith, below))

pub index_back : (w : ℕ) → w < 65536 → is_index w ≡ true → cut_index_word w ≡ w
index_back w below is =
    let none : digit_of w 8 1 ≡ 0 = eqb-true _ _ is in
    let address = bit_value (digit_of w 15 1) 32768 (omega arith) in
    let long = bit_value (digit_of w 11 1) 2048 (omega arith) in
    let scale = (scale_value (digit_of w 9 2) (omega arith)).0 in
    let low = ap (λ v. v % 256 % 256) (byte_signed w) ∙ low_byte_of (nat_lt (w % 256) 128) (w % 256) (omega arith) in
    sum _ _ _ _ address long scale low none
  where
    sum : (address long scale low : ℕ) → address ≡ digit_of w 15 1 * 32768 → long ≡ digit_of w 11 1 * 2048 → scale ≡ digit_of w 9 2 * 512 → low ≡ w % 256 → digit_of w 8 1 ≡ 0 → (address + digit_of w 12 3 * 4096 + long + scale + low) % 65536 ≡ w
    sum address long scale low is_address is_long is_scale_value is_low none = omega (arith, below, is_address, is_long, is_scale_value, is_low, none)

pub scale_told : (w : ℕ) → w < 65536 → is_scale ((index_of w).scale) ≡ true
scale_told w below = (scale_value (digit_of w 9 2) (omega arith)).1

pub long_back : (a b : ℕ) → a < 65536 → b < 65536 → long_words ((a * 65536 + b) % 4294967296) ≡ a ∷ b ∷ []
long_back a b high low =
    let first : (a * 65536 + b) % 4294967296 / 65536 % 65536 ≡ a = omega (arith, high, low) in
    let second : (a * 65536 + b) % 4294967296 % 65536 ≡ b = omega (arith, high, low) in
    ap (λ x. x ∷ (a * 65536 + b) % 4294967296 % 65536 ∷ []) first ∙ ap (λ y. a ∷ y ∷ []) second

-- what the words of an instruction are
pub record Words (ws : List ℕ) : Type 0 where
  pub below : (k : ℕ) → slice_index ws k < 65536

one_word : (at : ℕ) (ws : List ℕ) (g : Words ws) (k : ℕ) → (sign_extended (slice_index ws k) Two % 65536 % 65536 ∷ []) ≡ words_from ws k 1
one_word at ws g k = ap (λ v. v ∷ []) (word_back (slice_index ws k) (g.below k))

index_shown : (ws : List ℕ) (g : Words ws) (k : ℕ) → is_index (slice_index ws k) ≡ true → (cut_index_word (slice_index ws k) ∷ []) ≡ words_from ws k 1
index_shown ws g k is = ap (λ v. v ∷ []) (index_back (slice_index ws k) (g.below k) is)

pub plain_word : (v : ℕ) → v < 65536 → (v % 65536 % 65536 ∷ []) ≡ v ∷ []
plain_word v below = let e : v % 65536 % 65536 ≡ v = omega (arith, below) in ap (λ x. x ∷ []) e

pub immediate_shown : (at : ℕ) (ws : List ℕ) (g : Words ws) (k : ℕ) (s : Size) → is_any s ≡ true → Shows at ws k (k + immediate_words s) (immediate s ws k)
immediate_shown at ws g k Zero some = cc
immediate_shown at ws g k One some = record { told = tt; count = 1; upto = refl; words = plain_word (slice_index ws k) (g.below k) }
immediate_shown at ws g k Two some = record { told = tt; count = 1; upto = refl; words = plain_word (slice_index ws k) (g.below k) }
immediate_shown at ws g k Four some = record { told = tt; count = 2; upto = refl; words = long_back (slice_index ws k) (slice_index ws (k + 1)) (g.below k) (g.below (k + 1)) }

-- an operand that was read with its words from one on
abbrev pub IsShown : ℕ → List ℕ → ℕ → ℕ → Size → Read → Type 0
IsShown at ws word k s r = r.good ≡ true → Shows at ws k r.next (place s ws word r.ea)

chain : (a b c d : Bool) (u v x y z : Read) → a ≡ false → b ≡ false → c ≡ false → d ≡ false → (if a then u else if b then v else if c then x else if d then y else z) ≡ z
chain true b c d u v x y z ea eb ec ed = cc
chain false true c d u v x y z ea eb ec ed = cc
chain false false true d u v x y z ea eb ec ed = cc
chain false false false true u v x y z ea eb ec ed = cc
chain false false false false u v x y z ea eb ec ed = refl

other : (n m : ℕ) → m < n → (n == m) ≡ false
other n m h = grind (arith, nat_tests)

-- mode 7 with a register from 4 on is an immediate
pub special_immediate : (ws : List ℕ) (k : ℕ) (s : Size) (lower : ℕ) → 4 ≤ lower → special_at ws k s lower ≡ plain (Imm (immediate_at ws k s)) (k + immediate_words s)
special_immediate ws k s lower four = chain (lower == 0) (lower == 1) (lower == 2) (lower == 3) _ _ _ _ _ (other lower 0 (omega (arith, four))) (other lower 1 (omega (arith, four))) (other lower 2 (omega (arith, four))) (other lower 3 (omega (arith, four)))

special : (at : ℕ) (ws : List ℕ) (g : Words ws) (word k : ℕ) (s : Size) (lower : ℕ) → is_any s ≡ true → (4 ≤ lower → k ≡ word) → IsShown at ws word k s (special_at ws k s lower)
special at ws g word k s zero some same good = record { told = tt; count = 1; upto = refl; words = one_word at ws g k }
special at ws g word k s (suc zero) some same good = record { told = tt; count = 2; upto = refl; words = long_back (slice_index ws k) (slice_index ws (k + 1)) (g.below k) (g.below (k + 1)) }
special at ws g word k s (suc (suc zero)) some same good = record { told = tt; count = 1; upto = refl; words = one_word at ws g k }
special at ws g word k s (suc (suc (suc zero))) some same good = record { told = (omega arith, scale_told (slice_index ws k) (g.below k)); count = 1; upto = refl; words = index_shown ws g k good }
special at ws g word k s (suc (suc (suc (suc lower)))) some same good =
    let here : k ≡ word = same (omega arith) in
    let made : IsShown at ws word k s (plain (Imm (immediate_at ws k s)) (k + immediate_words s)) = λ is. subst (λ v. Shows at ws k (k + immediate_words s) (immediate s ws v)) here (immediate_shown at ws g k s some) in
    let all : IsShown at ws word k s (special_at ws k s (suc (suc (suc (suc lower))))) = subst (IsShown at ws word k s) (sym (special_immediate ws k s (suc (suc (suc (suc lower)))) (omega arith))) made in
    all good

pub shown : (at : ℕ) (ws : List ℕ) (g : Words ws) (word k : ℕ) (s : Size) (mode lower : ℕ) → mode < 8 → lower < 8 → is_any s ≡ true → (mode ≡ 7 → 4 ≤ lower → k ≡ word) → IsShown at ws word k s (operand_at ws k s mode lower)
shown at ws g word k s zero lower m l some same good = record { told = l; count = 0; upto = omega arith; words = refl }
shown at ws g word k s (suc zero) lower m l some same good = record { told = l; count = 0; upto = omega arith; words = refl }
shown at ws g word k s (suc (suc zero)) lower m l some same good = record { told = l; count = 0; upto = omega arith; words = refl }
shown at ws g word k s (suc (suc (suc zero))) lower m l some same good = record { told = l; count = 0; upto = omega arith; words = refl }
shown at ws g word k s (suc (suc (suc (suc zero)))) lower m l some same good = record { told = l; count = 0; upto = omega arith; words = refl }
shown at ws g word k s (suc (suc (suc (suc (suc zero))))) lower m l some same good = record { told = l; count = 1; upto = refl; words = one_word at ws g k }
shown at ws g word k s (suc (suc (suc (suc (suc (suc zero)))))) lower m l some same good = record { told = (l, omega arith, scale_told (slice_index ws k) (g.below k)); count = 1; upto = refl; words = index_shown ws g k good }
shown at ws g word k s (suc (suc (suc (suc (suc (suc (suc zero))))))) lower m l some same good = special at ws g word k s lower some (same refl) good
shown at ws g word k s (suc (suc (suc (suc (suc (suc (suc (suc mode)))))))) lower m l some same good = absurd (omega (arith, m))
