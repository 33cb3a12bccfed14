-- Values of each size behind their marks.
use Rattle.std.proofs.Common.{◌≡◌, ℕ, ◌%◌, List, ◌++◌, drop, Some, refl, ap, arith}
use Rattle.mix_bits.specs.declared.size.Size.{Size}
use Rattle.mix_bits.specs.declared.size.Size.TheVariants.{Zero, One, Two, Four}
use Rattle.mix_bits.specs.Sizes.{truncated}
use Rattle.call_trace.specs.Lines.{marked}
use Rattle.trace_lines.specs.inner.Pieces.{marked_value, marked_width}
use Rattle.trace_lines.proofs.Digits.{behind-sized, sized-read, sized-written}

pub value-written : (mark : List ℕ) (s : Size) (v : ℕ) (rest : List ℕ) → truncated v s ≡ v → marked_value mark s (marked mark s v ++ rest) ≡ Some v
value-written mark Zero v rest same = let h : v % 1 ≡ v = same in let is : 0 ≡ v = omega arith in ap Some is
value-written mark One v rest same = sized-written 2 v mark rest (let h : v % 256 ≡ v = same in omega arith)
value-written mark Two v rest same = sized-written 4 v mark rest (let h : v % 65536 ≡ v = same in omega arith)
value-written mark Four v rest same = sized-written 8 v mark rest (let h : v % 4294967296 ≡ v = same in omega arith)

pub behind-value : (mark : List ℕ) (s : Size) (v : ℕ) (rest : List ℕ) → drop (marked_width mark s) (marked mark s v ++ rest) ≡ rest
behind-value mark Zero v rest = refl
behind-value mark One v rest = behind-sized 2 v mark rest
behind-value mark Two v rest = behind-sized 4 v mark rest
behind-value mark Four v rest = behind-sized 8 v mark rest

pub record IsValue (mark : List ℕ) (s : Size) (v : ℕ) (text : List ℕ) : Type 0 where
  pub sized : truncated v s ≡ v
  pub text_is : text ≡ marked mark s v ++ drop (marked_width mark s) text

pub value-read : (mark : List ℕ) (s : Size) (v : ℕ) (text : List ℕ) → marked_value mark s text ≡ Some v → IsValue mark s v text
value-read mark Zero v text is =
    let same : Some 0 ≡ Some v = is in
    let none : 0 ≡ v = cc in
    record { sized = (let h : v % 1 ≡ v = omega arith in h); text_is = refl }
value-read mark One v text is =
    let told = sized-read 2 v mark text is in
    record { sized = (let small = told.small in let h : v % 256 ≡ v = omega arith in h); text_is = told.text_is }
value-read mark Two v text is =
    let told = sized-read 4 v mark text is in
    record { sized = (let small = told.small in let h : v % 65536 ≡ v = omega arith in h); text_is = told.text_is }
value-read mark Four v text is =
    let told = sized-read 8 v mark text is in
    record { sized = (let small = told.small in let h : v % 4294967296 ≡ v = omega arith in h); text_is = told.text_is }
