-- The bytes of a callee's stack frame and its registers, and what they read back as.
use Rattle.std.proofs.Common.{◌≡◌, ℕ, zero, suc, ◌+◌, ◌-◌, ◌*◌, ◌%◌, ◌^◌, ◌<◌, ◌≤◌, List, [], ◌∷◌, ◌++◌, length, take, drop, get_or, set, replicate, Option, Some, None, Ok, is_some, arith, refl, sym, ap, ◌∙◌, append_assoc, length-append, drop-cons}
use Rattle.std.proofs.lemmas.List.{drop-drop, drop_all, drop_at, drop-replicate, take-replicate, places, length-replicate, get_or-drop, get_or-set_same, get_or-set_other}
use Rattle.byteorder.specs.Endian.{big_bytes, big_number}
use Rattle.mix_bits.specs.Sizes.{bytes_of}
use Rattle.mix_bits.specs.declared.size.Size.{Size}
use Rattle.big_memory.specs.Lists.{put, zeros}
use Rattle.big_memory.specs.Memory.{Memory, loaded, with_bytes}
use Rattle.big_memory.specs.Numbers.{bytes_of_longs}
use Rattle.big_memory.proofs.Lists.{length-put, put-nil, put-put_inside}
use Rattle.big_memory.proofs.Numbers.{length_of_bytes, loads_number}
use Rattle.proc_info.specs.declared.param.Param.{Param}
use Rattle.proc_info.specs.Cut.{cut}
use Rattle.proc_info.specs.Signature.{Signature}
use Rattle.args_ppc.specs.Deliver.{callee_words, frame_bytes, frame_of, registers_with}
use Rattle.args_ppc.specs.DeliverClauses.{first_param}
use Rattle.args_ppc.specs.laws.Laws.{FillsItsStack}

-- how many bytes so many zeros are
pub length-zeros : (n : ℕ) → length (zeros n) ≡ n
length-zeros n = length-replicate n 0

pub length-cut : (ps : List Param) (vs : List ℕ) → length vs ≡ length ps → length (cut ps vs) ≡ length ps
length-cut [] vs same = refl
length-cut (p ∷ ps) [] same = absurd (omega (arith, same))
length-cut (p ∷ ps) (v ∷ vs) same = omega (arith, length-cut ps vs (omega (arith, same)))

-- the words behind the eighth have places
pub room-behind : (n : ℕ) → 56 + 4 * (n - 8) ≤ frame_bytes n
room-behind n = omega arith

pub length-drop_eight : (ws : List ℕ) → length (drop 8 ws) ≡ length ws - 8
length-drop_eight ws = grind (arith, places)

pub length-frame : (ws : List ℕ) → length (frame_of ws) ≡ frame_bytes (length ws)
length-frame ws =
    let held = zeros 56 ++ bytes_of_longs (drop 8 ws) in
    let held-is : length held ≡ 56 + 4 * (length ws - 8) = omega (arith, length-append (zeros 56) (bytes_of_longs (drop 8 ws)), length-zeros 56, length_of_bytes (drop 8 ws), length-drop_eight ws) in
    omega (arith, length-append held (zeros (frame_bytes (length ws) - length held)), length-zeros (frame_bytes (length ws) - length held), held-is, room-behind (length ws))

pub length-words : (sig : Signature) (selector : Option ℕ) (values : List ℕ) → length values ≡ length sig.params → length (callee_words sig selector values) ≡ first_param (is_some selector) + length sig.params
length-words sig None values same = length-cut sig.params values same ∙ omega arith
length-words sig (Some v) values same = omega (arith, length-cut sig.params values same)

pub length-stack : FillsItsStack
length-stack sig selector values same = length-frame (callee_words sig selector values) ∙ ap frame_bytes (length-words sig selector values same)

-- the zeros of a frame with the words behind the eighth put into them
zeros-put : (ws : List ℕ) → put 56 (bytes_of_longs (drop 8 ws)) (replicate (frame_bytes (length ws)) 0) ≡ frame_of ws
zeros-put ws =
    let n = frame_bytes (length ws) in
    let held = bytes_of_longs (drop 8 ws) in
    let size : length held ≡ 4 * (length ws - 8) = length_of_bytes (drop 8 ws) ∙ ap (λ k. 4 * k) (length-drop_eight ws) in
    let front : take 56 (replicate n 0) ≡ replicate 56 0 = take-replicate 56 n 0 (omega (arith, room-behind (length ws))) in
    let both : length (zeros 56 ++ held) ≡ 56 + length held = length-append (zeros 56) held ∙ ap (λ k. k + length held) (length-zeros 56) in
    let back : drop (56 + length held) (replicate n 0) ≡ replicate (n - length (zeros 56 ++ held)) 0 = drop-replicate (56 + length held) n 0 ∙ ap (λ k. replicate (n - k) 0) (sym both) in
    ap (λ xs. xs ++ (held ++ drop (56 + length held) (replicate n 0))) front ∙ ap (λ ys. replicate 56 0 ++ (held ++ ys)) back
    ∙ sym (append_assoc (replicate 56 0) held (replicate (n - length (zeros 56 ++ held)) 0))

pub frame-put : (ws : List ℕ) (sp : ℕ) (m : Memory) → sp + frame_bytes (length ws) ≤ length m.bytes
    → with_bytes (sp + 56) (bytes_of_longs (drop 8 ws)) (with_bytes sp (replicate (frame_bytes (length ws)) 0) m) ≡ with_bytes sp (frame_of ws) m
frame-put ws sp m within =
    let n = frame_bytes (length ws) in
    let held = bytes_of_longs (drop 8 ws) in
    let size : length held ≡ 4 * (length ws - 8) = length_of_bytes (drop 8 ws) ∙ ap (λ k. 4 * k) (length-drop_eight ws) in
    let blank : List ℕ = replicate n 0 in
    let all : length blank ≡ n = length-replicate n 0 in
    let bytes = put-put_inside sp 56 held blank m.bytes (omega (arith, size, all, room-behind (length ws))) (omega (arith, all)) ∙ ap (λ ys. put sp ys m.bytes) (zeros-put ws) in
    ap (λ bytes. record m { bytes = bytes }) bytes

pub frame-short : (ws : List ℕ) (sp : ℕ) (m : Memory) → length ws ≤ 8 → with_bytes sp (replicate (frame_bytes (length ws)) 0) m ≡ with_bytes sp (frame_of ws) m
unfolding bytes_of_longs
frame-short ws sp m few =
    let n = frame_bytes (length ws) in
    let none : bytes_of_longs (drop 8 ws) ≡ [] = ap bytes_of_longs (drop_all 8 ws few) in
    let same : replicate n 0 ≡ frame_of ws = sym (put-nil 56 (replicate n 0)) ∙ ap (λ ys. put 56 ys (replicate n 0)) (sym none) ∙ zeros-put ws in
    ap (λ ys. with_bytes sp ys m) same

-- words in bytes, from the k-th on
pub drop-longs : (k : ℕ) (ws rest : List ℕ) → k ≤ length ws → drop (4 * k) (bytes_of_longs ws ++ rest) ≡ bytes_of_longs (drop k ws) ++ rest
unfolding bytes_of_longs
drop-longs zero ws rest few = refl
drop-longs (suc k) [] rest few = absurd (omega (arith, few))
drop-longs (suc k) (w ∷ ws) rest few =
    let on : 4 * suc k ≡ 4 + 4 * k = omega arith in
    ap (λ n. drop n (bytes_of_longs (w ∷ ws) ++ rest)) on ∙ sym (drop-drop (4 * k) 4 (bytes_of_longs (w ∷ ws) ++ rest)) ∙ drop-longs k ws rest (omega (arith, few))

-- a long reads back from its bytes
pub long-back : (w : ℕ) (rest : List ℕ) → big_number 4 (big_bytes 4 w ++ rest) ≡ w % 2 ^ 32
long-back w rest = omega arith

-- a number in the bytes at an address
pub loads : (m : Memory) (a : ℕ) (s : Size) (bytes : List ℕ) → a + bytes_of s ≤ length m.bytes → drop a m.bytes ≡ bytes → loaded m a s ≡ Ok (big_number (bytes_of s) bytes)
loads m a s bytes within here = loads_number m a s within ∙ ap (λ list. Ok (big_number (bytes_of s) list)) here

-- a frame from the place of a word on
pub frame-from : (ws : List ℕ) (i : ℕ) (above : List ℕ) → 8 ≤ i → i < length ws → (rest : List ℕ) × (drop (24 + 4 * i) (frame_of ws ++ above) ≡ big_bytes 4 (get_or ws i 0) ++ rest)
unfolding bytes_of_longs
frame-from ws i above behind few =
    let k = i - 8 in
    let tail = drop 8 ws in
    let pad = zeros (frame_bytes (length ws) - length (zeros 56 ++ bytes_of_longs tail)) in
    let at : 24 + 4 * i ≡ 56 + 4 * k = omega (arith, behind) in
    let few-left : k < length tail = omega (arith, behind, few, length-drop_eight ws) in
    let joined : frame_of ws ++ above ≡ zeros 56 ++ (bytes_of_longs tail ++ (pad ++ above)) = simp append_assoc in
    let here : get_or tail k 0 ≡ get_or ws i 0 = get_or-drop 8 ws k 0 ∙ ap (λ n. get_or ws n 0) (omega (arith, behind)) in
    let read : drop (24 + 4 * i) (frame_of ws ++ above) ≡ bytes_of_longs (drop k tail) ++ (pad ++ above) =
    ap (λ n. drop n (frame_of ws ++ above)) at ∙ ap (drop (56 + 4 * k)) joined ∙ sym (drop-drop (4 * k) 56 (zeros 56 ++ (bytes_of_longs tail ++ (pad ++ above))))
    ∙ ap (drop (4 * k)) (drop_at (zeros 56) (bytes_of_longs tail ++ (pad ++ above)) 56 (length-zeros 56)) ∙ drop-longs k tail (pad ++ above) (omega (arith, few-left)) in (
      bytes_of_longs (drop (suc k) tail) ++ (pad ++ above),
      read ∙ ap (λ list. bytes_of_longs list ++ (pad ++ above)) (drop-cons tail k 0 few-left) ∙ append_assoc (big_bytes 4 (get_or tail k 0)) (bytes_of_longs (drop (suc k) tail)) (pad ++ above)
          ∙ ap (λ w. big_bytes 4 w ++ (bytes_of_longs (drop (suc k) tail) ++ (pad ++ above))) here,
    )

-- an element of a piece at place 3
put-at_three : (ys xs : List ℕ) (i : ℕ) → 3 + length ys ≤ length xs → i < length ys → get_or (put 3 ys xs) (3 + i) 0 ≡ get_or ys i 0
put-at_three ys xs i within inside = grind (arith, places)

-- the stack pointer and the first eight words in the registers
eight : (ws : List ℕ) → length (take 8 ws) ≤ 8
eight ws = grind (arith, places)

pub top-back : (ws : List ℕ) (sp code toc : ℕ) → get_or (registers_with ws sp code toc).gpr 1 0 ≡ sp
top-back ws sp code toc =
    let gpr = put 3 (take 8 ws) (replicate 32 0) in
    let long : length gpr ≡ 32 = length-put 3 (take 8 ws) (replicate 32 0) (omega (arith, eight ws)) in
    get_or-set_other (set gpr 1 sp) 2 1 toc 0 (λ e. omega (arith, e)) ∙ get_or-set_same gpr 1 sp 0 (omega (arith, long))

pub word-back_registers : (ws : List ℕ) (sp code toc i : ℕ) → i < 8 → i < length ws → get_or (registers_with ws sp code toc).gpr (3 + i) 0 ≡ get_or ws i 0
word-back_registers ws sp code toc i low few =
    let gpr : List ℕ = put 3 (take 8 ws) (replicate 32 0) in
    get_or-set_other (set gpr 1 sp) 2 (3 + i) toc 0 (λ e. omega (arith, e)) ∙ get_or-set_other gpr 1 (3 + i) sp 0 (λ e. omega (arith, e))
    ∙ put-at_three (take 8 ws) (replicate 32 0) i (omega (arith, eight ws)) (grind (arith, places)) ∙ grind (arith, places)
