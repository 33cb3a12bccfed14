use Rattle.std.proofs.Common.{◌≡◌, ◌+◌, ◌-◌, ◌≤◌, ℕ, List, replicate, take, drop, length, ap, ◌∙◌, arith}
use Rattle.std.proofs.lemmas.List.{take_all, take-replicate}
use Rattle.big_memory.specs.Memory.{Memory, with_bytes}
use Rattle.big_memory.specs.Numbers.{bytes_of_longs}
use Rattle.args_ppc.specs.Deliver.{frame_bytes}
use Rattle.args_ppc.proofs.Frames.{frame-put, frame-short, length-drop_eight, room-behind}
use Rattle.args_ppc.proofs.deliver.write_frame.Goals as goal

-- the zeros of a frame
blank : (sp n : ℕ) (words : List ℕ) (m : Memory) → n ≡ frame_bytes (length words) → n ≤ 80 → with_bytes sp (take n (replicate 80 0)) m ≡ with_bytes sp (replicate (frame_bytes (length words)) 0) m
blank sp n words m size small = ap (λ ys. with_bytes sp ys m) (take-replicate n 80 0 small ∙ ap (λ k. replicate k 0) size)

-- the frame of at most eight words
short : (n : ℕ) → n ≤ 8 → 64 ≡ frame_bytes n
short n few = omega (arith, few)

-- the words behind the eighth
behind : (words : List ℕ) → take (length words - 8) (drop 8 words) ≡ drop 8 words
behind words = take_all (length words - 8) (drop 8 words) (omega (arith, length-drop_eight words))

pub returns-then-words-gt8 : goal.returns-then-words-gt8
returns-then-words-gt8 c =
    let sp = c.args.sp in
    let words = c.args.words.now in
    c.fix_longs.ensures.bytes ∙ ap (λ ws. with_bytes (sp + 56) (bytes_of_longs ws) c.fix.new.self) (behind words)
    ∙ ap (with_bytes (sp + 56) (bytes_of_longs (drop 8 words))) (c.fix.ensures ∙ blank sp c.frame_bytes.result words c.args.ram.now c.frame_bytes.ensures.value c.frame_bytes.ensures.small)
    ∙ frame-put words sp c.args.ram.now c.requires.inside

pub returns-else-words-gt8 : goal.returns-else-words-gt8
returns-else-words-gt8 c =
    let sp = c.args.sp in
    let words = c.args.words.now in
    c.fix-else-words-gt8.ensures ∙ blank sp 64 words c.args.ram.now (short (length words) c.if-words-gt8.false) (omega arith)
    ∙ frame-short words sp c.args.ram.now c.if-words-gt8.false

pub overflow_add-sp : goal.overflow_add-sp
overflow_add-sp c = omega (arith, c.requires.inside, room-behind (length c.args.words.now), c.meets_invariant.ensures)

pub fix-requires-else-words-gt8 : goal.fix-requires-else-words-gt8
fix-requires-else-words-gt8 c = omega (arith, c.requires.inside, short (length c.args.words.now) c.if-words-gt8.false)
