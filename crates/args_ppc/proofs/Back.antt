-- What a callee was handed reads back.
use Rattle.std.proofs.Common.{◌≡◌, inl, inr, ℕ, ◌+◌, ◌*◌, ◌%◌, ◌^◌, ◌<◌, ◌≤◌, List, [], ◌∷◌, ◌++◌, length, drop, get_or, Option, Some, None, Result, Ok, Err, is_some, arith, refl, sym, ap, ◌∙◌, length-drop}
use Rattle.std.proofs.lemmas.List.{drop-drop, get_or-drop, get_or-set_same}
use Rattle.std.proofs.lemmas.Bool.{cases_lt, lt-ltb, le-ltb}
use Rattle.byteorder.specs.Endian.{big_bytes}
use Rattle.mix_bits.specs.Results.{◌>>=◌}
use Rattle.mix_bits.specs.Addresses.{onward}
use Rattle.mix_bits.specs.Sizes.{truncated}
use Rattle.mix_bits.specs.declared.size.Size.{Size}
use Rattle.mix_bits.specs.declared.size.Size.TheVariants.{Zero, One, Two, Four}
use Rattle.big_memory.specs.Memory.{Memory, loaded, with_bytes}
use Rattle.big_memory.proofs.Lists.{drop-put, length-put}
use Rattle.big_memory.proofs.Rams.{stay_beside}
use Rattle.ppc_isa.specs.declared.registers.RegsPpc.{RegsPpc}
use Rattle.proc_info.specs.declared.param.Param.{Param}
use Rattle.proc_info.specs.Cut.{cut}
use Rattle.proc_info.specs.Signature.{Signature}
use Rattle.args_ppc.specs.Words.{value_at, values_at, word_at}
use Rattle.args_ppc.specs.DeliverClauses.{callee_sp, delivered, first_param}
use Rattle.args_ppc.specs.Deliver.{callee_words, frame_bytes, frame_of, registers_with}
use Rattle.args_ppc.specs.Results.{with_sized}
use Rattle.args_ppc.specs.laws.Laws.{ComesBack, ResultComesBack, SelectorComesBack, TouchesNothingElse}
use Rattle.args_ppc.proofs.Frames.{frame-from, length-frame, length-stack, length-words, loads, long-back, top-back, word-back_registers}

-- cut values are words, and are as they are where they are cut again
truncated-fits : (v : ℕ) (s : Size) → truncated v s < 2 ^ 32
truncated-fits v Zero = omega arith
truncated-fits v One = omega arith
truncated-fits v Two = omega arith
truncated-fits v Four = omega arith

cut-twice : (v : ℕ) (s : Size) → truncated (truncated v s) s ≡ truncated v s
cut-twice v Zero = omega arith
cut-twice v One = omega arith
cut-twice v Two = omega arith
cut-twice v Four = omega arith

-- a callee's word, which is at most a long
word-back : (ws : List ℕ) (sp code toc i : ℕ) (m : Memory) → i < length ws → get_or ws i 0 < 2 ^ 32 → sp + frame_bytes (length ws) ≤ length m.bytes → length m.bytes ≤ 16777216 → word_at (registers_with ws sp code toc) (with_bytes sp (frame_of ws) m) i ≡ Ok (get_or ws i 0)
word-back ws sp code toc i m few fits within most = elim (cases_lt i 8) [
  | inl low ↦ rw (lt-ltb i 8 low) (ap Ok (word-back_registers ws sp code toc i low few))
  | inr high ↦ rw (le-ltb i 8 high) (
      let n : Memory = with_bytes sp (frame_of ws) m in
      let above = drop (sp + length (frame_of ws)) m.bytes in
      let long : length n.bytes ≡ length m.bytes = length-put sp (frame_of ws) m.bytes (omega (arith, within, length-frame ws)) in
      let room : 24 + 4 * i + 4 ≤ frame_bytes (length ws) = omega (arith, few, high) in
      let at : onward (get_or (registers_with ws sp code toc).gpr 1 0) (24 + 4 * i) ≡ sp + (24 + 4 * i) =
      ap (λ a. onward a (24 + 4 * i)) (top-back ws sp code toc) ∙ omega (arith, room, within, most) in
      let found = frame-from ws i above high few in
      let here : drop (sp + (24 + 4 * i)) n.bytes ≡ big_bytes 4 (get_or ws i 0) ++ found.0 =
      sym (drop-drop (24 + 4 * i) sp n.bytes) ∙ ap (drop (24 + 4 * i)) (drop-put sp (frame_of ws) m.bytes (omega (arith, within))) ∙ found.1 in
      let whole : get_or ws i 0 % 2 ^ 32 ≡ get_or ws i 0 = omega (arith, fits) in
      ap (λ a. loaded n a Four) at ∙ loads n (sp + (24 + 4 * i)) Four _ (omega (arith, long, room, within)) here ∙ ap Ok (long-back (get_or ws i 0) found.0 ∙ whole))
]

-- a value in a word
value-back : (r : RegsPpc) (m : Memory) (i w v : ℕ) (s : Size) → word_at r m i ≡ Ok w → w ≡ truncated v s → value_at r m i s ≡ Ok (truncated v s)
unfolding value_at
value-back r m i w v s word cut-is = ap (λ x. x >>= λ y. Ok (truncated y s)) word ∙ ap (λ y. Ok (truncated y s)) cut-is ∙ ap Ok (cut-twice v s)

-- one value in front of others
in-front : {E : Type 0} (v : Result ℕ E) (x : ℕ) (vs : Result (List ℕ) E) (xs : List ℕ) → v ≡ Ok x → vs ≡ Ok xs → (v >>= λ y. vs >>= λ ys. Ok (y ∷ ys)) ≡ Ok (x ∷ xs)
in-front (Ok y) x (Ok ys) xs one others = cc
in-front (Ok y) x (Err e) xs one others = cc
in-front (Err e) x vs xs one others = cc

-- values in the words from i on
values-back : (ps : List Param) (vs ws : List ℕ) (sp code toc i : ℕ) (m : Memory) → length vs ≡ length ps → drop i ws ≡ cut ps vs → sp + frame_bytes (length ws) ≤ length m.bytes → length m.bytes ≤ 16777216 → values_at (registers_with ws sp code toc) (with_bytes sp (frame_of ws) m) i ps ≡ Ok (cut ps vs)
values-back [] vs ws sp code toc i m same here within most = refl
values-back (p ∷ ps) [] ws sp code toc i m same here within most = absurd (omega (arith, same))
values-back (p ∷ ps) (v ∷ vs) ws sp code toc i m same here within most =
    let place : i + 0 ≡ i = omega arith in
    let word : get_or ws i 0 ≡ truncated v p.size = ap (λ n. get_or ws n 0) (sym place) ∙ sym (get_or-drop i ws 0 0) ∙ ap (λ list. get_or list 0 0) here in
    let few : i < length ws = omega (arith, sym (length-drop i ws) ∙ ap length here) in
    let fits : get_or ws i 0 < 2 ^ 32 = omega (arith, word, truncated-fits v p.size) in
    in-front _ _ _ _
    (value-back (registers_with ws sp code toc) (with_bytes sp (frame_of ws) m) i (get_or ws i 0) v p.size (word-back ws sp code toc i m few fits within most) word)
    (values-back ps vs ws sp code toc (i + 1) m (omega (arith, same)) (sym (drop-drop 1 i ws) ∙ ap (drop 1) here) within most)

-- the parameters follow the selector
behind-selector : (sig : Signature) (selector : Option ℕ) (values : List ℕ) → drop (first_param (is_some selector)) (callee_words sig selector values) ≡ cut sig.params values
behind-selector sig None values = refl
behind-selector sig (Some v) values = refl

pub comes-back : ComesBack
comes-back sig selector values lo code toc m handed =
    let words = length-words sig selector values handed.count in
    values-back sig.params values (callee_words sig selector values) (callee_sp sig selector lo) code toc (first_param (is_some selector)) m handed.count (behind-selector sig selector values)
    (omega (arith, handed.room, handed.inside, ap frame_bytes words)) handed.ram.most

pub selector-comes-back : SelectorComesBack
selector-comes-back sig v values lo code toc m =
    let ws = callee_words sig (Some v) values in
    let sp = callee_sp sig (Some v) lo in
    value-back (registers_with ws sp code toc) (delivered sig (Some v) values lo m) 0 (truncated v sig.selector) v sig.selector
    (ap Ok (word-back_registers ws sp code toc 0 (omega arith) (omega arith))) refl

pub touches-nothing : TouchesNothingElse
touches-nothing sig selector values lo m handed =
    stay_beside m (callee_sp sig selector lo) lo (frame_of (callee_words sig selector values)) (omega (arith, handed.room, length-stack sig selector values handed.count)) handed.inside

-- a result reads back from r3
sized-back : (s : Size) (v : ℕ) (r : RegsPpc) → length r.gpr ≡ 32 → truncated (get_or (with_sized s v r).gpr 3 0) s ≡ truncated v s
sized-back Zero v r file = omega arith
sized-back One v r file = ap (λ w. truncated w One) (get_or-set_same r.gpr 3 (truncated v One) 0 (omega (arith, file))) ∙ cut-twice v One
sized-back Two v r file = ap (λ w. truncated w Two) (get_or-set_same r.gpr 3 (truncated v Two) 0 (omega (arith, file))) ∙ cut-twice v Two
sized-back Four v r file = ap (λ w. truncated w Four) (get_or-set_same r.gpr 3 (truncated v Four) 0 (omega (arith, file))) ∙ cut-twice v Four

pub result-comes-back : ResultComesBack
result-comes-back sig v r file = sized-back sig.result v r file
