-- What a PowerPC callee is given (Inside Macintosh: PowerPC System Software, chapter 1, for words and the stack frame; a
-- callee's fresh registers and the selector as its first word are this project's own).
use Rattle.std.specs.Prelude.{ℕ, ◌+◌, ◌-◌, ◌*◌, max, Bool, if◌then◌else◌, List, [], ◌∷◌, ◌++◌, length, take, drop, slice_set, Option}
use Rattle.std.specs.Option.{option_map_or}
use Rattle.mix_bits.specs.Multiples.{rounded_up}
use Rattle.mix_bits.specs.Sizes.{truncated}
use Rattle.mix_bits.specs.declared.isa.Isa.TheVariants.{Ppc}
use Rattle.big_memory.specs.Lists.{put, zeros}
use Rattle.big_memory.specs.Map.{return_gate}
use Rattle.big_memory.specs.Numbers.{bytes_of_longs}
use Rattle.ppc_isa.specs.declared.registers.RegsPpc.{RegsPpc}
use Rattle.ppc_isa.specs.Registers.{cleared_registers}
use Rattle.proc_info.specs.Cut.{cut}
use Rattle.proc_info.specs.Signature.{Signature}

-- the bytes of a callee's stack frame: a linkage area of 24 bytes and a place for each word, at least for eight, rounded
-- up to 16
abbrev pub frame_bytes : ℕ → ℕ
frame_bytes words = rounded_up 16 (24 + 4 * max 8 words)

-- how many bytes of stack a callee is given: it has a word for a selector that it is passed, and one for each parameter
abbrev pub below : Signature → Bool → ℕ
below sig passed = frame_bytes ((if passed then 1 else 0) + length sig.params)

-- a callee's words: its selector, if it is passed, and the parameters
abbrev pub callee_words : Signature → Option ℕ → List ℕ → List ℕ
callee_words sig selector values =
    option_map_or (λ v. truncated v sig.selector ∷ []) selector [] ++ cut sig.params values

-- some bytes, and zeros up to a length
abbrev pub padded : ℕ → List ℕ → List ℕ
padded n xs = xs ++ zeros (n - length xs)

-- a stack frame from its r1 on: zeros, but for the words behind the eighth, which begin at 24 + 4 * 8
abbrev pub frame_of : List ℕ → List ℕ
frame_of words = padded (frame_bytes (length words)) (zeros 56 ++ bytes_of_longs (drop 8 words))

-- a callee's registers: its stack pointer, its TOC, the first eight words from r3 on, LR at the return gate, and else 0
abbrev pub registers_with : List ℕ → ℕ → ℕ → ℕ → RegsPpc
registers_with words sp code toc =
    record cleared_registers {
      gpr = slice_set (slice_set (put 3 (take 8 words) cleared_registers.gpr) 1 sp) 2 toc;
      lr = return_gate Ppc;
      pc = code;
    }

abbrev pub callee_registers : Signature → Option ℕ → List ℕ → ℕ → ℕ → ℕ → RegsPpc
callee_registers sig selector values sp code toc = registers_with (callee_words sig selector values) sp code toc
