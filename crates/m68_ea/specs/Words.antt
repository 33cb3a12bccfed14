-- The words of an instruction, of which it has at most five
-- (M68000 Family Programmer's Reference Manual, section 2.1).
use Rattle.std.specs.Prelude.{ℕ, zero, suc, List, [], ◌∷◌, Result, Ok, Err}
use Rattle.mix_bits.specs.declared.size.Size.TheVariants.{Two}
use Rattle.big_memory.specs.declared.refusals.Access.{Access}
use Rattle.big_memory.specs.Memory.{Memory, loaded}
use Rattle.mix_bits.specs.Addresses.{onward}

abbrev pub word_and : Result ℕ Access → List ℕ → List ℕ
word_and (Ok word) others = word ∷ others
word_and (Err e) others = []

-- the n words from an address on, up to the first one that doesn't lie in memory
unfoldable pub words_from : ℕ → Memory → ℕ → List ℕ
words_from zero m a = []
words_from (suc n) m a = word_and (loaded m a Two) (words_from n m (onward a 2))

-- the words of an instruction; a word behind the last one of the list is 0 where it is asked for
abbrev pub words_at : Memory → ℕ → List ℕ
words_at m pc = words_from 5 m pc
