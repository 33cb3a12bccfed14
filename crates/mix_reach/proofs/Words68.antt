-- The words of an instruction, one after another.
use Rattle.std.proofs.Common.{◌≡◌, ◌∙◌, ℕ, suc, List, [], ◌∷◌, Ok, Err, ap, sym, refl}
use Rattle.mix_bits.specs.Addresses.{onward}
use Rattle.mix_bits.specs.declared.size.Size.TheVariants.{Two}
use Rattle.big_memory.specs.declared.refusals.Access.{Access}
use Rattle.big_memory.specs.Memory.{Memory, loaded}
use Rattle.m68_ea.specs.Words.{word_and, words_from}

pub no-word : (m : Memory) (a : ℕ) → words_from 0 m a ≡ []
unfolding words_from
no-word m a = refl

pub last-word : (n : ℕ) (m : Memory) (a : ℕ) (e : Access) → Err e ≡ loaded m a Two → words_from (suc n) m a ≡ []
unfolding words_from
last-word n m a e here = ap (λ x. word_and x (words_from n m (onward a 2))) (sym here)

pub next-word : (n : ℕ) (m : Memory) (a b w : ℕ) (ws : List ℕ) → Ok w ≡ loaded m a Two → b ≡ onward a 2 → words_from n m b ≡ ws → words_from (suc n) m a ≡ w ∷ ws
unfolding words_from
next-word n m a b w ws here next rest =
    ap (λ x. word_and x (words_from n m (onward a 2))) (sym here) ∙ ap (λ xs. w ∷ xs) (ap (words_from n m) (sym next) ∙ rest)
