-- No two words share a text, and each name is printed.
use Rattle.std.proofs.Common.{◌≡◌, ℕ, ◌^◌, ◌<◌, inl, inr, List, [], ◌∷◌, codes, map, Bool, true, false, nat_lt, if◌then◌else◌, arith, refl, sym, ◌∙◌}
use Rattle.std.proofs.lemmas.Bool.{or_cases}
use Rattle.std.proofs.lemmas.Bool.Decides.{nat_tests}
use Rattle.std.proofs.lemmas.Slice.Eq.{bytes_eq-Decides}
use Rattle.std.specs.List.{list_any}
use Rattle.std.specs.Str.{bytes_eq}
use Rattle.mix_bits.specs.Names.{name_of}
use Rattle.mix_bits.proofs.Conditions.{both}
use Rattle.ppc_isa.specs.declared.instruction.InstrPpc.{InstrPpc}
use Rattle.ppc_isa.specs.Rows.{decoded}
use Rattle.ppc_isa.specs.Words.{word_of}
use Rattle.ppc_text.specs.Listed.{names, shapes}
use Rattle.ppc_text.specs.Instructions.{name}
use Rattle.ppc_text.specs.Text.{word_text}
use Rattle.asm_ppc.specs.laws.AssemblyLaws.{IsPrinted, NamesArePrinted, TextsDiffer}
use Rattle.asm_ppc.proofs.Complete.{gives_one}

pub texts_differ : TextsDiffer
texts_differ at v w fits small less e = gives_one (word_text w at) at v w fits (small, inr (sym e)) (less, inr refl)

-- whether a word's text has a name
abbrev prints_name : ℕ → List ℕ → Bool
prints_name w n = if nat_lt w (2 ^ 32) then bytes_eq (name_of (word_text w 0)) n else false

abbrev all_print : List InstrPpc → Bool
all_print [] = true
all_print (i ∷ is) = if prints_name (word_of i) (name i) then all_print is else false

shapes_print : all_print shapes ≡ true
unfolding shapes decoded
shapes_print = refl

long_prints : prints_name 0 (codes ".long") ≡ true
unfolding decoded
long_prints = refl

below : (w : ℕ) → nat_lt w (2 ^ 32) ≡ true → w < 2 ^ 32
below w h = grind (arith, nat_tests)

printed : (w : ℕ) (m n : List ℕ) → prints_name w m ≡ true → bytes_eq m n ≡ true → IsPrinted n
printed w m n h e =
    let parts : (nat_lt w (2 ^ 32) ≡ true) × (bytes_eq (name_of (word_text w 0)) m ≡ true) = both (nat_lt w (2 ^ 32)) (bytes_eq (name_of (word_text w 0)) m) h in
    (w, (below w parts.0, (bytes_eq-Decides (name_of (word_text w 0)) m).0 parts.1 ∙ (bytes_eq-Decides m n).0 e))

among : (n : List ℕ) (is : List InstrPpc) → all_print is ≡ true → list_any (λ m. bytes_eq m n) (map name is) ≡ true → IsPrinted n
among n [] h e = cc
among n (i ∷ is) h e =
    let parts : (prints_name (word_of i) (name i) ≡ true) × (all_print is ≡ true) = both (prints_name (word_of i) (name i)) (all_print is) h in
    let rest : list_any (λ m. bytes_eq m n) (map name is) ≡ true → IsPrinted n = among n is parts.1 in
    elim (or_cases (bytes_eq (name i) n) (list_any (λ m. bytes_eq m n) (map name is)) e) [ inl here ↦ printed (word_of i) (name i) n parts.0 here | inr there ↦ rest there ]

pub names_printed : NamesArePrinted
unfolding names
names_printed n e =
    elim (or_cases (bytes_eq (codes ".long") n) (list_any (λ m. bytes_eq m n) (map name shapes)) e) [ inl here ↦ printed 0 (codes ".long") n long_prints here | inr there ↦ among n shapes shapes_print there ]
