-- A name is in an assembler's list exactly where some line with it gives something.
use Rattle.std.proofs.Common.{◌≡◌, ◌≢◌, ℕ, List, length, take, Bool, true, false, inr, lit<, refl, sym, subst}
use Rattle.m68_isa.specs.Decode.{decoded}
use Rattle.m68_isa.specs.declared.instructions.Decoded68.{Decoded68}
use Rattle.m68_isa.specs.declared.instructions.Decoded68.TheVariants.{Short}
use Rattle.m68_text.specs.Listed.{is_name as is_name_m68}
use Rattle.m68_text.specs.Text.{text_of}
use Rattle.asm_m68.specs.Assembly.{Gives as GivesM68}
use Rattle.asm_m68.specs.laws.Assembly.{count_of}
use Rattle.asm_m68.specs.laws.AssemblyLaws.{IsPrinted, is_exact}
use Rattle.asm_m68.proofs.Complete.{given_named as named_m68}
use Rattle.asm_m68.proofs.Printed.{names_printed as printed_m68}
use Rattle.asm_m68.proofs.TakenBack.{first_given}
use Rattle.ppc_text.specs.Listed.{is_name as is_name_ppc}
use Rattle.ppc_text.specs.Text.{word_text}
use Rattle.asm_ppc.specs.Assembly.{Gives as GivesPpc}
use Rattle.asm_ppc.specs.laws.AssemblyLaws.{IsPrinted as IsPrintedPpc}
use Rattle.asm_ppc.proofs.Complete.{given_named as named_ppc}
use Rattle.asm_ppc.proofs.Printed.{names_printed as printed_ppc}
use Rattle.mix_text.specs.Assembling.{IsKnown}

not_short : (d : Decoded68) (count : ℕ) → is_exact d count ≡ true → d ≢ Short
not_short d count exact short = let none : is_exact Short count ≡ true = subst (λ x. is_exact x count ≡ true) short exact in cc

printed_known : (n : List ℕ) → IsPrinted n → IsKnown GivesM68 n
printed_known n p =
    record {
      line = text_of (decoded p.words) p.words 0;
      at = 0;
      fits = lit< tt;
      code = take (count_of (decoded p.words)) p.words;
      gives = first_given p.words 0 p.are.0 (not_short (decoded p.words) (length p.words) p.are.1);
      named = p.named;
    }

pub known_m68 : (n : List ℕ) → is_name_m68 n ≡ true → IsKnown GivesM68 n
known_m68 n listed = printed_known n (printed_m68 n listed)

pub listed_m68 : (n : List ℕ) → IsKnown GivesM68 n → is_name_m68 n ≡ true
listed_m68 n known = subst (λ m. is_name_m68 m ≡ true) known.named (named_m68 known.line known.at known.code known.fits known.gives)

word_known : (n : List ℕ) → IsPrintedPpc n → IsKnown GivesPpc n
word_known n (w, (below, named)) =
    record {
      line = word_text w 0;
      at = 0;
      fits = lit< tt;
      code = w;
      gives = (below, inr refl);
      named = named;
    }

pub known_ppc : (n : List ℕ) → is_name_ppc n ≡ true → IsKnown GivesPpc n
known_ppc n listed = word_known n (printed_ppc n listed)

pub listed_ppc : (n : List ℕ) → IsKnown GivesPpc n → is_name_ppc n ≡ true
listed_ppc n known = subst (λ m. is_name_ppc m ≡ true) known.named (named_ppc known.line known.at known.code known.fits known.gives)

pub unknown : {Known : Type 0} (listed : Bool) → (Known → listed ≡ true) → listed ≡ false → Known → ⊥
unknown {Known} listed lists none known = let both : true ≡ listed = sym (lists known) in cc
