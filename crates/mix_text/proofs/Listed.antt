-- A line of a listing gives the bytes of its instruction.
use Rattle.std.proofs.Common.{◌≡◌, ◌≢◌, ℕ, zero, suc, ◌+◌, ◌*◌, ◌^◌, ◌<◌, ◌≤◌, inr, List, [], ◌∷◌, length, take, Some, Result, Ok, Err, arith, refl, sym, ap, subst, ◌∙◌}
use Rattle.std.proofs.lemmas.List.{length-drop, length-take-le}
use Rattle.std.specs.Option.{option_map}
use Rattle.mix_bits.specs.Addresses.{onward}
use Rattle.mix_bits.specs.declared.isa.Isa.{Isa}
use Rattle.mix_bits.specs.declared.isa.Isa.TheVariants.{M68, Ppc}
use Rattle.mix_bits.specs.declared.size.Size.TheVariants.{Four}
use Rattle.big_memory.specs.declared.refusals.Access.{Access}
use Rattle.big_memory.specs.Lists.{part}
use Rattle.big_memory.specs.Memory.{IsRam, Memory, loaded}
use Rattle.big_memory.specs.Numbers.{AreBytes}
use Rattle.m68_isa.specs.Decode.{decoded}
use Rattle.m68_isa.specs.declared.instructions.Decoded68.{Decoded68}
use Rattle.m68_isa.specs.declared.instructions.Decoded68.TheVariants.{Op, LineA, LineF, Privileged, Illegal, Short}
use Rattle.m68_ea.specs.Words.{words_at}
use Rattle.m68_text.specs.laws.Laws.{NamesAreListed}
use Rattle.m68_text.specs.Text.{text_of}
use Rattle.asm_m68.specs.Assembly.{AreWords}
use Rattle.asm_m68.specs.laws.Assembly.{count_of}
use Rattle.asm_m68.proofs.Prefix.{none_missing}
use Rattle.asm_m68.proofs.TakenBack.{first_given}
use Rattle.ppc_text.specs.Text.{word_text}
use Rattle.mix_text.specs.Listing.{Listed, bytes_m68, instruction, listed_ppc, listed_as}
use Rattle.mix_text.specs.Assembling.{IsInstruction}
use Rattle.mix_text.proofs.Bytes.{AreBytesOf, IsLong, is_long, words_are, words_back}
use Rattle.mix_text.proofs.OneLines.{OneLine, text_line_m68, word_line}

-- an instruction whose text gives its bytes of memory
pub record Gives (set : Isa) (m : Memory) (at : ℕ) (i : Listed) : Type 0 where
  pub line : OneLine i.text
  pub next : onward at i.bytes ≡ at + i.bytes
  pub long : length (part at i.bytes m.bytes) ≡ i.bytes
  pub bytes : IsInstruction set i.text at (Ok (part at i.bytes m.bytes))

part_long : (at n : ℕ) (bytes : List ℕ) → (0 < n → at + n ≤ length bytes) → length (part at n bytes) ≡ n
part_long at zero bytes within = refl
part_long at (suc n) bytes within = length-take-le (suc n) _ (omega (arith, length-drop at bytes, within (omega arith)))

goes_on : (at n : ℕ) (m : Memory) → IsRam m → at < 2 ^ 32 → (0 < n → at + n ≤ length m.bytes) → onward at n ≡ at + n
goes_on at zero m ram fits within = omega (arith, fits)
goes_on at (suc n) m ram fits within = omega (arith, ram.most, within (omega arith))

long_gives : (m : Memory) (at long : ℕ) → IsRam m → at < 2 ^ 32 → IsLong m at long → Gives Ppc m at (listed_as (word_text long at) 4)
long_gives m at long ram fits is =
    record {
      line = word_line long at;
      next = goes_on at 4 m ram fits (λ some. is.within);
      long = part_long at 4 m.bytes (λ some. is.within);
      bytes = (long, (is.below, inr refl), sym is.bytes);
    }

ppc_by : (r : Result ℕ Access) (m : Memory) (at : ℕ) (i : Listed) → IsRam m → AreBytes m.bytes → at < 2 ^ 32 → loaded m at Four ≡ r → listed_ppc r at ≡ Some i → Gives Ppc m at i
ppc_by (Ok long) m at i ram are fits is h =
    let same : listed_as (word_text long at) 4 ≡ i = cc in
    subst (Gives Ppc m at) same (long_gives m at long ram fits (is_long m at long are is))
ppc_by (Err e) m at i ram are fits is h = cc

-- what a line of 68K code lists
record Lists (ws : List ℕ) (at : ℕ) (i : Listed) : Type 0 where
  whole : decoded ws ≢ Short
  is : listed_as (text_of (decoded ws) ws at) (2 * count_of (decoded ws)) ≡ i

lists_by : (d : Decoded68) (ws : List ℕ) (at : ℕ) (i : Listed) → decoded ws ≡ d → d ≢ Short → bytes_m68 d ≡ Some (2 * count_of d) → option_map (listed_as (text_of d ws at)) (bytes_m68 d) ≡ Some i → Lists ws at i
lists_by d ws at i is whole bytes h =
    let made : Some (listed_as (text_of d ws at) (2 * count_of d)) ≡ Some i = sym (ap (option_map (listed_as (text_of d ws at))) bytes) ∙ h in
    let one : listed_as (text_of d ws at) (2 * count_of d) ≡ i = cc in
    record {
      whole = subst (λ x. x ≢ Short) (sym is) whole;
      is = ap (λ x. listed_as (text_of x ws at) (2 * count_of x)) is ∙ one;
    }

lists : (d : Decoded68) (ws : List ℕ) (at : ℕ) (i : Listed) → decoded ws ≡ d → option_map (listed_as (text_of d ws at)) (bytes_m68 d) ≡ Some i → Lists ws at i
lists (Op j used) ws at i is h = lists_by (Op j used) ws at i is (λ e. cc) refl h
lists (LineA w) ws at i is h = lists_by (LineA w) ws at i is (λ e. cc) refl h
lists LineF ws at i is h = lists_by LineF ws at i is (λ e. cc) refl h
lists Privileged ws at i is h = lists_by Privileged ws at i is (λ e. cc) refl h
lists Illegal ws at i is h = lists_by Illegal ws at i is (λ e. cc) refl h
lists Short ws at i is h = cc

text_one_line : NamesAreListed → (ws : List ℕ) (at : ℕ) → AreWords ws → decoded ws ≢ Short → OneLine (text_of (decoded ws) ws at)
text_one_line names [] at are whole = absurd (whole refl)
text_one_line names (w ∷ ws) at are whole = text_line_m68 names (decoded (w ∷ ws)) w at ws are.0 refl

double : (n : ℕ) → 0 < 2 * n → 0 < n
double n some = omega (arith, some)

words_give : NamesAreListed → (m : Memory) (at : ℕ) (ws : List ℕ) (i : Listed) → IsRam m → at < 2 ^ 32 → AreWords ws → AreBytesOf m at (count_of (decoded ws)) ws → Lists ws at i → Gives M68 m at i
words_give names m at ws i ram fits are bytes lists =
    let n : ℕ = count_of (decoded ws) in
    let within : 0 < 2 * n → at + 2 * n ≤ length m.bytes = λ some. bytes.within (double n some) in
    subst (Gives M68 m at) lists.is
    (record {
      line = text_one_line names ws at are lists.whole;
      next = goes_on at (2 * n) m ram fits within;
      long = part_long at (2 * n) m.bytes within;
      bytes = (take n ws, first_given ws at are lists.whole, sym bytes.bytes);
    })

pub gives : NamesAreListed → (set : Isa) (m : Memory) (at : ℕ) (i : Listed) → IsRam m → AreBytes m.bytes → at < 2 ^ 32 → instruction set m at ≡ Some i → Gives set m at i
unfolding instruction
gives names M68 m at i ram are fits is =
    let ws : List ℕ = words_at m at in
    words_give names m at ws i ram fits (words_are 5 m at are) (words_back 5 (count_of (decoded ws)) m at ram are (none_missing ws)) (lists (decoded ws) ws at i refl is)
gives names Ppc m at i ram are fits is = ppc_by (loaded m at Four) m at i ram are fits refl is
