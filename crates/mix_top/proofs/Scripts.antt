-- A text is the script of the commands whose lines it is, and else has a first line that is no command.
use Rattle.std.proofs.Common.{◌≡◌, ◌≢◌, ℕ, zero, suc, ◌+◌, ◌-◌, ◌<◌, ◌≤◌, ◌==◌, nat_eq, Bool, true, false, List, [], ◌∷◌, ◌++◌, length, take, drop, Option, Some, None, Result, Ok, Err, if◌then◌else◌, ◌⊎◌, inl, inr, arith, ap, sym, subst, ◌∙◌, refl, append_assoc, take-append-drop}
use Rattle.std.specs.Prelude.{All}
use Rattle.std.specs.List.{ends_with}
use Rattle.std.proofs.lemmas.Bool.Decides.{Decides-eqb}
use Rattle.std.proofs.lemmas.List.Elements.{All-nil, All-cons, All-head, All-tail}
use Rattle.std.proofs.lemmas.Slice.Eq.{ends_is}
use Rattle.std.proofs.Math.Seq.{drop-append_seam, take-append_seam}
use Rattle.mix_top.specs.laws.Commands.{IsProper, text_of}
use Rattle.mix_top.specs.Commands.{command_of}
use Rattle.mix_top.specs.ScriptLines.{behind_line, first_line, line_length}
use Rattle.mix_top.specs.Scripts.{command_in, commands_from, in_front, lines_of, read_then, script_of}
use Rattle.mix_top.specs.laws.SpellingLaws.{BadLinesAreFirst, ScriptsAreLines, written}
use Rattle.mix_top.specs.declared.command.ScriptCommand.{ScriptCommand}
use Rattle.mix_top.proofs.Splits.{behind-less, lines-split}
use Rattle.mix_top.proofs.Spellings.{HasNoFeed, command-read, command-spelled, text-no_feed}

-- the line of a text
abbrev line : List ℕ → List ℕ
line text = text ++ (10 ∷ [])

-- ---- the first line behind a text without a line feed

length-with : (b : Bool) (n : ℕ) → b ≡ false → (if b then 1 else suc n) ≡ suc n
length-with true n is = cc
length-with false n is = refl

length-line : (xs more : List ℕ) → HasNoFeed xs → line_length (xs ++ (10 ∷ more)) ≡ suc (length xs)
length-line [] more none = refl
length-line (x ∷ xs) more none = length-with (x == 10) (line_length (xs ++ (10 ∷ more))) none.0 ∙ ap suc (length-line xs more none.1)

line-more : (xs more : List ℕ) → xs ++ (10 ∷ more) ≡ line xs ++ more
line-more xs more = sym (append_assoc xs (10 ∷ []) more)

length-of_line : (xs : List ℕ) → length (line xs) ≡ suc (length xs)
length-of_line [] = refl
length-of_line (x ∷ xs) = ap suc (length-of_line xs)

first-is : (xs more : List ℕ) → HasNoFeed xs → first_line (xs ++ (10 ∷ more)) ≡ line xs
first-is xs more none =
    ap (λ n. take n (xs ++ (10 ∷ more))) (length-line xs more none ∙ sym (length-of_line xs))
    ∙ (ap (take (length (line xs))) (line-more xs more) ∙ take-append_seam (line xs) more)

behind-is : (xs more : List ℕ) → HasNoFeed xs → behind_line (xs ++ (10 ∷ more)) ≡ more
behind-is xs more none =
    ap (λ n. drop n (xs ++ (10 ∷ more))) (length-line xs more none ∙ sym (length-of_line xs))
    ∙ (ap (drop (length (line xs))) (line-more xs more) ∙ drop-append_seam (line xs) more)

some-bytes : (xs more : List ℕ) → 0 < length (xs ++ (10 ∷ more))
some-bytes [] more = omega arith
some-bytes (x ∷ xs) more = omega arith

lines-are : (xs more : List ℕ) → HasNoFeed xs → lines_of (xs ++ (10 ∷ more)) ≡ line xs ∷ lines_of more
lines-are xs more none =
    lines-split (xs ++ (10 ∷ more)) (some-bytes xs more)
    ∙ (ap (λ l. l ∷ lines_of (behind_line (xs ++ (10 ∷ more)))) (first-is xs more none) ∙ ap (λ b. line xs ∷ lines_of b) (behind-is xs more none))

-- ---- the command of a line

ended : (b : Bool) (xs ys : List ℕ) → b ≡ true → xs ≡ ys → (if b then command_of xs else None) ≡ command_of ys
ended true xs ys is same = ap command_of same
ended false xs ys is same = cc

-- a line without its feed
without : (xs : List ℕ) → take (length (line xs) - 1) (line xs) ≡ xs
without xs =
    let one : length (line xs) - 1 ≡ length xs = (let more = length-of_line xs in omega (arith, more)) in
    ap (λ n. take n (line xs)) one ∙ take-append_seam xs (10 ∷ [])

line-command : (xs : List ℕ) → command_in (line xs) ≡ command_of xs
line-command xs =
    ended (ends_with nat_eq (line xs) (10 ∷ [])) (take (length (line xs) - 1) (line xs)) xs
    ((ends_is Decides-eqb (line xs) (10 ∷ []) (ends_with nat_eq (line xs) (10 ∷ [])) refl).1 xs refl) (without xs)

-- a command has its line
pub command-in : (c : ScriptCommand) → IsProper c → command_in (line (text_of c)) ≡ Some c
command-in c proper = line-command (text_of c) ∙ command-read c proper

pub record IsLine (bytes : List ℕ) (c : ScriptCommand) : Type 0 where
  pub proper : IsProper c
  pub is : bytes ≡ line (text_of c)

line-by : (b : Bool) (bytes : List ℕ) (c : ScriptCommand) → b ≡ ends_with nat_eq bytes (10 ∷ []) → (if b then command_of (take (length bytes - 1) bytes) else None) ≡ Some c → IsLine bytes c
line-by true bytes c same is =
    let own = command-spelled (take (length bytes - 1) bytes) c is in
    record {
      proper = own.proper;
      is = (ends_is Decides-eqb bytes (10 ∷ []) (ends_with nat_eq bytes (10 ∷ [])) refl).0 (sym same) ∙ ap line (sym own.is);
    }
line-by false bytes c same is = cc

line-of : (bytes : List ℕ) (c : ScriptCommand) → command_in bytes ≡ Some c → IsLine bytes c
line-of bytes c is = line-by (ends_with nat_eq bytes (10 ∷ [])) bytes c refl is

-- ---- a script of commands is their lines

pub written-read : (number : ℕ) (cs : List ScriptCommand) → All IsProper cs → commands_from number (lines_of (written cs)) ≡ Ok cs
written-read number [] all = refl
written-read number (c ∷ cs) all =
    let proper = All-head IsProper c cs all in
    ap (commands_from number) (lines-are (text_of c) (written cs) (text-no_feed c proper))
    ∙ (ap (λ o. read_then number o (commands_from (number + 1) (lines_of (written cs)))) (command-in c proper)
    ∙ ap (in_front c) (written-read (number + 1) cs (All-tail IsProper c cs all)))

-- a text with a byte is its first line and what stands behind it
whole : (text : List ℕ) → text ≡ first_line text ++ behind_line text
whole text = sym (take-append-drop (line_length text) text)

pub record IsWritten (text : List ℕ) (cs : List ScriptCommand) : Type 0 where
  pub proper : All IsProper cs
  pub is : written cs ≡ text

front-ok : (o : Option ScriptCommand) (number : ℕ) (r : Result (List ScriptCommand) ℕ) (cs : List ScriptCommand) → read_then number o r ≡ Ok cs
    → (c : ScriptCommand) × (more : List ScriptCommand) × (o ≡ Some c) × (r ≡ Ok more) × (cs ≡ c ∷ more)
front-ok None number r cs is = cc
front-ok (Some c) number (Ok more) cs is = (c, more, refl, refl, cc)
front-ok (Some c) number (Err k) cs is = cc

front-err : (o : Option ScriptCommand) (number k : ℕ) (r : Result (List ScriptCommand) ℕ) → read_then number o r ≡ Err k
    → ((o ≡ None) × (number ≡ k)) ⊎ ((c : ScriptCommand) × (o ≡ Some c) × (r ≡ Err k))
front-err None number k r is = inl (refl, cc)
front-err (Some c) number k (Ok more) is = cc
front-err (Some c) number k (Err j) is = inr (c, refl, cc)

-- the line of a command in front of a text
pub front-of : (text : List ℕ) (c : ScriptCommand) → command_in (first_line text) ≡ Some c → text ≡ text_of c ++ (10 ∷ behind_line text)
front-of text c is =
    let own = line-of (first_line text) c is in
    whole text ∙ (ap (λ xs. xs ++ behind_line text) own.is ∙ append_assoc (text_of c) (10 ∷ []) (behind_line text))

less-fuel : (fuel : ℕ) (text : List ℕ) → 0 < length text → length text ≤ suc fuel → length (behind_line text) ≤ fuel
less-fuel fuel text some enough = let less = behind-less text some in omega (arith, enough, less)

pub is-written : (fuel number : ℕ) (text : List ℕ) (cs : List ScriptCommand) → length text ≤ fuel → commands_from number (lines_of text) ≡ Ok cs → IsWritten text cs
is-written fuel number [] cs enough is = let none : [] ≡ cs = cc in record { proper = subst (All IsProper) none (All-nil IsProper); is = ap written (sym none) }
is-written zero number (byte ∷ text) cs enough is = absurd (omega (arith, enough))
is-written (suc fuel) number (byte ∷ text) cs enough is =
    let all : List ℕ = byte ∷ text in
    let own = front-ok (command_in (first_line all)) number (commands_from (number + 1) (lines_of (behind_line all))) cs (ap (commands_from number) (sym (lines-split all (omega arith))) ∙ is) in
    let line_is = line-of (first_line all) own.0 own.2 in
    let rest = is-written fuel (number + 1) (behind_line all) own.1 (less-fuel fuel all (omega arith) enough) own.3 in
    record {
      proper = subst (All IsProper) (sym own.4) (All-cons IsProper own.0 own.1 line_is.proper rest.proper);
      is = ap written own.4 ∙ (ap (λ xs. text_of own.0 ++ (10 ∷ xs)) rest.is ∙ sym (front-of all own.0 own.2));
    }

pub scripts-are_lines : ScriptsAreLines
scripts-are_lines text cs = (
  λ is. let own = is-written (length text) 1 text cs (omega arith) is in (own.proper, own.is),
  λ own. ap script_of (sym own.1) ∙ written-read 1 cs own.0,
)

-- ---- the first line that is none

pub record IsBadFrom (text : List ℕ) (number k : ℕ) : Type 0 where
  pub before : List ScriptCommand
  pub rest : List ℕ
  pub proper : All IsProper before
  pub order : text ≡ written before ++ rest
  pub count : k ≡ number + length before
  pub some : rest ≢ []
  pub none : (c : ScriptCommand) (behind : List ℕ) → IsProper c → rest ≢ text_of c ++ (10 ∷ behind)

starts-none : (text : List ℕ) → command_in (first_line text) ≡ None → (c : ScriptCommand) (behind : List ℕ) → IsProper c → text ≢ text_of c ++ (10 ∷ behind)
starts-none text none c behind proper same =
    let first : first_line text ≡ line (text_of c) = ap first_line same ∙ first-is (text_of c) behind (text-no_feed c proper) in
    let both : None ≡ Some c = sym none ∙ (ap command_in first ∙ command-in c proper) in cc

pub is-bad : (fuel number k : ℕ) (text : List ℕ) → length text ≤ fuel → commands_from number (lines_of text) ≡ Err k → IsBadFrom text number k
is-bad fuel number k [] enough is = cc
is-bad zero number k (byte ∷ text) enough is = absurd (omega (arith, enough))
is-bad (suc fuel) number k (byte ∷ text) enough is =
    let all : List ℕ = byte ∷ text in
    elim (front-err (command_in (first_line all)) number k (commands_from (number + 1) (lines_of (behind_line all))) (ap (commands_from number) (sym (lines-split all (omega arith))) ∙ is)) [
      | inl own ↦
          record { before = []; rest = all; proper = All-nil IsProper; order = refl; count = (let same : number ≡ k = own.1 in omega (arith, same)); some = λ no. cc; none = starts-none all own.0 }
      | inr own ↦
          (let later = is-bad fuel (number + 1) k (behind_line all) (less-fuel fuel all (omega arith) enough) own.2 in
          let line_is = line-of (first_line all) own.0 own.1 in
          let count : k ≡ (number + 1) + length later.before = later.count in
          record {
            before = own.0 ∷ later.before;
            rest = later.rest;
            proper = All-cons IsProper own.0 later.before line_is.proper later.proper;
            order = front-of all own.0 own.1 ∙ (ap (λ xs. text_of own.0 ++ (10 ∷ xs)) later.order ∙ sym (append_assoc (text_of own.0) (10 ∷ written later.before) later.rest));
            count = omega (arith, count);
            some = later.some;
            none = later.none;
          })
    ]

pub bad-lines_are_first : BadLinesAreFirst
bad-lines_are_first text number is =
    let own = is-bad (length text) 1 number text (omega arith) is in
    let count : number ≡ 1 + length own.before = own.count in
    record { before = own.before; rest = own.rest; proper = own.proper; order = own.order; count = omega (arith, count); some = own.some; none = own.none }
