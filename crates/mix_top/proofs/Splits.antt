-- The lines of a text, one after the other.
use Rattle.std.proofs.Common.{◌≡◌, ℕ, suc, ◌+◌, ◌<◌, ◌==◌, Bool, true, false, List, [], ◌∷◌, ◌++◌, length, take, drop, Option, Some, None, Result, Ok, Err, if◌then◌else◌, arith, ap, sym, subst, ◌∙◌, refl}
use Rattle.std.specs.Prelude.{IsSome, MatchOption, is_some}
use Rattle.std.specs.Option.{option_to_list}
use Rattle.std.proofs.lemmas.List.{length-drop}
use Rattle.mix_top.specs.declared.command.ScriptCommand.{ScriptCommand}
use Rattle.mix_top.specs.inner.Scripts.{AreCommands, bad_in, commands_among}
use Rattle.mix_top.specs.ScriptLines.{behind_line, first_line, line_length}
use Rattle.mix_top.specs.Scripts.{command_in, commands_from, in_front, lines_of, read_then, script_of, with_byte}

by-feed : (b : Bool) (byte : ℕ) (text : List ℕ) → (0 < length text → lines_of text ≡ first_line text ∷ lines_of (behind_line text))
    → (if b then (byte ∷ []) ∷ lines_of text else with_byte byte (lines_of text))
    ≡ take (if b then 1 else suc (line_length text)) (byte ∷ text) ∷ lines_of (drop (if b then 1 else suc (line_length text)) (byte ∷ text))
by-feed true byte text later = refl
by-feed false byte [] later = refl
by-feed false byte (next ∷ text) later = ap (with_byte byte) (later (omega arith))

pub lines-split : (text : List ℕ) → 0 < length text → lines_of text ≡ first_line text ∷ lines_of (behind_line text)
lines-split [] some = absurd (omega arith)
lines-split (byte ∷ text) some = by-feed (byte == 10) byte text (λ more. lines-split text more)

some-length : (b : Bool) (n : ℕ) → 0 < (if b then 1 else suc n)
some-length true n = omega arith
some-length false n = omega arith

some-line : (text : List ℕ) → 0 < length text → 0 < line_length text
some-line [] some = absurd (omega arith)
some-line (byte ∷ text) some = some-length (byte == 10) (line_length text)

pub behind-less : (text : List ℕ) → 0 < length text → length (behind_line text) < length text
behind-less text some = let more = some-line text some in omega (arith, length-drop (line_length text) text, more)

-- the first bad line stands behind a line that is a command
bad-behind : (c : ScriptCommand) (r : Result (List ScriptCommand) ℕ) → bad_in (in_front c r) ≡ bad_in r
bad-behind c (Ok cs) = refl
bad-behind c (Err number) = refl

-- the lines before were commands
pub record Tested (text : List ℕ) (number : ℕ) (rest : List ℕ) : Type 0 where
  pub same : bad_in (script_of text) ≡ bad_in (commands_from number (lines_of rest))
  pub few : number + length rest < length text + 2

-- a line was taken
pub record Takes (rest line behind : List ℕ) : Type 0 where
  pub some : 0 < length rest
  pub first : line ≡ first_line rest
  pub others : behind ≡ behind_line rest

pub taken-lines : (rest line behind : List ℕ) → Takes rest line behind → lines_of rest ≡ line ∷ lines_of behind
taken-lines rest line behind takes =
    lines-split rest takes.some ∙ (ap (λ l. l ∷ lines_of (behind_line rest)) (sym takes.first) ∙ ap (λ b. line ∷ lines_of b) (sym takes.others))

tested-by : (o : Option ScriptCommand) (number : ℕ) (r : Result (List ScriptCommand) ℕ) → IsSome o → bad_in (read_then number o r) ≡ bad_in r
tested-by None number r some = let no : false ≡ true = some in cc
tested-by (Some c) number r some = bad-behind c r

pub tested-on : (text : List ℕ) (number : ℕ) (rest line behind : List ℕ) → Tested text number rest → Takes rest line behind → IsSome (command_in line)
    → Tested text (number + 1) behind
tested-on text number rest line behind tested takes good =
    let few : number + length rest < length text + 2 = tested.few in
    let less : length behind < length rest = subst (λ b. length b < length rest) (sym takes.others) (behind-less rest takes.some) in
    record {
      same = tested.same ∙ (ap (λ lines. bad_in (commands_from number lines)) (taken-lines rest line behind takes) ∙ tested-by (command_in line) number (commands_from (number + 1) (lines_of behind)) good);
      few = omega (arith, few, less);
    }

pub tested-bad : (text : List ℕ) (number : ℕ) (rest line behind : List ℕ) → Tested text number rest → Takes rest line behind → command_in line ≡ None
    → bad_in (script_of text) ≡ Some number
tested-bad text number rest line behind tested takes none =
    tested.same ∙ (ap (λ lines. bad_in (commands_from number lines)) (taken-lines rest line behind takes)
    ∙ ap (λ o. bad_in (read_then number o (commands_from (number + 1) (lines_of behind)))) none)

no-bytes : (xs : List ℕ) → length xs ≡ 0 → xs ≡ []
no-bytes [] none = refl
no-bytes (x ∷ xs) none = absurd (omega (arith, none))

-- a text without a bad line has the commands of its lines
pub record IsScript (number : ℕ) (lines : List (List ℕ)) : Type 0 where
  pub commands : commands_from number lines ≡ Ok (commands_among lines)
  pub all : AreCommands lines

script-by : (o : Option ScriptCommand) (number : ℕ) (r : Result (List ScriptCommand) ℕ) → bad_in (read_then number o r) ≡ None → IsSome o × (bad_in r ≡ None)
script-by None number r none = let no : Some number ≡ None = none in cc
script-by (Some c) number r none = (refl, sym (bad-behind c r) ∙ none)

script-with : (o : Option ScriptCommand) (number : ℕ) (r : Result (List ScriptCommand) ℕ) (cs : List ScriptCommand) → IsSome o → r ≡ Ok cs
    → read_then number o r ≡ Ok (option_to_list o ++ cs)
script-with None number r cs some is = let no : false ≡ true = some in cc
script-with (Some c) number r cs some is = ap (in_front c) is

pub is-script : (number : ℕ) (lines : List (List ℕ)) → bad_in (commands_from number lines) ≡ None → IsScript number lines
is-script number [] none = record { commands = refl; all = tt }
is-script number (line ∷ lines) none =
    let both = script-by (command_in line) number (commands_from (number + 1) lines) none in
    let rest = is-script (number + 1) lines both.1 in
    record { commands = script-with (command_in line) number (commands_from (number + 1) lines) (commands_among lines) both.0 rest.commands; all = (both.0, rest.all) }

-- what the test of a command that was read says
pub none-of : (o p : Option ScriptCommand) → o ≡ p → is_some o ≡ false → p ≡ None
none-of None p same none = sym same
none-of (Some c) p same none = cc

pub some-of : (o p : Option ScriptCommand) → o ≡ p → is_some o ≡ true → IsSome p
some-of None p same some = cc
some-of (Some c) p same some = subst (λ (q : Option ScriptCommand). IsSome q) same refl

-- the next command
pub record TakesCommand (text behind : List ℕ) (o : Option ScriptCommand) : Type 0 where
  pub left : AreCommands (lines_of behind)
  pub taken : MatchOption o ((commands_among (lines_of text) ≡ []) × (commands_among (lines_of behind) ≡ [])) (λ c. commands_among (lines_of text) ≡ c ∷ commands_among (lines_of behind))

taken-by : (all rest : List ScriptCommand) (o p : Option ScriptCommand) → all ≡ option_to_list p ++ rest → IsSome p → o ≡ p → MatchOption o ((all ≡ []) × (rest ≡ [])) (λ c. all ≡ c ∷ rest)
taken-by all rest None p is some same = let no : false ≡ true = subst (λ (q : Option ScriptCommand). is_some q ≡ true) (sym same) some in cc
taken-by all rest (Some c) p is some same = is ∙ ap (λ q. option_to_list q ++ rest) (sym same)

pub takes-command : (text line behind : List ℕ) (o : Option ScriptCommand) → Takes text line behind → AreCommands (lines_of text) → o ≡ command_in line → TakesCommand text behind o
takes-command text line behind o takes all read =
    let are : AreCommands (line ∷ lines_of behind) = subst AreCommands (taken-lines text line behind takes) all in
    record {
      left = are.1;
      taken = taken-by (commands_among (lines_of text)) (commands_among (lines_of behind)) o (command_in line) (ap commands_among (taken-lines text line behind takes)) are.0 read;
    }
