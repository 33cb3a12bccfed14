-- Why a script of the debugger is refused: of its first line that is no command, the first rule that the line breaks, in the
-- order in which they stand here.
use Rattle.std.specs.Prelude.{ℕ, ◌-◌, ◌==◌, ◌||◌, nat_eq, Bool, true, false, List, [], ◌∷◌, length, take, drop, codes, if◌then◌else◌, None, Result, Ok, Err}
use Rattle.std.specs.List.{ends_with}
use Rattle.std.specs.Str.{bytes_eq}
use Rattle.mix_top.specs.Commands.{begins}
use Rattle.mix_top.specs.declared.command.ScriptCommand.{ScriptCommand}
use Rattle.look_why.specs.Kinds.{has}
use Rattle.look_why.specs.Lines.{nth_line, without_feed}
use Rattle.look_why.specs.Reports.{refused_text, taken_text}
use Rattle.look_why.specs.declared.kind.Kind.TheVariants.{Blank, Capital, NoDigit, NoHexadecimal}
use Rattle.look_why.specs.declared.rule.Rule.{Rule}
use Rattle.look_why.specs.declared.rule.Rule.TheVariants.{Return, Indented, Behind, Spaces, Open, Empty, Missing, Capitals, Command, Zero, Leading, Large, Count, LowerAddress, Length, Address}

-- of a number of steps that is none
abbrev pub count_rule : List ℕ → Rule
count_rule text =
    if length text == 0 then Missing
    else (if has Blank (take 1 text) then Spaces
    else (if has NoDigit (take 1 text) then Count
    else (if has Blank text then Behind
    else (if has NoDigit text then Count
    else (if bytes_eq text (codes "0") then Zero
    else (if begins (codes "0") text then Leading else Large))))))

-- of an address that is none
abbrev pub address_rule : List ℕ → Rule
address_rule text =
    if length text == 0 then Missing
    else (if has Blank (take 1 text) then Spaces
    else (if has NoHexadecimal (take 1 text) then Address
    else (if has Blank text then Behind
    else (if has NoHexadecimal text then Address
    else (if length text == 8 then LowerAddress else Length)))))

-- a command without what it wants
unfoldable pub is_bare : List ℕ → Bool
is_bare text =
    bytes_eq text (codes "step") || (bytes_eq text (codes "over") || (bytes_eq text (codes "go")
    || (bytes_eq text (codes "back") || (bytes_eq text (codes "break") || bytes_eq text (codes "clear")))))

abbrev pub word_rule : List ℕ → Rule
word_rule text =
    if begins (codes "where") text then Behind
    else (if is_bare text then Missing
    else (if has Blank (take 1 text) then Indented
    else (if has Capital (take 1 text) then Capitals else Command)))

-- of a command that wants an address
unfoldable pub place_rule : List ℕ → Rule
place_rule text =
    if begins (codes "break ") text then address_rule (drop 6 text)
    else (if begins (codes "clear ") text then address_rule (drop 6 text) else word_rule text)

-- of a command that wants a number of steps
unfoldable pub argument_rule : List ℕ → Rule
argument_rule text =
    if begins (codes "step ") text then count_rule (drop 5 text)
    else (if begins (codes "over ") text then count_rule (drop 5 text)
    else (if begins (codes "go ") text then count_rule (drop 3 text)
    else (if begins (codes "back ") text then count_rule (drop 5 text) else place_rule text)))

-- of a line without its line feed
abbrev pub command_rule : List ℕ → Rule
command_rule text =
    if length text == 0 then Empty else (if ends_with nat_eq text (13 ∷ []) then Return else argument_rule text)

abbrev pub script_rule : List ℕ → Rule
script_rule line = if ends_with nat_eq line (10 ∷ []) then command_rule (take (length line - 1) line) else Open

-- what is said of a script, by its commands or the number of its first line that is none
abbrev pub script_text : Result (List ScriptCommand) ℕ → List ℕ → List ℕ
script_text (Ok commands) text = taken_text
script_text (Err number) text = refused_text number (without_feed (nth_line number text)) (script_rule (nth_line number text)) None

abbrev pub takes : Result (List ScriptCommand) ℕ → Bool
takes (Ok commands) = true
takes (Err number) = false
