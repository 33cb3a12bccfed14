-- The sentences about words.
use Rattle.std.specs.Prelude.{ℕ, ◌++◌, List, codes, decimal, if◌then◌else◌}
use Rattle.std.specs.Str.{bytes_eq}
use Rattle.look_text.specs.Labels.{text_of}
use Rattle.look_words.specs.Looks.{key_text, most_bytes, most_kept, most_told}
use Rattle.look_text.specs.Wants.{range_text, wants_text}
use Rattle.look_text.specs.Whys.{at_place}
use Rattle.look_text.specs.declared.label.Label.{Label}
use Rattle.look_text.specs.declared.label.Label.TheVariants.{Flat, Rsrc, Pef}
use Rattle.look_words.specs.declared.look.Key.{Key}
use Rattle.look_words.specs.declared.look.Key.TheVariants.{Word, File, Names, Image, Last, At, Count, Frames, Input, Trace, Keep, Script, Text, Set}
use Rattle.look_words.specs.declared.look.Refusal.{Refusal}
use Rattle.look_words.specs.declared.look.Refusal.TheVariants.{Empty as no_word, Command as no_command, Unknown, Twice, Value as bad_value, Missing as missing_key}
use Rattle.look_text.specs.declared.why.Why.{Why}
use Rattle.look_text.specs.declared.why.Why.TheVariants.{Taken, Empty, Command, Missing, Keyless, Key as no_key, Value, Again}

-- what a key of mixedlook wants
abbrev pub key_wants : Key → List ℕ
key_wants Word = codes "eight upper-case hexadecimal digits"
key_wants File = codes "the name of a file"
key_wants Names = codes "the name of a file with the output of nm"
key_wants Image = codes "the name of a file that mixedrun kept"
key_wants Last = codes "a number from " ++ range_text 0 most_told
key_wants At = codes "eight upper-case hexadecimal digits"
key_wants Count = codes "a number from " ++ range_text 1 most_bytes
key_wants Frames = codes "all"
key_wants Input = codes "the name of a file"
key_wants Trace = codes "yes or no"
key_wants Keep = codes "a number from " ++ range_text 0 most_kept
key_wants Script = codes "the name of a file"
key_wants Text = codes "the name of a file"
key_wants Set = codes "68k or ppc"

-- why mixedlook refuses words
abbrev pub refusal_text : List (List ℕ) → Refusal → List ℕ
refusal_text words no_word = codes "a command is missing"
refusal_text words no_command = at_place words 0 ++ codes " is no command"
refusal_text words (Unknown place) = at_place words place ++ codes " is no KEY=VALUE of this command"
refusal_text words (Twice place) = at_place words place ++ codes ": the key stands twice"
refusal_text words (bad_value place key) = at_place words place ++ (codes ": wants " ++ key_wants key)
refusal_text words (missing_key key) = key_text key ++ (codes "= is missing, " ++ key_wants key)

-- what a command needs that loads a program
abbrev pub program_needs_of : List ℕ → List ℕ
program_needs_of command =
    if bytes_eq command (codes "list") then codes "at=ADDRESS, count=N, and the file of the main set: flat=FILE, rsrc=FILE, or pef=FILE for main=ppc"
    else (if bytes_eq command (codes "debug") then codes "script=FILE, and the file of the main set: flat=FILE, rsrc=FILE, or pef=FILE for main=ppc"
    else codes "the file of the main set: flat=FILE, rsrc=FILE, or pef=FILE for main=ppc")

-- what a command of mixedrun needs
abbrev pub needs_of : List ℕ → List ℕ
needs_of command =
    if bytes_eq command (codes "sample") then codes "n=N and depth=D"
    else (if bytes_eq command (codes "assemble") then codes "set=SET, text=FILE and at=ADDRESS"
    else (if bytes_eq command (codes "continue") then codes "image=FILE" else program_needs_of command))

-- what stands before a word that is good alone
abbrev pub before_text : Label → List ℕ
before_text Flat = codes "flat, rsrc or pef stands before it, and flat stands alone"
before_text Rsrc = codes "rsrc or flat stands before it, and flat stands alone"
before_text Pef = codes "pef or flat stands before it, and flat stands alone"
before_text label = codes "its key stands before it"

-- that a command needs a word more
abbrev pub missing_text : List ℕ → List ℕ
missing_text command = codes "a word is missing: " ++ (command ++ (codes " needs " ++ needs_of command))

-- a word after its place, and what is said of it
abbrev pub of_word : ℕ → List ℕ → List ℕ → List ℕ
of_word place word more = codes "word " ++ (decimal place ++ (codes ", " ++ (word ++ more)))

-- that a command does not know a key
abbrev pub unknown_text : List ℕ → Label → List ℕ
unknown_text command label = codes ": " ++ (command ++ (codes " has no key " ++ text_of label))

-- that a word is none that a command takes
abbrev pub keyless_text : List ℕ → List ℕ
keyless_text command = codes ": " ++ (command ++ (codes " has no such " ++ codes "KEY=VALUE"))

-- that a value is none of its key's
abbrev pub value_text : Label → List ℕ
value_text label = codes ": " ++ (text_of label ++ (codes " wants " ++ wants_text label))

-- why mixedrun refuses words, for a command whose words it judges
abbrev pub why_by : List ℕ → List (List ℕ) → Why → List ℕ
why_by command words Taken = codes "mixedrun takes these words"
why_by command words Empty = codes "no word: the first one is a command, run, continue, list, sample, assemble or debug"
why_by command words Command = of_word 0 (at_place words 0) (codes ", is no command: run, continue, list, sample, assemble or debug")
why_by command words Missing = missing_text command
why_by command words (Keyless place) = of_word place (at_place words place) (keyless_text command)
why_by command words (no_key place label) = of_word place (at_place words place) (unknown_text command label)
why_by command words (Value place label) = of_word place (at_place words place) (value_text label)
why_by command words (Again place label) = of_word place (at_place words place) (codes ": " ++ before_text label)

-- for its own
abbrev pub why_text : List (List ℕ) → Why → List ℕ
why_text words why = why_by (at_place words 0) words why
