-- What words ask mixedlook for.
use Rattle.std.specs.Prelude.{ℕ, ◌+◌, ◌==◌, ◌&&◌, ◌||◌, not, nat_le, filter, unwrap_or, Bool, true, false, List, [], ◌∷◌, length, codes, if◌then◌else◌, Option, Some, None, is_some, Result, Ok, Err}
use Rattle.std.specs.Option.{ok_or}
use Rattle.std.specs.Str.{bytes_eq}
use Rattle.mix_bits.specs.Numbers.{decimal_number, hexadecimal_number}
use Rattle.mix_bits.specs.Results.{◌>>=◌}
use Rattle.mix_bits.specs.declared.isa.Isa.{Isa}
use Rattle.mix_bits.specs.declared.isa.Isa.TheVariants.{M68, Ppc}
use Rattle.job_words.specs.Settings.{has_equals, key_in, value_in}
use Rattle.look_words.specs.declared.look.Draft.{Draft}
use Rattle.look_words.specs.declared.look.Frames.{Frames}
use Rattle.look_words.specs.declared.look.Frames.TheVariants.{Few, All}
use Rattle.look_words.specs.declared.look.Key.{Key}
use Rattle.look_words.specs.declared.look.Key.TheVariants.{Word, File, Names, Image as image_key, Last, At, Count, Frames as frames_key, Input as input_key, Trace as trace_key, Keep, Script, Text, Set}
use Rattle.look_words.specs.declared.look.Look.{Look}
use Rattle.look_words.specs.declared.look.Look.TheVariants.{Info, Trace, Picture, Fork, Data, Map, Scan, End, Image, Gdb, Words, WhyScript, WhyText}
use Rattle.look_words.specs.declared.look.Refusal.{Refusal}
use Rattle.look_words.specs.declared.look.Refusal.TheVariants.{Empty, Command, Unknown, Twice, Value, Missing}
use Rattle.look_words.specs.declared.look.Server.{Server}
use Rattle.look_words.specs.declared.program.Told.{Told}
use Rattle.look_words.specs.declared.session.Session.{Session}
use Rattle.look_words.specs.declared.look.Topic.{Topic}
use Rattle.look_words.specs.declared.look.Topic.TheVariants.{ToInfo, ToTrace, ToPicture, ToFork, ToData, ToImage, ToScript, ToText}

-- a command: one whose words give a draft, or one of the others
pub data Verb : Type 0 where
  Of : (topic : Topic) → Verb
  ToMap : Verb
  ToScan : Verb
  ToEnd : Verb
  ToGdb : Verb
  ToWords : Verb
  ToWhy : Verb

abbrev pub topic_text : Topic → List ℕ
topic_text ToInfo = codes "info"
topic_text ToTrace = codes "trace"
topic_text ToPicture = codes "picture"
topic_text ToFork = codes "fork"
topic_text ToData = codes "data"
topic_text ToImage = codes "image"
topic_text ToScript = codes "why"
topic_text ToText = codes "why"

abbrev pub verb_text : Verb → List ℕ
verb_text (Of topic) = topic_text topic
verb_text ToMap = codes "map"
verb_text ToScan = codes "scan"
verb_text ToEnd = codes "end"
verb_text ToGdb = codes "gdb"
verb_text ToWords = codes "words"
verb_text ToWhy = codes "why"

abbrev pub all_verbs : List Verb
all_verbs = Of ToInfo ∷ (Of ToTrace ∷ (Of ToPicture ∷ (Of ToFork ∷ (Of ToData ∷ (Of ToImage ∷ (ToMap ∷ (ToScan ∷ (ToEnd ∷ (ToGdb ∷ (ToWords ∷ (ToWhy ∷ [])))))))))))

-- the first of some commands with this word
abbrev pub verb_in : List Verb → List ℕ → Option Verb
verb_in [] word = None
verb_in (verb ∷ verbs) word = if bytes_eq word (verb_text verb) then Some verb else verb_in verbs word

abbrev pub verb_for : List ℕ → Option Verb
verb_for word = verb_in all_verbs word

-- the keys that each command knows whose words give a draft
abbrev pub keys_of : Topic → List Key
keys_of ToInfo = Word ∷ []
keys_of ToTrace = File ∷ (Names ∷ [])
keys_of ToPicture = File ∷ (Names ∷ [])
keys_of ToFork = File ∷ []
keys_of ToData = File ∷ []
keys_of ToImage = image_key ∷ (At ∷ (Count ∷ (frames_key ∷ [])))
keys_of ToScript = Script ∷ []
keys_of ToText = Set ∷ (Text ∷ (At ∷ []))

abbrev pub key_text : Key → List ℕ
key_text Word = codes "word"
key_text File = codes "file"
key_text Names = codes "names"
key_text image_key = codes "image"
key_text Last = codes "last"
key_text At = codes "at"
key_text Count = codes "count"
key_text frames_key = codes "frames"
key_text input_key = codes "input"
key_text trace_key = codes "trace"
key_text Keep = codes "keep"
key_text Script = codes "script"
key_text Text = codes "text"
key_text Set = codes "set"

-- the first of some keys with this text
abbrev pub key_for : List Key → List ℕ → Option Key
key_for [] text = None
key_for (key ∷ keys) text = if bytes_eq text (key_text key) then Some key else key_for keys text

abbrev pub nothing : Draft
nothing = record {
  word = None;
  file = None;
  names = None;
  at = None;
  count = None;
  frames = Few;
  set = None;
}

abbrev pub is_all : Frames → Bool
is_all Few = false
is_all All = true

abbrev pub is_given : Draft → Key → Bool
is_given draft Word = is_some draft.word
is_given draft File = is_some draft.file
is_given draft Names = is_some draft.names
is_given draft image_key = is_some draft.file
is_given draft Last = false
is_given draft input_key = false
is_given draft trace_key = false
is_given draft Keep = false
is_given draft At = is_some draft.at
is_given draft Count = is_some draft.count
is_given draft frames_key = is_all draft.frames
is_given draft Script = is_some draft.file
is_given draft Text = is_some draft.file
is_given draft Set = is_some draft.set

-- how many bytes of memory can be told
abbrev pub most_bytes : ℕ
most_bytes = 65536

abbrev pub within_bytes : Option ℕ → Option ℕ
within_bytes (Some count) = if nat_le 1 count && nat_le count most_bytes then Some count else None
within_bytes None = None

abbrev pub count_in : List ℕ → Option ℕ
count_in value = within_bytes (decimal_number value)

abbrev pub set_in : List ℕ → Option Isa
set_in value = if bytes_eq value (codes "68k") then Some M68 else (if bytes_eq value (codes "ppc") then Some Ppc else None)

-- a value that stands in the word itself
abbrev pub with_own : Draft → ℕ → Key → List ℕ → Result Draft Refusal
with_own draft place Word value =
    ok_or (hexadecimal_number 8 value) (Value place Word) >>= λ word. Ok (record draft { word = Some word })
with_own draft place At value = ok_or (hexadecimal_number 8 value) (Value place At) >>= λ at. Ok (record draft { at = Some at })
with_own draft place Count value = ok_or (count_in value) (Value place Count) >>= λ count. Ok (record draft { count = Some count })
with_own draft place frames_key value =
    if bytes_eq value (codes "all") then Ok (record draft { frames = All }) else Err (Value place frames_key)
with_own draft place Set value = ok_or (set_in value) (Value place Set) >>= λ set. Ok (record draft { set = Some set })
with_own draft place key value = Err (Value place key)

-- the place of a word whose value, the name of a file, is not empty
abbrev pub with_name : Draft → ℕ → Key → Draft
with_name draft place Names = record draft { names = Some place }
with_name draft place key = record draft { file = Some place }

abbrev pub with_file : Draft → ℕ → Key → List ℕ → Result Draft Refusal
with_file draft place key value = if length value == 0 then Err (Value place key) else Ok (with_name draft place key)

abbrev pub with_given : Draft → ℕ → Key → List ℕ → Result Draft Refusal
with_given draft place File value = with_file draft place File value
with_given draft place image_key value = with_file draft place image_key value
with_given draft place Names value = with_file draft place Names value
with_given draft place Script value = with_file draft place Script value
with_given draft place Text value = with_file draft place Text value
with_given draft place Last value = Err (Unknown place)
with_given draft place input_key value = Err (Unknown place)
with_given draft place trace_key value = Err (Unknown place)
with_given draft place Keep value = Err (Unknown place)
with_given draft place key value = with_own draft place key value

abbrev pub with_value : Draft → ℕ → Key → List ℕ → Result Draft Refusal
with_value draft place key value = if is_given draft key then Err (Twice place) else with_given draft place key value

abbrev pub with_key : Draft → ℕ → Option Key → List ℕ → Result Draft Refusal
with_key draft place (Some key) value = with_value draft place key value
with_key draft place None value = Err (Unknown place)

-- the draft with what a word sets
unfoldable pub with_word : Topic → ℕ → List ℕ → Draft → Result Draft Refusal
with_word topic place word draft =
    if has_equals word then with_key draft place (key_for (keys_of topic) (key_in word)) (value_in word) else Err (Unknown place)

-- the draft after all words from a place on, or the first refusal
abbrev pub draft_of : Topic → ℕ → List (List ℕ) → Draft → Result Draft Refusal
draft_of topic place [] draft = Ok draft
draft_of topic place (word ∷ words) draft = with_word topic place word draft >>= draft_of topic (place + 1) words

-- a kept machine, or a part of its memory, which has an address, and 256 bytes unless it is said how many
abbrev pub image_by : ℕ → Frames → Option ℕ → Option ℕ → Result Look Refusal
image_by file frames (Some at) count = Ok (Image file (Some (record {
  at = at;
  count = unwrap_or count 256;
})) frames)
image_by file frames None (Some count) = Err (Missing At)
image_by file frames None None = Ok (Image file None frames)

abbrev pub image_of : ℕ → Draft → Result Look Refusal
image_of file draft = image_by file draft.frames draft.at draft.count

-- a text, which has a set, and an address
abbrev pub text_by : ℕ → Option Isa → Option ℕ → Result Look Refusal
text_by file (Some set) (Some at) = Ok (WhyText set file at)
text_by file (Some set) None = Err (Missing At)
text_by file None at = Err (Missing Set)

abbrev pub text_in : ℕ → Draft → Result Look Refusal
text_in file draft = text_by file draft.set draft.at

-- the command of a draft
abbrev pub made : Topic → Draft → Result Look Refusal
made ToInfo draft = ok_or draft.word (Missing Word) >>= λ word. Ok (Info word)
made ToTrace draft = ok_or draft.file (Missing File) >>= λ file. Ok (Trace file draft.names)
made ToPicture draft = ok_or draft.file (Missing File) >>= λ file. Ok (Picture file draft.names)
made ToFork draft = ok_or draft.file (Missing File) >>= λ file. Ok (Fork file)
made ToData draft = ok_or draft.file (Missing File) >>= λ file. Ok (Data file)
made ToImage draft = ok_or draft.file (Missing image_key) >>= λ file. image_of file draft
made ToScript draft = ok_or draft.file (Missing Script) >>= λ file. Ok (WhyScript file)
made ToText draft = ok_or draft.file (Missing Text) >>= λ file. text_in file draft

abbrev pub command_by : Topic → List (List ℕ) → Result Look Refusal
command_by topic words = draft_of topic 1 words nothing >>= made topic

-- whether a word has this key
abbrev pub has_key : List ℕ → List ℕ → Bool
has_key key word = has_equals word && bytes_eq (key_in word) key

abbrev pub is_last : List ℕ → Bool
is_last word = has_key (codes "last") word

abbrev pub is_frames : List ℕ → Bool
is_frames word = has_key (codes "frames") word

-- whether a word is `gdb`'s own
abbrev pub is_session : List ℕ → Bool
is_session word = has_key (codes "input") word || has_key (codes "trace") word || has_key (codes "keep") word

-- whether a word is `end`'s or `gdb`'s own
abbrev pub is_own : List ℕ → Bool
is_own word = is_last word || (is_frames word || is_session word)

-- `map` and `scan` take the words of a run that say what is loaded, whose values mixedrun judges
abbrev pub is_unmapped : List ℕ → Bool
is_unmapped word = has_key (codes "steps") word || has_key (codes "save") word || is_own word

abbrev pub map_of : Look → ℕ → List (List ℕ) → Result Look Refusal
map_of look place [] = Ok look
map_of look place (word ∷ words) = if is_unmapped word then Err (Unknown place) else map_of look (place + 1) words

-- how many of the last steps are told, and how many can be
abbrev pub most_told : ℕ
most_told = 1000

abbrev pub last_in : ℕ → Told → Option ℕ → Result Told Refusal
last_in place told (Some count) = if nat_le count most_told then Ok (record told { last = Some count }) else Err (Value place Last)
last_in place told None = Err (Value place Last)

abbrev pub last_given : ℕ → List ℕ → Told → Option ℕ → Result Told Refusal
last_given place word told (Some count) = Err (Twice place)
last_given place word told None = last_in place told (decimal_number (value_in word))

abbrev pub with_last : ℕ → List ℕ → Told → Result Told Refusal
with_last place word told = last_given place word told told.last

abbrev pub frames_given : ℕ → List ℕ → Told → Frames → Result Told Refusal
frames_given place word told All = Err (Twice place)
frames_given place word told Few =
    if bytes_eq (value_in word) (codes "all") then Ok (record told { frames = All }) else Err (Value place frames_key)

abbrev pub with_frames : ℕ → List ℕ → Told → Result Told Refusal
with_frames place word told = frames_given place word told told.frames

-- `end` takes the words of a run but `save`, and two of its own: how many of the last steps are told, and whether all
-- frames are
abbrev pub told_by : ℕ → List ℕ → Told → Result Told Refusal
told_by place word told =
    if has_key (codes "save") word || is_session word then Err (Unknown place)
    else (if is_last word then with_last place word told
    else (if is_frames word then with_frames place word told else Ok told))

abbrev pub untold : Told
untold = record {
  last = None;
  frames = Few;
}

abbrev pub end_of : ℕ → List (List ℕ) → Told → Result Look Refusal
end_of place [] told = Ok (End (unwrap_or told.last 16) told.frames)
end_of place (word ∷ words) told = told_by place word told >>= end_of (place + 1) words

abbrev pub input_given : ℕ → List ℕ → Session → Option ℕ → Result Session Refusal
input_given place word session (Some old) = Err (Twice place)
input_given place word session None =
    if length (value_in word) == 0 then Err (Value place input_key) else Ok (record session { input = Some place })

abbrev pub with_input : ℕ → List ℕ → Session → Result Session Refusal
with_input place word session = input_given place word session session.input

abbrev pub trace_said : List ℕ → Option Bool
trace_said value = if bytes_eq value (codes "yes") then Some true else (if bytes_eq value (codes "no") then Some false else None)

abbrev pub trace_given : ℕ → List ℕ → Session → Option Bool → Result Session Refusal
trace_given place word session (Some old) = Err (Twice place)
trace_given place word session None =
    ok_or (trace_said (value_in word)) (Value place trace_key) >>= λ trace. Ok (record session { trace = Some trace })

abbrev pub with_trace : ℕ → List ℕ → Session → Result Session Refusal
with_trace place word session = trace_given place word session session.trace

-- how many machines are kept, and how many can be
abbrev pub most_kept : ℕ
most_kept = 1000

abbrev pub keep_in : ℕ → Session → Option ℕ → Result Session Refusal
keep_in place session (Some count) = if nat_le count most_kept then Ok (record session { keep = Some count }) else Err (Value place Keep)
keep_in place session None = Err (Value place Keep)

abbrev pub keep_given : ℕ → List ℕ → Session → Option ℕ → Result Session Refusal
keep_given place word session (Some old) = Err (Twice place)
keep_given place word session None = keep_in place session (decimal_number (value_in word))

abbrev pub with_keep : ℕ → List ℕ → Session → Result Session Refusal
with_keep place word session = keep_given place word session session.keep

-- `gdb` takes the words of a run that say what is loaded, and three of its own: which file is the input, whether lines of
-- calls across are told, and how many machines are kept
abbrev pub session_by : ℕ → List ℕ → Session → Result Session Refusal
session_by place word session =
    if has_key (codes "input") word then with_input place word session
    else (if has_key (codes "trace") word then with_trace place word session
    else (if has_key (codes "keep") word then with_keep place word session
    else (if is_unmapped word then Err (Unknown place) else Ok session)))

abbrev pub unsaid : Session
unsaid = record {
  input = None;
  trace = None;
  keep = None;
}

-- no lines are told unless it is said, and 32 machines kept
abbrev pub server_of : Session → Server
server_of session = record {
  input = session.input;
  is_traced = unwrap_or session.trace false;
  keep = unwrap_or session.keep 32;
}

abbrev pub gdb_of : ℕ → List (List ℕ) → Session → Result Look Refusal
gdb_of place [] session = Ok (Gdb (server_of session))
gdb_of place (word ∷ words) session = session_by place word session >>= gdb_of (place + 1) words

-- the words of mixedrun for those of `map`, `scan`, `end` and `gdb`
abbrev pub run_words : List (List ℕ) → List (List ℕ)
run_words [] = codes "run" ∷ []
run_words (command ∷ words) = codes "run" ∷ filter (λ word. not (is_own word)) words

-- `why` takes the words of a script where the first one names one, and else those of a text
abbrev pub why_topic : List (List ℕ) → Topic
why_topic [] = ToText
why_topic (word ∷ words) = if has_key (codes "script") word then ToScript else ToText

-- `words` takes whatever follows
abbrev pub by_verb : Option Verb → List (List ℕ) → Result Look Refusal
by_verb (Some (Of topic)) words = command_by topic words
by_verb (Some ToMap) words = map_of Map 1 words
by_verb (Some ToScan) words = map_of Scan 1 words
by_verb (Some ToEnd) words = end_of 1 words untold
by_verb (Some ToGdb) words = gdb_of 1 words unsaid
by_verb (Some ToWords) words = Ok Words
by_verb (Some ToWhy) words = command_by (why_topic words) words
by_verb None words = Err Command

abbrev pub look_of : List (List ℕ) → Result Look Refusal
look_of [] = Err Empty
look_of (command ∷ words) = by_verb (verb_for command) words
