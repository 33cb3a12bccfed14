-- The keys of mixedrun's words: which one a word has, and a word that sets each as it may be set.
use Rattle.std.specs.Prelude.{ℕ, List, [], ◌∷◌, codes, if◌then◌else◌, Option, Some, None}
use Rattle.std.specs.Str.{bytes_eq}
use Rattle.mix_bits.specs.declared.file.File.TheVariants.{Flat as flat_file, Rsrc as rsrc_file, Pef as pef_file}
use Rattle.job_words.specs.Settings.{has_equals, key_in, text_of as name_text}
use Rattle.job_words.specs.declared.job.Key.TheVariants.{Program, Image as image_file, Text as text_file, Script as script_file}
use Rattle.job_words.specs.declared.setting.Name.{Name}
use Rattle.job_words.specs.declared.setting.Name.TheVariants.{File, Main as main_name, Ram as ram_name, Steps as steps_name, At as at_name, Count as count_name, Calls as calls_name, Depth as depth_name, CodeSet as set_name, Save as save_name}
use Rattle.look_text.specs.declared.label.Label.{Label}
use Rattle.look_text.specs.declared.label.Label.TheVariants.{Flat, Rsrc, Pef, Main, Ram, Steps, Save, At, Count, Calls, Depth, CodeSet, Text, Image, Script}

-- the name that mix_io has for a key
abbrev pub name_of : Label → Name
name_of Flat = File (Program flat_file)
name_of Rsrc = File (Program rsrc_file)
name_of Pef = File (Program pef_file)
name_of Main = main_name
name_of Ram = ram_name
name_of Steps = steps_name
name_of Save = save_name
name_of At = at_name
name_of Count = count_name
name_of Calls = calls_name
name_of Depth = depth_name
name_of CodeSet = set_name
name_of Text = File text_file
name_of Image = File image_file
name_of Script = File script_file

-- the text that mix_io has for it
abbrev pub text_of : Label → List ℕ
text_of label = name_text (name_of label)

abbrev pub all_labels : List Label
all_labels = Flat ∷ (Rsrc ∷ (Pef ∷ (Main ∷ (Ram ∷ (Steps ∷ (Save ∷ (At ∷ (Count ∷ (Calls ∷ (Depth ∷ (CodeSet ∷ (Text ∷ (Image ∷ (Script ∷ []))))))))))))))

-- the first of some keys with this text
abbrev pub label_in : List Label → List ℕ → Option Label
label_in [] text = None
label_in (label ∷ labels) text = if bytes_eq text (text_of label) then Some label else label_in labels text

-- the key before the first equals sign of a word, where it has one of mixedrun's
unfoldable pub label_of : List ℕ → Option Label
label_of word = if has_equals word then label_in all_labels (key_in word) else None

abbrev pub example : Label → List ℕ
example Flat = codes "flat=FILE"
example Rsrc = codes "rsrc=FILE"
example Pef = codes "pef=FILE"
example Main = codes "main=68k"
example Ram = codes "ram=1024"
example Steps = codes "steps=1000"
example Save = codes "save=FILE"
example At = codes "at=00010000"
example Count = codes "count=1"
example Calls = codes "n=1"
example Depth = codes "depth=1"
example CodeSet = codes "set=68k"
example Text = codes "text=FILE"
example Image = codes "image=FILE"
example Script = codes "script=FILE"
