-- The command of words is the one that they ask for, and the place that is refused that of the first bad word.
use Rattle.std.proofs.Common.{◌≡◌, ℕ, ◌+◌, ◌<◌, inl, inr, zero, suc, min, List, [], ◌∷◌, ◌++◌, length, take, Bool, true, false, ◌||◌, if◌then◌else◌, Option, Some, None, is_some, Result, Ok, Err, arith, sym, ap, subst, ◌∙◌, refl}
use Rattle.std.specs.Prelude.{◌↔◌}
use Rattle.std.specs.Option.{option_and_then, option_map, ok_or, unwrap_or, IsSome, IfNone, MatchOption}
use Rattle.std.specs.Result.{MatchResult}
use Rattle.std.proofs.lemmas.List.{append-nil, append_assoc, get_or-replicate, length-append, length_push, length-take, get_or-take, take-take, take_at, take_all}
use Rattle.std.proofs.lemmas.Bool.{cases_lt}
use Rattle.mix_bits.specs.Results.{◌>>=◌}
use Rattle.mix_bits.specs.declared.isa.Isa.{Isa}
use Rattle.mix_bits.specs.declared.file.File.TheVariants.{Flat, Rsrc, Pef}
use Rattle.job_words.specs.Settings.{verb_of, key_in, setting_of, setting}
use Rattle.job_words.specs.SettingsClauses.{named, file, numbered}
use Rattle.job_words.specs.Drafts.{given, given_at, index_of, job_by, job_of, main_in, has_program, made, named_at, nothing, number, number_of, place, set, set_of, steps_in}
use Rattle.job_words.specs.Jobs.{main_file, usual_set}
use Rattle.job_words.specs.Words.{bad_at, with_word, draft_of, command_by, command_of}
use Rattle.job_words.specs.Asks.{word_at, Sets, IsSet, AreRead, IsSetOr, IsWhere, usual_main, AsksJob, Asks, CanBegin, IsFirstBad}
use Rattle.job_words.specs.laws.Laws.{CommandIsAsked, RefusalIsFirst}
use Rattle.job_words.proofs.Keys.{index-small}
use Rattle.job_words.proofs.Held.{Holds, GoesOn, word-next}
use Rattle.job_words.specs.declared.job.BadWord.{BadWord}
use Rattle.job_words.specs.declared.job.Command.{Command}
use Rattle.job_words.specs.declared.job.Command.TheVariants.{Run, List as Listing, Sample, Assemble, Continue, Debug}
use Rattle.job_words.specs.declared.job.Job.{Job}
use Rattle.job_words.specs.declared.job.Key.TheVariants.{Program, Image, Text, Script}
use Rattle.job_words.specs.declared.draft.Draft.{Draft}
use Rattle.job_words.specs.declared.setting.Setting.{Setting}
use Rattle.job_words.specs.declared.draft.Given.{Given}
use Rattle.job_words.specs.declared.setting.Name.{Name}
use Rattle.job_words.specs.declared.setting.Name.TheVariants.{File, Main, Ram, Steps, At, Count, Calls, Depth, CodeSet, Save}
use Rattle.job_words.specs.declared.setting.Value.{Value}
use Rattle.job_words.specs.declared.setting.Value.TheVariants.{Named, Set, Number}
use Rattle.job_words.specs.declared.setting.Verb.{Verb}
use Rattle.job_words.specs.declared.setting.Verb.TheVariants.{ToRun, ToList, ToSample, ToAssemble, ToContinue, ToDebug}

-- the words before a place are all that can be read
pub record Stops (verb : Verb) (words : List (List ℕ)) (place : ℕ) : Type 0 where
  pub inside : place < length words
  pub before : AreRead verb (take place words)
  pub bad : ¬ AreRead verb (take (place + 1) words)

-- what all words come to
abbrev Walked : Verb → List (List ℕ) → Result Draft BadWord → Type 0
Walked verb words r = MatchResult r (Holds verb words) (λ bad. Stops verb words bad.place)

stops-here : (verb : Verb) (done rest : List (List ℕ)) (word : List ℕ) (d : Draft) → Holds verb done d → ¬ AreRead verb (done ++ word ∷ []) → Stops verb (done ++ word ∷ rest) (length done)
stops-here verb done rest word d held unread =
    let line : (done ++ word ∷ []) ++ rest ≡ done ++ word ∷ rest = append_assoc done (word ∷ []) rest in
    record {
      inside = omega (arith, length-append done (word ∷ rest));
      before = subst (AreRead verb) (sym (take_at done (word ∷ rest) (length done) refl)) held.read;
      bad = λ read. unread (subst (AreRead verb) (ap (take (length done + 1)) (sym line) ∙ take_at (done ++ word ∷ []) rest (length done + 1) (length_push done word)) read);
    }

walk-on : (verb : Verb) (done rest : List (List ℕ)) (word : List ℕ) (d : Draft) (r : Result Draft BadWord) → Holds verb done d → GoesOn verb done word r
    → ((e : Draft) → Holds verb (done ++ word ∷ []) e → Walked verb ((done ++ word ∷ []) ++ rest) (draft_of verb (length (done ++ word ∷ [])) rest e))
    → Walked verb (done ++ word ∷ rest) (r >>= draft_of verb (length done + 1) rest)
walk-on verb done rest word d (Ok e) held on later =
    subst (λ k. Walked verb (done ++ word ∷ rest) (draft_of verb k rest e)) (length_push done word)
    (subst (λ words. Walked verb words (draft_of verb (length (done ++ word ∷ [])) rest e)) (append_assoc done (word ∷ []) rest) (later e on))
walk-on verb done rest word d (Err bad) held on later =
    subst (λ b. Stops verb (done ++ word ∷ rest) b.place) (sym on.0) (stops-here verb done rest word d held on.1)

walk : (verb : Verb) (rest done : List (List ℕ)) (d : Draft) → Holds verb done d → Walked verb (done ++ rest) (draft_of verb (length done) rest d)
walk verb [] done d held = subst (λ words. Holds verb words d) (sym (append-nil done)) held
walk verb (word ∷ rest) done d held = walk-on verb done rest word d (with_word verb (length done) word d) held (word-next verb done word d held) (λ e on. walk verb rest (done ++ word ∷ []) e on)

none-some : {A : Type 0} {x : A} → None ≡ Some x → ⊥
none-some {A} {x} same = cc

-- no word behind the command's is none that sets
none-given : (name : Name) → given nothing name ≡ None
none-given name = get_or-replicate 15 (index_of name) None None (index-small name)

begins : (verb : Verb) (command : List ℕ) → verb_of command ≡ Some verb → Holds verb (command ∷ []) nothing
begins verb command named = record {
  begun = omega arith;
  read = record {
    named = named;
    each = λ p behind inside. absurd (omega arith);
    once = λ i j behind less inside same. omega arith;
    alone = λ flat. absurd (omega (arith, flat.1.behind, flat.1.inside));
  };
  long = refl;
  each = λ name p value. (λ is. absurd (none-some (sym (none-given name) ∙ is)), λ set. absurd (omega (arith, set.behind, set.inside)));
}

-- a value, if any, is the one of which P holds
pub record IsThe {A : Type 0} (value : Option A) (P : A → Type 0) : Type 0 where
  pub holds : (x : A) → value ≡ Some x → P x
  pub found : (x : A) → P x → value ≡ Some x

-- what is given for a key, where its value is of one kind
of-kind : {A : Type 0} (kind : ℕ → Value → Option A) (o : Option Given) (x : A) → option_and_then (λ g. kind g.place g.value) o ≡ Some x → (g : Given) × (o ≡ Some (given_at g.place g.value)) × (kind g.place g.value ≡ Some x)
of-kind {A} kind None x is = cc
of-kind {A} kind (Some g) x is = (g, refl, is)

named-is : (p x : ℕ) (v : Value) → named_at p v ≡ Some x → (p ≡ x) × (v ≡ Named)
named-is p x Named is = (cc, refl)
named-is p x v is = cc

number-is : (x : ℕ) (v : Value) → number_of v ≡ Some x → v ≡ Number x
number-is x (Number n) is = cc
number-is x v is = cc

set-is : (x : Isa) (v : Value) → set_of v ≡ Some x → v ≡ Set x
set-is x (Set s) is = cc
set-is x v is = cc

the-place : (verb : Verb) (words : List (List ℕ)) (d : Draft) (name : Name) → Holds verb words d → IsThe (place d name) (λ p. Sets verb words p (named name))
the-place verb words d name held = record {
  holds = λ p same.
      let g = of-kind named_at (given d name) p same in
      let is : (g.0.place ≡ p) × (g.0.value ≡ Named) = named-is g.0.place p g.0.value g.2 in
      (held.each name p Named).0 (g.1 ∙ ap (λ x. Some (given_at x g.0.value)) is.0 ∙ ap (λ v. Some (given_at p v)) is.1);
  found = λ p set. ap (option_and_then (λ g. named_at g.place g.value)) ((held.each name p Named).1 set);
}

the-number : (verb : Verb) (words : List (List ℕ)) (d : Draft) (name : Name) → Holds verb words d → IsThe (number d name) (λ n. IsSet verb words (numbered name n))
the-number verb words d name held = record {
  holds = λ n same.
      let g = of-kind (λ p v. number_of v) (given d name) n same in
      (g.0.place, (held.each name g.0.place (Number n)).0 (g.1 ∙ ap (λ v. Some (given_at g.0.place v)) (number-is n g.0.value g.2)));
  found = λ n set. ap (option_and_then (λ g. number_of g.value)) ((held.each name set.0 (Number n)).1 set.1);
}

the-set : (verb : Verb) (words : List (List ℕ)) (d : Draft) (name : Name) → Holds verb words d → IsThe (set d name) (λ s. IsSet verb words (setting name (Set s)))
the-set verb words d name held = record {
  holds = λ s same.
      let g = of-kind (λ p v. set_of v) (given d name) s same in
      (g.0.place, (held.each name g.0.place (Set s)).0 (g.1 ∙ ap (λ v. Some (given_at g.0.place v)) (set-is s g.0.value g.2)));
  found = λ s is. ap (option_and_then (λ g. set_of g.value)) ((held.each name is.0 (Set s)).1 is.1);
}

-- the value that is asked for is the one that the draft holds, or the default
asks-value : {A : Type 0} (verb : Verb) (words : List (List ℕ)) (sets : A → Setting) (o : Option A) (default : A) → IsThe o (λ x. IsSet verb words (sets x)) → IsSetOr verb words sets default (unwrap_or o default)
asks-value {A} verb words sets None default the = inr (λ x set. let none : None ≡ Some x = the.found x set in cc, refl)
asks-value {A} verb words sets (Some x) default the = inl (the.holds x refl)

asked-value : {A : Type 0} (verb : Verb) (words : List (List ℕ)) (sets : A → Setting) (o : Option A) (default value : A) → IsThe o (λ x. IsSet verb words (sets x)) → IsSetOr verb words sets default value → value ≡ unwrap_or o default
asked-value {A} verb words sets o default value the (inl set) = sym (ap (λ x. unwrap_or x default) (the.found value set))
asked-value {A} verb words sets None default value the (inr none) = none.1
asked-value {A} verb words sets (Some x) default value the (inr none) = absurd (none.0 x (the.holds x refl))

-- an option is determined by what it holds
same-option : {A : Type 0} (o p : Option A) → ((x : A) → o ≡ Some x → p ≡ Some x) → ((x : A) → p ≡ Some x → o ≡ Some x) → o ≡ p
same-option {A} None None to from = refl
same-option {A} None (Some x) to from = from x refl
same-option {A} (Some x) p to from = sym (to x refl)

-- where a word stands that names a file
where-named : (verb : Verb) (words : List (List ℕ)) (d : Draft) (name : Name) → Holds verb words d → IsWhere verb words (named name) (place d name)
where-named verb words d name held p = ((the-place verb words d name held).holds p, (the-place verb words d name held).found p)

named-where : (verb : Verb) (words : List (List ℕ)) (d : Draft) (name : Name) (o : Option ℕ) → Holds verb words d → IsWhere verb words (named name) o → o ≡ place d name
named-where verb words d name o held is =
    same-option o (place d name) (λ p same. (the-place verb words d name held).found p ((is p).0 same)) (λ p same. (is p).1 ((the-place verb words d name held).holds p same))

own-program : (flat own : Option ℕ) → (is_some flat || is_some own) ≡ true → IfNone flat (IsSome own)
own-program None own some = some
own-program (Some p) own some = tt

program-own : (flat own : Option ℕ) → IfNone flat (IsSome own) → (is_some flat || is_some own) ≡ true
program-own None own some = some
program-own (Some p) own some = refl

asks-steps : (verb : Verb) (words : List (List ℕ)) (d : Draft) → Holds verb words d → IsSetOr verb words (numbered Steps) 1000000 (steps_in d)
asks-steps verb words d held = asks-value verb words (numbered Steps) (number d Steps) 1000000 (the-number verb words d Steps held)

asked-steps : (verb : Verb) (words : List (List ℕ)) (d : Draft) (steps : ℕ) → Holds verb words d → IsSetOr verb words (numbered Steps) 1000000 steps → steps ≡ steps_in d
asked-steps verb words d steps held is = asked-value verb words (numbered Steps) (number d Steps) 1000000 steps (the-number verb words d Steps held) is

asks-job : (verb : Verb) (words : List (List ℕ)) (d : Draft) → Holds verb words d → has_program (job_by d) ≡ true → AsksJob verb words (job_by d)
asks-job verb words d held has = record {
  flat = where-named verb words d (File (Program Flat)) held;
  rsrc = where-named verb words d (File (Program Rsrc)) held;
  pef = where-named verb words d (File (Program Pef)) held;
  main = asks-value verb words (λ s. setting Main (Set s)) (set d Main) (usual_main (job_by d)) (the-set verb words d Main held);
  kib = asks-value verb words (numbered Ram) (number d Ram) 1024 (the-number verb words d Ram held);
  steps = asks-steps verb words d held;
  save = where-named verb words d Save held;
  program = own-program (place d (File (Program Flat))) (main_file (main_in d) (place d (File (Program Rsrc))) (place d (File (Program Pef)))) has;
}

asked-job : (verb : Verb) (words : List (List ℕ)) (d : Draft) (job : Job) → Holds verb words d → AsksJob verb words job → (job ≡ job_by d) × (has_program (job_by d) ≡ true)
asked-job verb words d job held asks =
    let flat : job.flat ≡ place d (File (Program Flat)) = named-where verb words d (File (Program Flat)) job.flat held asks.flat in
    let rsrc : job.rsrc ≡ place d (File (Program Rsrc)) = named-where verb words d (File (Program Rsrc)) job.rsrc held asks.rsrc in
    let pef : job.pef ≡ place d (File (Program Pef)) = named-where verb words d (File (Program Pef)) job.pef held asks.pef in
    let save : job.save ≡ place d Save = named-where verb words d Save job.save held asks.save in
    let usual : usual_main job ≡ usual_main (job_by d) = ap (λ f. usual_set f job.rsrc) flat ∙ ap (usual_set (place d (File (Program Flat)))) rsrc in
    let main : job.main ≡ main_in d = asked-value verb words (λ s. setting Main (Set s)) (set d Main) (usual_main job) job.main (the-set verb words d Main held) asks.main ∙ ap (unwrap_or (set d Main)) usual in
    let kib : job.kib ≡ unwrap_or (number d Ram) 1024 = asked-value verb words (numbered Ram) (number d Ram) 1024 job.kib (the-number verb words d Ram held) asks.kib in
    let steps : job.steps ≡ steps_in d = asked-steps verb words d job.steps held asks.steps in
    let whole : job ≡ record { flat = job.flat; rsrc = job.rsrc; pef = job.pef; main = job.main; kib = job.kib; steps = job.steps; save = job.save } = refl in
    let same : job ≡ job_by d = cc in
    (same, subst (λ job. has_program job ≡ true) same (program-own job.flat (main_file job.main job.rsrc job.pef) asks.program))

-- the command of a draft is what the words ask for, and where it has none they ask for none
pub record IsAsked (words : List (List ℕ)) (command : Command) : Type 0 where
  pub asks : Asks words command
  pub only : (other : Command) → Asks words other → other ≡ command

abbrev IsMade : List (List ℕ) → Option Command → Type 0
IsMade words o = MatchOption o ((command : Command) → ¬ Asks words command) (IsAsked words)

same-verb : (v w : Verb) (words : List (List ℕ)) → AreRead v words → AreRead w words → v ≡ w
same-verb v w words one two = let same : Some v ≡ Some w = sym one.named ∙ two.named in cc

some-same : {A : Type 0} {x y : A} → Some x ≡ Some y → x ≡ y
some-same {A} {x} {y} same = cc

take-nil : (k : ℕ) (words : List (List ℕ)) → words ≡ [] → take k words ≡ []
take-nil zero words none = refl
take-nil (suc k) [] none = refl
take-nil (suc k) (word ∷ words) none = cc

-- a command's name, for which the words that ask for it are read
abbrev verb_in : Command → Verb
verb_in (Run job) = ToRun
verb_in (Listing job address count) = ToList
verb_in (Sample calls depth) = ToSample
verb_in (Assemble code text address) = ToAssemble
verb_in (Continue image steps save) = ToContinue
verb_in (Debug job script) = ToDebug

reads-asked : (words : List (List ℕ)) (command : Command) → Asks words command → AreRead (verb_in command) words
reads-asked words (Run job) asks = asks.0
reads-asked words (Listing job address count) asks = asks.0
reads-asked words (Sample calls depth) asks = asks.0
reads-asked words (Assemble code text address) asks = asks.0
reads-asked words (Continue image steps save) asks = asks.0
reads-asked words (Debug job script) asks = asks.0

-- what the draft makes, the words ask for
map-some : {A B : Type 0} (f : A → B) (o : Option A) (y : B) → option_map f o ≡ Some y → (x : A) × (o ≡ Some x) × (f x ≡ y)
map-some {A} {B} f None y is = cc
map-some {A} {B} f (Some x) y is = (x, refl, some-same is)

then-some : {A B : Type 0} (f : A → Option B) (o : Option A) (y : B) → option_and_then f o ≡ Some y → (x : A) × (o ≡ Some x) × (f x ≡ Some y)
then-some {A} {B} f None y is = cc
then-some {A} {B} f (Some x) y is = (x, refl, is)

job-some : (b : Bool) (d : Draft) (job : Job) → (if b then Some (job_by d) else None) ≡ Some job → (job_by d ≡ job) × (b ≡ true)
job-some true d job is = (some-same is, refl)
job-some false d job is = cc

made-job : (verb : Verb) (words : List (List ℕ)) (d : Draft) (job : Job) → Holds verb words d → job_of d ≡ Some job → AsksJob verb words job
made-job verb words d job held is =
    let j : (job_by d ≡ job) × (has_program (job_by d) ≡ true) = job-some (has_program (job_by d)) d job is in subst (AsksJob verb words) j.0 (asks-job verb words d held j.1)

made-asked : (verb : Verb) (words : List (List ℕ)) (d : Draft) (command : Command) → Holds verb words d → made verb d ≡ Some command → Asks words command
made-asked ToRun words d command held is = let j = map-some Run (job_of d) command is in subst (Asks words) j.2 (held.read, made-job ToRun words d j.0 held j.1)
made-asked ToList words d command held is =
    let j = then-some (λ job. option_and_then (λ address. option_map (λ count. Listing job address count) (number d Count)) (number d At)) (job_of d) command is in
    let a = then-some (λ address. option_map (λ count. Listing j.0 address count) (number d Count)) (number d At) command j.2 in
    let n = map-some (λ count. Listing j.0 a.0 count) (number d Count) command a.2 in
    subst (Asks words) n.2 (held.read, made-job ToList words d j.0 held j.1, (the-number ToList words d At held).holds a.0 a.1, (the-number ToList words d Count held).holds n.0 n.1)
made-asked ToSample words d command held is =
    let n = then-some (λ calls. option_map (λ depth. Sample calls depth) (number d Depth)) (number d Calls) command is in
    let m = map-some (λ depth. Sample n.0 depth) (number d Depth) command n.2 in
    subst (Asks words) m.2 (held.read, (the-number ToSample words d Calls held).holds n.0 n.1, (the-number ToSample words d Depth held).holds m.0 m.1)
made-asked ToAssemble words d command held is =
    let s = then-some (λ code. option_and_then (λ text. option_map (λ address. Assemble code text address) (number d At)) (place d (File Text))) (set d CodeSet) command is in
    let t = then-some (λ text. option_map (λ address. Assemble s.0 text address) (number d At)) (place d (File Text)) command s.2 in
    let a = map-some (λ address. Assemble s.0 t.0 address) (number d At) command t.2 in
    subst (Asks words) a.2
    (held.read, (the-set ToAssemble words d CodeSet held).holds s.0 s.1, (the-place ToAssemble words d (File Text) held).holds t.0 t.1, (the-number ToAssemble words d At held).holds a.0 a.1)
made-asked ToContinue words d command held is =
    let i = map-some (λ image. Continue image (steps_in d) (place d Save)) (place d (File Image)) command is in
    subst (Asks words) i.2 (held.read, (the-place ToContinue words d (File Image) held).holds i.0 i.1, asks-steps ToContinue words d held, where-named ToContinue words d Save held)
made-asked ToDebug words d command held is =
    let j = then-some (λ job. option_map (Debug job) (place d (File Script))) (job_of d) command is in
    let s = map-some (Debug j.0) (place d (File Script)) command j.2 in
    subst (Asks words) s.2 (held.read, made-job ToDebug words d j.0 held j.1, (the-place ToDebug words d (File Script) held).holds s.0 s.1)

-- and what the words ask for, the draft makes
job-made : (verb : Verb) (words : List (List ℕ)) (d : Draft) (job : Job) → Holds verb words d → AsksJob verb words job → job_of d ≡ Some job
job-made verb words d job held asks =
    let is : (job ≡ job_by d) × (has_program (job_by d) ≡ true) = asked-job verb words d job held asks in ap (λ b. if b then Some (job_by d) else None) is.1 ∙ ap Some (sym is.0)

own-made : (command : Command) (words : List (List ℕ)) (d : Draft) → Holds (verb_in command) words d → Asks words command → made (verb_in command) d ≡ Some command
own-made (Run job) words d held asks = ap (option_map Run) (job-made ToRun words d job held asks.1)
own-made (Listing job address count) words d held asks =
    ap (option_and_then (λ job. option_and_then (λ address. option_map (λ count. Listing job address count) (number d Count)) (number d At))) (job-made ToList words d job held asks.1)
    ∙ ap (option_and_then (λ address. option_map (λ count. Listing job address count) (number d Count))) ((the-number ToList words d At held).found address asks.2)
    ∙ ap (option_map (λ count. Listing job address count)) ((the-number ToList words d Count held).found count asks.3)
own-made (Sample calls depth) words d held asks =
    ap (option_and_then (λ calls. option_map (λ depth. Sample calls depth) (number d Depth))) ((the-number ToSample words d Calls held).found calls asks.1)
    ∙ ap (option_map (λ depth. Sample calls depth)) ((the-number ToSample words d Depth held).found depth asks.2)
own-made (Assemble code text address) words d held asks =
    ap (option_and_then (λ code. option_and_then (λ text. option_map (λ address. Assemble code text address) (number d At)) (place d (File Text)))) ((the-set ToAssemble words d CodeSet held).found code asks.1)
    ∙ ap (option_and_then (λ text. option_map (λ address. Assemble code text address) (number d At))) ((the-place ToAssemble words d (File Text) held).found text asks.2)
    ∙ ap (option_map (λ address. Assemble code text address)) ((the-number ToAssemble words d At held).found address asks.3)
own-made (Continue image steps save) words d held asks =
    let one : steps ≡ steps_in d = asked-steps ToContinue words d steps held asks.2 in
    let two : save ≡ place d Save = named-where ToContinue words d Save save held asks.3 in
    ap (option_map (λ image. Continue image (steps_in d) (place d Save))) ((the-place ToContinue words d (File Image) held).found image asks.1)
    ∙ ap (λ n. Some (Continue image n (place d Save))) (sym one) ∙ ap (λ o. Some (Continue image steps o)) (sym two)
own-made (Debug job script) words d held asks =
    ap (option_and_then (λ job. option_map (Debug job) (place d (File Script)))) (job-made ToDebug words d job held asks.1)
    ∙ ap (option_map (Debug job)) ((the-place ToDebug words d (File Script) held).found script asks.2)

asked-made : (verb : Verb) (words : List (List ℕ)) (d : Draft) (command : Command) → Holds verb words d → Asks words command → made verb d ≡ Some command
asked-made verb words d command held asks =
    let same : verb_in command ≡ verb = same-verb (verb_in command) verb words (reads-asked words command asks) held.read in
    subst (λ v. made v d ≡ Some command) same (own-made command words d (subst (λ v. Holds v words d) (sym same) held) asks)

is-made : (o : Option Command) (verb : Verb) (words : List (List ℕ)) (d : Draft) → Holds verb words d → made verb d ≡ o → IsMade words o
is-made None verb words d held is = λ command asks. none-some (sym is ∙ asked-made verb words d command held asks)
is-made (Some command) verb words d held is =
    record { asks = made-asked verb words d command held is; only = λ other asks. some-same (sym (asked-made verb words d other held asks) ∙ is) }

-- the words before a place are read where those before a later one are
sets-taken : (verb : Verb) (words : List (List ℕ)) (k p : ℕ) (s : Setting) → Sets verb (take k words) p s → Sets verb words p s
sets-taken verb words k p s set =
    let least : p < min k (length words) = subst (λ n. p < n) (length-take k words) set.inside in
    record { behind = set.behind; inside = omega arith; reads = subst (λ w. setting_of verb w ≡ Some s) (get_or-take k words p [] (omega arith)) set.reads }

read-taken : (verb : Verb) (words : List (List ℕ)) (k : ℕ) → 0 < k → AreRead verb words → AreRead verb (take k words)
read-taken verb words k some read =
    let at : (p : ℕ) → p < k → word_at (take k words) p ≡ word_at words p = λ p below. get_or-take k words p [] below in
    let inside : (p : ℕ) → p < length (take k words) → p < min k (length words) = λ p within. subst (λ n. p < n) (length-take k words) within in
    record {
      named = subst (λ w. verb_of w ≡ Some verb) (sym (at 0 some)) read.named;
      each = λ p behind within. let less : p < min k (length words) = inside p within in subst (λ w. IsSome (setting_of verb w)) (sym (at p (omega arith))) (read.each p behind (omega arith));
      once = λ i j behind below within same.
          let less : j < min k (length words) = inside j within in
          read.once i j behind below (omega arith) (ap key_in (sym (at i (omega arith))) ∙ same ∙ ap key_in (at j (omega arith)));
      alone = λ flat.
          let apart = read.alone (flat.0, sets-taken verb words k flat.0 (file (Program Flat)) flat.1) in (
            λ other. apart.0 (other.0, sets-taken verb words k other.0 (file (Program Rsrc)) other.1),
            λ other. apart.1 (other.0, sets-taken verb words k other.0 (file (Program Pef)) other.1),
          );
    }

begin-taken : (words : List (List ℕ)) (k : ℕ) → 0 < k → CanBegin words → CanBegin (take k words)
begin-taken words k some (inl none) = inl (take-nil k words none)
begin-taken words k some (inr read) = inr (read.0, read-taken read.0 words k some read.1)

-- the outcome of reading words
abbrev Outcome : List (List ℕ) → Result Command BadWord → Type 0
Outcome words r = MatchResult r (IsAsked words) (λ bad. IsFirstBad words bad.place)

one-verb : (v w : Verb) (command : List ℕ) (words : List (List ℕ)) (k : ℕ) → verb_of command ≡ Some v → AreRead w (take (k + 1) (command ∷ words)) → w ≡ v
one-verb v w command words k named read =
    let first : verb_of command ≡ Some w = subst (λ word. verb_of word ≡ Some w) (get_or-take (k + 1) (command ∷ words) 0 [] (omega arith)) read.named in
    some-same (sym first ∙ named)

taken-some : (command : List ℕ) (words : List (List ℕ)) (k : ℕ) → take (k + 1) (command ∷ words) ≡ [] → ⊥
taken-some command words k none =
    let short : min (k + 1) (length (command ∷ words)) ≡ 0 = sym (length-take (k + 1) (command ∷ words)) ∙ ap length none in
    omega arith

first-bad : (verb : Verb) (command : List ℕ) (words : List (List ℕ)) (place : ℕ) → verb_of command ≡ Some verb → Stops verb (command ∷ words) place → IsFirstBad (command ∷ words) place
first-bad verb command words place named stops =
    let not_begun : ¬ CanBegin (take (place + 1) (command ∷ words)) = λ begun. elim begun [
      | inl none ↦ taken-some command words place none
      | inr read ↦ stops.bad (subst (λ v. AreRead v (take (place + 1) (command ∷ words))) (one-verb verb read.0 command words place named read.1) read.1)
    ] in
    record {
      inside = omega (arith, stops.inside);
      before = inr (verb, stops.before);
      bad = λ inside. not_begun;
      missing = λ end. absurd (omega (arith, stops.inside));
    }

all-bad : (verb : Verb) (words : List (List ℕ)) (d : Draft) → Holds verb words d → ((command : Command) → ¬ Asks words command) → IsFirstBad words (length words)
all-bad verb words d held none = record {
  inside = omega arith;
  before = inr (verb, subst (AreRead verb) (sym (take_all (length words) words (omega arith))) held.read);
  bad = λ inside. absurd (omega arith);
  missing = λ end. none;
}

made-outcome : (verb : Verb) (words : List (List ℕ)) (k : ℕ) (d : Draft) (o : Option Command) → Holds verb words d → length words ≡ k → IsMade words o → Outcome words (ok_or o (bad_at k))
made-outcome verb words k d None held long made = subst (IsFirstBad words) long (all-bad verb words d held made)
made-outcome verb words k d (Some command) held long made = made

draft-outcome : (verb : Verb) (command : List ℕ) (words : List (List ℕ)) (r : Result Draft BadWord) → verb_of command ≡ Some verb → Walked verb (command ∷ words) r
    → Outcome (command ∷ words) (r >>= (λ d. ok_or (made verb d) (bad_at (1 + length words))))
draft-outcome verb command words (Ok d) named held = made-outcome verb (command ∷ words) (1 + length words) d (made verb d) held (omega arith) (is-made (made verb d) verb (command ∷ words) d held refl)
draft-outcome verb command words (Err bad) named stops = first-bad verb command words bad.place named stops

-- without a command's name nothing can begin
no-name : (words : List (List ℕ)) → verb_of (word_at words 0) ≡ None → IsFirstBad words 0
no-name words none = record {
  inside = omega arith;
  before = inl refl;
  bad = λ inside begun. elim begun [
    | inl empty ↦ let short : min 1 (length words) ≡ 0 = sym (length-take 1 words) ∙ ap length empty in omega arith
    | inr read ↦ none-some (sym none ∙ subst (λ w. verb_of w ≡ Some read.0) (get_or-take 1 words 0 [] (omega arith)) read.1.named)
  ];
  missing = λ end command asks. none-some (sym none ∙ (reads-asked words command asks).named);
}

pub no-verb : verb_of [] ≡ None
unfolding verb_of
no-verb = refl

verb-outcome : (o : Option Verb) (command : List ℕ) (words : List (List ℕ)) → verb_of command ≡ o → Outcome (command ∷ words) (ok_or o (bad_at 0) >>= (λ verb. command_by verb words))
verb-outcome None command words is = no-name (command ∷ words) is
verb-outcome (Some verb) command words is = draft-outcome verb command words (draft_of verb 1 words nothing) is (walk verb words (command ∷ []) nothing (begins verb command is))

outcome : (words : List (List ℕ)) → Outcome words (command_of words)
outcome [] = no-name [] no-verb
outcome (command ∷ words) = verb-outcome (verb_of command) command words refl

-- no words that ask for a command have a first bad one, and no words have two
not-both : (words : List (List ℕ)) (command : Command) (place : ℕ) → Asks words command → IsFirstBad words place → ⊥
not-both words command place asks bad =
    elim (cases_lt place (length words)) [
      | inl inside ↦ bad.bad inside (begin-taken words (place + 1) (omega arith) (inr (verb_in command, reads-asked words command asks)))
      | inr past ↦ bad.missing (omega (arith, bad.inside)) command asks
    ]

not-later : (words : List (List ℕ)) (p q : ℕ) → p < q → IsFirstBad words p → IsFirstBad words q → ⊥
not-later words p q less first second =
    first.bad (omega (arith, second.inside)) (subst CanBegin (take-take (p + 1) q words (omega arith)) (begin-taken (take q words) (p + 1) (omega arith) second.before))

one-place : (words : List (List ℕ)) (p q : ℕ) → IsFirstBad words p → IsFirstBad words q → p ≡ q
one-place words p q first second =
    elim (cases_lt p q) [
      | inl less ↦ absurd (not-later words p q less first second)
      | inr most ↦ elim (cases_lt q p) [ inl less ↦ absurd (not-later words q p less second first) | inr least ↦ omega arith ]
    ]

command-by : (words : List (List ℕ)) (command : Command) (r : Result Command BadWord) → Outcome words r → (r ≡ Ok command) ↔ Asks words command
command-by words command (Ok c) is = (λ same. let one : c ≡ command = cc in subst (Asks words) one is.asks, λ asks. ap Ok (sym (is.only command asks)))
command-by words command (Err bad) is = (λ same. cc, λ asks. absurd (not-both words command bad.place asks is))

refusal-by : (words : List (List ℕ)) (place : ℕ) (r : Result Command BadWord) → Outcome words r → (r ≡ Err (bad_at place)) ↔ IsFirstBad words place
refusal-by words place (Ok c) is = (λ same. cc, λ bad. absurd (not-both words c place is.asks bad))
refusal-by words place (Err bad) is = (λ same. let one : bad ≡ bad_at place = cc in subst (λ b. IsFirstBad words b.place) one is, λ first. ap (λ p. Err (bad_at p)) (one-place words bad.place place is first))

pub command-asked : CommandIsAsked
command-asked words command = command-by words command (command_of words) (outcome words)

pub refusal-first : RefusalIsFirst
refusal-first words place = refusal-by words place (command_of words) (outcome words)
