-- A draft holds what the words before a place set: with each word that is read, what that one sets too.
use Rattle.std.proofs.Common.{◌≡◌, ◌≢◌, ℕ, ◌<◌, ◌⊎◌, inl, inr, List, [], ◌∷◌, ◌++◌, length, Bool, true, false, if◌then◌else◌, Option, Some, None, is_none, is_some, Result, arith, sym, ap, subst, ◌∙◌, refl}
use Rattle.std.specs.Prelude.{◌↔◌}
use Rattle.std.specs.Option.{option_and_then, ok_or, IsSome}
use Rattle.std.specs.Result.{MatchResult}
use Rattle.std.proofs.lemmas.List.{length-append, length-set, length_push, get_or_append_left, get_or_push, get_or-set_same, get_or-set_other}
use Rattle.std.proofs.lemmas.Bool.{and_cases, and_parts, cases_lt, cases_eq}
use Rattle.mix_bits.specs.declared.file.File.TheVariants.{Flat, Rsrc, Pef}
use Rattle.job_words.specs.Settings.{verb_of, key_in, setting_of, setting, text_of}
use Rattle.job_words.specs.SettingsClauses.{file}
use Rattle.job_words.specs.Drafts.{given, given_at, has_room, index_of, is_alone, is_open, put, with_setting}
use Rattle.job_words.specs.Words.{bad_at, with_word}
use Rattle.job_words.specs.Asks.{word_at, Sets, IsSet, AreRead}
use Rattle.job_words.proofs.Keys.{file-named, index-apart, index-small, setting-reads, text-apart}
use Rattle.job_words.specs.declared.job.BadWord.{BadWord}
use Rattle.job_words.specs.declared.job.Key.{Key}
use Rattle.job_words.specs.declared.job.Key.TheVariants.{Program}
use Rattle.job_words.specs.declared.draft.Draft.{Draft}
use Rattle.job_words.specs.declared.draft.Given.{Given}
use Rattle.job_words.specs.declared.setting.Name.{Name}
use Rattle.job_words.specs.declared.setting.Name.TheVariants.{File}
use Rattle.job_words.specs.declared.setting.Setting.{Setting}
use Rattle.job_words.specs.declared.setting.Value.{Value}
use Rattle.job_words.specs.declared.setting.Value.TheVariants.{Named}
use Rattle.job_words.specs.declared.setting.Verb.{Verb}

-- what words set, the words from the first on set
pub sets-more : (verb : Verb) (done rest : List (List ℕ)) (p : ℕ) (s : Setting) → Sets verb done p s → Sets verb (done ++ rest) p s
sets-more verb done rest p s set = record {
  behind = set.behind;
  inside = omega (arith, length-append done rest, set.inside);
  reads = subst (λ w. setting_of verb w ≡ Some s) (sym (get_or_append_left done rest [] p set.inside)) set.reads;
}

-- and a word among these sets what it set in the longer line
sets-before : (verb : Verb) (done rest : List (List ℕ)) (p : ℕ) (s : Setting) → p < length done → Sets verb (done ++ rest) p s → Sets verb done p s
sets-before verb done rest p s within set = record {
  behind = set.behind;
  inside = within;
  reads = subst (λ w. setting_of verb w ≡ Some s) (get_or_append_left done rest [] p within) set.reads;
}

sets-here : (verb : Verb) (done : List (List ℕ)) (word : List ℕ) (s : Setting) → 0 < length done → setting_of verb word ≡ Some s → Sets verb (done ++ word ∷ []) (length done) s
sets-here verb done word s begun is = record {
  behind = begun;
  inside = omega (arith, length_push done word);
  reads = subst (λ w. setting_of verb w ≡ Some s) (sym (get_or_push done word [] (length done) refl)) is;
}

-- what a line sets, the words before its last one set, or that one
sets-cases : (verb : Verb) (done : List (List ℕ)) (word : List ℕ) (p : ℕ) (s : Setting) → Sets verb (done ++ word ∷ []) p s → Sets verb done p s ⊎ ((p ≡ length done) × (setting_of verb word ≡ Some s))
sets-cases verb done word p s set =
    elim (cases_lt p (length done)) [
      | inl within ↦ inl (sets-before verb done (word ∷ []) p s within set)
      | inr past ↦
          let last : p ≡ length done = omega (arith, length_push done word, set.inside) in
          inr (last, subst (λ w. setting_of verb w ≡ Some s) (get_or_push done word [] p (sym last)) set.reads)
    ]

some-of : {A : Type 0} (o : Option A) → IsSome o → (x : A) × (o ≡ Some x)
some-of {A} None some = cc
some-of {A} (Some x) some = (x, refl)

-- the words are read, and the draft holds what they set
pub record Holds (verb : Verb) (words : List (List ℕ)) (d : Draft) : Type 0 where
  pub begun : 0 < length words
  pub read : AreRead verb words
  pub long : length d.slots ≡ 15
  pub each : (name : Name) (place : ℕ) (value : Value) → (given d name ≡ Some (given_at place value)) ↔ Sets verb words place (setting name value)

some-none : {A : Type 0} (o : Option A) (x : A) → o ≡ Some x → is_none o ≡ true → ⊥
some-none {A} None x is none = cc
some-none {A} (Some y) x is none = cc

not-none : (o : Option Given) → is_none o ≡ false → (g : Given) × (o ≡ Some (given_at g.place g.value))
not-none None some = cc
not-none (Some g) some = (g, refl)

same-given : (p q : ℕ) (v w : Value) → Some (given_at p v) ≡ Some (given_at q w) → (p ≡ q) × (v ≡ w)
same-given p q v w same = let one : given_at p v ≡ given_at q w = cc in (ap (λ g. g.place) one, ap (λ g. g.value) one)

same-setting : (verb : Verb) (word : List ℕ) (s t : Setting) → setting_of verb word ≡ Some s → setting_of verb word ≡ Some t → s ≡ t
same-setting verb word s t one two = let same : Some s ≡ Some t = sym one ∙ two in cc

-- the slots after a setting is put
given-same : (d : Draft) (k : ℕ) (s : Setting) → length d.slots ≡ 15 → given (put d k s) s.name ≡ Some (given_at k s.value)
given-same d k s long = let less : index_of s.name < length d.slots = omega (arith, index-small s.name, long) in get_or-set_same d.slots (index_of s.name) (Some (given_at k s.value)) None less

given-other : (d : Draft) (k : ℕ) (s : Setting) (name : Name) → (name ≡ s.name → ⊥) → given (put d k s) name ≡ given d name
given-other d k s name other = let ne : index_of name ≢ index_of s.name = λ same. other (index-apart name s.name same) in get_or-set_other d.slots (index_of s.name) (index_of name) (Some (given_at k s.value)) None ne

cases-name : (a b : Name) → (a ≡ b) ⊎ (a ≡ b → ⊥)
cases-name a b = elim (cases_eq (index_of a) (index_of b)) [ inl same ↦ inl (index-apart a b same) | inr other ↦ inr (λ same. other (ap index_of same)) ]

each-next : (verb : Verb) (done : List (List ℕ)) (word : List ℕ) (s : Setting) (d : Draft) → Holds verb done d → setting_of verb word ≡ Some s → is_open d s.name ≡ true
    → (name : Name) (place : ℕ) (value : Value) → (given (put d (length done) s) name ≡ Some (given_at place value)) ↔ Sets verb (done ++ word ∷ []) place (setting name value)
each-next verb done word s d held is room name place value =
    elim (cases-name name s.name) [
      | inl same ↦
          let here : given (put d (length done) s) name ≡ Some (given_at (length done) s.value) = ap (given (put d (length done) s)) same ∙ given-same d (length done) s held.long in (
            λ given_is.
                let one : Some (given_at (length done) s.value) ≡ Some (given_at place value) = sym here ∙ given_is in
                let at : length done ≡ place = (same-given (length done) place s.value value one).0 in
                let v : s.value ≡ value = (same-given (length done) place s.value value one).1 in
                let whole : s ≡ setting name value = ap (λ n. setting n s.value) (sym same) ∙ ap (setting name) v in
                subst (λ p. Sets verb (done ++ word ∷ []) p (setting name value)) at (subst (Sets verb (done ++ word ∷ []) (length done)) whole (sets-here verb done word s held.begun is)),
            λ set. elim (sets-cases verb done word place (setting name value) set) [
              | inl before ↦ absurd (some-none (given d name) (given_at place value) ((held.each name place value).1 before) (subst (λ n. is_open d n ≡ true) (sym same) room))
              | inr last ↦
                  let v : s.value ≡ value = ap (λ t. t.value) (same-setting verb word s (setting name value) is last.1) in
                  here ∙ ap (λ p. Some (given_at p s.value)) (sym last.0) ∙ ap (λ x. Some (given_at place x)) v
            ],
          )
      | inr other ↦ (
        λ given_is. sets-more verb done (word ∷ []) place (setting name value) ((held.each name place value).0 (sym (given-other d (length done) s name other) ∙ given_is)),
        λ set. elim (sets-cases verb done word place (setting name value) set) [
          | inl before ↦ given-other d (length done) s name other ∙ (held.each name place value).1 before
          | inr last ↦ absurd (other (ap (λ t. t.name) (same-setting verb word (setting name value) s last.1 is)))
        ],
      )
    ]

-- a file that does not stand beside a flat one
record Excludes (d : Draft) (key : Key) : Type 0 where
  other : File key ≡ File (Program Flat) → ⊥
  flat : is_alone d (File (Program Flat)) ≡ true → is_open d (File key) ≡ true
  own : is_alone d (File key) ≡ true → is_open d (File (Program Flat)) ≡ true

rsrc-excludes : (d : Draft) → Excludes d (Program Rsrc)
rsrc-excludes d = record { other = λ same. cc; flat = λ room. (and_parts (is_open d (File (Program Rsrc))) (is_open d (File (Program Pef))) room).0; own = λ room. room }

pef-excludes : (d : Draft) → Excludes d (Program Pef)
pef-excludes d = record { other = λ same. cc; flat = λ room. (and_parts (is_open d (File (Program Rsrc))) (is_open d (File (Program Pef))) room).1; own = λ room. room }

apart-next : (verb : Verb) (done : List (List ℕ)) (word : List ℕ) (s : Setting) (d : Draft) (key : Key) → Excludes d key → Holds verb done d → setting_of verb word ≡ Some s → is_alone d s.name ≡ true
    → (IsSet verb done (file (Program Flat)) → ¬ IsSet verb done (file key)) → IsSet verb (done ++ word ∷ []) (file (Program Flat)) → ¬ IsSet verb (done ++ word ∷ []) (file key)
apart-next verb done word s d key excludes held is room before flat other =
    elim (sets-cases verb done word flat.0 (file (Program Flat)) flat.1) [
      | inl first ↦ elim (sets-cases verb done word other.0 (file key) other.1) [
        | inl also ↦ before (flat.0, first) (other.0, also)
        | inr last ↦
            let free : is_open d (File (Program Flat)) ≡ true = excludes.own (subst (λ t. is_alone d t.name ≡ true) (same-setting verb word s (file key) is last.1) room) in
            some-none (given d (File (Program Flat))) (given_at flat.0 Named) ((held.each (File (Program Flat)) flat.0 Named).1 first) free
      ]
      | inr last ↦ elim (sets-cases verb done word other.0 (file key) other.1) [
        | inl first ↦
            let free : is_open d (File key) ≡ true = excludes.flat (subst (λ t. is_alone d t.name ≡ true) (same-setting verb word s (file (Program Flat)) is last.1) room) in
            some-none (given d (File key)) (given_at other.0 Named) ((held.each (File key) other.0 Named).1 first) free
        | inr also ↦ excludes.other (ap (λ t. t.name) (same-setting verb word (file key) (file (Program Flat)) also.1 last.1))
      ]
    ]

-- no word before has the key of a setting that has room
room-key : (verb : Verb) (done : List (List ℕ)) (d : Draft) (i : ℕ) (t s : Setting) → Holds verb done d → is_open d s.name ≡ true → Sets verb done i t → text_of t.name ≡ text_of s.name → ⊥
room-key verb done d i t s held room set same =
    some-none (given d t.name) (given_at i t.value) ((held.each t.name i t.value).1 set) (subst (λ n. is_open d n ≡ true) (sym (text-apart t.name s.name same)) room)

-- so one word more is read
read-next : (verb : Verb) (done : List (List ℕ)) (word : List ℕ) (s : Setting) (d : Draft) → Holds verb done d → setting_of verb word ≡ Some s → has_room d s.name ≡ true → AreRead verb (done ++ word ∷ [])
read-next verb done word s d held is room =
    let free : (is_open d s.name ≡ true) × (is_alone d s.name ≡ true) = and_parts (is_open d s.name) (is_alone d s.name) room in
    let before : (p : ℕ) → p < length done → word_at (done ++ word ∷ []) p ≡ word_at done p = λ p within. get_or_append_left done (word ∷ []) [] p within in
    let last : (p : ℕ) → p ≡ length done → word_at (done ++ word ∷ []) p ≡ word = λ p same. get_or_push done word [] p (sym same) in
    record {
      named = subst (λ w. verb_of w ≡ Some verb) (sym (before 0 held.begun)) held.read.named;
      each = λ p behind inside. elim (cases_lt p (length done)) [
        | inl within ↦ subst (λ w. IsSome (setting_of verb w)) (sym (before p within)) (held.read.each p behind within)
        | inr past ↦ subst (λ w. IsSome (setting_of verb w)) (sym (last p (omega (arith, length_push done word)))) (ap is_some is)
      ];
      once = λ i j behind less inside same. elim (cases_lt j (length done)) [
        | inl within ↦ held.read.once i j behind less within (ap key_in (sym (before i (omega arith))) ∙ same ∙ ap key_in (before j within))
        | inr past ↦
            let within : i < length done = omega (arith, length_push done word) in
            let some : (t : Setting) × (setting_of verb (word_at done i) ≡ Some t) = some-of (setting_of verb (word_at done i)) (held.read.each i behind within) in
            room-key verb done d i some.0 s held free.0 (record { behind = behind; inside = within; reads = some.1 })
            (sym (setting-reads verb (word_at done i) some.0 some.1).named ∙ ap key_in (sym (before i within)) ∙ same ∙ ap key_in (last j (omega (arith, length_push done word))) ∙ (setting-reads verb word s is).named)
      ];
      alone = λ flat. (
        apart-next verb done word s d (Program Rsrc) (rsrc-excludes d) held is free.1 (λ set. (held.read.alone set).0) flat,
        apart-next verb done word s d (Program Pef) (pef-excludes d) held is free.1 (λ set. (held.read.alone set).1) flat,
      );
    }

-- and the draft with what it sets holds what the words then set
held-next : (verb : Verb) (done : List (List ℕ)) (word : List ℕ) (s : Setting) (d : Draft) → Holds verb done d → setting_of verb word ≡ Some s → has_room d s.name ≡ true → Holds verb (done ++ word ∷ []) (put d (length done) s)
held-next verb done word s d held is room = record {
  begun = omega (arith, length_push done word);
  read = read-next verb done word s d held is room;
  long = length-set d.slots (index_of s.name) (Some (given_at (length done) s.value)) ∙ held.long;
  each = each-next verb done word s d held is (and_parts (is_open d s.name) (is_alone d s.name) room).0;
}

-- a word with the key of one before it cannot be read behind it
again : (verb : Verb) (done : List (List ℕ)) (word : List ℕ) (s t : Setting) (i : ℕ) → Sets verb done i t → setting_of verb word ≡ Some s → t.name ≡ s.name → AreRead verb (done ++ word ∷ []) → ⊥
again verb done word s t i set is same read =
    read.once i (length done) set.behind set.inside (omega (arith, length_push done word))
    (ap key_in (get_or_append_left done (word ∷ []) [] i set.inside) ∙ (setting-reads verb (word_at done i) t set.reads).named ∙ ap text_of same ∙ sym (setting-reads verb word s is).named ∙ ap key_in (sym (get_or_push done word [] (length done) refl)))

-- nor one of two files, of which one is flat
beside : (verb : Verb) (done : List (List ℕ)) (word : List ℕ) (d : Draft) (own key : Key) (v : Value) → Holds verb done d → setting_of verb word ≡ Some (setting (File own) v) → is_open d (File key) ≡ false
    → IsSet verb (done ++ word ∷ []) (file own) × IsSet verb (done ++ word ∷ []) (file key)
beside verb done word d own key v held is some =
    let g : (g : Given) × (given d (File key) ≡ Some (given_at g.place g.value)) = not-none (given d (File key)) some in
    let set : Sets verb done g.0.place (setting (File key) g.0.value) = (held.each (File key) g.0.place g.0.value).0 g.1 in
    let named : g.0.value ≡ Named = file-named key (word_at done g.0.place) g.0.value (setting-reads verb (word_at done g.0.place) (setting (File key) g.0.value) set.reads) in
    let own_named : v ≡ Named = file-named own word v (setting-reads verb word (setting (File own) v) is) in (
      (length done, sets-here verb done word (file own) held.begun (subst (λ x. setting_of verb word ≡ Some (setting (File own) x)) own_named is)),
      (g.0.place, sets-more verb done (word ∷ []) g.0.place (file key) (subst (λ x. Sets verb done g.0.place (setting (File key) x)) named set)),
    )

not-alone : (name : Name) (verb : Verb) (done : List (List ℕ)) (word : List ℕ) (d : Draft) (v : Value) → Holds verb done d → setting_of verb word ≡ Some (setting name v) → is_alone d name ≡ false → AreRead verb (done ++ word ∷ []) → ⊥
not-alone (File (Program Flat)) verb done word d v held is room read =
    elim (and_cases (is_open d (File (Program Rsrc))) (is_open d (File (Program Pef))) room) [
      | inl some ↦ let both = beside verb done word d (Program Flat) (Program Rsrc) v held is some in (read.alone both.0).0 both.1
      | inr some ↦ let both = beside verb done word d (Program Flat) (Program Pef) v held is some in (read.alone both.0).1 both.1
    ]
not-alone (File (Program Rsrc)) verb done word d v held is room read = let both = beside verb done word d (Program Rsrc) (Program Flat) v held is room in (read.alone both.1).0 both.0
not-alone (File (Program Pef)) verb done word d v held is room read = let both = beside verb done word d (Program Pef) (Program Flat) v held is room in (read.alone both.1).1 both.0
not-alone name verb done word d v held is room read = cc

no-room : (verb : Verb) (done : List (List ℕ)) (word : List ℕ) (s : Setting) (d : Draft) → Holds verb done d → setting_of verb word ≡ Some s → has_room d s.name ≡ false → AreRead verb (done ++ word ∷ []) → ⊥
no-room verb done word s d held is room read =
    elim (and_cases (is_open d s.name) (is_alone d s.name) room) [
      | inl some ↦
          let g : (g : Given) × (given d s.name ≡ Some (given_at g.place g.value)) = not-none (given d s.name) some in
          again verb done word s (setting s.name g.0.value) g.0.place ((held.each s.name g.0.place g.0.value).0 g.1) is refl read
      | inr beside_it ↦ not-alone s.name verb done word d s.value held is beside_it read
    ]

unread : (verb : Verb) (done : List (List ℕ)) (word : List ℕ) → 0 < length done → setting_of verb word ≡ None → AreRead verb (done ++ word ∷ []) → ⊥
unread verb done word begun none read =
    let some : IsSome (setting_of verb (word_at (done ++ word ∷ []) (length done))) = read.each (length done) begun (omega (arith, length_push done word)) in
    let here : IsSome (setting_of verb word) = subst (λ w. IsSome (setting_of verb w)) (get_or_push done word [] (length done) refl) some in
    let same : is_some (setting_of verb word) ≡ false = ap is_some none in cc

-- one word: the draft then holds what the words then set, or the words before are all that can be read
abbrev pub GoesOn : Verb → List (List ℕ) → List ℕ → Result Draft BadWord → Type 0
GoesOn verb done word r = MatchResult r (Holds verb (done ++ word ∷ [])) (λ bad. (bad ≡ bad_at (length done)) × ¬ AreRead verb (done ++ word ∷ []))

by-room : (b : Bool) (verb : Verb) (done : List (List ℕ)) (word : List ℕ) (s : Setting) (d : Draft) → Holds verb done d → setting_of verb word ≡ Some s → has_room d s.name ≡ b
    → GoesOn verb done word (ok_or (if b then Some (put d (length done) s) else None) (bad_at (length done)))
by-room true verb done word s d held is room = held-next verb done word s d held is room
by-room false verb done word s d held is room = (refl, λ read. no-room verb done word s d held is room read)

by-setting : (o : Option Setting) (verb : Verb) (done : List (List ℕ)) (word : List ℕ) (d : Draft) → Holds verb done d → setting_of verb word ≡ o
    → GoesOn verb done word (ok_or (option_and_then (with_setting d (length done)) o) (bad_at (length done)))
by-setting None verb done word d held is = (refl, λ read. unread verb done word held.begun is read)
by-setting (Some s) verb done word d held is = by-room (has_room d s.name) verb done word s d held is refl

pub word-next : (verb : Verb) (done : List (List ℕ)) (word : List ℕ) (d : Draft) → Holds verb done d → GoesOn verb done word (with_word verb (length done) word d)
word-next verb done word d held = by-setting (setting_of verb word) verb done word d held refl
