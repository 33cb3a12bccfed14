-- Settings in another order are the same command, but for the places of its files.
use Rattle.std.proofs.Common.{◌≡◌, ◌≢◌, ℕ, zero, suc, ◌<◌, ◌==◌, ◌||◌, inl, inr, List, [], ◌∷◌, length, if◌then◌else◌, Option, Some, None, is_some, get_or, arith, sym, ap, subst, ◌∙◌, refl}
use Rattle.std.specs.Option.{option_map, IsSome, IfNone}
use Rattle.std.specs.List.{swap}
use Rattle.std.specs.List.Sorted.{IsPermutation}
use Rattle.std.proofs.lemmas.List.Edits.{Swapped, swapped_from_swap, length-swap}
use Rattle.std.proofs.lemmas.List.Sorted.{IsPermutation-keeps}
use Rattle.std.proofs.lemmas.Bool.{cases_lt, cases_eq}
use Rattle.std.proofs.lemmas.Bool.Decides.{nat_tests}
use Rattle.mix_bits.specs.declared.isa.Isa.{Isa}
use Rattle.mix_bits.specs.declared.isa.Isa.TheVariants.{M68, Ppc}
use Rattle.mix_bits.specs.declared.file.File.TheVariants.{Flat, Rsrc, Pef}
use Rattle.job_words.specs.Settings.{verb_of, key_in, setting_of, setting}
use Rattle.job_words.specs.SettingsClauses.{named, file, numbered}
use Rattle.job_words.specs.Jobs.{main_file}
use Rattle.job_words.specs.Asks.{word_at, Sets, IsSet, AreRead, IsSetOr, IsWhere, usual_main, AsksJob, Asks}
use Rattle.job_words.specs.laws.Laws.{moved_job, moved, Stands, OrderIsFree}
use Rattle.job_words.proofs.Requested.{no-verb, command-asked}
use Rattle.job_words.specs.declared.job.Command.{Command}
use Rattle.job_words.specs.declared.job.Command.TheVariants.{Run, List as Listing, Sample, Assemble, Continue, Debug}
use Rattle.job_words.specs.declared.job.Job.{Job}
use Rattle.job_words.specs.declared.job.Key.TheVariants.{Program, Image, Text, Script}
use Rattle.job_words.specs.declared.setting.Setting.{Setting}
use Rattle.job_words.specs.declared.setting.Name.TheVariants.{Main, Ram, Steps, At, Count, Calls, Depth, CodeSet, Save}
use Rattle.job_words.specs.declared.setting.Value.TheVariants.{Set}
use Rattle.job_words.specs.declared.setting.Verb.{Verb}
use Rattle.job_words.specs.declared.setting.Verb.TheVariants.{ToRun, ToList, ToSample, ToAssemble, ToContinue, ToDebug}

-- words in another order, and the place of each in both
pub record Moved (to back : ℕ → ℕ) (words others : List (List ℕ)) : Type 0 where
  pub long : length others ≡ length words
  pub there : (p : ℕ) → back (to p) ≡ p
  pub again : (p : ℕ) → to (back p) ≡ p
  pub within : (p : ℕ) → p < length words → to p < length words
  pub back_within : (p : ℕ) → p < length words → back p < length words
  pub word : Stands to words others

moved-self : (words : List (List ℕ)) → Moved (λ p. p) (λ p. p) words words
moved-self words = record { long = refl; there = λ p. refl; again = λ p. refl; within = λ p less. less; back_within = λ p less. less; word = λ p less. refl }

moved-trans : (f g h k : ℕ → ℕ) (a b c : List (List ℕ)) → Moved f g a b → Moved h k b c → Moved (λ p. h (f p)) (λ p. g (k p)) a c
moved-trans f g h k a b c one two = record {
  long = two.long ∙ one.long;
  there = λ p. ap g (two.there (f p)) ∙ one.there p;
  again = λ p. ap h (one.again (k p)) ∙ two.again p;
  within = λ p less. subst (λ n. h (f p) < n) one.long (two.within (f p) (subst (λ n. f p < n) (sym one.long) (one.within p less)));
  back_within = λ p less. one.back_within (k p) (subst (λ n. k p < n) one.long (two.back_within p (subst (λ n. p < n) (sym one.long) less)));
  word = λ p less. two.word (f p) (subst (λ n. f p < n) (sym one.long) (one.within p less)) ∙ one.word p less;
}

moved-back : (to back : ℕ → ℕ) (words others : List (List ℕ)) → Moved to back words others → Moved back to others words
moved-back to back words others m = record {
  long = sym m.long;
  there = m.again;
  again = m.there;
  within = λ p less. subst (λ n. back p < n) (sym m.long) (m.back_within p (subst (λ n. p < n) m.long less));
  back_within = λ p less. subst (λ n. to p < n) (sym m.long) (m.within p (subst (λ n. p < n) m.long less));
  word = λ p less. sym (m.word (back p) (m.back_within p (subst (λ n. p < n) m.long less))) ∙ ap (word_at others) (m.again p);
}

-- two words exchanged
abbrev exchange : ℕ → ℕ → ℕ → ℕ
exchange i j p = if p == i then j else (if p == j then i else p)

exchange-twice : (i j p : ℕ) → exchange i j (exchange i j p) ≡ p
exchange-twice i j p = grind (arith, nat_tests)

exchange-within : (i j p n : ℕ) → i < n → j < n → p < n → exchange i j p < n
exchange-within i j p n one two less = grind (arith, nat_tests)

exchange-first : (i j p : ℕ) → p ≡ i → exchange i j p ≡ j
exchange-first i j p same = grind (arith, nat_tests)

exchange-second : (i j p : ℕ) → p ≡ j → exchange i j p ≡ i
exchange-second i j p same = grind (arith, nat_tests)

exchange-other : (i j p : ℕ) → p ≢ i → p ≢ j → exchange i j p ≡ p
exchange-other i j p first second = grind (arith, nat_tests)

moved-swap : (words : List (List ℕ)) (i j : ℕ) → i < length words → j < length words → Moved (exchange i j) (exchange i j) words (swap words i j)
moved-swap words i j one two =
    let swapped : Swapped (λ k. get_or words k []) (λ k. get_or (swap words i j) k []) i j = swapped_from_swap words (swap words i j) i j [] one two refl in
    record {
      long = length-swap words i j;
      there = λ p. exchange-twice i j p;
      again = λ p. exchange-twice i j p;
      within = λ p less. exchange-within i j p (length words) one two less;
      back_within = λ p less. exchange-within i j p (length words) one two less;
      word = λ p less. elim (cases_eq p i) [
        | inl first ↦ ap (word_at (swap words i j)) (exchange-first i j p first) ∙ swapped.1 ∙ ap (word_at words) (sym first)
        | inr not_first ↦ elim (cases_eq p j) [
          | inl second ↦ ap (word_at (swap words i j)) (exchange-second i j p second) ∙ swapped.0 ∙ ap (word_at words) (sym second)
          | inr not_second ↦ ap (word_at (swap words i j)) (exchange-other i j p not_first not_second) ∙ swapped.2 p not_first not_second
        ]
      ];
    }

abbrev HasMoved : List (List ℕ) → List (List ℕ) → Type 0
HasMoved words others = (to : ℕ → ℕ) × (back : ℕ → ℕ) × Moved to back words others

permutation-moved : (words others : List (List ℕ)) → IsPermutation words others → HasMoved words others
permutation-moved words others same =
    IsPermutation-keeps words (HasMoved words) (λ p. p, λ p. p, moved-self words)
    (λ line i j one two m. (λ p. exchange i j (m.0 p), λ p. m.1 (exchange i j p), moved-trans m.0 m.1 (exchange i j) (exchange i j) words line (swap line i j) m.2 (moved-swap line i j one two)))
    others same

-- the same behind a command's name
abbrev behind : (ℕ → ℕ) → ℕ → ℕ
behind to zero = zero
behind to (suc p) = suc (to p)

behind-inverse : (to back : ℕ → ℕ) → ((p : ℕ) → back (to p) ≡ p) → (p : ℕ) → behind back (behind to p) ≡ p
behind-inverse to back same zero = refl
behind-inverse to back same (suc p) = ap suc (same p)

behind-within : (to : ℕ → ℕ) (n : ℕ) → ((p : ℕ) → p < n → to p < n) → (p : ℕ) → p < suc n → behind to p < suc n
behind-within to n within zero less = omega arith
behind-within to n within (suc p) less = let before : to p < n = within p (omega arith) in omega arith

behind-word : (to : ℕ → ℕ) (name : List ℕ) (words others : List (List ℕ)) → Stands to words others → Stands (behind to) (name ∷ words) (name ∷ others)
behind-word to name words others word zero less = refl
behind-word to name words others word (suc p) less = word p (omega arith)

moved-line : (to back : ℕ → ℕ) (name : List ℕ) (words others : List (List ℕ)) → Moved to back words others → Moved (behind to) (behind back) (name ∷ words) (name ∷ others)
moved-line to back name words others m = record {
  long = ap suc m.long;
  there = behind-inverse to back m.there;
  again = behind-inverse back to m.again;
  within = behind-within to (length words) m.within;
  back_within = behind-within back (length words) m.back_within;
  word = behind-word to name words others m.word;
}

-- a line with its settings in another order
pub record Reordered (to back : ℕ → ℕ) (words others : List (List ℕ)) : Type 0 where
  pub moves : Moved to back words others
  pub first : to 0 ≡ 0

back-first : (to back : ℕ → ℕ) (words others : List (List ℕ)) → Reordered to back words others → Reordered back to others words
back-first to back words others r = record { moves = moved-back to back words others r.moves; first = ap back (sym r.first) ∙ r.moves.there 0 }

sets-moved : (to back : ℕ → ℕ) (verb : Verb) (words others : List (List ℕ)) (p : ℕ) (s : Setting) → Reordered to back words others → Sets verb words p s → Sets verb others (to p) s
sets-moved to back verb words others p s r set = record {
  behind = elim (cases_lt 0 (to p)) [
    | inl behind ↦ behind
    | inr at ↦
        let none : to p ≡ 0 = omega arith in
        let same : p ≡ 0 = sym (r.moves.there p) ∙ ap back none ∙ ap back (sym r.first) ∙ r.moves.there 0 in
        absurd (omega (arith, set.behind))
  ];
  inside = subst (λ n. to p < n) (sym r.moves.long) (r.moves.within p set.inside);
  reads = ap (setting_of verb) (r.moves.word p set.inside) ∙ set.reads;
}

set-moved : (to back : ℕ → ℕ) (verb : Verb) (words others : List (List ℕ)) (s : Setting) → Reordered to back words others → IsSet verb words s → IsSet verb others s
set-moved to back verb words others s r set = (to set.0, sets-moved to back verb words others set.0 s r set.1)

set-back : (to back : ℕ → ℕ) (verb : Verb) (words others : List (List ℕ)) (s : Setting) → Reordered to back words others → IsSet verb others s → IsSet verb words s
set-back to back verb words others s r set = set-moved back to verb others words s (back-first to back words others r) set

-- words of one key stand at one place
apart : (verb : Verb) (words : List (List ℕ)) (i j : ℕ) → AreRead verb words → 0 < i → 0 < j → i < length words → j < length words → key_in (word_at words i) ≡ key_in (word_at words j) → i ≡ j
apart verb words i j read one two inside other same =
    elim (cases_lt i j) [
      | inl less ↦ absurd (read.once i j one less other same)
      | inr most ↦ elim (cases_lt j i) [ inl less ↦ absurd (read.once j i two less inside (sym same)) | inr least ↦ omega arith ]
    ]

not-empty : (verb : Verb) (words : List (List ℕ)) → verb_of (word_at words 0) ≡ Some verb → 0 < length words
not-empty verb [] is = let none : verb_of [] ≡ None = no-verb in cc
not-empty verb (word ∷ words) is = omega arith

read-moved : (to back : ℕ → ℕ) (verb : Verb) (words others : List (List ℕ)) → Reordered to back words others → AreRead verb words → AreRead verb others
read-moved to back verb words others r read =
    let f : Reordered back to others words = back-first to back words others r in
    let some : (p : ℕ) → 0 < p → 0 < back p = λ p behind. elim (cases_lt 0 (back p)) [
      | inl is ↦ is
      | inr at ↦
          let none : back p ≡ 0 = omega arith in
          let same : p ≡ 0 = sym (r.moves.again p) ∙ ap to none ∙ r.first in
          absurd (omega arith)
    ] in
    let inside : (p : ℕ) → p < length others → back p < length words = λ p less. r.moves.back_within p (subst (λ n. p < n) r.moves.long less) in
    record {
      named = ap (λ p. verb_of (word_at others p)) (sym r.first) ∙ ap verb_of (r.moves.word 0 (not-empty verb words read.named)) ∙ read.named;
      each = λ p behind less. subst (λ w. IsSome (setting_of verb w)) (f.moves.word p less) (read.each (back p) (some p behind) (inside p less));
      once = λ i j behind below less same.
          let one : i < length others = omega arith in
          let places : back i ≡ back j =
          apart verb words (back i) (back j) read (some i behind) (some j (omega arith)) (inside i one) (inside j less)
          (ap key_in (f.moves.word i one) ∙ same ∙ ap key_in (sym (f.moves.word j less))) in
          let equal : i ≡ j = sym (r.moves.again i) ∙ ap to places ∙ r.moves.again j in
          omega arith;
      alone = λ flat.
          let apart = read.alone (set-back to back verb words others (file (Program Flat)) r flat) in (
            λ other. apart.0 (set-back to back verb words others (file (Program Rsrc)) r other),
            λ other. apart.1 (set-back to back verb words others (file (Program Pef)) r other),
          );
    }

or-moved : {A : Type 0} (to back : ℕ → ℕ) (verb : Verb) (words others : List (List ℕ)) (sets : A → Setting) (default value : A) → Reordered to back words others → IsSetOr verb words sets default value → IsSetOr verb others sets default value
or-moved {A} to back verb words others sets default value r (inl set) = inl (set-moved to back verb words others (sets value) r set)
or-moved {A} to back verb words others sets default value r (inr none) = inr (λ x set. none.0 x (set-back to back verb words others (sets x) r set), none.1)

still-some : (to : ℕ → ℕ) (o : Option ℕ) → is_some (option_map to o) ≡ is_some o
still-some to None = refl
still-some to (Some p) = refl

mapped : (to : ℕ → ℕ) (o : Option ℕ) (q : ℕ) → option_map to o ≡ Some q → (p : ℕ) × (o ≡ Some p) × (to p ≡ q)
mapped to None q is = cc
mapped to (Some p) q is = let same : to p ≡ q = cc in (p, refl, same)

program-moved : (to : ℕ → ℕ) (main : Isa) (flat rsrc pef : Option ℕ) → IfNone flat (IsSome (main_file main rsrc pef)) → IfNone (option_map to flat) (IsSome (main_file main (option_map to rsrc) (option_map to pef)))
program-moved to main (Some p) rsrc pef own = tt
program-moved to M68 None rsrc pef own = still-some to rsrc ∙ own
program-moved to Ppc None rsrc pef own = still-some to pef ∙ own

usual-moved : (to : ℕ → ℕ) (job : Job) → usual_main job ≡ usual_main (moved_job to job)
usual-moved to job =
    ap (λ b. if b || is_some job.rsrc then M68 else Ppc) (sym (still-some to job.flat)) ∙ ap (λ b. if is_some (option_map to job.flat) || b then M68 else Ppc) (sym (still-some to job.rsrc))

where-moved : (to back : ℕ → ℕ) (verb : Verb) (words others : List (List ℕ)) (s : Setting) (o : Option ℕ) → Reordered to back words others → IsWhere verb words s o → IsWhere verb others s (option_map to o)
where-moved to back verb words others s o r is q = (
  λ same.
      let there : (p : ℕ) × (o ≡ Some p) × (to p ≡ q) = mapped to o q same in
      subst (λ k. Sets verb others k s) there.2 (sets-moved to back verb words others there.0 s r ((is there.0).0 there.1)),
  λ set. ap (option_map to) ((is (back q)).1 (sets-moved back to verb others words q s (back-first to back words others r) set)) ∙ ap Some (r.moves.again q),
)

job-moved : (to back : ℕ → ℕ) (verb : Verb) (words others : List (List ℕ)) (job : Job) → Reordered to back words others → AsksJob verb words job → AsksJob verb others (moved_job to job)
job-moved to back verb words others job r asks = record {
  flat = where-moved to back verb words others (file (Program Flat)) job.flat r asks.flat;
  rsrc = where-moved to back verb words others (file (Program Rsrc)) job.rsrc r asks.rsrc;
  pef = where-moved to back verb words others (file (Program Pef)) job.pef r asks.pef;
  main = subst (λ default. IsSetOr verb others (λ s. setting Main (Set s)) default job.main) (usual-moved to job) (or-moved to back verb words others (λ s. setting Main (Set s)) (usual_main job) job.main r asks.main);
  kib = or-moved to back verb words others (numbered Ram) 1024 job.kib r asks.kib;
  steps = or-moved to back verb words others (numbered Steps) 1000000 job.steps r asks.steps;
  save = where-moved to back verb words others (named Save) job.save r asks.save;
  program = program-moved to job.main job.flat job.rsrc job.pef asks.program;
}

command-moved : (to back : ℕ → ℕ) (words others : List (List ℕ)) (command : Command) → Reordered to back words others → Asks words command → Asks others (moved to command)
command-moved to back words others (Run job) r asks = (read-moved to back ToRun words others r asks.0, job-moved to back ToRun words others job r asks.1)
command-moved to back words others (Listing job address count) r asks = (
  read-moved to back ToList words others r asks.0,
  job-moved to back ToList words others job r asks.1,
  set-moved to back ToList words others (numbered At address) r asks.2,
  set-moved to back ToList words others (numbered Count count) r asks.3,
)
command-moved to back words others (Sample calls depth) r asks = (
  read-moved to back ToSample words others r asks.0,
  set-moved to back ToSample words others (numbered Calls calls) r asks.1,
  set-moved to back ToSample words others (numbered Depth depth) r asks.2,
)
command-moved to back words others (Assemble code text address) r asks = (
  read-moved to back ToAssemble words others r asks.0,
  set-moved to back ToAssemble words others (setting CodeSet (Set code)) r asks.1,
  sets-moved to back ToAssemble words others text (file Text) r asks.2,
  set-moved to back ToAssemble words others (numbered At address) r asks.3,
)
command-moved to back words others (Continue image steps save) r asks = (
  read-moved to back ToContinue words others r asks.0,
  sets-moved to back ToContinue words others image (file Image) r asks.1,
  or-moved to back ToContinue words others (numbered Steps) 1000000 steps r asks.2,
  where-moved to back ToContinue words others (named Save) save r asks.3,
)
command-moved to back words others (Debug job script) r asks =
    (read-moved to back ToDebug words others r asks.0, job-moved to back ToDebug words others job r asks.1, sets-moved to back ToDebug words others script (file Script) r asks.2)

pub order-free : OrderIsFree
order-free name words others command same is =
    let m : HasMoved words others = permutation-moved words others same in
    let line : Moved (behind m.0) (behind m.1) (name ∷ words) (name ∷ others) = moved-line m.0 m.1 name words others m.2 in (
      behind m.0,
      line.word,
      (command-asked (name ∷ others) (moved (behind m.0) command)).1
          (command-moved (behind m.0) (behind m.1) (name ∷ words) (name ∷ others) command (record { moves = line; first = refl }) ((command-asked (name ∷ words) command).0 is)),
    )
