-- A request's text is read as that request.
use Rattle.std.proofs.Common.{◌≡◌, ℕ, zero, suc, ◌+◌, ◌/◌, ◌%◌, ◌^◌, ◌<◌, ◌==◌, ◌&&◌, List, [], ◌∷◌, ◌++◌, length, take, drop, true, false, Some, None, if◌then◌else◌, refl, sym, ap, subst, ◌∙◌, add-one, arith}
use Rattle.std.specs.Prelude.{codes, bytes_eq}
use Rattle.std.specs.List.{AllByRecursion}
use Rattle.std.proofs.Math.Nat.{mod-lt}
use Rattle.std.proofs.Math.Seq.{take-append_seam, drop-append-add}
use Rattle.std.proofs.lemmas.Bool.{eq-eqb}
use Rattle.std.proofs.lemmas.Grind.{common_steps}
use Rattle.gdb_packets.specs.Hex.{digit_of, digits, number_said, number_text, shortened}
use Rattle.gdb_packets.proofs.Digits.{reads_numbers}
use Rattle.gdb_requests.specs.Parts.{before, behind, both, pair_said, span}
use Rattle.gdb_requests.specs.Queries.{attaching, of_process, general_said, query_said, range_said, range_of, setting_said, verbose_said}
use Rattle.gdb_requests.specs.Requests.{alive_of, back_said, by_letter, memory_of, point_said, pointing, register_of, request_of, selected, selecting, single_said}
use Rattle.gdb_requests.specs.Threads.{id_said, in_process, numbered, thread_part, thread_said}
use Rattle.gdb_requests.specs.laws.Texts.{IsId, IsNumber, IsThread, TextsReadBack, id_text, pair_text, point_digit, thread_text}
use Rattle.gdb_requests.specs.declared.request.Id.{Id}
use Rattle.gdb_requests.specs.declared.request.Id.TheVariants.{Any, Number}
use Rattle.gdb_requests.specs.declared.request.Point.{Point}
use Rattle.gdb_requests.specs.declared.request.Point.TheVariants.{Software, Hardware, Write}
use Rattle.gdb_requests.specs.declared.request.Thread.{Thread}
use Rattle.gdb_requests.specs.declared.request.Request.{Request}
use Rattle.gdb_requests.specs.declared.request.Request.TheVariants.{Supported, NoAcknowledgements, Extended, Reason, SelectForRegisters, SelectForRunning, Description, Registers, Register, Memory, ResumeWords, Resume, Continue, Step, BackContinue, BackStep, Insert, Remove, FirstThreads, MoreThreads, CurrentThread, IsAttached, Attach, IsAlive, Monitor, Detach, Kill, Change, Unknown}

-- a digit is none of the marks `,`, `-` and `.`
abbrev pub IsDigit : ℕ → Type 0
IsDigit d = ((d == 44) ≡ false) × ((d == 45) ≡ false) × ((d == 46) ≡ false)

apart : (n m : ℕ) → n < 16 → m < 47 → 43 < m → (digit_of n == m) ≡ false
apart n m small low high = grind (arith, common_steps)

is_digit : (n : ℕ) → n < 16 → IsDigit (digit_of n)
is_digit n small = (apart n 44 small (omega arith) (omega arith), apart n 45 small (omega arith) (omega arith), apart n 46 small (omega arith) (omega arith))

all_digits : (k n : ℕ) → AllByRecursion IsDigit (digits k n)
all_digits zero n = tt
all_digits (suc k) n = (is_digit (n / 16 ^ k % 16) (mod-lt (n / 16 ^ k) (omega arith)), all_digits k n)

-- so is each of a shortened text, which has at least one
record Text (ds : List ℕ) : Type 0 where
  first : ℕ
  more : List ℕ
  is : ds ≡ first ∷ more
  all : IsDigit first × AllByRecursion IsDigit more

short : (ds : List ℕ) → AllByRecursion IsDigit ds → Text (shortened ds)
short [] all = record { first = 48; more = []; is = refl; all = ((refl, refl, refl), tt) }
short (d ∷ ds) all = elim (d == 48) as (λ t. Text (if t then shortened ds else d ∷ ds)) [
  | true ↦ short ds all.1
  | false ↦ record { first = d; more = ds; is = refl; all = (all.0, all.1) }
]

text : (n : ℕ) → Text (number_text n)
unfolding number_text
text n = short (digits 8 n) (all_digits 8 n)

abbrev Lacks : ℕ → List ℕ → Type 0
Lacks mark bs = AllByRecursion (λ b. (b == mark) ≡ false) bs

comma_free : (bs : List ℕ) → AllByRecursion IsDigit bs → Lacks 44 bs
comma_free [] all = tt
comma_free (b ∷ bs) all = (all.0.0, comma_free bs all.1)

dot_free : (bs : List ℕ) → AllByRecursion IsDigit bs → Lacks 46 bs
dot_free [] all = tt
dot_free (b ∷ bs) all = (all.0.2, dot_free bs all.1)

number_lacks_comma : (n : ℕ) → Lacks 44 (number_text n)
number_lacks_comma n = let t = text n in subst (Lacks 44) (sym t.is) (t.all.0.0, comma_free t.more t.all.1)

number_lacks_dot : (n : ℕ) → Lacks 46 (number_text n)
number_lacks_dot n = let t = text n in subst (Lacks 46) (sym t.is) (t.all.0.2, dot_free t.more t.all.1)

-- what stands in front of a mark and behind it
spans : (mark : ℕ) (front back : List ℕ) → Lacks mark front → span mark (front ++ mark ∷ back) ≡ length front
spans mark [] back all = ap (λ t. if t then 0 else span mark back + 1) (eq-eqb mark mark refl)
spans mark (b ∷ front) back all =
    ap (λ t. if t then 0 else span mark (front ++ mark ∷ back) + 1) all.0 ∙ ap (λ n. n + 1) (spans mark front back all.1) ∙ add-one (length front)

in_front : (mark : ℕ) (front back : List ℕ) → Lacks mark front → before mark (front ++ mark ∷ back) ≡ front
unfolding before
in_front mark front back all = ap (λ n. take n (front ++ mark ∷ back)) (spans mark front back all) ∙ take-append_seam front (mark ∷ back)

in_back : (mark : ℕ) (front back : List ℕ) → Lacks mark front → behind mark (front ++ mark ∷ back) ≡ back
unfolding behind
in_back mark front back all = ap (λ n. drop (n + 1) (front ++ mark ∷ back)) (spans mark front back all) ∙ drop-append-add front (mark ∷ back) 1

pair_back : (a b : ℕ) → IsNumber a → IsNumber b → pair_said (pair_text a b) ≡ Some (a, b)
unfolding pair_said
pair_back a b fits_a fits_b =
    ap (λ t. both (number_said t) (number_said (behind 44 (pair_text a b)))) (in_front 44 (number_text a) (number_text b) (number_lacks_comma a))
    ∙ ap (λ t. both (number_said (number_text a)) (number_said t)) (in_back 44 (number_text a) (number_text b) (number_lacks_comma a))
    ∙ ap (λ o. both o (number_said (number_text b))) (reads_numbers a fits_a)
    ∙ ap (both (Some a)) (reads_numbers b fits_b)

no_minus : (n : ℕ) → bytes_eq (number_text n) (codes "-1") ≡ false
no_minus n = let t = text n in
    ap (λ ds. bytes_eq ds (codes "-1")) t.is ∙ ap (λ s. s && bytes_eq t.more (49 ∷ [])) t.all.0.1

not_zero : (n : ℕ) → 0 < n → (n == 0) ≡ false
not_zero n h = grind (arith, common_steps)

id_back : (i : Id) → IsId i → id_said (id_text i) ≡ Some i
unfolding id_said
id_back Any fits = refl
id_back (Number n) fits =
    ap (λ t. if t then Some Any else numbered (number_said (number_text n))) (no_minus n)
    ∙ ap numbered (reads_numbers n fits.1)
    ∙ ap (λ t. Some (if t then Any else Number n)) (not_zero n fits.0)

id_lacks_dot : (i : Id) → Lacks 46 (id_text i)
id_lacks_dot Any = (refl, (refl, tt))
id_lacks_dot (Number n) = number_lacks_dot n

id_is_some : (i : Id) → (length (id_text i) == 0) ≡ false
id_is_some Any = refl
id_is_some (Number n) = let t = text n in ap (λ ds. length ds == 0) t.is ∙ not_zero (suc (length t.more)) (omega arith)

part_back : (i : Id) → IsId i → thread_part (id_text i) ≡ Some i
unfolding thread_part
part_back i fits = ap (λ t. if t then Some Any else id_said (id_text i)) (id_is_some i) ∙ id_back i fits

thread_back : (t : Thread) → IsThread t → thread_said (thread_text t) ≡ Some t
unfolding thread_said
thread_back t fits =
    let rest : List ℕ = id_text t.process ++ 46 ∷ id_text t.thread in
    ap (λ w. in_process (id_said w) (thread_part (behind 46 rest))) (in_front 46 (id_text t.process) (id_text t.thread) (id_lacks_dot t.process))
    ∙ ap (λ w. in_process (id_said (id_text t.process)) (thread_part w)) (in_back 46 (id_text t.process) (id_text t.thread) (id_lacks_dot t.process))
    ∙ ap (λ o. in_process o (thread_part (id_text t.thread))) (id_back t.process fits.0)
    ∙ ap (in_process (Some t.process)) (part_back t.thread fits.1)

-- the text that is given is the request's
given : (a b : List ℕ) (r : Request) → request_of a ≡ r → Some a ≡ Some b → request_of b ≡ r
given a b r h same = let is : a ≡ b = cc in ap request_of (sym is) ∙ h

none : (b : List ℕ) (r : Request) → None ≡ Some b → request_of b ≡ r
none b r same = cc

insert_back : (p : Point) (a n : ℕ) → IsNumber a → IsNumber n → request_of (90 ∷ point_digit p ∷ 44 ∷ pair_text a n) ≡ Insert p a n
unfolding request_of by_letter point_said
insert_back Software a n h i = ap (pointing true Software) (pair_back a n h i)
insert_back Hardware a n h i = ap (pointing true Hardware) (pair_back a n h i)
insert_back Write a n h i = ap (pointing true Write) (pair_back a n h i)

remove_back : (p : Point) (a n : ℕ) → IsNumber a → IsNumber n → request_of (122 ∷ point_digit p ∷ 44 ∷ pair_text a n) ≡ Remove p a n
unfolding request_of by_letter point_said
remove_back Software a n h i = ap (pointing false Software) (pair_back a n h i)
remove_back Hardware a n h i = ap (pointing false Hardware) (pair_back a n h i)
remove_back Write a n h i = ap (pointing false Write) (pair_back a n h i)

pub texts_read_back : TextsReadBack
unfolding request_of by_letter single_said setting_said query_said general_said verbose_said back_said selected range_said
texts_read_back NoAcknowledgements w fits is = given (codes "QStartNoAckMode") w NoAcknowledgements refl is
texts_read_back Extended w fits is = given (codes "!") w Extended refl is
texts_read_back Reason w fits is = given (codes "?") w Reason refl is
texts_read_back (SelectForRegisters t) w fits is = given (codes "Hg" ++ thread_text t) w (SelectForRegisters t) (ap (selecting true) (thread_back t fits)) is
texts_read_back (SelectForRunning t) w fits is = given (codes "Hc" ++ thread_text t) w (SelectForRunning t) (ap (selecting false) (thread_back t fits)) is
texts_read_back (Description o n) w fits is = given (codes "qXfer:features:read:target.xml:" ++ pair_text o n) w (Description o n) (ap range_of (pair_back o n fits.0 fits.1)) is
texts_read_back Registers w fits is = given (codes "g") w Registers refl is
texts_read_back (Register n) w fits is = given (codes "p" ++ number_text n) w (Register n) (ap register_of (reads_numbers n fits)) is
texts_read_back (Memory a n) w fits is = given (codes "m" ++ pair_text a n) w (Memory a n) (ap memory_of (pair_back a n fits.0 fits.1)) is
texts_read_back ResumeWords w fits is = given (codes "vCont?") w ResumeWords refl is
texts_read_back Continue w fits is = given (codes "c") w Continue refl is
texts_read_back Step w fits is = given (codes "s") w Step refl is
texts_read_back BackContinue w fits is = given (codes "bc") w BackContinue refl is
texts_read_back BackStep w fits is = given (codes "bs") w BackStep refl is
texts_read_back (Insert p a n) w fits is = given (90 ∷ point_digit p ∷ 44 ∷ pair_text a n) w (Insert p a n) (insert_back p a n fits.0 fits.1) is
texts_read_back (Remove p a n) w fits is = given (122 ∷ point_digit p ∷ 44 ∷ pair_text a n) w (Remove p a n) (remove_back p a n fits.0 fits.1) is
texts_read_back FirstThreads w fits is = given (codes "qfThreadInfo") w FirstThreads refl is
texts_read_back MoreThreads w fits is = given (codes "qsThreadInfo") w MoreThreads refl is
texts_read_back CurrentThread w fits is = given (codes "qC") w CurrentThread refl is
texts_read_back (IsAlive t) w fits is = given (codes "T" ++ thread_text t) w (IsAlive t) (ap alive_of (thread_back t fits)) is
texts_read_back (Supported m) w fits is = none w (Supported m) is
texts_read_back (Resume a b) w fits is = none w (Resume a b) is
texts_read_back (IsAttached i) w fits is = given (codes "qAttached:" ++ id_text i) w (IsAttached i) (ap of_process (id_back i fits)) is
texts_read_back (Attach i) w fits is = given (codes "vAttach;" ++ id_text i) w (Attach i) (ap attaching (id_back i fits)) is
texts_read_back Monitor w fits is = none w Monitor is
texts_read_back (Detach i) w fits is = none w (Detach i) is
texts_read_back (Kill i) w fits is = none w (Kill i) is
texts_read_back Change w fits is = none w Change is
texts_read_back Unknown w fits is = none w Unknown is
