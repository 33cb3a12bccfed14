-- A machine beside the outside, as the state at a place; and that a run reaches one state only after so many steps.
use Rattle.std.proofs.Common.{◌≡◌, ℕ, ◌≤◌, Bool, List, [], ◌++◌, length, map, take, drop, is_some, Option, sym, ap, ◌∙◌, append_assoc}
use Rattle.std.proofs.Math.Seq.{drop-append_seam, take-length}
use Rattle.std.proofs.lemmas.List.{length-take-le, map-append, take-append-drop}
use Rattle.dev_rack.specs.Rack.{State as Rack}
use Rattle.dev_rack.specs.Accounts.{Accounts}
use Rattle.dev_rack.specs.declared.answers.Asked.{Asked}
use Rattle.mix_engine.specs.declared.machine.Machine.{Machine}
use Rattle.mixed_machine.specs.Exec.End.{Ended}
use Rattle.mixed_machine.specs.Exec.How.{Limited}
use Rattle.mixed_machine.specs.Machine.{flat}
use Rattle.mixed_machine.specs.State.{State}
use Rattle.toolbox.specs.Calls.{answers_since}
use Rattle.toolbox.specs.inner.Parts.{around_of}
use Rattle.gdb_steps.specs.Places.{Begin, Given, IsPlace, Place, answers_of, state_at}
use Rattle.gdb_steps.specs.inner.Steps.{AreAt}

pub around-is : (m : Machine) (input : List ℕ) (slots slots_too : List Bool) (asks asks_too : List Asked) (answers answers_too : List (Option ℕ))
    → slots ≡ slots_too → asks ≡ asks_too → answers ≡ answers_too
    → flat m.body m.active (record { input = input; slots = slots; asks = asks; answers = answers }) ≡ flat m.body m.active (record { input = input; slots = slots_too; asks = asks_too; answers = answers_too })
around-is m input slots slots_too asks asks_too answers answers_too a b c =
    ap (λ x. flat m.body m.active (record { input = input; slots = x; asks = asks; answers = answers })) a
    ∙ (ap (λ x. flat m.body m.active (record { input = input; slots = slots_too; asks = x; answers = answers })) b
    ∙ ap (λ x. flat m.body m.active (record { input = input; slots = slots_too; asks = asks_too; answers = x })) c)

pub stands-at : (g : Given) (p : Place) (rack : Rack) (answers more : List (Option ℕ)) → AreAt g p rack → answers ≡ answers_of (drop p.used.asks g.journal) more
    → flat p.machine.body p.machine.active (around_of rack (drop p.used.input g.input) answers) ≡ state_at g p more
stands-at g p rack answers more are same = around-is p.machine (drop p.used.input g.input) _ _ _ _ _ _ are.slots are.journal same

-- ---- what was asked between two places

behind : (m n : ℕ) (j new : List Asked) → m ≤ length j → take n j ≡ take m j ++ new → drop m j ≡ new ++ drop n j
behind m n j new few is =
    let whole : j ≡ take m j ++ (new ++ drop n j) = sym (take-append-drop n j) ∙ (ap (λ xs. xs ++ drop n j) is ∙ append_assoc (take m j) new (drop n j)) in
    let long : length (take m j) ≡ m = length-take-le m j few in
    ap (drop m) whole ∙ (ap (λ k. drop k (take m j ++ (new ++ drop n j))) (sym long) ∙ drop-append_seam (take m j) (new ++ drop n j))

pub since-is : (a b : Rack) (entries : List Asked) → b.journal ≡ a.journal ++ entries → answers_since a b ≡ map (λ e. e.answer) entries
since-is a b entries is =
    ap (λ j. map (λ e. e.answer) (drop (length a.journal) j)) is ∙ ap (map (λ e. e.answer)) (drop-append_seam a.journal entries)

answers-both : (xs ys : List Asked) (rest : List (Option ℕ)) → answers_of (xs ++ ys) rest ≡ map (λ e. e.answer) xs ++ answers_of ys rest
answers-both xs ys rest =
    ap (λ zs. zs ++ rest) (map-append (λ e. e.answer) xs ys) ∙ append_assoc (map (λ e. e.answer) xs) (map (λ e. e.answer) ys) rest

pub answers-between : (g : Given) (p q : Place) (old new : Rack) (more : List (Option ℕ)) → p.used.asks ≤ length g.journal → AreAt g p old → AreAt g q new → Accounts old new
    → answers_since old new ++ answers_of (drop q.used.asks g.journal) more ≡ answers_of (drop p.used.asks g.journal) more
answers-between g p q old new more few here there noted =
    let entries : List Asked = noted.entries in
    let is : take q.used.asks g.journal ≡ take p.used.asks g.journal ++ entries =
    sym there.journal ∙ (noted.noted ∙ ap (λ xs. xs ++ entries) here.journal) in
    ap (λ xs. xs ++ answers_of (drop q.used.asks g.journal) more) (since-is old new entries noted.noted)
    ∙ sym (ap (λ xs. answers_of xs more) (behind p.used.asks q.used.asks g.journal entries few is) ∙ answers-both entries (drop q.used.asks g.journal) more)

-- ---- one state only

ended-same : (s t : State) → Ended Limited s 0 ≡ Ended Limited t 0 → s ≡ t
ended-same s t e = cc

pub same-state : (b : Begin) (g : Given) (n : ℕ) (p q : Place) (more : List (Option ℕ)) → IsPlace b g n p → IsPlace b g n q → state_at g p more ≡ state_at g q more
same-state b g n p q more here there = ended-same _ _ (sym (here.leads more) ∙ there.leads more)

all-asked : (m : ℕ) (j : List Asked) → m ≤ length j → take m j ≡ j → m ≡ length j
all-asked m j few is = sym (length-take-le m j few) ∙ ap length is

-- at the furthest place the devices are those of the machine
pub at-furthest : (b : Begin) (g : Given) (n : ℕ) (p q : Place) (rack : Rack) → IsPlace b g n p → IsPlace b g n q → q.used.asks ≡ length g.journal
    → take g.slots q.used.held ≡ map is_some rack.slots → rack.journal ≡ g.journal → (p.used.asks ≡ length g.journal) × AreAt g p rack
at-furthest b g n p q rack here there asked held journal =
    let same = same-state b g n p q [] here there in
    let asks : take p.used.asks g.journal ≡ g.journal = ap (λ s. s.around.asks) same ∙ (ap (λ k. take k g.journal) asked ∙ take-length g.journal) in (
      all-asked p.used.asks g.journal here.asks asks,
      record { journal = journal ∙ sym asks; slots = sym held ∙ sym (ap (λ s. s.around.slots) same) },
    )
