use Rattle.std.proofs.Common.{◌≡◌, ◌∷◌, List, length, ap, sym, subst, ◌∙◌, arith}
use Rattle.std.specs.Prelude.{All}
use Rattle.mix_debug.specs.declared.past.Past.{Past}
use Rattle.mix_debug.specs.WrittenBack.{undone}
use Rattle.mix_debug.specs.Entries.{Entry, IsInside}
use Rattle.mix_debug.specs.inner.Entries.{newest}
use Rattle.mix_debug.specs.Pasts.{entries_in}
use Rattle.mix_debug.proofs.Holding.{length-held, newest-is, no-number}
use Rattle.mix_debug.proofs.past.Past.take.Goals as goal

pub unreachable-requires : goal.unreachable-requires
unreachable-requires c =
    let held : length c.trim.new.self.heads.items ≡ length (entries_in c.trim.new.self) = length-held c.trim.new.self c.trim.ensures.past c.trim.ensures.trimmed in
    let same : length (entries_in c.trim.new.self) ≡ length (entries_in c.args.self.now) = ap length c.trim.ensures.entries in
    let none = no-number c.trim.new.self.heads.items 0 (sym c.pop_front.ensures.value ∙ c.in-None.is) in
    omega (arith, held, same, none, c.requires.some)

pub undo_runs-requires-clause-few : goal.undo_runs-requires-clause-few
undo_runs-requires-clause-few c = (newest-is c.trim.new.self c.in-Some.head c.trim.ensures.past c.trim.ensures.trimmed (sym c.pop_front.ensures.value ∙ c.in-Some.is)).few

pub undo_runs-requires-clause-whole : goal.undo_runs-requires-clause-whole
undo_runs-requires-clause-whole c = (newest-is c.trim.new.self c.in-Some.head c.trim.ensures.past c.trim.ensures.trimmed (sym c.pop_front.ensures.value ∙ c.in-Some.is)).whole

pub undo_runs-requires-clause-inside : goal.undo_runs-requires-clause-inside
undo_runs-requires-clause-inside c =
    let it = newest-is c.trim.new.self c.in-Some.head c.trim.ensures.past c.trim.ensures.trimmed (sym c.pop_front.ensures.value ∙ c.in-Some.is) in
    subst (All (IsInside (length c.args.ram.now.bytes))) (ap newest (sym c.trim.ensures.entries) ∙ sym it.runs_are) c.requires.inside

pub returns-clause-past : goal.returns-clause-past
returns-clause-past c =
    let it = newest-is c.trim.new.self c.in-Some.head c.trim.ensures.past c.trim.ensures.trimmed (sym c.pop_front.ensures.value ∙ c.in-Some.is) in
    let q : Past = record { ready = c.trim.new.self.ready; heads = c.pop_front.new.self; spans = c.undo_runs.new.spans; olds = c.undo_runs.new.olds; trimmed = c.trim.new.self.trimmed } in
    let left = it.past q c.pop_front.ensures.items c.undo_runs.ensures.spans c.undo_runs.ensures.olds in
    left.past

pub returns-clause-entries : goal.returns-clause-entries
returns-clause-entries c =
    let it = newest-is c.trim.new.self c.in-Some.head c.trim.ensures.past c.trim.ensures.trimmed (sym c.pop_front.ensures.value ∙ c.in-Some.is) in
    let q : Past = record { ready = c.trim.new.self.ready; heads = c.pop_front.new.self; spans = c.undo_runs.new.spans; olds = c.undo_runs.new.olds; trimmed = c.trim.new.self.trimmed } in
    let left = it.past q c.pop_front.ensures.items c.undo_runs.ensures.spans c.undo_runs.ensures.olds in
    let before : List Entry = entries_in c.args.self.now in
    sym c.trim.ensures.entries ∙ it.entries_are ∙ ap (λ es. record { head = c.in-Some.head; runs = newest es } ∷ it.rest) c.trim.ensures.entries
    ∙ ap (λ es. record { head = c.in-Some.head; runs = newest before } ∷ es) (sym left.entries_are)

pub returns-clause-ram : goal.returns-clause-ram
returns-clause-ram c =
    let it = newest-is c.trim.new.self c.in-Some.head c.trim.ensures.past c.trim.ensures.trimmed (sym c.pop_front.ensures.value ∙ c.in-Some.is) in
    c.undo_runs.ensures.ram ∙ ap (λ rs. record { bytes = undone rs c.args.ram.now.bytes; marks = c.args.ram.now.marks }) (it.runs_are ∙ ap newest c.trim.ensures.entries)
