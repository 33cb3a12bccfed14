-- A container that was read is refused by no rule, and what was read is its bytes.
use Rattle.std.proofs.Common.{◌≡◌, ℕ, List, Option, None, IfOk, IfSome, ap, sym, subst, ◌∙◌}
use Rattle.std.specs.Result.{result_err}
use Rattle.pef_head.specs.declared.error.PefError.{PefError}
use Rattle.look_words.specs.Refusals.{lacking_in}
use Rattle.look_words.proofs.load_error.unresolved_by.Goals as goal

pub returns-in-Ok : goal.returns-in-Ok
returns-in-Ok c =
    let Told : Option PefError → List ℕ → Type 0 =
    λ refused bytes. IfOk c.unresolved_in.result (λ text. IfSome (lacking_in refused bytes c.args.i) (λ sentence. text.items ≡ sentence)) in
    let same : c.in-Ok.pef ≡ c.args.bytes.now =
    subst (λ read. IfOk read (λ pef. pef ≡ c.args.bytes.now)) c.in-Ok.is c.read.ensures.same in
    subst (λ refused. Told refused c.args.bytes.now) (sym (ap result_err c.in-Ok.is) ∙ c.read.ensures.refusal)
    (subst (λ bytes. Told None bytes) same c.unresolved_in.ensures)
