-- The sentence about a file's import is that about the bytes of the file.
use Rattle.std.proofs.Common.{◌≡◌, List, ℕ, Option, IfOk, IfSome, sym, subst}
use Rattle.pef_head.specs.Refusals.{refusal_of}
use Rattle.look_words.specs.Refusals.{lacking_by, lacking_in}
use Rattle.look_words.proofs.load_error.unresolved.Goals as goal

pub returns-in-Some : goal.returns-in-Some
returns-in-Some c =
    let given = subst (λ (b : List ℕ). IfOk c.unresolved_by.result (λ text. IfSome (lacking_in (refusal_of b) b c.args.i) (λ sentence. text.items ≡ sentence))) c.bytes.ensures c.unresolved_by.ensures in
    subst (λ (f : Option (List ℕ)). IfOk c.unresolved_by.result (λ text. IfSome (lacking_by f c.args.i) (λ sentence. text.items ≡ sentence))) (sym c.in-Some.is) given
