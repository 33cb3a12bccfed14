-- An import below their number is told by its names.
use Rattle.std.proofs.Common.{◌≡◌, Bool, true, IfOk, IfSome, if◌then◌else◌, sym, subst, arith, nat_lt, Some, None}
use Rattle.std.proofs.lemmas.Bool.Decides.{nat_tests}
use Rattle.pef_head.specs.Parts.{ImportParts, import_count, import_of}
use Rattle.pef_head.specs.PartsByNumber.{cut}
use Rattle.look_words.specs.Refusals.{lacking_text}
use Rattle.look_words.proofs.load_error.unresolved_in.Goals as goal

pub returns : goal.returns
returns c =
    let there : nat_lt c.args.i (import_count c.args.pef.now) ≡ true = grind (arith, nat_tests, c.if-imports-i.false, c.imports.ensures.is) in
    subst (λ (is : Bool). IfOk c.named.result (λ text. IfSome (if is then Some (lacking_text c.args.i (cut 255 (import_of c.args.pef.now c.args.i))) else None) (λ sentence. text.items ≡ sentence)))
    (sym there) (subst (λ (import : ImportParts). IfOk c.named.result (λ text. text.items ≡ lacking_text c.args.i import)) c.import_within.ensures c.named.ensures)
