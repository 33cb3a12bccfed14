-- A container that was read has its parts, and of one that was refused nothing is told.
use Rattle.std.proofs.Common.{◌≡◌, ◌++◌, List, ℕ, Option, OnOk, ap, sym, subst, ◌∙◌}
use Rattle.std.proofs.lemmas.List.{append-nil}
use Rattle.pef_head.specs.declared.error.PefError.{PefError}
use Rattle.look_text.specs.Containers.{container_by, container_text, parts_text}
use Rattle.look_text.specs.Maps.{container_file_text}
use Rattle.look_text.proofs.container.add_container.Goals as goal

pub returns-in-Ok : goal.returns-in-Ok
returns-in-Ok c =
    let parts = subst (λ (b : List ℕ). OnOk c.add_parts.result (c.add_parts.new.text.items ≡ c.args.text.now.items ++ parts_text b c.args.start)) c.in-Ok.ensures.same c.add_parts.ensures in
    let told = subst (λ (e : Option PefError). OnOk c.add_parts.result (c.add_parts.new.text.items ≡ c.args.text.now.items ++ container_by e c.bytes.result.now c.args.start)) c.in-Ok.ensures.refusal parts in
    let given = subst (λ (b : List ℕ). OnOk c.add_parts.result (c.add_parts.new.text.items ≡ c.args.text.now.items ++ container_text b c.args.start)) c.bytes.ensures told in
    subst (λ (f : Option (List ℕ)). OnOk c.add_parts.result (c.add_parts.new.text.items ≡ c.args.text.now.items ++ container_file_text c.args.start f)) (sym c.in-Some.is) given

pub returns-in-Err : goal.returns-in-Err
returns-in-Err c =
    let told = sym (append-nil c.args.text.now.items) ∙ ap (λ (e : Option PefError). c.args.text.now.items ++ container_by e c.bytes.result.now c.args.start) c.in-Err.ensures.refusal in
    let given = subst (λ (b : List ℕ). c.args.text.now.items ≡ c.args.text.now.items ++ container_text b c.args.start) c.bytes.ensures told in
    subst (λ (f : Option (List ℕ)). c.args.text.now.items ≡ c.args.text.now.items ++ container_file_text c.args.start f) (sym c.in-Some.is) given
