-- The host function of an import stands at its own vector.
use Rattle.std.proofs.Common.{◌≡◌, ◌++◌, ℕ, Option, OnOk, sym, subst}
use Rattle.look_text.specs.Containers.{host_line, host_text}
use Rattle.look_text.proofs.container.add_host.Goals as goal

pub returns-in-Some : goal.returns-in-Some
returns-in-Some c =
    subst (λ (index : Option ℕ). OnOk c.add_function.result (c.add_function.new.text.items ≡ c.args.text.now.items ++ host_text index c.args.weak)) (sym c.in-Some.is)
    (subst (λ (vector : ℕ). OnOk c.add_function.result (c.add_function.new.text.items ≡ c.args.text.now.items ++ host_line c.in-Some.k vector)) c.host_vector.ensures
    c.add_function.ensures)
