use Rattle.std.proofs.Common.{◌≡◌, List, ℕ, ◌++◌, subst, sym, ◌∙◌}
use Rattle.std.specs.Prelude.{OnOk}
use Rattle.switch_frame.proofs.Beside.{view_is_memory}
use Rattle.switch_frame.specs.Chain.{records}
use Rattle.gdb_answers.specs.Answers.{memory_text}
use Rattle.gdb_answers.proofs.answers.append_seen.Goals as goal

pub returns : goal.returns
returns c =
    subst (λ (bytes : List ℕ). OnOk c.append_memory.result (c.append_memory.new.buffer.items ≡ c.args.buffer.now.items ++ memory_text bytes c.args.address c.args.count))
    (c.bytes.ensures.is ∙ sym (view_is_memory c.args.ram.now c.args.lo (records c.args.ram.now.bytes c.args.lo) c.requires)) c.append_memory.ensures
