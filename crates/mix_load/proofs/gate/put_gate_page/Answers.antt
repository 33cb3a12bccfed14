-- One long after the other.
use Rattle.std.proofs.Common.{ℕ, ap, ◌∙◌}
use Rattle.byteorder.specs.Endian.{big_bytes}
use Rattle.big_memory.specs.Memory.{Memory, with_bytes}
use Rattle.switch_frame.specs.Program.{told}
use Rattle.mix_load.proofs.gate.put_gate_page.Goals as goal

abbrev longed : ℕ → ℕ → Memory → Memory
longed a v m = with_bytes a (big_bytes 4 v) m

pub returns-clause-memory : goal.returns-clause-memory
unfolding told
returns-clause-memory c =
    c.fix_long-4.ensures.bytes ∙ ap (longed 0x102C c.args.len) (c.fix_long-3.ensures.bytes
    ∙ ap (longed 0x1028 c.args.a5) (c.fix_long-2.ensures.bytes ∙ ap (longed 0x1024 c.args.vector) (c.fix_long.ensures.bytes
    ∙ ap (longed 0x1020 c.args.entry) c.put_vectors.ensures.memory)))
