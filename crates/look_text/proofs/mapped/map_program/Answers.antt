-- The text has the CODEs of all ids, and the load's answer is that of `load`.
use Rattle.std.proofs.Common.{◌*◌}
use Rattle.look_text.proofs.Mapping.{ids_are, more_text, refused_so, whole_text}
use Rattle.look_text.proofs.mapped.map_program.Goals as goal

pub returns-in_ok-add_start-in-Ok : goal.returns-in_ok-add_start-in-Ok
returns-in_ok-add_start-in-Ok c = (
  c.in-Ok.program,
  c.in-Ok.ensures.is,
  more_text _ _ _ _ c.in_ok-add_start-in-Ok.ensures (whole_text 32768 (1024 * c.args.kib) c.args.files.now _ ids_are c.in_ok-text.ensures),
)

pub returns-in_ok-refusal-in-Err : goal.returns-in_ok-refusal-in-Err
returns-in_ok-refusal-in-Err c = (
  refused_so _ _ _ c.in-Err.ensures.is c.in_ok-refusal-in-Err.ensures,
  whole_text 32768 (1024 * c.args.kib) c.args.files.now _ ids_are c.in_ok-text.ensures,
)
