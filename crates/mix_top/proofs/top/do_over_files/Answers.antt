-- Each command ends in one of its ways.
use Rattle.mix_top.proofs.Debugging.{ends-lines}
use Rattle.mix_top.proofs.Ways.{ends-other, ends-text}
use Rattle.mix_top.proofs.top.do_over_files.Goals as goal

pub returns-in-List-clause-ends : goal.returns-in-List-clause-ends
returns-in-List-clause-ends g c = ends-other _ _ _ c.args.files.now _ _ _ c.in-List.is (c.list_files.ensures.ends _)

pub returns-in-Sample-clause-ends : goal.returns-in-Sample-clause-ends
returns-in-Sample-clause-ends g c = ends-other _ _ _ c.args.files.now _ _ _ c.in-Sample.is (c.write_sample.ensures.ends _)

pub returns-in-Assemble-clause-ends : goal.returns-in-Assemble-clause-ends
returns-in-Assemble-clause-ends g c = ends-other _ _ _ c.args.files.now _ _ _ c.in-Assemble.is (ends-text _ _ _ _ _ _ _ c.bytes_of.ensures (c.assemble_text.ensures.ends _))

pub returns-in-Debug-clause-ends : goal.returns-in-Debug-clause-ends
returns-in-Debug-clause-ends g c =
    ends-other _ _ _ c.args.files.now _ _ _ c.in-Debug.is (ends-lines c.in-Debug.job c.args.files.now.program _ _ _ _ _ c.bytes_of-in-Debug.ensures (c.debug_files.ensures.ends _))
