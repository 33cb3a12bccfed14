use Rattle.std.proofs.Common.{◌+◌, ◌%◌, arith}
use Rattle.std.proofs.lemmas.List.{length-map}
use Rattle.rsrc_fork.specs.Resources.{Resource}
use Rattle.rsrc_fork.specs.ResourcesClauses.{seen}
use Rattle.rsrc_fork.proofs.Counts.{all_types}
use Rattle.rsrc_fork.proofs.references.resources_of.Goals as goal

pub returns-clause-few : goal.returns-clause-few
returns-clause-few c =
    let entries = c.add_types.new.resources.entries in
    let all = all_types c.args.bytes.now c.in_ok-areas.areas c.in_ok-list.list ((c.word_at-count.result + 1) % 65536) (seen entries) c.in_ok-add_types.ensures in
    omega (arith, all, length-map {B = Resource} entries (λ entry. (entry.0, entry.1.now)), c.count_below.ensures, c.if-count_below-gt-REFERENCE_LIMIT.false)
