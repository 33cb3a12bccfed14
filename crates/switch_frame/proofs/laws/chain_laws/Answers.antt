use Rattle.switch_frame.proofs.Found.{whole_chains_pass}
use Rattle.switch_frame.proofs.Linked.{reads_back, reads_outer, begins_empty, keeps_length, top_is_long}
use Rattle.switch_frame.proofs.Beside.{view_is_memory}
use Rattle.switch_frame.proofs.Guards.{guard_is_frames, stores_beside}
use Rattle.switch_frame.proofs.Seen.{low_is_memory, seen_is_memory}
use Rattle.switch_frame.proofs.Ranges.{free_keeps_chain, places_are_free, refusals_are_ranges}
use Rattle.switch_frame.proofs.laws.chain_laws.Goals as goal

pub returns-clause-reads_back : goal.returns-clause-reads_back
returns-clause-reads_back c = reads_back

pub returns-clause-reads_outer : goal.returns-clause-reads_outer
returns-clause-reads_outer c = reads_outer

pub returns-clause-begins : goal.returns-clause-begins
returns-clause-begins c = begins_empty

pub returns-clause-views : goal.returns-clause-views
returns-clause-views c = view_is_memory

pub returns-clause-length : goal.returns-clause-length
returns-clause-length c = keeps_length

pub returns-clause-stores : goal.returns-clause-stores
returns-clause-stores c = stores_beside

pub returns-clause-guard : goal.returns-clause-guard
returns-clause-guard c = guard_is_frames

pub returns-clause-refusals : goal.returns-clause-refusals
returns-clause-refusals c = refusals_are_ranges

pub returns-clause-free_places : goal.returns-clause-free_places
returns-clause-free_places c = places_are_free

pub returns-clause-seen : goal.returns-clause-seen
returns-clause-seen c = seen_is_memory

pub returns-clause-keeps : goal.returns-clause-keeps
returns-clause-keeps c = free_keeps_chain

pub returns-clause-low : goal.returns-clause-low
returns-clause-low c = low_is_memory

pub returns-clause-top : goal.returns-clause-top
returns-clause-top c = top_is_long

pub returns-clause-whole : goal.returns-clause-whole
returns-clause-whole c = whole_chains_pass
