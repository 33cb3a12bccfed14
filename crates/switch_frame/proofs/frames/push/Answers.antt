use Rattle.std.proofs.Common.{◌-◌, ◌/◌, length, replicate, true, refl, ap, ◌∙◌}
use Rattle.big_memory.specs.MemoryClauses.{with_marks}
use Rattle.switch_frame.specs.Chain.{Fits, records}
use Rattle.switch_frame.specs.RecordsClauses.{record_of}
use Rattle.switch_frame.proofs.Turns.{IsPushed, fits-place, push-is}
use Rattle.switch_frame.proofs.frames.push.Goals as goal

pushes : (c : goal.After-guard) → IsPushed c.args.ram.now c.guard.new.self c.args.held.now.lo (record_of c.args.held.now) (records c.args.ram.now.bytes c.args.top.now)
pushes c =
    let held = c.args.held.now in
    let rs = records c.args.ram.now.bytes c.args.top.now in
    let fits : Fits (length c.args.ram.now.bytes) (record_of held) rs
    = fits-place c.args.ram.now rs held c.requires.place c.write_held.ensures.held c.requires.signature c.requires.kind c.requires.called in
    push-is c.args.ram.now c.guard.new.self c.args.top.now c.args.top.now held.depth rs (record_of held) c.requires.chain c.requires.place.few fits refl c.requires.depth
    (c.guard.ensures ∙ ap (λ m. with_marks (held.lo / 16) (replicate ((held.hi - held.lo) / 16) true) m) c.write_held.ensures.bytes)

pub returns-clause-chain : goal.returns-clause-chain
returns-clause-chain c = (pushes c).chain

pub returns-clause-records : goal.returns-clause-records
returns-clause-records c = (pushes c).records_are

pub returns-clause-memory : goal.returns-clause-memory
returns-clause-memory c = (pushes c).memory

pub returns-clause-frame : goal.returns-clause-frame
returns-clause-frame c =
    let held = c.args.held.now in c.guard.ensures ∙ ap (λ m. with_marks (held.lo / 16) (replicate ((held.hi - held.lo) / 16) true) m) c.write_held.ensures.bytes
