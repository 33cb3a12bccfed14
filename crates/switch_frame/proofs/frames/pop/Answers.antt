use Rattle.switch_frame.specs.Chain.{records}
use Rattle.switch_frame.proofs.Turns.{IsPopped, innermost-is, innermost-read, live-is, pop-is}
use Rattle.switch_frame.proofs.frames.pop.Goals as goal

pub read_held-held-requires-clause-within : goal.read_held-held-requires-clause-within
read_held-held-requires-clause-within c =
    (live-is c.args.ram.now c.args.top.now (records c.args.ram.now.bytes c.args.top.now) c.requires.chain.links c.requires.live).whole

pub read_held-held-requires-clause-kind : goal.read_held-held-requires-clause-kind
read_held-held-requires-clause-kind c =
    (live-is c.args.ram.now c.args.top.now (records c.args.ram.now.bytes c.args.top.now) c.requires.chain.links c.requires.live).kind

pub give_up-requires-clause-innermost : goal.give_up-requires-clause-innermost
give_up-requires-clause-innermost c =
    innermost-is (records c.args.ram.now.bytes c.args.top.now) c.read_held-held.result
    (innermost-read c.args.ram.now c.args.top.now (records c.args.ram.now.bytes c.args.top.now) c.read_held-held.result c.requires.chain.links c.requires.live c.read_held-held.ensures)

pops : (c : goal.After-give_up) → IsPopped c.read_held-held.result (records c.args.ram.now.bytes c.args.top.now) (records c.give_up.new.ram.bytes c.give_up.new.top)
pops c =
    pop-is c.args.ram.now c.args.top.now (records c.args.ram.now.bytes c.args.top.now) (records c.give_up.new.ram.bytes c.give_up.new.top) c.read_held-held.result
    c.requires.chain.links
    (innermost-read c.args.ram.now c.args.top.now (records c.args.ram.now.bytes c.args.top.now) c.read_held-held.result c.requires.chain.links c.requires.live c.read_held-held.ensures)
    c.give_up.ensures.records

pub returns-clause-records : goal.returns-clause-records
returns-clause-records c = (pops c).records_are

pub returns-clause-depth : goal.returns-clause-depth
returns-clause-depth c = (pops c).depth

pub returns-clause-kind : goal.returns-clause-kind
returns-clause-kind c = (pops c).kind

pub returns-clause-signature : goal.returns-clause-signature
returns-clause-signature c = (pops c).signature

pub returns-clause-called : goal.returns-clause-called
returns-clause-called c = (pops c).called
