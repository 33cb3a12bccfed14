-- One line after the other.
use Rattle.std.proofs.Common.{◌+◌, ◌-◌, arith}
use Rattle.mix_text.specs.Listing.{listed_as}
use Rattle.mix_text.proofs.ListedLines.{listing-none, listing-zero, on-err, way-breaks, way-ends, way-on}
use Rattle.mix_text.proofs.Words.{not-written, written}
use Rattle.mix_text.proofs.listing.list.Goals as goal

pub returns-in_err-put_line-in-Some-clause-part : goal.returns-in_err-put_line-in-Some-clause-part
returns-in_err-put_line-in-Some-clause-part g c =
    on-err c.from_residual.result
    (way-breaks _ _ _ c.args.count c.args.set c.args.ram.now c.args.at (c.args.count - c.lines._k) (c.args.count - (c.lines._k + 1)) c.lines.next
    (listed_as c.write_instruction.new.text c.in-Some.bytes) (omega arith) (written _ _ _ c.in-Some.ensures.is) c.lines.invariant c.in_err-put_line-in-Some.ensures.part)

pub returns-in-None-clause-whole : goal.returns-in-None-clause-whole
returns-in-None-clause-whole g c =
    way-ends _ _ c.args.count c.args.set c.args.ram.now c.args.at (c.args.count - c.lines._k) c.lines.next
    (listing-none _ _ _ _ (not-written _ _ c.in-None.ensures.is)) c.lines.invariant

pub lines-preserved : goal.lines-preserved
lines-preserved g c =
    way-on _ _ _ c.args.count c.args.set c.args.ram.now c.args.at (c.args.count - c.lines._k) (c.args.count - (c.lines._k + 1)) c.lines.next _
    (listed_as c.write_instruction.new.text c.in-Some.bytes) (omega arith) c.onward-next.ensures (written _ _ _ c.in-Some.ensures.is) c.lines.invariant
    c.in_ok-put_line-in-Some.ensures.whole

pub returns-clause-whole : goal.returns-clause-whole
returns-clause-whole g c =
    way-ends _ _ c.args.count c.args.set c.args.ram.now c.args.at (c.args.count - c.lines._k) c.lines.next (listing-zero _ _ _ _ (omega arith)) c.lines.invariant
