use Rattle.std.proofs.Common.{◌+◌, slice_index, refl}
use Rattle.mix_bits.specs.Addresses.{onward}
use Rattle.m68_ea.specs.Places.{step_of, with_address}
use Rattle.m68_ea.proofs.UsualModes.{at_register, displaced, downward, puts, shut, upward, writes}
use Rattle.m68_ea.proofs.usual.usual_write.Goals as goal

pub returns-in-2-clause-is : goal.returns-in-2-clause-is
returns-in-2-clause-is c =
    let r = c.args.regs.now in
    let m = c.args.ram.now in
    let n = c.args.lower in
    let s = c.args.size in
    let first = c.args.next.now in
    let mode = c.args.mode in
    puts r m c.store_if_open.new.self first s mode n (slice_index r.a n) c.args.value c.store_if_open.result (at_register r m first s mode n c.in-2.is) c.store_if_open.ensures

pub returns-then-done-clause-is : goal.returns-then-done-clause-is
returns-then-done-clause-is c =
    let r = c.args.regs.now in
    let m = c.args.ram.now in
    let n = c.args.lower in
    let s = c.args.size in
    let first = c.args.next.now in
    let mode = c.args.mode in
    writes r (with_address r n c.onward.result) m c.store_if_open-done.new.self first first s mode n (slice_index r.a n) c.args.value c.store_if_open-done.result c.if-done.true (upward r m first s mode n c.step.result c.onward.result c.in-3.is c.step.ensures c.onward.ensures) (record { pc = refl; ccr = refl }) c.store_if_open-done.ensures

pub returns-else-done-clause-is : goal.returns-else-done-clause-is
returns-else-done-clause-is c =
    let r = c.args.regs.now in
    let m = c.args.ram.now in
    let n = c.args.lower in
    let s = c.args.size in
    let first = c.args.next.now in
    let mode = c.args.mode in
    shut r (with_address r n (onward (slice_index r.a n) (step_of n s))) m c.store_if_open-done.new.self first first s mode n (slice_index r.a n) c.args.value c.store_if_open-done.result c.if-done.false (upward r m first s mode n (step_of n s) (onward (slice_index r.a n) (step_of n s)) c.in-3.is refl refl) c.store_if_open-done.ensures

pub returns-then-done-2-clause-is : goal.returns-then-done-2-clause-is
returns-then-done-2-clause-is c =
    let r = c.args.regs.now in
    let m = c.args.ram.now in
    let n = c.args.lower in
    let s = c.args.size in
    let first = c.args.next.now in
    let mode = c.args.mode in
    writes r (with_address r n c.backward-at.result) m c.store_if_open-done-in-4.new.self first first s mode n c.backward-at.result c.args.value c.store_if_open-done-in-4.result c.if-done-2.true (downward r m first s mode n c.step-in-4.result c.backward-at.result c.in-4.is c.step-in-4.ensures c.backward-at.ensures) (record { pc = refl; ccr = refl }) c.store_if_open-done-in-4.ensures

pub returns-else-done-2-clause-is : goal.returns-else-done-2-clause-is
returns-else-done-2-clause-is c =
    let r = c.args.regs.now in
    let m = c.args.ram.now in
    let n = c.args.lower in
    let s = c.args.size in
    let first = c.args.next.now in
    let mode = c.args.mode in
    shut r (with_address r n c.backward-at.result) m c.store_if_open-done-in-4.new.self first first s mode n c.backward-at.result c.args.value c.store_if_open-done-in-4.result c.if-done-2.false (downward r m first s mode n c.step-in-4.result c.backward-at.result c.in-4.is c.step-in-4.ensures c.backward-at.ensures) c.store_if_open-done-in-4.ensures

pub returns-then-done-3-clause-is : goal.returns-then-done-3-clause-is
returns-then-done-3-clause-is c =
    let r = c.args.regs.now in
    let m = c.args.ram.now in
    let n = c.args.lower in
    let s = c.args.size in
    let first = c.args.next.now in
    let mode = c.args.mode in
    writes r r m c.store_if_open-done-in-5.new.self first (first + 1) s mode n c.onward-at.result c.args.value c.store_if_open-done-in-5.result c.if-done-3.true (displaced r m first s mode n c.extended_word.result c.onward-at.result c.in-5.is c.extended_word.ensures c.onward-at.ensures) (record { pc = refl; ccr = refl }) c.store_if_open-done-in-5.ensures

pub returns-else-done-3-clause-is : goal.returns-else-done-3-clause-is
returns-else-done-3-clause-is c =
    let r = c.args.regs.now in
    let m = c.args.ram.now in
    let n = c.args.lower in
    let s = c.args.size in
    let first = c.args.next.now in
    let mode = c.args.mode in
    shut r r m c.store_if_open-done-in-5.new.self first (first + 1) s mode n c.onward-at.result c.args.value c.store_if_open-done-in-5.result c.if-done-3.false (displaced r m first s mode n c.extended_word.result c.onward-at.result c.in-5.is c.extended_word.ensures c.onward-at.ensures) c.store_if_open-done-in-5.ensures
