use Rattle.std.proofs.Common.{◌+◌, slice_index, refl}
use Rattle.mix_bits.specs.Addresses.{onward}
use Rattle.m68_ea.specs.Places.{step_of, with_address}
use Rattle.m68_ea.proofs.Back.{address_back}
use Rattle.m68_ea.proofs.UsualModes.{at_register, displaced, downward, leaves, looks, takes, upward}
use Rattle.m68_ea.proofs.usual.source_in_memory.Goals as goal

pub returns-in-2-clause-is : goal.returns-in-2-clause-is
returns-in-2-clause-is c =
    let r = c.args.regs.now in
    let m = c.args.ram.now in
    let n = c.args.lower in
    let s = c.args.size in
    let first = c.args.next.now in
    let mode = c.args.mode in
    looks r m first s mode n (slice_index r.a n) c.peek.result (at_register r m first s mode n c.in-2.is) c.peek.ensures

pub returns-in_ok-value-in-3-clause-is : goal.returns-in_ok-value-in-3-clause-is
returns-in_ok-value-in-3-clause-is c =
    let r = c.args.regs.now in
    let m = c.args.ram.now in
    let n = c.args.lower in
    let s = c.args.size in
    let first = c.args.next.now in
    let mode = c.args.mode in
    takes r (with_address r n c.onward.result) m first first s mode n (slice_index r.a n) c.in_ok-value-in-3.value (upward r m first s mode n c.step.result c.onward.result c.in-3.is c.step.ensures c.onward.ensures) (record { d = refl; pc = refl; ccr = refl }) c.in_ok-value-in-3.ensures

pub returns-in_err-value-in-3-clause-is : goal.returns-in_err-value-in-3-clause-is
returns-in_err-value-in-3-clause-is c =
    let r = c.args.regs.now in
    let m = c.args.ram.now in
    let n = c.args.lower in
    let s = c.args.size in
    let first = c.args.next.now in
    let mode = c.args.mode in
    leaves r (with_address r n (onward (slice_index r.a n) (step_of n s))) m first first s mode n (slice_index r.a n) c.from_residual.result c.from_residual.ensures (upward r m first s mode n (step_of n s) (onward (slice_index r.a n) (step_of n s)) c.in-3.is refl refl) c.in_err-value-in-3.ensures

pub returns-in_ok-value-in-4-clause-is : goal.returns-in_ok-value-in-4-clause-is
returns-in_ok-value-in-4-clause-is c =
    let r = c.args.regs.now in
    let m = c.args.ram.now in
    let n = c.args.lower in
    let s = c.args.size in
    let first = c.args.next.now in
    let mode = c.args.mode in
    takes r (with_address r n c.backward-at.result) m first first s mode n c.backward-at.result c.in_ok-value-in-4.value (downward r m first s mode n c.step-in-4.result c.backward-at.result c.in-4.is c.step-in-4.ensures c.backward-at.ensures) (record { d = refl; pc = refl; ccr = refl }) c.in_ok-value-in-4.ensures

pub returns-in_err-value-in-4-clause-is : goal.returns-in_err-value-in-4-clause-is
returns-in_err-value-in-4-clause-is c =
    let r = c.args.regs.now in
    let m = c.args.ram.now in
    let n = c.args.lower in
    let s = c.args.size in
    let first = c.args.next.now in
    let mode = c.args.mode in
    leaves r (with_address r n c.backward-at.result) m first first s mode n c.backward-at.result c.from_residual-in_err-value-in-4.result c.from_residual-in_err-value-in-4.ensures (downward r m first s mode n c.step-in-4.result c.backward-at.result c.in-4.is c.step-in-4.ensures c.backward-at.ensures) c.in_err-value-in-4.ensures

pub returns-in_ok-value-in-5-clause-is : goal.returns-in_ok-value-in-5-clause-is
returns-in_ok-value-in-5-clause-is c =
    let r = c.args.regs.now in
    let m = c.args.ram.now in
    let n = c.args.lower in
    let s = c.args.size in
    let first = c.args.next.now in
    let mode = c.args.mode in
    takes r r m first (first + 1) s mode n c.onward-at.result c.in_ok-value-in-5.value (displaced r m first s mode n c.extended_word.result c.onward-at.result c.in-5.is c.extended_word.ensures c.onward-at.ensures) (record { d = refl; pc = refl; ccr = refl }) c.in_ok-value-in-5.ensures

pub returns-in_err-value-in-5-clause-is : goal.returns-in_err-value-in-5-clause-is
returns-in_err-value-in-5-clause-is c =
    let r = c.args.regs.now in
    let m = c.args.ram.now in
    let n = c.args.lower in
    let s = c.args.size in
    let first = c.args.next.now in
    let mode = c.args.mode in
    leaves r r m first (first + 1) s mode n c.onward-at.result c.from_residual-in_err-value-in-5.result c.from_residual-in_err-value-in-5.ensures (displaced r m first s mode n c.extended_word.result c.onward-at.result c.in-5.is c.extended_word.ensures c.onward-at.ensures) c.in_err-value-in-5.ensures

pub returns-in_ok-value-in-3-clause-back : goal.returns-in_ok-value-in-3-clause-back
returns-in_ok-value-in-3-clause-back c = address_back c.args.regs.now c.args.lower _

pub returns-in_ok-value-in-4-clause-back : goal.returns-in_ok-value-in-4-clause-back
returns-in_ok-value-in-4-clause-back c = address_back c.args.regs.now c.args.lower _
