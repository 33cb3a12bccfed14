use Rattle.std.proofs.Common.{◌≡◌, ◌+◌, ◌*◌, ◌%◌, ◌∙◌, ap, arith, subst}
use Rattle.std.specs.Prelude.{slice_index}
use Rattle.mix_bits.specs.Addresses.{onward}
use Rattle.mix_bits.specs.declared.size.Size.TheVariants.{Four}
use Rattle.big_memory.specs.Memory.{stored}
use Rattle.ppc_core.proofs.Order.{Stored, stored-none}
use Rattle.ppc_core.proofs.Words.{word-open, word-stored}
use Rattle.ppc_core.proofs.strings.store_whole.Goals as goal

pub loop-j-init : goal.loop-j-init
loop-j-init c = stored-none c.args.ram.now c.args.at c.args.first c.args.gpr.now

pub put-requires : goal.put-requires
put-requires c =
    word-open c.args.ram.now c.loop-j.ram c.args.at (4 * c.args.count) (4 * c.loop-j.j) c.onward.result c.requires.ram c.requires.stores (omega arith) c.onward.ensures c.loop-j.invariant.free

pub loop-j-preserved : goal.loop-j-preserved
loop-j-preserved c =
    let m = c.args.ram.now in
    let left = c.loop-j.ram in
    let at = c.args.at in
    let gpr = c.args.gpr.now in
    let j = c.loop-j.j in
    let is : c.put.new.self ≡ stored left (onward at (4 * j)) Four (slice_index gpr ((c.args.first + j) % 32)) =
    c.put.ensures ∙ ap (λ a. stored left a Four (slice_index gpr ((c.args.first + j) % 32))) c.onward.ensures in
    word-stored m left c.put.new.self at c.args.first gpr j (4 * c.args.count) c.requires.ram c.requires.stores (omega arith) c.loop-j.invariant is

pub returns : goal.returns
returns c =
    let same : c.loop-j.j ≡ c.args.count = omega arith in
    let all : Stored c.args.ram.now c.args.at c.args.first c.args.gpr.now (4 * c.args.count) c.loop-j.ram =
    subst (λ n. Stored c.args.ram.now c.args.at c.args.first c.args.gpr.now (4 * n) c.loop-j.ram) same c.loop-j.invariant in
    record { is = all.is; free = all.free }
