use Rattle.std.proofs.Common.{◌≡◌, ◌+◌, ◌*◌, ◌/◌, ◌∙◌, arith, subst, sym, ap, None, refl}
use Rattle.mix_bits.specs.Addresses.{onward}
use Rattle.mix_bits.specs.declared.size.Size.TheVariants.{One}
use Rattle.big_memory.specs.Memory.{refusal, stored}
use Rattle.ppc_integer.specs.Strings.{string_byte}
use Rattle.ppc_core.proofs.Order.{Stored, byte-open, stored-more}
use Rattle.ppc_core.proofs.strings.store_bytes.Goals as goal

pub store_whole-requires-clause-stores : goal.store_whole-requires-clause-stores
store_whole-requires-clause-stores c = λ k below. c.requires.stores k (omega (arith, below))

pub loop-k-init : goal.loop-k-init
loop-k-init c =
    let same : 4 * (c.args.length / 4) ≡ c.args.length / 4 * 4 = omega arith in
    subst (λ n. Stored c.args.ram.now c.args.at c.args.first c.args.gpr.now n c.store_whole.new.ram) same (record { is = c.store_whole.ensures.is; free = c.store_whole.ensures.free })

pub put-requires : goal.put-requires
put-requires c = byte-open c.args.ram.now c.loop-k.ram c.args.at c.args.length c.loop-k.k c.onward.result c.requires.stores c.loop-k-test.true c.onward.ensures c.loop-k.invariant.free

pub loop-k-preserved : goal.loop-k-preserved
loop-k-preserved c =
    let m = c.args.ram.now in
    let left = c.loop-k.ram in
    let at = c.args.at in
    let gpr = c.args.gpr.now in
    let k = c.loop-k.k in
    let none : refusal left (onward at k) 1 ≡ None = byte-open m left at c.args.length k (onward at k) c.requires.stores c.loop-k-test.true refl c.loop-k.invariant.free in
    let is : c.put.new.self ≡ stored left (onward at k) One (string_byte gpr c.args.first k) =
    c.put.ensures ∙ ap (λ a. stored left a One c.string_byte.result) c.onward.ensures ∙ ap (λ v. stored left (onward at k) One v) c.string_byte.ensures in
    subst (λ n. Stored m at c.args.first gpr (k + 1) n) (sym is) (stored-more m left at c.args.first gpr k c.requires.ram none c.loop-k.invariant)

pub returns : goal.returns
returns c =
    let same : c.loop-k.k ≡ c.args.length = omega arith in
    let all : Stored c.args.ram.now c.args.at c.args.first c.args.gpr.now c.args.length c.loop-k.ram =
    subst (λ n. Stored c.args.ram.now c.args.at c.args.first c.args.gpr.now n c.loop-k.ram) same c.loop-k.invariant in
    record { is = all.is; free = all.free }
