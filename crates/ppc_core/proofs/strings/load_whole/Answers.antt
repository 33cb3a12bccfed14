use Rattle.std.proofs.Common.{◌≡◌, ◌+◌, ◌*◌, ◌≤◌, ◌%◌, ◌∙◌, ap, subst, arith, length, Ok}
use Rattle.std.proofs.lemmas.List.{length-set}
use Rattle.std.specs.Prelude.{slice_set}
use Rattle.mix_bits.specs.Addresses.{onward}
use Rattle.big_memory.specs.Numbers.{long_at}
use Rattle.ppc_integer.specs.Strings.{in_order, load_byte}
use Rattle.ppc_core.proofs.Order.{order-zero}
use Rattle.ppc_core.proofs.Words.{word-inside, word-loaded}
use Rattle.ppc_core.proofs.strings.load_whole.Goals as goal

pub loop-j-init : goal.loop-j-init
loop-j-init c = record { count = c.told-gpr; all = order-zero (load_byte c.args.ram.now c.args.at c.args.first) c.args.gpr.now }

pub read_long-requires : goal.read_long-requires
read_long-requires c =
    let m = c.args.ram.now in
    let inside : onward c.args.at (4 * c.loop-j.j) + 4 ≤ length m.bytes = word-inside m c.args.at (4 * c.args.count) (4 * c.loop-j.j) c.meets_invariant.ensures c.requires.there (omega arith) in
    omega (arith, inside, c.onward.ensures)

pub loop-j-preserved : goal.loop-j-preserved
loop-j-preserved c =
    let m = c.args.ram.now in
    let j = c.loop-j.j in
    let left = c.loop-j.gpr in
    let value : c.read_long.result ≡ long_at (onward c.args.at (4 * j)) m.bytes = c.read_long.ensures ∙ ap (λ a. long_at a m.bytes) c.onward.ensures in
    record {
      count = length-set left ((c.args.first + j) % 32) c.read_long.result ∙ c.loop-j.invariant.count;
      all = word-loaded m c.args.at c.args.first c.args.gpr.now left _ j (4 * c.args.count) c.meets_invariant.ensures c.requires.there (omega arith) c.loop-j.invariant.count
          c.loop-j.invariant.all (ap (λ v. slice_set left ((c.args.first + j) % 32) v) value);
    }

pub returns : goal.returns
returns c =
    let same : c.loop-j.j ≡ c.args.count = omega arith in
    subst (λ n. in_order (load_byte c.args.ram.now c.args.at c.args.first) c.args.gpr.now (4 * n) ≡ Ok c.loop-j.gpr) same c.loop-j.invariant.all
