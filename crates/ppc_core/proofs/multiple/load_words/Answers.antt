use Rattle.std.proofs.Common.{◌≡◌, ℕ, ◌∙◌, ◌*◌, ap, sym, arith, Ok, Err}
use Rattle.mix_bits.specs.Addresses.{onward}
use Rattle.mix_bits.specs.declared.size.Size.TheVariants.{Four}
use Rattle.big_memory.specs.Memory.{loaded}
use Rattle.ppc_integer.specs.Strings.{load_word}
use Rattle.ppc_core.proofs.Order.{order-zero, word-more}
use Rattle.ppc_core.proofs.multiple.load_words.Goals as goal
use Rattle.ppc_core.proofs.multiple.load_words.Goals.{in-Ok, in_default}

pub loop-k-init : goal.loop-k-init
loop-k-init c = order-zero (load_word c.args.ram.now c.args.at c.args.first) c.args.gpr.now

pub loop-k-preserved : goal.loop-k-preserved
loop-k-preserved c =
    let m = c.args.ram.now in
    let k = c.loop-k.k in
    let place : c.onward.result ≡ onward c.args.at (4 * k) = c.onward.ensures in
    let read : c.load_long.result ≡ loaded m (onward c.args.at (4 * k)) Four = c.load_long.ensures ∙ ap (λ a. loaded m a Four) place in
    elim c.match-load_long.branch [
      | in-Ok w ↦ word-more m c.args.at c.args.first c.args.gpr.now c.loop-k.gpr c.match-load_long.gpr k w.in-Ok.v c.loop-k.invariant (sym read ∙ w.in-Ok.is) w.gpr-is
      | in_default w ↦
          let there : (v : ℕ) × (loaded m (onward c.args.at (4 * k)) Four ≡ Ok v) = c.requires.there k (omega arith) in
          let refused : c.load_long.result ≡ Err w.in_default.field-0 = w.in_default.is in
          let fine : loaded m (onward c.args.at (4 * k)) Four ≡ Ok there.0 = there.1 in
          absurd cc
    ]
