use Rattle.std.proofs.Common.{◌≡◌, ℕ, ◌*◌, ◌/◌, ◌∙◌, ap, subst, sym, arith, Ok, Err}
use Rattle.mix_bits.specs.Addresses.{onward}
use Rattle.mix_bits.specs.declared.size.Size.TheVariants.{One}
use Rattle.big_memory.specs.Memory.{loaded}
use Rattle.ppc_integer.specs.Strings.{in_order, load_byte}
use Rattle.ppc_core.proofs.Order.{byte-more}
use Rattle.ppc_core.proofs.strings.load_bytes.Goals as goal
use Rattle.ppc_core.proofs.strings.load_bytes.Goals.{in-Ok, in_default}

pub load_whole-requires-clause-there : goal.load_whole-requires-clause-there
load_whole-requires-clause-there c = λ k below. c.requires.there k (omega (arith, below))

pub loop-k-init : goal.loop-k-init
loop-k-init c =
    let same : 4 * (c.args.length / 4) ≡ c.args.length / 4 * 4 = omega arith in
    subst (λ n. in_order (load_byte c.args.ram.now c.args.at c.args.first) c.args.gpr.now n ≡ Ok c.load_whole.new.gpr) same c.load_whole.ensures

pub loop-k-preserved : goal.loop-k-preserved
loop-k-preserved c =
    let m = c.args.ram.now in
    let k = c.loop-k.k in
    let place : c.onward.result ≡ onward c.args.at (k) = c.onward.ensures in
    let read : c.load_byte.result ≡ loaded m (onward c.args.at (k)) One = c.load_byte.ensures.is ∙ ap (λ a. loaded m a One) place in
    elim c.match-load_byte.branch [
      | in-Ok w ↦ byte-more m c.args.at c.args.first c.args.gpr.now c.loop-k.gpr c.match-load_byte.gpr k w.in-Ok.byte c.loop-k.invariant (sym read ∙ w.in-Ok.is) (w.gpr-is ∙ w.put_string_byte.ensures)
      | in_default w ↦
          let there : (v : ℕ) × (loaded m (onward c.args.at (k)) One ≡ Ok v) = c.requires.there k (omega arith) in
          let refused : c.load_byte.result ≡ Err w.in_default.field-0 = w.in_default.is in
          let fine : loaded m (onward c.args.at (k)) One ≡ Ok there.0 = there.1 in
          absurd cc
    ]
