use Rattle.std.proofs.Common.{◌≡◌, ℕ, below_more, Ok, sym, ◌∙◌}
use Rattle.mix_bits.specs.Addresses.{onward}
use Rattle.mix_bits.specs.declared.size.Size.TheVariants.{One}
use Rattle.big_memory.specs.Memory.{loaded}
use Rattle.ppc_core.proofs.Whole.{bytes_in}
use Rattle.ppc_core.proofs.strings.test_bytes.Goals as goal

pub returns-then-has : goal.returns-then-has
returns-then-has c = bytes_in c.args.ram.now c.args.at c.args.length c.meets_invariant.ensures (sym c.has.ensures.is ∙ c.if-has.true)

pub loop-k-preserved : goal.loop-k-preserved
loop-k-preserved c =
    let here : loaded c.args.ram.now (onward c.args.at c.loop-k.k) One ≡ Ok c.in_ok-load_byte.field-0 = cc (c.in_ok-load_byte.ensures.is, c.onward.ensures) in
    below_more (λ k. (v : ℕ) × (loaded c.args.ram.now (onward c.args.at k) One ≡ Ok v)) c.loop-k.k c.loop-k.invariant (c.in_ok-load_byte.field-0, here)
