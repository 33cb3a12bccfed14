use Rattle.std.proofs.Common.{◌≡◌, ◌*◌, ℕ, below_more, Ok}
use Rattle.mix_bits.specs.Addresses.{onward}
use Rattle.mix_bits.specs.declared.size.Size.TheVariants.{Four}
use Rattle.big_memory.specs.Memory.{loaded}
use Rattle.ppc_core.proofs.multiple.test_words.Goals as goal

pub loop-k-preserved : goal.loop-k-preserved
loop-k-preserved c =
    let here : loaded c.args.ram.now (onward c.args.at (4 * c.loop-k.k)) Four ≡ Ok c.in_ok-load_long.field-0 = cc (c.in_ok-load_long.ensures, c.onward.ensures) in
    below_more (λ k. (v : ℕ) × (loaded c.args.ram.now (onward c.args.at (4 * k)) Four ≡ Ok v)) c.loop-k.k c.loop-k.invariant (c.in_ok-load_long.field-0, here)
