use Rattle.std.proofs.Common.{◌+◌, ◌≤◌, ℕ, refl, subst, sym, length}
use Rattle.mix_load.specs.inner.Loaded.{IsImage}
use Rattle.mix_load.proofs.Wholes.{flat-image-is, flat_whole, not_too_large}
use Rattle.mix_bits.specs.Multiples.{rounded_up}
use Rattle.mix_load.proofs.flat.add_flat.Goals as goal

pub returns-clause-whole : goal.returns-clause-whole
returns-clause-whole c =
    subst IsImage (sym (flat-image-is c.args.main c.args.bytes.now c.args.image c.fix.new.self (65536 + length c.args.bytes.now) c.flat_entry.result c.fix.ensures refl c.flat_entry.ensures))
    (flat_whole c.args.main c.args.bytes.now c.args.image
    (subst (λ (f : ℕ). rounded_up 16 (65536 + length c.args.bytes.now) ≤ f) c.floor.ensures (not_too_large c.floor.result (65536 + length c.args.bytes.now) (sym c.in_ok-test_end.ensures)))
    c.requires.whole)
