-- A text whose put failed.
use Rattle.std.proofs.Common.{◌≡◌, ℕ, inr, List, [], refl, sym, subst, append-nil}
use Rattle.mix_io.specs.Streams.{Output, Breaks}
use Rattle.mix_top.specs.World.{PutsText}

pub puts_broke : (old new : Output) (text piece : List ℕ) → piece ≡ text → Breaks old new [] piece → PutsText old new text 0 6
puts_broke old new text piece same broke =
    inr (
      record {
        before = [];
        line = text;
        rest = [];
        order = sym (append-nil text);
        breaks = subst (λ t. Breaks old new [] t) same broke;
      },
      refl,
    )
