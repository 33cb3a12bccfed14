-- Puts one after the other.
use Rattle.std.proofs.Common.{◌++◌, take, refl, sym, ◌∙◌, subst, append_assoc}
use Rattle.std.specs.Io.KnownBytes.{Appends}
use Rattle.std.proofs.KnownBytes.{Appends-nil, Appends-trans}
use Rattle.mix_io.specs.Counts.{Rose}
use Rattle.mix_io.specs.laws.Streams.{NothingGrows, GrowsJoin, BreaksJoin}

-- nothing was put yet
pub grows-none : NothingGrows
grows-none a = record { taken = Appends-nil a.held; calm = refl }

-- more was put
pub grows-more : GrowsJoin
grows-more a b c xs ys first second =
    record { taken = Appends-trans a.held b.held c.held xs ys first.taken second.taken; calm = second.calm ∙ first.calm }

-- a put failed after some
pub breaks-after : BreaksJoin
breaks-after a b c xs ys piece first second =
    record {
      kept = second.kept;
      within = second.within;
      taken = subst (Appends a.held c.held) (sym (append_assoc xs ys (take second.kept piece)))
          (Appends-trans a.held b.held c.held xs (ys ++ take second.kept piece) first.taken second.taken);
      rose = subst (λ n. Rose n c.faults) first.calm second.rose;
    }
