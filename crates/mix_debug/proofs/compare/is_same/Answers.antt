use Rattle.std.proofs.Common.{◌≡◌, ℕ, ◌+◌, ◌-◌, List, take, drop, subst, arith}
use Rattle.std.specs.Bool.{OnTrue}
use Rattle.std.specs.Prelude.{Bool}
use Rattle.std.specs.Cmp.Lexicographic.{pointwise}
use Rattle.std.proofs.Common.{nat_eq}
use Rattle.std.proofs.lemmas.Bool.{OnTrue_from}
use Rattle.std.proofs.lemmas.Slice.Eq.{slice_eq-Decides}
use Rattle.std.proofs.lemmas.Bool.Decides.{Decides-eqb}
use Rattle.big_memory.specs.Lists.{part}
use Rattle.mix_debug.proofs.compare.is_same.Goals as goal

same-parts : (at n m : ℕ) (xs ys : List ℕ) (r : Bool) → m ≡ n → r ≡ pointwise nat_eq (take m (drop at xs)) (take m (drop at ys)) → OnTrue r (part at n xs ≡ part at n ys)
same-parts at n m xs ys r size is =
    OnTrue_from r (part at n xs ≡ part at n ys) (λ yes. subst (λ k. part at k xs ≡ part at k ys) size ((slice_eq-Decides Decides-eqb (take m (drop at xs)) (take m (drop at ys)) r is).0 yes))

pub returns : goal.returns
returns c = same-parts c.args.at c.args.size (c.args.at + c.args.size - c.args.at) c.args.old.now c.args.new.now c.eq.result (omega arith) c.eq.ensures
