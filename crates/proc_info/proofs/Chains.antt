-- Values appended one by one.
use Rattle.std.proofs.Common.{◌∷◌, [], Ok, Err, refl, sym, ap, append_assoc}
use Rattle.std.proofs.lemmas.List.{append-nil}
use Rattle.proc_info.specs.laws.Arguments.{BehindFront, BehindNone}

pub behind_front : {E : Type 0} → BehindFront E
behind_front xs v (Ok ys) = ap Ok (sym (append_assoc xs (v ∷ []) ys))
behind_front xs v (Err e) = refl

pub behind_none : {E : Type 0} → BehindNone E
behind_none xs = ap Ok (append-nil xs)
