-- Two pieces, one after the other.
use Rattle.std.proofs.Common.{◌++◌, ◌∷◌, [], ap, ◌∙◌, append_assoc}
use Rattle.byteorder.specs.Endian.{big_bytes}
use Rattle.routine_desc.proofs.making.append_header.Goals as goal

pub returns-clause-bytes : goal.returns-clause-bytes
returns-clause-bytes c =
    let rest = 7 ∷ 0 ∷ 0 ∷ 0 ∷ 0 ∷ 0 ∷ 0 ∷ 0 ∷ 0 ∷ c.args.last ∷ [] in
    c.append-2.ensures.is
    ∙ ap (λ xs. xs ++ rest) (c.append.ensures.is ∙ ap (λ ys. c.args.image.now.items ++ ys) c.to_be_bytes.ensures)
    ∙ append_assoc c.args.image.now.items (big_bytes 2 0xAAFE) rest
