-- Four pieces, one after the other.
use Rattle.std.proofs.Common.{◌≡◌, ◌++◌, ◌∷◌, [], List, ap, ◌∙◌, append_assoc}
use Rattle.byteorder.specs.Endian.{big_bytes}
use Rattle.routine_desc.proofs.making.append_record.Goals as goal

-- four pieces behind a list are their concatenation behind it
four : {X : Type 0} (xs a b c d : List X) → ((((xs ++ a) ++ b) ++ c) ++ d) ≡ xs ++ (a ++ (b ++ (c ++ d)))
four xs a b c d =
    append_assoc ((xs ++ a) ++ b) c d ∙ append_assoc (xs ++ a) b (c ++ d) ∙ append_assoc xs a (b ++ (c ++ d))

pub returns-clause-bytes : goal.returns-clause-bytes
returns-clause-bytes c =
    let zeros = 0 ∷ 0 ∷ 0 ∷ 0 ∷ 0 ∷ 0 ∷ 0 ∷ 0 ∷ [] in
    let codes = 0 ∷ c.args.isa ∷ 0 ∷ 0 ∷ [] in
    c.append-4.ensures.is
    ∙ ap (λ xs. xs ++ zeros) (c.append-3.ensures.is ∙ ap (λ ys. c.append-2.new.list.items ++ ys) c.to_be_bytes-2.ensures
    ∙ ap (λ xs. xs ++ big_bytes 4 c.args.proc) (c.append-2.ensures.is
    ∙ ap (λ xs. xs ++ codes) (c.append.ensures.is ∙ ap (λ ys. c.args.image.now.items ++ ys) c.to_be_bytes.ensures)))
    ∙ four c.args.image.now.items (big_bytes 4 c.args.info) codes (big_bytes 4 c.args.proc) zeros
