-- Pieces kept one after the other.
use Rattle.std.proofs.Common.{◌≡◌, ℕ, ◌+◌, ◌≤◌, List, [], ◌++◌, length, take, Option, Some, None, Ok, Err, Bool, true, false, cond, sym, ◌∙◌, ap, subst, append_assoc, arith, length-append}
use Rattle.std.specs.Prelude.{bytes_eq}
use Rattle.std.proofs.Math.Seq.{take-append-add}
use Rattle.std.proofs.lemmas.List.{append-nil, take-append-le}
use Rattle.mix_io.specs.Kept.{share, KeepsMore}
use Rattle.mix_io.specs.laws.Kept.{NothingKept, SavesJoin, SavesFront}

share-nil : (b : Bool) (xs : List ℕ) → xs ≡ xs ++ cond b [] []
share-nil true xs = sym (append-nil xs)
share-nil false xs = sym (append-nil xs)

share-join : (b : Bool) (old xs ys : List ℕ) → (old ++ cond b xs []) ++ cond b ys [] ≡ old ++ cond b (xs ++ ys) []
share-join true old xs ys = append_assoc old xs ys
share-join false old xs ys = append-nil (old ++ [])

pub nothing-kept : NothingKept
nothing-kept None name = tt
nothing-kept (Some held) name = λ other. share-nil (bytes_eq other name) (held other)

keeps-join : (a b c : Option (List ℕ → List ℕ)) (name xs ys : List ℕ) → KeepsMore a b name xs → KeepsMore b c name ys → KeepsMore a c name (xs ++ ys)
keeps-join None None None name xs ys first second = tt
keeps-join None None (Some h) name xs ys first second = second
keeps-join None (Some g) c name xs ys first second = absurd first
keeps-join (Some f) None c name xs ys first second = absurd first
keeps-join (Some f) (Some g) None name xs ys first second = second
keeps-join (Some f) (Some g) (Some h) name xs ys first second = λ other.
    second other ∙ ap (λ before. before ++ share name ys other) (first other) ∙ share-join (bytes_eq other name) (f other) xs ys

pub saves-join : SavesJoin
saves-join a b c name xs ys (Ok done) first second = keeps-join a b c name xs ys first second
saves-join a b c name xs ys (Err failed) first (k, within, second) =
    let short : length xs + k ≤ length (xs ++ ys) = omega (arith, length-append xs ys, within) in
    (length xs + k, short, subst (λ l. KeepsMore a c name l) (sym (take-append-add xs ys k)) (keeps-join a b c name xs (take k ys) first second))

pub saves-front : SavesFront
saves-front a b name xs ys failed (k, within, saved) =
    let short : k ≤ length (xs ++ ys) = omega (arith, length-append xs ys, within) in
    (k, short, subst (λ l. KeepsMore a b name l) (sym (take-append-le k xs ys within)) saved)
