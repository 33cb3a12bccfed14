-- Pieces one behind the other: what they leave, where each is read back, and pieces put over others.
use Rattle.std.proofs.Common.{◌≡◌, inl, inr, subst, sym, ap, ◌∙◌, refl, ℕ, zero, suc, ◌+◌, ◌<◌, ◌≤◌, Bool, true, false, nat_lt, List, length, take, arith}
use Rattle.std.proofs.lemmas.List.{same_lists, places}
use Rattle.std.proofs.lemmas.Bool.Decides.{nat_tests}
use Rattle.big_memory.specs.Lists.{part, put}
use Rattle.big_memory.proofs.Lists.{length-put, part-put_apart, part-put_same, put-put_apart, put-put_same}
use Rattle.switch_frame.specs.Pieces.{puts}
use Rattle.mix_load.specs.Pieces.{numbered_pieces}

-- a piece behind the first elements leaves them
pub take-put_behind : (n at : ℕ) (ys xs : List ℕ) → n ≤ at → at + length ys ≤ length xs → take n (put at ys xs) ≡ take n xs
take-put_behind n at ys xs behind within = same_lists _ _ (grind (arith, places)) (λ k d w. grind (arith, places))

-- pieces in bytes keep their length
pub pieces-length : (at : ℕ → ℕ) (held : ℕ → List ℕ) (n : ℕ) (xs : List ℕ)
    → ((k : ℕ) → k < n → at k + length (held k) ≤ length xs) → length (puts (numbered_pieces at held n) xs) ≡ length xs
pieces-length at held zero xs within = refl
pieces-length at held (suc n) xs within =
    let before : length (puts (numbered_pieces at held n) xs) ≡ length xs = pieces-length at held n xs (λ k lt. within k (omega arith)) in
    let room : at n + length (held n) ≤ length xs = within n (omega arith) in
    length-put (at n) (held n) (puts (numbered_pieces at held n) xs) (omega (arith, before, room)) ∙ before

-- they leave what stands in front of them
pub pieces-front : (at : ℕ → ℕ) (held : ℕ → List ℕ) (n front : ℕ) (xs : List ℕ)
    → ((k : ℕ) → k < n → at k + length (held k) ≤ length xs) → ((k : ℕ) → front ≤ at k)
    → take front (puts (numbered_pieces at held n) xs) ≡ take front xs
pieces-front at held zero front xs within behind = refl
pieces-front at held (suc n) front xs within behind =
    let before : length (puts (numbered_pieces at held n) xs) ≡ length xs = pieces-length at held n xs (λ k lt. within k (omega arith)) in
    let room : at n + length (held n) ≤ length xs = within n (omega arith) in
    take-put_behind front (at n) (held n) (puts (numbered_pieces at held n) xs) (behind n) (omega (arith, before, room))
    ∙ pieces-front at held n front xs (λ k lt. within k (omega arith)) behind

-- and what stands behind them
pub pieces-behind : (at : ℕ → ℕ) (held : ℕ → List ℕ) (n a size : ℕ) (xs : List ℕ)
    → ((k : ℕ) → k < n → at k + length (held k) ≤ length xs) → ((k : ℕ) → k < n → at k + length (held k) ≤ a)
    → part a size (puts (numbered_pieces at held n) xs) ≡ part a size xs
pieces-behind at held zero a size xs within behind = refl
pieces-behind at held (suc n) a size xs within behind =
    let before : length (puts (numbered_pieces at held n) xs) ≡ length xs = pieces-length at held n xs (λ k lt. within k (omega arith)) in
    let room : at n + length (held n) ≤ length xs = within n (omega arith) in
    part-put_apart a size (at n) (held n) (puts (numbered_pieces at held n) xs) (omega (arith, before, room)) (inr (behind n (omega arith)))
    ∙ pieces-behind at held n a size xs (λ k lt. within k (omega arith)) (λ k lt. behind k (omega arith))

-- each piece is read where it was put
pub piece-back : (at : ℕ → ℕ) (held : ℕ → List ℕ) (n k size : ℕ) (xs : List ℕ)
    → ((j : ℕ) → j < n → at j + length (held j) ≤ length xs) → ((j : ℕ) → k < j → j < n → at k + length (held k) ≤ at j)
    → k < n → length (held k) ≡ size → part (at k) size (puts (numbered_pieces at held n) xs) ≡ held k
piece-back at held zero k size xs within apart lt is = absurd (omega arith)
piece-back at held (suc n) k size xs within apart lt is = by (nat_lt k n) refl (λ h. piece-back at held n k size xs (λ j l. within j (omega arith)) (λ j a b. apart j a (omega arith)) h is)
  where
    before : length (puts (numbered_pieces at held n) xs) ≡ length xs
    before = pieces-length at held n xs (λ j l. within j (omega arith))

    room : at n + length (held n) ≤ length xs
    room = within n (omega arith)

    by : (b : Bool) → nat_lt k n ≡ b → (k < n → part (at k) size (puts (numbered_pieces at held n) xs) ≡ held k)
        → part (at k) size (puts (numbered_pieces at held (suc n)) xs) ≡ held k
    by true q earlier =
        let h : k < n = grind (arith, nat_tests) in
        part-put_apart (at k) size (at n) (held n) (puts (numbered_pieces at held n) xs) (omega (arith, before, room)) (inl (omega (arith, apart n h (omega arith), is)))
        ∙ earlier h
    by false q earlier =
        let same : n ≡ k = grind (arith, nat_tests) in
        let size_is : length (held n) ≡ size = subst (λ (m : ℕ). length (held m) ≡ size) (sym same) is in
        subst (λ (m : ℕ). part (at m) size (puts (numbered_pieces at held (suc n)) xs) ≡ held m) same
        (part-put_same (at n) size (held n) (puts (numbered_pieces at held n) xs) size_is (omega (arith, before, room, size_is)))

-- a piece behind them goes first or last
pub pieces-apart : (at : ℕ → ℕ) (held : ℕ → List ℕ) (n to : ℕ) (ys xs : List ℕ)
    → ((k : ℕ) → k < n → at k + length (held k) ≤ to) → to + length ys ≤ length xs
    → puts (numbered_pieces at held n) (put to ys xs) ≡ put to ys (puts (numbered_pieces at held n) xs)
pieces-apart at held zero to ys xs apart within = refl
pieces-apart at held (suc n) to ys xs apart within =
    let before : length (puts (numbered_pieces at held n) xs) ≡ length xs = pieces-length at held n xs (λ k lt. omega (arith, apart k (omega arith), within)) in
    ap (put (at n) (held n)) (pieces-apart at held n to ys xs (λ k lt. apart k (omega arith)) within)
    ∙ sym (put-put_apart (at n) to (held n) ys (puts (numbered_pieces at held n) xs) (apart n (omega arith)) (omega (arith, before, within)))

-- of two pieces at each place the later one stays
pub pieces-over : (at : ℕ → ℕ) (old new : ℕ → List ℕ) (n : ℕ) (xs : List ℕ)
    → ((k : ℕ) → k < n → length (new k) ≡ length (old k))
    → ((k : ℕ) → k < n → at k + length (old k) ≤ length xs) → ((j k : ℕ) → j < k → k < n → at j + length (old j) ≤ at k)
    → puts (numbered_pieces at new n) (puts (numbered_pieces at old n) xs) ≡ puts (numbered_pieces at new n) xs
pieces-over at old new zero xs same within order = refl
pieces-over at old new (suc n) xs same within order =
    let ys = puts (numbered_pieces at old n) xs in
    let ys_len : length ys ≡ length xs = pieces-length at old n xs (λ k lt. within k (omega arith)) in
    let room : at n + length (old n) ≤ length xs = within n (omega arith) in
    let len_is : length (new n) ≡ length (old n) = same n (omega arith) in
    let zs = puts (numbered_pieces at new n) ys in
    let zs_len : length zs ≡ length ys = pieces-length at new n ys (λ k lt. omega (arith, same k (omega arith), within k (omega arith), ys_len)) in
    ap (put (at n) (new n)) (pieces-apart at new n (at n) (old n) ys (λ k lt. omega (arith, same k (omega arith), order k n lt (omega arith))) (omega (arith, ys_len, room)))
    ∙ (put-put_same (at n) (old n) (new n) zs (sym len_is) (omega (arith, zs_len, ys_len, room))
    ∙ ap (put (at n) (new n)) (pieces-over at old new n xs (λ k lt. same k (omega arith)) (λ k lt. within k (omega arith)) (λ j k a b. order j k a (omega arith))))
