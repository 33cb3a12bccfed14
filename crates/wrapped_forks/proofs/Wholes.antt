-- Parts that stand behind each other give each fork back.
use Rattle.std.proofs.Common.{◌≡◌, ◌∙◌, ap, sym, refl, ℕ, ◌+◌, ◌-◌, ◌<◌, ◌≤◌, ◌==◌, Bool, true, false, nat_lt, if◌then◌else◌, List, [], ◌++◌, length, take, drop, Option, Some, None, Result, Ok, Err, append_assoc, arith, le-ltb}
use Rattle.std.specs.Prelude.{not, slice_range}
use Rattle.std.proofs.lemmas.Bool.Decides.{nat_tests}
use Rattle.std.proofs.lemmas.List.{append-nil, drop_at, length-append, take_at}
use Rattle.mix_bits.specs.Fields.{word_at, long_at}
use Rattle.mix_bits.specs.Multiples.{rounded_up}
use Rattle.wrapped_forks.specs.declared.fork.Fork.{Fork}
use Rattle.wrapped_forks.specs.declared.fork.Fork.TheVariants.{Data, Resource}
use Rattle.wrapped_forks.specs.declared.wrapping.ForkPlace.{ForkPlace}
use Rattle.wrapped_forks.specs.declared.wrapping.ForkError.{ForkError}
use Rattle.wrapped_forks.specs.declared.wrapping.ForkError.TheVariants.{Unknown, Version, Cut}
use Rattle.wrapped_forks.specs.declared.wrapping.Wrapping.{Wrapping}
use Rattle.wrapped_forks.specs.Forks.{apple_fork, apple_wrapping, at_entry, binary_data, binary_fork, by_apple, by_binary, entry_place, fork_entry, fork_of, inside, is_raw, is_version, listed_fork, raw_fork, wrapped_fork}
use Rattle.wrapped_forks.specs.laws.Wholes.{AppleGivesBack, BinaryGivesBack, GivesForks, IsAppleFile, IsBinaryFile, RawGivesBack, bytes_at, fork_bytes}

-- the piece behind a front
piece : (front part rest : List ℕ) (n m : ℕ) → length front ≡ n → length part ≡ m → slice_range (front ++ (part ++ rest)) n (n + m) ≡ part
piece front part rest n m before long =
    ap (λ (xs : List ℕ). take (n + m - n) xs) (drop_at front (part ++ rest) n before) ∙ take_at part rest (n + m - n) (omega (arith, long))

total : (file front part rest : List ℕ) → file ≡ front ++ (part ++ rest) → length file ≡ length front + (length part + length rest)
total file front part rest laid =
    ap (λ (xs : List ℕ). length xs) laid ∙ (length-append front (part ++ rest) ∙ ap (λ (n : ℕ). length front + n) (length-append part rest))

found_inside : (file front part rest : List ℕ) (wrapping : Wrapping) (fork : Fork) (start count : ℕ) → file ≡ front ++ (part ++ rest)
    → length front ≡ start → length part ≡ count → 0 < length part → bytes_at file (inside file wrapping fork start count) ≡ Some part
found_inside file front part rest wrapping fork start count laid before long some =
    let sum = total file front part rest laid in
    let there : (count == 0) ≡ false = grind (arith, nat_tests) in
    let fits : nat_lt (length file) (start + count) ≡ false = le-ltb (length file) (start + count) (omega (arith, sum, before, long)) in
    rw (there, fits) (ap (λ (xs : List ℕ). Some xs) (ap (λ (xs : List ℕ). slice_range xs start (start + count)) laid ∙ piece front part rest start count before long))

-- what is no raw fork is taken for a file that wraps one
wrapped : (file : List ℕ) (fork : Fork) → is_raw file ≡ false → 16 ≤ length file
    → fork_of file fork ≡ by_apple file fork (apple_wrapping (long_at file 0))
unfolding fork_of
wrapped file fork no_raw long =
    ap (λ (b : Bool). if b then raw_fork file fork else wrapped_fork file fork) no_raw
    ∙ ap (λ (b : Bool). if b then Err Unknown else by_apple file fork (apple_wrapping (long_at file 0))) (le-ltb (length file) 16 long)

binary_long : (file header rest : List ℕ) → file ≡ header ++ rest → length header ≡ 128 → 128 ≤ length file
binary_long file header rest laid long =
    let sum : length file ≡ length header + length rest = ap (λ (xs : List ℕ). length xs) laid ∙ length-append header rest in
    omega (arith, sum, long)

pub binary_back : BinaryGivesBack
binary_back file header second data_fork filling resource_fork rest wrapping is =
    let long = binary_long file header (second ++ (data_fork ++ (filling ++ (resource_fork ++ rest)))) is.laid is.header_long in
    let found : (fork : Fork) → fork_of file fork ≡ binary_fork file wrapping fork =
    λ fork. wrapped file fork is.no_raw (omega (arith, long)) ∙ (ap (λ (o : Option Wrapping). by_apple file fork o) is.no_apple
    ∙ ap (λ (o : Option Wrapping). by_binary file fork o) is.known) in
    let data_front : length (header ++ second) ≡ binary_data file = length-append header second ∙ omega (arith, is.header_long, is.second_long) in
    let resource_front : length (header ++ (second ++ (data_fork ++ filling))) ≡ binary_data file + rounded_up 128 (long_at file 83) =
    length-append header (second ++ (data_fork ++ filling))
    ∙ (ap (λ (n : ℕ). length header + n) (length-append second (data_fork ++ filling) ∙ ap (λ (n : ℕ). length second + n) (length-append data_fork filling))
    ∙ placed file (length header) (length second) (length data_fork) (length filling) is.header_long is.second_long is.filled is.data_named) in
    record {
      gives_data = λ some. ap (λ (r : Result ForkPlace ForkError). bytes_at file r) (found Data)
          ∙ found_inside file (header ++ second) data_fork (filling ++ (resource_fork ++ rest)) wrapping Data _ _
          (is.laid ∙ sym (append_assoc header second (data_fork ++ (filling ++ (resource_fork ++ rest))))) data_front is.data_named some;
      gives_resource = λ some. ap (λ (r : Result ForkPlace ForkError). bytes_at file r) (found Resource)
          ∙ found_inside file (header ++ (second ++ (data_fork ++ filling))) resource_fork rest wrapping Resource _ _
          (is.laid ∙ regrouped header second data_fork filling (resource_fork ++ rest)) resource_front is.resource_named some;
    }
  where
    placed : (file : List ℕ) (h s d f : ℕ) → h ≡ 128 → s ≡ rounded_up 128 (word_at file 120) → d + f ≡ rounded_up 128 d → d ≡ long_at file 83
        → h + (s + (d + f)) ≡ binary_data file + rounded_up 128 (long_at file 83)
    placed file h s d f hl sl filled named =
        let at : rounded_up 128 d ≡ rounded_up 128 (long_at file 83) = ap (λ (n : ℕ). rounded_up 128 n) named in
        omega (arith, hl, sl, filled, at)

    regrouped : (h s d f r : List ℕ) → h ++ (s ++ (d ++ (f ++ r))) ≡ (h ++ (s ++ (d ++ f))) ++ r
    regrouped h s d f r =
        sym (append_assoc h (s ++ (d ++ f)) r ∙ ap (λ (xs : List ℕ). h ++ xs) (append_assoc s (d ++ f) r ∙ ap (λ (xs : List ℕ). s ++ xs) (append_assoc d f r)))

pub apple_back : AppleGivesBack
apple_back file front named rest fork wrapping k is some =
    let listed = is.listed in
    let long : 26 ≤ length file = omega (arith, listed) in
    let found : fork_of file fork ≡ inside file wrapping fork (long_at file (entry_place k + 4)) (long_at file (entry_place k + 8)) =
    wrapped file fork is.no_raw (omega (arith, long)) ∙ (ap (λ (o : Option Wrapping). by_apple file fork o) is.known
    ∙ (ap (λ (b : Bool). if b then Err (Cut wrapping) else (if not (is_version (long_at file 4)) then Err (Version wrapping)
    else (if nat_lt (length file) (entry_place (word_at file 24)) then Err (Cut wrapping) else listed_fork file wrapping fork (word_at file 24))))
    (le-ltb (length file) 26 long)
    ∙ (ap (λ (b : Bool). if not b then Err (Version wrapping)
    else (if nat_lt (length file) (entry_place (word_at file 24)) then Err (Cut wrapping) else listed_fork file wrapping fork (word_at file 24))) is.version
    ∙ (ap (λ (b : Bool). if b then Err (Cut wrapping) else listed_fork file wrapping fork (word_at file 24))
    (le-ltb (length file) (entry_place (word_at file 24)) listed)
    ∙ ap (λ (o : Option ℕ). at_entry file wrapping fork o) is.first)))) in
    ap (λ (r : Result ForkPlace ForkError). bytes_at file r) found
    ∙ found_inside file front named rest wrapping fork _ _ is.laid is.placed is.counted some

-- all of a file
whole : (xs : List ℕ) → slice_range xs 0 (0 + length xs) ≡ xs
whole xs = ap (λ (ys : List ℕ). slice_range ys 0 (0 + length xs)) (sym (append-nil xs)) ∙ piece [] xs [] 0 (length xs) refl refl

pub raw_back : RawGivesBack
unfolding fork_of
raw_back file is =
    ap (λ (b : Bool). bytes_at file (if b then raw_fork file Resource else wrapped_fork file Resource)) is
    ∙ ap (λ (xs : List ℕ). Some xs) (whole file)
