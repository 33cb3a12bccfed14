-- One packed byte more, behind those that were taken.
use Rattle.std.proofs.Common.{◌≡◌, ◌∙◌, ap, sym, refl, subst, ℕ, zero, suc, ◌+◌, ◌-◌, ◌<◌, ◌≤◌, ◌==◌, nat_lt, if◌then◌else◌, Bool, true, false, List, [], ◌∷◌, ◌++◌, length, drop, Some, None, Result, Ok, Err, append_assoc, add-one, arith, le-ltb}
use Rattle.std.specs.Prelude.{replicate, slice_index}
use Rattle.std.specs.List.{slice_get}
use Rattle.std.proofs.lemmas.Bool.Decides.{nat_tests}
use Rattle.std.proofs.lemmas.List.{append-nil, get_or-append_right, get_or-replicate, length-append, length-replicate}
use Rattle.std.proofs.lemmas.Option.{slice_get-get_or, slice_get_past}
use Rattle.std.proofs.Math.Seq.{drop-cons, drop-length}
use Rattle.mix_bits.specs.Results.{◌>>=◌}
use Rattle.binhex.specs.declared.error.BinHexError.{BinHexError}
use Rattle.binhex.specs.declared.error.BinHexError.TheVariants.{Run as WrongRun, Long}
use Rattle.binhex.specs.declared.runs.Run.{Run}
use Rattle.binhex.specs.Runs.{Expanding, expanded, finished, most, taken, taken_below, unmarked}
use Rattle.binhex.specs.inner.Measured.{Counts}
use Rattle.binhex.specs.inner.Spread.{equal_bytes, no_run, one_of, run_behind, spread, whole}
use Rattle.binhex.specs.inner.Steps.{IsAt, Reaches, count_with, refusal_with}
use Rattle.binhex.proofs.Steps.{failed_below}

-- bytes with a run behind them
abbrev with_run : Expanding → Run → Expanding
with_run so run = record {
  bytes = so.bytes ++ equal_bytes run;
  marked = run.is_marked;
}

pub first_at : (packed : List ℕ) → Reaches packed 0 no_run 0
first_at packed = record {
  so = record { bytes = []; marked = false };
  before = refl;
  rest = refl;
  at = record { long = refl; marks = refl; last = λ h. absurd (omega arith) };
}

long_with : (so : Expanding) (run : Run) (count : ℕ) → length so.bytes ≡ count → length (with_run so run).bytes ≡ count + run.count
long_with so run count long = length-append so.bytes (equal_bytes run) ∙ (ap (λ (n : ℕ). length so.bytes + n) (length-replicate run.count run.byte) ∙ ap (λ (n : ℕ). n + run.count) long)

-- the last byte of a run that has one
last_of_run : (bytes : List ℕ) (byte n : ℕ) → 0 < n → slice_get (bytes ++ replicate n byte) (length (bytes ++ replicate n byte) - 1) ≡ Some byte
last_of_run bytes byte n some =
    let all : length (bytes ++ replicate n byte) ≡ length bytes + n =
    length-append bytes (replicate n byte) ∙ ap (λ (m : ℕ). length bytes + m) (length-replicate n byte) in
    let place : ℕ = length (bytes ++ replicate n byte) - 1 in
    slice_get-get_or (bytes ++ replicate n byte) place 0 (omega (arith, all))
    ∙ ap (λ (x : ℕ). Some x) (get_or-append_right bytes (replicate n byte) (length bytes) place 0 refl (omega (arith, all))
    ∙ get_or-replicate n (place - length bytes) byte 0 (omega (arith, all)))

keeps_byte : (m z e : Bool) (run : Run) (packed : ℕ)
    → (if m then (if z then one_of 0x90 else record { byte = run.byte; count = packed - 1; is_marked = false })
    else (if e then record { byte = run.byte; count = 0; is_marked = true } else one_of packed)).count ≡ 0
    → (if m then (if z then one_of 0x90 else record { byte = run.byte; count = packed - 1; is_marked = false })
    else (if e then record { byte = run.byte; count = 0; is_marked = true } else one_of packed)).byte ≡ run.byte
keeps_byte true true e run packed none = absurd (omega arith)
keeps_byte true false e run packed none = refl
keeps_byte false z true run packed none = refl
keeps_byte false z false run packed none = absurd (omega arith)

-- where there is room
put : (b : Bool) (x : List ℕ) → (if b then Some Long else None) ≡ None → ((if b then Err Long else Ok x) >>= unmarked) ≡ unmarked x
put true x passes = cc
put false x passes = refl

-- where there is none
overflow : (b : Bool) (x : List ℕ) (e : BinHexError) → (if b then Some Long else None) ≡ Some e → ((if b then Err Long else Ok x) >>= unmarked) ≡ Err e
overflow true x e fails = cc
overflow false x e fails = cc

abbrev so_of : List ℕ → Bool → Expanding
so_of bytes marked = record {
  bytes = bytes;
  marked = marked;
}

abbrev run_with : ℕ → ℕ → Bool → Run
run_with byte count marked = record {
  byte = byte;
  count = count;
  is_marked = marked;
}

some_first : (n : ℕ) → (n == 0) ≡ false → 0 < n
some_first n q = grind (arith, nat_tests)

goes_by : (bytes : List ℕ) (last n byte : ℕ) (marked z e f : Bool) → (0 < length bytes → slice_get bytes (length bytes - 1) ≡ Some last)
    → (byte == 0) ≡ z → (byte == 0x90) ≡ e → (length bytes == 0) ≡ f → refusal_with (run_with last n marked) (length bytes) byte ≡ None
    → taken (so_of bytes marked) byte ≡ Ok (with_run (so_of bytes marked) (run_behind (run_with last n marked) byte))
goes_by bytes last n byte true true e f has is_zero q empty passes =
    rw is_zero (put (nat_lt most (length bytes + 1)) (bytes ++ 0x90 ∷ []) (rw is_zero at passes))
goes_by bytes last n byte true false e true has is_zero q empty passes = let h = rw (is_zero, empty) at passes in cc
goes_by bytes last n byte true false e false has is_zero q empty passes =
    rw (is_zero, has (some_first (length bytes) empty)) (put (nat_lt most (length bytes + (byte - 1))) (bytes ++ replicate (byte - 1) last) (rw (is_zero, empty) at passes))
goes_by bytes last n byte false z true f has is_zero q empty passes = rw q (ap (λ (xs : List ℕ). Ok (so_of xs true)) (sym (append-nil bytes)))
goes_by bytes last n byte false z false f has is_zero q empty passes =
    rw q (put (nat_lt most (length bytes + 1)) (bytes ++ byte ∷ []) (rw q at passes))

stops_by : (bytes : List ℕ) (last n byte : ℕ) (error : BinHexError) (marked z e f : Bool) → (0 < length bytes → slice_get bytes (length bytes - 1) ≡ Some last)
    → length bytes ≤ most → (byte == 0) ≡ z → (byte == 0x90) ≡ e → (length bytes == 0) ≡ f
    → refusal_with (run_with last n marked) (length bytes) byte ≡ Some error → taken (so_of bytes marked) byte ≡ Err error
stops_by bytes last n byte error true true e f has few is_zero q empty fails =
    rw is_zero (overflow (nat_lt most (length bytes + 1)) (bytes ++ 0x90 ∷ []) error (rw is_zero at fails))
stops_by bytes last n byte error true false e true has few is_zero q empty fails =
    let none : slice_get bytes (length bytes - 1) ≡ None = slice_get_past bytes (length bytes - 1) (no_byte (length bytes) empty) in
    let same : WrongRun ≡ error = let h = rw (is_zero, empty) at fails in cc in
    rw (is_zero, none) (ap (λ (x : BinHexError). Err x) same)
  where
    no_byte : (m : ℕ) → (m == 0) ≡ true → m ≤ m - 1
    no_byte m p = grind (arith, nat_tests)
stops_by bytes last n byte error true false e false has few is_zero q empty fails =
    rw (is_zero, has (some_first (length bytes) empty)) (overflow (nat_lt most (length bytes + (byte - 1))) (bytes ++ replicate (byte - 1) last) error (rw (is_zero, empty) at fails))
stops_by bytes last n byte error false z true f has few is_zero q empty fails =
    let fits : nat_lt most (length bytes + 0) ≡ false = le-ltb most (length bytes + 0) (omega arith) in
    let h = rw (q, fits) at fails in cc
stops_by bytes last n byte error false z false f has few is_zero q empty fails =
    rw q (overflow (nat_lt most (length bytes + 1)) (bytes ++ byte ∷ []) error (rw q at fails))

last_at : (so : Expanding) (run : Run) (count : ℕ) → IsAt so run count → 0 < length so.bytes → slice_get so.bytes (length so.bytes - 1) ≡ Some run.byte
last_at so run count at some = let same : length so.bytes ≡ count = at.long in at.last (omega (arith, same))

-- a packed byte that is taken
goes : (so : Expanding) (run : Run) (count byte : ℕ) → IsAt so run count → refusal_with run count byte ≡ None
    → taken so byte ≡ Ok (with_run so (run_behind run byte))
goes so run count byte at passes =
    let here : refusal_with run (length so.bytes) byte ≡ None = subst (λ (n : ℕ). refusal_with run n byte ≡ None) (sym at.long) passes in
    by so.marked run.is_marked at.marks here
  where
    by : (a b : Bool) → a ≡ b → refusal_with (run_with run.byte run.count b) (length so.bytes) byte ≡ None
        → taken (so_of so.bytes a) byte ≡ Ok (with_run (so_of so.bytes a) (run_behind (run_with run.byte run.count b) byte))
    by a b same here =
        rw same (goes_by so.bytes run.byte run.count byte b (byte == 0) (byte == 0x90) (length so.bytes == 0) (last_at so run count at) refl refl refl here)

-- one that is refused
stops : (so : Expanding) (run : Run) (count byte : ℕ) (error : BinHexError) → IsAt so run count → count ≤ most
    → refusal_with run count byte ≡ Some error → taken so byte ≡ Err error
stops so run count byte error at few fails =
    let here : refusal_with run (length so.bytes) byte ≡ Some error = subst (λ (n : ℕ). refusal_with run n byte ≡ Some error) (sym at.long) fails in
    let same : length so.bytes ≡ count = at.long in
    by so.marked run.is_marked at.marks (omega (arith, same)) here
  where
    by : (a b : Bool) → a ≡ b → length so.bytes ≤ most → refusal_with (run_with run.byte run.count b) (length so.bytes) byte ≡ Some error
        → taken (so_of so.bytes a) byte ≡ Err error
    by a b same few here =
        rw same (stops_by so.bytes run.byte run.count byte error b (byte == 0) (byte == 0x90) (length so.bytes == 0) (last_at so run count at) few refl refl refl here)

is_at : (so : Expanding) (run : Run) (count byte : ℕ) → IsAt so run count → IsAt (with_run so (run_behind run byte)) (run_behind run byte) (count_with run count byte)
is_at so run count byte at = record {
  long = long_with so (run_behind run byte) count at.long;
  marks = refl;
  last = λ some. by (run_behind run byte).count refl some;
}
  where
    by : (n : ℕ) → (run_behind run byte).count ≡ n → 0 < count + (run_behind run byte).count
        → slice_get (so.bytes ++ replicate (run_behind run byte).count (run_behind run byte).byte) (length (so.bytes ++ replicate (run_behind run byte).count (run_behind run byte).byte) - 1) ≡ Some (run_behind run byte).byte
    by (suc n) is some = last_of_run so.bytes (run_behind run byte).byte (run_behind run byte).count (omega (arith, is))
    by zero is some =
        let kept : (run_behind run byte).byte ≡ run.byte = keeps_byte run.is_marked (byte == 0) (byte == 0x90) run byte is in
        let bytes : so.bytes ++ replicate (run_behind run byte).count (run_behind run byte).byte ≡ so.bytes =
        ap (λ (n : ℕ). so.bytes ++ replicate n (run_behind run byte).byte) is ∙ append-nil so.bytes in
        ap (λ (xs : List ℕ). slice_get xs (length xs - 1)) bytes ∙ (at.last (omega (arith, is)) ∙ ap (λ (x : ℕ). Some x) (sym kept))

pub one_more : (packed : List ℕ) (k : ℕ) (run : Run) (count more : ℕ) → k < length packed → Reaches packed k run count
    → refusal_with run count (slice_index packed k) ≡ None → more ≡ count_with run count (slice_index packed k)
    → Reaches packed (k + 1) (run_behind run (slice_index packed k)) more
one_more packed k run count more lt reached passes is = subst (λ (n : ℕ). Reaches packed (k + 1) (run_behind run (slice_index packed k)) n) (sym is) (record {
  so = with_run reached.so (run_behind run (slice_index packed k));
  before = before;
  rest = rest;
  at = is_at reached.so run count (slice_index packed k) reached.at;
})
  where
    before : taken_below packed (k + 1) ≡ Ok (with_run reached.so (run_behind run (slice_index packed k)))
    before =
        ap (λ (n : ℕ). taken_below packed n) (add-one k)
        ∙ (ap (λ (r : Result Expanding BinHexError). r >>= λ so. taken so (slice_index packed k)) reached.before
        ∙ goes reached.so run count (slice_index packed k) reached.at passes)

    rest : whole packed ≡ (reached.so.bytes ++ equal_bytes (run_behind run (slice_index packed k))) ++ spread (run_behind run (slice_index packed k)) (drop (k + 1) packed)
    rest =
        reached.rest
        ∙ (ap (λ (xs : List ℕ). reached.so.bytes ++ spread run xs) (drop-cons packed k 0 lt)
        ∙ (sym (append_assoc reached.so.bytes (equal_bytes (run_behind run (slice_index packed k))) (spread (run_behind run (slice_index packed k)) (drop (suc k) packed)))
        ∙ ap (λ (n : ℕ). (reached.so.bytes ++ equal_bytes (run_behind run (slice_index packed k))) ++ spread (run_behind run (slice_index packed k)) (drop n packed)) (sym (add-one k))))

pub refused_at : (packed : List ℕ) (k : ℕ) (run : Run) (count : ℕ) (error : BinHexError) → k < length packed → Reaches packed k run count → count ≤ most
    → refusal_with run count (slice_index packed k) ≡ Some error → expanded packed ≡ Err error
refused_at packed k run count error lt reached few fails =
    ap (λ (r : Result Expanding BinHexError). r >>= finished)
    (failed_below packed (length packed) k reached.so error lt reached.before (stops reached.so run count (slice_index packed k) error reached.at few fails))

whole_at : (packed : List ℕ) (run : Run) (count : ℕ) (reached : Reaches packed (length packed) run count) → whole packed ≡ reached.so.bytes
whole_at packed run count reached =
    reached.rest ∙ (ap (λ (xs : List ℕ). reached.so.bytes ++ spread run xs) (drop-length packed) ∙ append-nil reached.so.bytes)

pub all_taken : (packed : List ℕ) (run : Run) (count : ℕ) → Reaches packed (length packed) run count → run.is_marked ≡ false → count ≤ most → Counts packed count
all_taken packed run count reached plain few = record {
  stands = ap (λ (r : Result Expanding BinHexError). r >>= finished) reached.before
      ∙ (ap (λ (b : Bool). if b then Err WrongRun else Ok reached.so.bytes) (reached.at.marks ∙ plain) ∙ ap (λ (xs : List ℕ). Ok xs) (sym (whole_at packed run count reached)));
  long = sym (ap (λ (xs : List ℕ). length xs) (whole_at packed run count reached) ∙ reached.at.long);
  few = few;
}

pub marked_last : (packed : List ℕ) (run : Run) (count : ℕ) → Reaches packed (length packed) run count → run.is_marked ≡ true → expanded packed ≡ Err WrongRun
marked_last packed run count reached marked =
    ap (λ (r : Result Expanding BinHexError). r >>= finished) reached.before
    ∙ ap (λ (b : Bool). if b then Err WrongRun else Ok reached.so.bytes) (reached.at.marks ∙ marked)
