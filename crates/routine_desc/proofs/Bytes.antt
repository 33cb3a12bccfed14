-- A descriptor is read from its bytes alone.
use Rattle.std.proofs.Common.{◌≡◌, ℕ, zero, suc, ◌+◌, ◌-◌, ◌*◌, ◌<◌, ◌≤◌, nat_lt, Bool, true, false, not, ◌==◌, ◌&&◌, if◌then◌else◌, List, [], ◌∷◌, ◌++◌, length, take, drop, get_or, Option, Some, None, is_none, Result, Ok, Err, arith, ap, sym, ◌∙◌, refl}
use Rattle.std.proofs.lemmas.Bool.Decides.{nat_tests}
use Rattle.std.proofs.lemmas.List.{places}
use Rattle.mix_bits.specs.Results.{◌>>=◌}
use Rattle.big_memory.specs.Lists.{part}
use Rattle.big_memory.specs.Memory.{Memory, in_memory}
use Rattle.big_memory.specs.Numbers.{number_at}
use Rattle.big_memory.proofs.Numbers.{same_from}
use Rattle.proc_info.specs.Signature.{signature_of}
use Rattle.routine_desc.specs.declared.record.Rec.{Rec}
use Rattle.routine_desc.specs.declared.record.BadDesc.{BadDesc}
use Rattle.routine_desc.specs.declared.record.BadDesc.TheVariants.{Access, Magic, Version, Reserved, Count, Isa, Flags, Mixed}
use Rattle.routine_desc.specs.Layout.{are_good_flags, bad_header, bad_record, code_at, is_cfm, isa_of, record_at, target_of}
use Rattle.routine_desc.specs.Read.{body_of, first_records, read_record}
use Rattle.routine_desc.specs.inner.Read.{if_alike, if_signed, unless_broken}
use Rattle.routine_desc.specs.laws.Laws.{ReadsItsBytes}
use Rattle.routine_desc.proofs.RecordChains.{none_broken}
use Rattle.routine_desc.proofs.Held.{desc-read, length-first, next}

-- two memories with the same bytes from an address on
record AreSame (m n : Memory) (a len : ℕ) : Type 0 where
  bytes : part a len n.bytes ≡ part a len m.bytes
  old : a + len ≤ length m.bytes
  new : a + len ≤ length n.bytes

at_part : (xs : List ℕ) (a len q i : ℕ) → a ≤ q → q + i < a + len → a + len ≤ length xs → get_or (drop q xs) i 0 ≡ get_or (take len (drop a xs)) (q - a + i) 0
at_part xs a len q i from below within = grind (arith, places)

same-number : (m n : Memory) (a len q k : ℕ) → AreSame m n a len → a ≤ q → q + k ≤ a + len → number_at q k n.bytes ≡ number_at q k m.bytes
same-number m n a len q k same from within =
    same_from k 0 (drop q n.bytes) (drop q m.bytes) (λ j below.
    at_part n.bytes a len q j from (omega arith) same.new ∙ ap (λ xs. get_or xs (q - a + j) 0) same.bytes ∙ sym (at_part m.bytes a len q j from (omega arith) same.old))

in-memory : (m : Memory) (p k : ℕ) → p + k ≤ length m.bytes → in_memory m p k ≡ true
in-memory m p k within = grind (arith, nat_tests)

-- a record by its fields
parsed : ℕ → Bool → ℕ → ℕ → ℕ → ℕ → ℕ → ℕ → ℕ → Result Rec BadDesc
parsed a inside info zero-byte code flags proc zero-long selector =
    unless_broken (if not inside then Some Access
    else (if not ((zero-byte == 0) && (zero-long == 0)) then Some Reserved
    else (if is_none (code_at code) then Some Isa
    else (if not (are_good_flags flags) then Some Flags
    else None))))
    (if_signed (record { info = info; isa = isa_of code; flags = flags; target = target_of a flags proc; selector = selector; cfm = is_cfm code }) (signature_of info))

record-parsed : (m : Memory) (a p : ℕ) → read_record m a p ≡ parsed a (in_memory m p 20) (number_at p 4 m.bytes) (number_at (p + 4) 1 m.bytes) (number_at (p + 5) 1 m.bytes) (number_at (p + 6) 2 m.bytes) (number_at (p + 8) 4 m.bytes) (number_at (p + 12) 4 m.bytes) (number_at (p + 16) 4 m.bytes)
unfolding read_record parsed
record-parsed m a p = refl

same-record : (m n : Memory) (a len p : ℕ) → AreSame m n a len → a ≤ p → p + 20 ≤ a + len → read_record n a p ≡ read_record m a p
same-record m n a len p same from within =
    let inside : in_memory n p 20 ≡ in_memory m p 20 = in-memory n p 20 (omega (arith, same.new)) ∙ sym (in-memory m p 20 (omega (arith, same.old))) in
    let e0 = same-number m n a len p 4 same from (omega arith) in
    let e4 = same-number m n a len (p + 4) 1 same (omega arith) (omega arith) in
    let e5 = same-number m n a len (p + 5) 1 same (omega arith) (omega arith) in
    let e6 = same-number m n a len (p + 6) 2 same (omega arith) (omega arith) in
    let e8 = same-number m n a len (p + 8) 4 same (omega arith) (omega arith) in
    let e12 = same-number m n a len (p + 12) 4 same (omega arith) (omega arith) in
    let e16 = same-number m n a len (p + 16) 4 same (omega arith) (omega arith) in
    record-parsed n a p
    ∙ ap (λ b. parsed a b (number_at p 4 n.bytes) (number_at (p + 4) 1 n.bytes) (number_at (p + 5) 1 n.bytes) (number_at (p + 6) 2 n.bytes) (number_at (p + 8) 4 n.bytes) (number_at (p + 12) 4 n.bytes) (number_at (p + 16) 4 n.bytes)) inside
    ∙ ap (λ x. parsed a (in_memory m p 20) x (number_at (p + 4) 1 n.bytes) (number_at (p + 5) 1 n.bytes) (number_at (p + 6) 2 n.bytes) (number_at (p + 8) 4 n.bytes) (number_at (p + 12) 4 n.bytes) (number_at (p + 16) 4 n.bytes)) e0
    ∙ ap (λ x. parsed a (in_memory m p 20) (number_at p 4 m.bytes) x (number_at (p + 5) 1 n.bytes) (number_at (p + 6) 2 n.bytes) (number_at (p + 8) 4 n.bytes) (number_at (p + 12) 4 n.bytes) (number_at (p + 16) 4 n.bytes)) e4
    ∙ ap (λ x. parsed a (in_memory m p 20) (number_at p 4 m.bytes) (number_at (p + 4) 1 m.bytes) x (number_at (p + 6) 2 n.bytes) (number_at (p + 8) 4 n.bytes) (number_at (p + 12) 4 n.bytes) (number_at (p + 16) 4 n.bytes)) e5
    ∙ ap (λ x. parsed a (in_memory m p 20) (number_at p 4 m.bytes) (number_at (p + 4) 1 m.bytes) (number_at (p + 5) 1 m.bytes) x (number_at (p + 8) 4 n.bytes) (number_at (p + 12) 4 n.bytes) (number_at (p + 16) 4 n.bytes)) e6
    ∙ ap (λ x. parsed a (in_memory m p 20) (number_at p 4 m.bytes) (number_at (p + 4) 1 m.bytes) (number_at (p + 5) 1 m.bytes) (number_at (p + 6) 2 m.bytes) x (number_at (p + 12) 4 n.bytes) (number_at (p + 16) 4 n.bytes)) e8
    ∙ ap (λ x. parsed a (in_memory m p 20) (number_at p 4 m.bytes) (number_at (p + 4) 1 m.bytes) (number_at (p + 5) 1 m.bytes) (number_at (p + 6) 2 m.bytes) (number_at (p + 8) 4 m.bytes) x (number_at (p + 16) 4 n.bytes)) e12
    ∙ ap (λ x. parsed a (in_memory m p 20) (number_at p 4 m.bytes) (number_at (p + 4) 1 m.bytes) (number_at (p + 5) 1 m.bytes) (number_at (p + 6) 2 m.bytes) (number_at (p + 8) 4 m.bytes) (number_at (p + 12) 4 m.bytes) x) e16
    ∙ sym (record-parsed m a p)

-- the first records of it
joined : Result (List Rec) BadDesc → Result Rec BadDesc → Result (List Rec) BadDesc
joined front last = front >>= λ rs. last >>= λ r. Ok (rs ++ r ∷ [])

first-joined : (m : Memory) (a k : ℕ) → first_records m a (suc k) ≡ joined (first_records m a k) (read_record m a (a + 12 + 20 * k))
unfolding first_records joined
first-joined m a k = refl

first-none : (m n : Memory) (a : ℕ) → first_records n a zero ≡ first_records m a zero
unfolding first_records
first-none m n a = refl

same-first : (m n : Memory) (a len k : ℕ) → AreSame m n a len → 12 + 20 * k ≤ len → first_records n a k ≡ first_records m a k
same-first m n a len zero same within = first-none m n a
same-first m n a len (suc k) same within =
    first-joined n a k
    ∙ ap (λ x. joined x (read_record n a (a + 12 + 20 * k))) (same-first m n a len k same (omega arith))
    ∙ ap (joined (first_records m a k)) (same-record m n a len (a + 12 + 20 * k) same (omega arith) (omega arith))
    ∙ sym (first-joined m a k)

-- a header by its fields
headed : Bool → ℕ → ℕ → ℕ → ℕ → ℕ → Option BadDesc
headed inside magic version zero-long zero-byte last =
    if not inside then Some Access
    else (if not (magic == 0xAAFE) then Some Magic
    else (if not (version == 7) then Some Version
    else (if not ((zero-long == 0) && (zero-byte == 0)) then Some Reserved
    else (if nat_lt 63 last then Some Count
    else None))))

header-headed : (m : Memory) (a : ℕ) → bad_header m a ≡ headed (in_memory m a 12) (number_at a 2 m.bytes) (number_at (a + 2) 1 m.bytes) (number_at (a + 4) 4 m.bytes) (number_at (a + 8) 1 m.bytes) (number_at (a + 10) 2 m.bytes)
unfolding headed
header-headed m a = refl

same-header : (m n : Memory) (a len : ℕ) → AreSame m n a len → 12 ≤ len → bad_header n a ≡ bad_header m a
same-header m n a len same within =
    let inside : in_memory n a 12 ≡ in_memory m a 12 = in-memory n a 12 (omega (arith, same.new)) ∙ sym (in-memory m a 12 (omega (arith, same.old))) in
    let e0 = same-number m n a len a 2 same (omega arith) (omega arith) in
    let e2 = same-number m n a len (a + 2) 1 same (omega arith) (omega arith) in
    let e4 = same-number m n a len (a + 4) 4 same (omega arith) (omega arith) in
    let e8 = same-number m n a len (a + 8) 1 same (omega arith) (omega arith) in
    let e10 = same-number m n a len (a + 10) 2 same (omega arith) (omega arith) in
    header-headed n a
    ∙ ap (λ b. headed b (number_at a 2 n.bytes) (number_at (a + 2) 1 n.bytes) (number_at (a + 4) 4 n.bytes) (number_at (a + 8) 1 n.bytes) (number_at (a + 10) 2 n.bytes)) inside
    ∙ ap (λ x. headed (in_memory m a 12) x (number_at (a + 2) 1 n.bytes) (number_at (a + 4) 4 n.bytes) (number_at (a + 8) 1 n.bytes) (number_at (a + 10) 2 n.bytes)) e0
    ∙ ap (λ x. headed (in_memory m a 12) (number_at a 2 m.bytes) x (number_at (a + 4) 4 n.bytes) (number_at (a + 8) 1 n.bytes) (number_at (a + 10) 2 n.bytes)) e2
    ∙ ap (λ x. headed (in_memory m a 12) (number_at a 2 m.bytes) (number_at (a + 2) 1 m.bytes) x (number_at (a + 8) 1 n.bytes) (number_at (a + 10) 2 n.bytes)) e4
    ∙ ap (λ x. headed (in_memory m a 12) (number_at a 2 m.bytes) (number_at (a + 2) 1 m.bytes) (number_at (a + 4) 4 m.bytes) x (number_at (a + 10) 2 n.bytes)) e8
    ∙ ap (λ x. headed (in_memory m a 12) (number_at a 2 m.bytes) (number_at (a + 2) 1 m.bytes) (number_at (a + 4) 4 m.bytes) (number_at (a + 8) 1 m.bytes) x) e10
    ∙ sym (header-headed m a)

-- what was read lies in memory
few_inside : (b c d e : Bool) → (if not b then Some Access else (if not c then Some Reserved else (if d then Some Isa else (if not e then Some Flags else None)))) ≡ None → b ≡ true
few_inside true c d e h = refl
few_inside false c d e h = absurd (cc)

record-inside : (m : Memory) (a p : ℕ) (r : Rec) → read_record m a p ≡ Ok r → p + 20 ≤ length m.bytes
unfolding read_record
record-inside m a p r h =
    let good = none_broken (bad_record m p) (if_signed (record_at m a p) (signature_of (number_at p 4 m.bytes))) r h in
    let inside : in_memory m p 20 ≡ true =
    few_inside (in_memory m p 20) ((number_at (p + 4) 1 m.bytes == 0) && (number_at (p + 12) 4 m.bytes == 0)) (is_none (code_at (number_at (p + 5) 1 m.bytes))) (are_good_flags (number_at (p + 6) 2 m.bytes)) good in
    grind (arith, nat_tests)

first-inside : (m : Memory) (a k : ℕ) (rs : List Rec) → first_records m a (suc k) ≡ Ok rs → a + (12 + 20 * suc k) ≤ length m.bytes
first-inside m a k rs h =
    let n = next m a k rs h in
    let last = record-inside m a (a + 12 + 20 * k) n.last n.read in
    omega arith

-- bytes that are like some in memory are there
part_long : (xs ys : List ℕ) (a len : ℕ) → 0 < len → part a len xs ≡ part a len ys → a + len ≤ length ys → a + len ≤ length xs
part_long xs ys a len some same within =
    let e : length (take len (drop a xs)) ≡ length (take len (drop a ys)) = ap length same in
    grind (arith, places)

pub reads-bytes : ReadsItsBytes
reads-bytes m n a records h bytes =
    let d = desc-read m a records h in
    let last = number_at (a + 10) 2 m.bytes in
    let more : last + 1 ≡ suc last = omega arith in
    let count : length records ≡ last + 1 = length-first m a (last + 1) records d.all in
    let old : a + (12 + 20 * suc last) ≤ length m.bytes = first-inside m a last records (ap (first_records m a) (sym more) ∙ d.all) in
    let long : a + (12 + 20 * length records) ≤ length m.bytes = omega arith in
    let same : AreSame m n a (12 + 20 * length records) =
    record { bytes = bytes; old = long; new = part_long n.bytes m.bytes a (12 + 20 * length records) (omega arith) bytes long } in
    let number : number_at (a + 10) 2 n.bytes ≡ last = same-number m n a (12 + 20 * length records) (a + 10) 2 same (omega arith) (omega arith) in
    ap (λ broken. unless_broken broken (body_of n a)) (same-header m n a (12 + 20 * length records) same (omega arith) ∙ d.header)
    ∙ ap (λ k. first_records n a (k + 1) >>= if_alike) number
    ∙ ap (λ x. x >>= if_alike) (same-first m n a (12 + 20 * length records) (last + 1) same (omega arith) ∙ d.all)
    ∙ ap (λ b. if b then Ok records else Err Mixed) d.alike
