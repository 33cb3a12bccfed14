-- A descriptor that was built is read back.
use Rattle.std.proofs.Common.{◌≡◌, ℕ, ◌+◌, ◌*◌, ◌^◌, ◌<◌, ◌≤◌, true, false, List, [], ◌++◌, length, drop, Option, Some, None, is_none, IsSome, Result, Ok, Err, IfOk, IfSome, arith, ap, ◌∙◌, refl}
use Rattle.std.proofs.lemmas.Bool.Decides.{nat_tests}
use Rattle.std.proofs.lemmas.List.{same_lists, places}
use Rattle.byteorder.specs.Endian.{big_number}
use Rattle.mix_bits.specs.Results.{◌>>=◌}
use Rattle.big_memory.specs.Memory.{Memory, in_memory, with_bytes}
use Rattle.big_memory.specs.Numbers.{number_at}
use Rattle.big_memory.proofs.Lists.{drop-put, length-put}
use Rattle.proc_info.specs.Signature.{Signature, signature_of}
use Rattle.routine_desc.specs.declared.record.Rec.{Rec}
use Rattle.routine_desc.specs.Layout.{bad_header, code_at}
use Rattle.routine_desc.specs.Read.{read_record, first_records, body_of, desc_of, all_alike}
use Rattle.routine_desc.specs.inner.Read.{unless_broken, if_alike}
use Rattle.routine_desc.specs.inner.Build.{IsPut}
use Rattle.routine_desc.specs.Build.{header_bytes, record_bytes, image}
use Rattle.routine_desc.specs.BuildClauses.{asked_record, asked, ReadsBack}
use Rattle.routine_desc.proofs.RecordLemmas.{records-none, records-more}

drop-drop : (n k : ℕ) (xs : List ℕ) → drop (n + k) xs ≡ drop k (drop n xs)
drop-drop n k xs = same_lists _ _ (grind (arith, places)) (λ i d w. grind (arith, places))

-- a number in bytes that are known
pub number-in : (m : Memory) (p q k n : ℕ) (ys : List ℕ) → q ≡ p + k → drop p m.bytes ≡ ys → number_at q n m.bytes ≡ big_number n (drop k ys)
number-in m p q k n ys place here =
    ap (λ q. number_at q n m.bytes) place ∙ ap (big_number n) (drop-drop p k m.bytes ∙ ap (drop k) here)

-- an ISA code is a byte
code-small : (code : ℕ) → IsSome (code_at code) → code < 256
code-small code some = grind (arith, nat_tests)

some-there : {A : Type 0} (o : Option A) → IsSome o → is_none o ≡ false
some-there None some = absurd (cc)
some-there (Some x) some = refl

pub record-back : (m : Memory) (a p info isa proc : ℕ) (signature : Signature) (rest : List ℕ) → p + 20 ≤ length m.bytes → drop p m.bytes ≡ record_bytes info isa proc ++ rest → info < 2 ^ 32 → IsSome (code_at isa) → proc < 2 ^ 32 → signature_of info ≡ Ok signature → read_record m a p ≡ Ok (asked_record info isa proc)
unfolding read_record
record-back m a p info isa proc signature rest within here info-fits isa-fits proc-fits signed =
    let ys = record_bytes info isa proc ++ rest in
    let there : in_memory m p 20 ≡ true = grind (arith, nat_tests) in
    let word : number_at p 4 m.bytes ≡ info = number-in m p p 0 4 ys (omega arith) here ∙ omega arith in
    let zero-byte : number_at (p + 4) 1 m.bytes ≡ 0 = number-in m p (p + 4) 4 1 ys refl here in
    let small : isa < 256 = code-small isa isa-fits in
    let code : number_at (p + 5) 1 m.bytes ≡ isa = number-in m p (p + 5) 5 1 ys refl here ∙ omega arith in
    let known : is_none (code_at (number_at (p + 5) 1 m.bytes)) ≡ false = ap (λ k. is_none (code_at k)) code ∙ some-there (code_at isa) isa-fits in
    let flags : number_at (p + 6) 2 m.bytes ≡ 0 = number-in m p (p + 6) 6 2 ys refl here in
    let target : number_at (p + 8) 4 m.bytes ≡ proc = number-in m p (p + 8) 8 4 ys refl here ∙ omega arith in
    let zero-long : number_at (p + 12) 4 m.bytes ≡ 0 = number-in m p (p + 12) 12 4 ys refl here in
    let selector : number_at (p + 16) 4 m.bytes ≡ 0 = number-in m p (p + 16) 16 4 ys refl here in
    grind (arith, nat_tests, there, word, zero-byte, code, flags, target, zero-long, selector, signed, known)

-- a header
header-back : (m : Memory) (a last : ℕ) (rest : List ℕ) → a + 12 ≤ length m.bytes → drop a m.bytes ≡ header_bytes last ++ rest → last < 64 → bad_header m a ≡ None
header-back m a last rest within here few =
    let ys = header_bytes last ++ rest in
    let there : in_memory m a 12 ≡ true = grind (arith, nat_tests) in
    let magic : number_at a 2 m.bytes ≡ 0xAAFE = number-in m a a 0 2 ys (omega arith) here in
    let version : number_at (a + 2) 1 m.bytes ≡ 7 = number-in m a (a + 2) 2 1 ys refl here in
    let zero-long : number_at (a + 4) 4 m.bytes ≡ 0 = number-in m a (a + 4) 4 4 ys refl here in
    let zero-byte : number_at (a + 8) 1 m.bytes ≡ 0 = number-in m a (a + 8) 8 1 ys refl here in
    let count : number_at (a + 10) 2 m.bytes ≡ last = number-in m a (a + 10) 10 2 ys refl here ∙ omega arith in
    grind (arith, nat_tests, there, magic, version, zero-long, zero-byte, count)

-- what a header and its records make together
desc-back : (m : Memory) (a last : ℕ) (rest : List ℕ) (records : List Rec) → a + 12 ≤ length m.bytes → drop a m.bytes ≡ header_bytes last ++ rest → last < 64 → first_records m a (last + 1) ≡ Ok records → all_alike records ≡ true → desc_of m a ≡ Ok records
desc-back m a last rest records within here few all alike =
    let good : bad_header m a ≡ None = header-back m a last rest within here few in
    let count : number_at (a + 10) 2 m.bytes ≡ last = number-in m a (a + 10) 10 2 (header_bytes last ++ rest) refl here ∙ omega arith in
    let like : if_alike records ≡ Ok records = rw alike refl in
    ap (λ broken. unless_broken broken (body_of m a)) good
    ∙ ap (λ n. first_records m a (n + 1) >>= if_alike) count
    ∙ ap (λ x. x >>= if_alike) all ∙ like

-- the record at a place after the descriptor's beginning
next-back : (m : Memory) (a k info isa proc : ℕ) (signature : Signature) (ys rest : List ℕ) → a + 12 + 20 * k + 20 ≤ length m.bytes → drop a m.bytes ≡ ys → drop (12 + 20 * k) ys ≡ record_bytes info isa proc ++ rest → info < 2 ^ 32 → IsSome (code_at isa) → proc < 2 ^ 32 → signature_of info ≡ Ok signature → read_record m a (a + 12 + 20 * k) ≡ Ok (asked_record info isa proc)
next-back m a k info isa proc signature ys rest within here behind info-fits isa-fits proc-fits signed =
    let place : a + 12 + 20 * k ≡ a + (12 + 20 * k) = omega arith in
    let there : drop (a + 12 + 20 * k) m.bytes ≡ record_bytes info isa proc ++ rest =
    ap (λ p. drop p m.bytes) place ∙ drop-drop a (12 + 20 * k) m.bytes ∙ ap (drop (12 + 20 * k)) here ∙ behind in
    record-back m a (a + 12 + 20 * k) info isa proc signature rest within there info-fits isa-fits proc-fits signed

-- the bytes at the place where some were put
there-after : (m : Memory) (a : ℕ) (ys : List ℕ) → a + length ys ≤ length m.bytes → drop a (with_bytes a ys m).bytes ≡ ys ++ drop (a + length ys) m.bytes
there-after m a ys within = drop-put a ys m.bytes (omega arith)

longer : (m : Memory) (a : ℕ) (ys : List ℕ) → a + length ys ≤ length m.bytes → a + length ys ≤ length (with_bytes a ys m).bytes
longer m a ys within = rw (length-put a ys m.bytes within) within

-- a descriptor of one record
one-back : (m : Memory) (a info isa proc : ℕ) (signature : Signature) (rest : List ℕ) → a + 32 ≤ length m.bytes → drop a m.bytes ≡ image info None isa proc ++ rest → info < 2 ^ 32 → IsSome (code_at isa) → proc < 2 ^ 32 → signature_of info ≡ Ok signature → desc_of m a ≡ Ok (asked info None isa proc)
one-back m a info isa proc signature rest within here info-fits isa-fits proc-fits signed =
    let ys = image info None isa proc ++ rest in
    let only = next-back m a 0 info isa proc signature ys rest (omega arith) here refl info-fits isa-fits proc-fits signed in
    desc-back m a 0 (record_bytes info isa proc ++ rest) _ (omega arith) here (omega arith) (records-more m a 0 [] _ (records-none m a []) only) refl

-- a descriptor of two records
two-back : (m : Memory) (a info m68k isa proc : ℕ) (signature : Signature) (rest : List ℕ) → a + 52 ≤ length m.bytes → drop a m.bytes ≡ image info (Some m68k) isa proc ++ rest → info < 2 ^ 32 → m68k < 2 ^ 32 → IsSome (code_at isa) → proc < 2 ^ 32 → signature_of info ≡ Ok signature → desc_of m a ≡ Ok (asked info (Some m68k) isa proc)
two-back m a info m68k isa proc signature rest within here info-fits code-fits isa-fits proc-fits signed =
    let ys = image info (Some m68k) isa proc ++ rest in
    let first = next-back m a 0 info 0 m68k signature ys (record_bytes info isa proc ++ rest) (omega arith) here refl info-fits refl code-fits signed in
    let second = next-back m a 1 info isa proc signature ys rest (omega arith) here refl info-fits isa-fits proc-fits signed in
    let one = records-more m a 0 [] _ (records-none m a []) first in
    let two = records-more m a 1 _ _ one second in
    desc-back m a 1 (record_bytes info 0 m68k ++ (record_bytes info isa proc ++ rest)) _ (omega arith) here (omega arith) two (grind (arith, nat_tests))

-- either, where the bytes were put
pub built-back : {T E : Type 0} (result : Result T E) (old new : Memory) (a info : ℕ) (m68k : Option ℕ) (isa proc : ℕ) → info < 2 ^ 32 → IfSome m68k (λ code. code < 2 ^ 32) → proc < 2 ^ 32 → IfOk result (λ done. IsPut old a (image info m68k isa proc) new) → IfOk result (λ done. ReadsBack new a info m68k isa proc)
built-back (Err e) old new a info m68k isa proc info-fits code-fits proc-fits put = put
built-back (Ok x) old new a info None isa proc info-fits code-fits proc-fits put = λ isa-fits signature signed.
    let ys = image info None isa proc in
    let back = one-back (with_bytes a ys old) a info isa proc signature (drop (a + length ys) old.bytes) (longer old a ys put.within) (there-after old a ys put.within) info-fits isa-fits proc-fits signed in
    ap (λ m. desc_of m a) put.done ∙ back
built-back (Ok x) old new a info (Some m68k) isa proc info-fits code-fits proc-fits put = λ isa-fits signature signed.
    let ys = image info (Some m68k) isa proc in
    let back = two-back (with_bytes a ys old) a info m68k isa proc signature (drop (a + length ys) old.bytes) (longer old a ys put.within) (there-after old a ys put.within) info-fits code-fits isa-fits proc-fits signed in
    ap (λ m. desc_of m a) put.done ∙ back
