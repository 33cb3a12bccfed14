-- What a descriptor that was read says of its records.
use Rattle.std.proofs.Common.{◌≡◌, ℕ, zero, suc, ◌+◌, ◌*◌, ◌≤◌, nat_lt, Bool, true, false, not, ◌==◌, ◌&&◌, if◌then◌else◌, List, [], ◌∷◌, ◌++◌, length, Some, None, Result, Ok, Err, arith, ap, sym, subst, ◌∙◌, refl}
use Rattle.std.specs.List.{All, list_all}
use Rattle.std.proofs.lemmas.Bool.Decides.{nat_tests}
use Rattle.std.proofs.lemmas.List.{length-append}
use Rattle.std.proofs.lemmas.List.Elements.{All-nil, All-cons, All-push, All-contains}
use Rattle.mix_bits.specs.Results.{◌>>=◌}
use Rattle.big_memory.specs.Memory.{Memory, in_memory}
use Rattle.big_memory.specs.Numbers.{number_at}
use Rattle.proc_info.specs.declared.bad_info.BadInfo.{BadInfo}
use Rattle.std.specs.Result.{result_unwrap_or}
use Rattle.proc_info.specs.Signature.{Signature, no_parameters, signature_in, signature_of}
use Rattle.routine_desc.specs.declared.record.Rec.{Rec}
use Rattle.routine_desc.specs.declared.record.BadDesc.TheVariants.{Access, Magic, Version, Reserved, Count, Mixed}
use Rattle.routine_desc.specs.Layout.{bad_header, bad_record, record_at}
use Rattle.routine_desc.specs.Read.{all_alike, body_of, desc_of, first_records, is_alike, read_record}
use Rattle.routine_desc.specs.inner.Read.{if_alike, if_signed}
use Rattle.routine_desc.specs.laws.Laws.{HoldsRecords, InfosAreSigned, RecordsAreAlike}
use Rattle.routine_desc.proofs.RecordChains.{both, chain_done, if_kept, none_broken, ok_same, unbroken}
use Rattle.routine_desc.proofs.Alike.{alike-same, called-alike}

-- the last of the first records, and those before it
pub record IsNext (m : Memory) (a k : ℕ) (rs : List Rec) : Type 0 where
  pub front : List Rec
  pub last : Rec
  pub before : first_records m a k ≡ Ok front
  pub read : read_record m a (a + 12 + 20 * k) ≡ Ok last
  pub whole : rs ≡ front ++ last ∷ []

pub next : (m : Memory) (a k : ℕ) (rs : List Rec) → first_records m a (suc k) ≡ Ok rs → IsNext m a k rs
unfolding first_records
next m a k rs h =
    let b = chain_done (first_records m a k) (λ rs. read_record m a (a + 12 + 20 * k) >>= λ r. Ok (rs ++ r ∷ [])) rs h in
    let d = chain_done (read_record m a (a + 12 + 20 * k)) (λ r. Ok (b.value ++ r ∷ [])) rs b.rest in
    record { front = b.value; last = d.value; before = b.first; read = d.first; whole = ok_same rs (b.value ++ d.value ∷ []) (Ok (b.value ++ d.value ∷ [])) d.rest refl }

pub none_first : (m : Memory) (a : ℕ) (rs : List Rec) → first_records m a zero ≡ Ok rs → [] ≡ rs
unfolding first_records
none_first m a rs h = ok_same [] rs (first_records m a zero) refl h

pub length-first : (m : Memory) (a k : ℕ) (rs : List Rec) → first_records m a k ≡ Ok rs → length rs ≡ k
length-first m a zero rs h = sym (ap length (none_first m a rs h))
length-first m a (suc k) rs h =
    let n = next m a k rs h in
    let front : length n.front ≡ k = length-first m a k n.front n.before in
    let all : length rs ≡ length (n.front ++ n.last ∷ []) = ap length n.whole in
    omega (arith, length-append n.front (n.last ∷ []))

-- what holds of each record that is read holds of the first ones
pub all-first : (P : Rec → Type 0) (m : Memory) (a : ℕ) → ((p : ℕ) (r : Rec) → read_record m a p ≡ Ok r → P r) → (k : ℕ) (rs : List Rec) → first_records m a k ≡ Ok rs → All P rs
all-first P m a each zero rs h = subst (All P) (none_first m a rs h) (All-nil P)
all-first P m a each (suc k) rs h =
    let n = next m a k rs h in
    subst (All P) (sym n.whole) (All-push P n.front n.last (all-first P m a each k n.front n.before) (each (a + 12 + 20 * k) n.last n.read))

-- a record that is signed
if_signed_is : (x : Result Signature BadInfo) (r q : Rec) → if_signed r x ≡ Ok q → (x ≡ Ok (result_unwrap_or x no_parameters)) × (r ≡ q)
if_signed_is (Ok sig) r q h = (refl, ok_same r q (Ok r) refl h)
if_signed_is (Err e) r q h = absurd (cc)

pub signed-read : (m : Memory) (a p : ℕ) (r : Rec) → read_record m a p ≡ Ok r → signature_of r.info ≡ Ok (signature_in r.info)
unfolding read_record
signed-read m a p r h =
    let s = if_signed_is (signature_of (number_at p 4 m.bytes)) (record_at m a p) r (unbroken (bad_record m p) (if_signed (record_at m a p) (signature_of (number_at p 4 m.bytes))) r h) in
    subst (λ r. signature_of r.info ≡ Ok (signature_in r.info)) s.1 s.0

-- a descriptor that was read
pub record IsReadDesc (m : Memory) (a : ℕ) (records : List Rec) : Type 0 where
  pub header : bad_header m a ≡ None
  pub all : first_records m a (number_at (a + 10) 2 m.bytes + 1) ≡ Ok records
  pub alike : all_alike records ≡ true

pub desc-read : (m : Memory) (a : ℕ) (records : List Rec) → desc_of m a ≡ Ok records → IsReadDesc m a records
desc-read m a records h =
    let body = unbroken (bad_header m a) (body_of m a) records h in
    let b = chain_done (first_records m a (number_at (a + 10) 2 m.bytes + 1)) if_alike records body in
    let k = if_kept (all_alike b.value) b.value records Mixed b.rest in
    record {
      header = none_broken (bad_header m a) (body_of m a) records h;
      all = b.first ∙ ap Ok k.1;
      alike = ap all_alike (sym k.1) ∙ k.0;
    }

-- the tests of a header
few_by : (b c d e : Bool) (n : ℕ) → (if not b then Some Access else (if not c then Some Magic else (if not d then Some Version else (if not e then Some Reserved else (if nat_lt 63 n then Some Count else None))))) ≡ None → (b ≡ true) × (n ≤ 63)
few_by false c d e n h = absurd (cc)
few_by true false d e n h = absurd (cc)
few_by true true false e n h = absurd (cc)
few_by true true true false n h = absurd (cc)
few_by true true true true n h = (refl, grind (arith, nat_tests))

pub header-few : (m : Memory) (a : ℕ) → bad_header m a ≡ None → (in_memory m a 12 ≡ true) × (number_at (a + 10) 2 m.bytes ≤ 63)
header-few m a h =
    few_by (in_memory m a 12) (number_at a 2 m.bytes == 0xAAFE) (number_at (a + 2) 1 m.bytes == 7) ((number_at (a + 4) 4 m.bytes == 0) && (number_at (a + 8) 1 m.bytes == 0)) (number_at (a + 10) 2 m.bytes) h

pub holds-records : HoldsRecords
holds-records m a records h =
    let d = desc-read m a records h in
    let count = length-first m a (number_at (a + 10) 2 m.bytes + 1) records d.all in
    let few = (header-few m a d.header).1 in
    (omega arith, omega arith)

pub infos-signed : InfosAreSigned
infos-signed m a records r h among =
    let d = desc-read m a records h in
    let Signed : Rec → Type 0 = λ r. signature_of r.info ≡ Ok (signature_in r.info) in
    All-contains Signed records r (all-first Signed m a (signed-read m a) (number_at (a + 10) 2 m.bytes + 1) records d.all) among

-- all records are like the first one
all_pass : (p : Rec → Bool) (rs : List Rec) → list_all p rs ≡ true → All (λ r. p r ≡ true) rs
all_pass p [] h = All-nil (λ r. p r ≡ true)
all_pass p (r ∷ rs) h =
    let b = both (p r) (list_all p rs) h in All-cons (λ r. p r ≡ true) r rs b.0 (all_pass p rs b.1)

record HasFirst (records : List Rec) : Type 0 where
  info : ℕ
  like : All (λ r. is_alike info r.info ≡ true) records

like_first : (records : List Rec) → all_alike records ≡ true → HasFirst records
like_first [] h = record { info = 0; like = All-nil (λ r. is_alike 0 r.info ≡ true) }
like_first (r ∷ rs) h =
    record { info = r.info; like = All-cons (λ q. is_alike r.info q.info ≡ true) r rs (alike-same r.info) (all_pass (λ q. is_alike r.info q.info) rs h) }

pub records-alike : RecordsAreAlike
records-alike m a records r q h among also =
    let d = desc-read m a records h in
    let f = like_first records d.alike in
    let Like : Rec → Type 0 = λ r. is_alike f.info r.info ≡ true in
    called-alike f.info r.info q.info (signature_in r.info) (signature_in q.info) (All-contains Like records r f.like among) (All-contains Like records q f.like also)
    (infos-signed m a records r h among) (infos-signed m a records q h also)
