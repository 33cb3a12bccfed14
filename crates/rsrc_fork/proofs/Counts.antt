-- A reading gives as many resources as the type list says.
use Rattle.std.proofs.Common.{◌≡◌, refl, ap, sym, ◌∙◌, ℕ, ◌+◌, ◌*◌, nat_lt, if◌then◌else◌, List, [], ◌∷◌, ◌++◌, length, is_some, Ok, Err, length-append, arith}
use Rattle.rsrc_fork.specs.declared.error.RsrcError.TheVariants.{BadOffset, Compressed, Twice}
use Rattle.rsrc_fork.specs.declared.header.Areas.{Areas}
use Rattle.rsrc_fork.specs.declared.name.Name.{Name}
use Rattle.rsrc_fork.specs.declared.references.TypeEntry.{TypeEntry}
use Rattle.rsrc_fork.specs.Resources.{Resource, bytes_of, named, with_resource}
use Rattle.rsrc_fork.specs.ReferencesClauses.{count_below, count_in, entry_at, id_at, is_compressed}
use Rattle.rsrc_fork.specs.References.{data_at, with_reference, with_type}
use Rattle.rsrc_fork.specs.inner.References.{with_numbered, with_references, with_types}
use Rattle.rsrc_fork.proofs.Listing.{bind_ok, if_ok, keeps, ok_is}

one_put : (before : List Resource) (name : Name) (piece : List ℕ) (after : List Resource) → with_resource before name piece ≡ Ok after → length after ≡ length before + 1
one_put before name piece after h =
    let made = if_ok (is_some (bytes_of before name)) (Twice name.kind name.id) (Ok (before ++ (name, piece) ∷ [])) after h in
    ap length (sym (ok_is (before ++ (name, piece) ∷ []) after made.1)) ∙ length-append before ((name, piece) ∷ [])

one_more : (bytes : List ℕ) (areas : Areas) (kind : ℕ) (before : List Resource) (place : ℕ) (after : List Resource)
    → with_reference bytes areas kind before place ≡ Ok after → length after ≡ length before + 1
one_more bytes areas kind before place after h =
    let name = named kind (id_at bytes place) in
    let read = bind_ok (data_at bytes areas place) (λ piece. if is_compressed bytes place then Err (Compressed name.kind name.id) else with_resource before name piece) after h in
    let plain = if_ok (is_compressed bytes place) (Compressed name.kind name.id) (with_resource before name read.0) after read.2 in
    one_put before name read.0 after plain.1

all_of_type : (bytes : List ℕ) (areas : Areas) (entry : TypeEntry) (before : List Resource) (count : ℕ) (after : List Resource)
    → with_references bytes areas entry before count ≡ Ok after → length after ≡ length before + count
all_of_type bytes areas entry before count after h =
    keeps (with_numbered bytes areas entry) before (λ k made. length made ≡ length before + k) (omega arith)
    (λ k t u so_far e. let more = one_more bytes areas entry.kind t (entry.first + 12 * k) u e in omega (arith, so_far, more)) count after h

one_type : (bytes : List ℕ) (areas : Areas) (list : ℕ) (before : List Resource) (k : ℕ) (after : List Resource)
    → with_type bytes areas list before k ≡ Ok after → length after ≡ length before + count_in bytes areas list k
one_type bytes areas list before k after h =
    let place = list + 2 + 8 * k in
    let entry = entry_at bytes list place in
    let fits = if_ok (nat_lt areas.map_end (place + 8)) (BadOffset place) (with_references bytes areas entry before entry.count) after h in
    rw fits.0 (all_of_type bytes areas entry before entry.count after fits.1)

pub all_types : (bytes : List ℕ) (areas : Areas) (list count : ℕ) (after : List Resource) → with_types bytes areas list count ≡ Ok after → length after ≡ count_below bytes areas list count
all_types bytes areas list count after h =
    keeps (with_type bytes areas list) [] (λ k made. length made ≡ count_below bytes areas list k) refl
    (λ k t u so_far e. one_type bytes areas list t k u e ∙ ap (λ n. n + count_in bytes areas list k) so_far) count after h
