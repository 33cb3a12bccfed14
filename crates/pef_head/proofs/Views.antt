-- What a container's loader section says, by its file.
use Rattle.std.proofs.Common.{◌≡◌, ap, subst, sym, ◌∙◌, ℕ, ◌<◌, List, Option, None, Result, Ok, Err, IfOk, Vec, Global, length, slice_index, slice_index_or}
use Rattle.pef_head.specs.declared.loader.Loader.{Loader}
use Rattle.pef_head.specs.Loader.{loader_of}
use Rattle.pef_head.specs.inner.Owners.{HasOwners}
use Rattle.pef_head.specs.Container.{instantiated_count}
use Rattle.pef_head.specs.Parts.{import_count, relocs_of}
use Rattle.pef_head.specs.inner.Parts.{relocs_at}
use Rattle.pef_head.specs.PartsByNumber.{header_for, owner_of, library_of, reloc_header_of}
use Rattle.pef_head.specs.inner.Relocations.{HasHeadersFor}

pub count_same : (bytes now : List ℕ) (l : Loader) → bytes ≡ now → l ≡ loader_of bytes → l.symbols ≡ import_count now
count_same bytes now l view is = ap (λ (k : Loader). k.symbols) is ∙ ap (λ (n : List ℕ). import_count n) view

pub import_below : (bytes now : List ℕ) (l : Loader) (i : ℕ) → bytes ≡ now → l ≡ loader_of bytes → i < import_count now → i < l.symbols
import_below bytes now l i view is lt = subst (λ (n : ℕ). i < n) (sym (count_same bytes now l view is)) lt

pub owner_same : (bytes now : List ℕ) (l : Loader) (i owner : ℕ) → bytes ≡ now → l ≡ loader_of bytes → owner ≡ library_of now i → owner ≡ owner_of bytes l i
owner_same bytes now l i owner view is e =
    e ∙ sym (ap (λ (k : Loader). owner_of bytes k i) is ∙ ap (λ (n : List ℕ). library_of n i) view)

pub owners_same : (bytes now : List ℕ) (l : Loader) (table : List ℕ) → bytes ≡ now → l ≡ loader_of bytes → HasOwners bytes l l.libraries table
    → (i : ℕ) → i < import_count now → slice_index table i ≡ library_of now i
owners_same bytes now l table view is filled i lt =
    filled i (import_below bytes now l i view is lt) ∙ (ap (λ (k : Loader). owner_of bytes k i) is ∙ ap (λ (n : List ℕ). library_of n i) view)

pub header_same : (bytes now : List ℕ) (l : Loader) (k : ℕ) → bytes ≡ now → l ≡ loader_of bytes → header_for bytes l k ≡ reloc_header_of now k
header_same bytes now l k view is = ap (λ (m : Loader). header_for bytes m k) is ∙ ap (λ (n : List ℕ). reloc_header_of n k) view

pub relocs_same : (bytes now : List ℕ) (l : Loader) (k : ℕ) → bytes ≡ now → l ≡ loader_of bytes → relocs_at bytes l k ≡ relocs_of now k
relocs_same bytes now l k view is = ap (λ (m : Loader). relocs_at bytes m k) is ∙ ap (λ (n : List ℕ). relocs_of n k) view

pub headers_same : {E : Type 0} (bytes now : List ℕ) (l : Loader) (sections : ℕ) (r : Result (Vec (Option ℕ) Global) E) → bytes ≡ now → l ≡ loader_of bytes → sections ≡ instantiated_count bytes
    → IfOk r (λ table. HasHeadersFor bytes l l.headers table.items) → IfOk r (λ table. length table.items ≡ sections)
    → IfOk r (λ table. (k : ℕ) → k < instantiated_count now → slice_index_or table.items k None ≡ reloc_header_of now k)
headers_same bytes now l sections (Ok table) view is count noted room =
    λ k lt. noted k (subst (λ (n : ℕ). k < n) (sym (room ∙ (count ∙ ap (λ (n : List ℕ). instantiated_count n) view))) lt) ∙ header_same bytes now l k view is
headers_same bytes now l sections (Err e) view is count noted room = tt
