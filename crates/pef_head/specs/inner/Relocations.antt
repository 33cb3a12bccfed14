-- What walks over the relocation headers keep.
use Rattle.std.specs.Prelude.{◌≡◌, ℕ, ◌<◌, List, length, slice_index_or, Option, None}
use Rattle.pef_head.specs.declared.loader.Loader.{Loader}
use Rattle.pef_head.specs.declared.marks.Marks.{Marks}
use Rattle.pef_head.specs.inner.Marks.{is_marked}
use Rattle.pef_head.specs.inner.Places.{is_for}
use Rattle.mix_bits.specs.Search.{any_below, least}

-- the marks are those of the sections of the first h relocation headers
abbrev pub Seen : List ℕ → Loader → ℕ → Marks → Type 0
Seen bytes l h marks = (k : ℕ) → is_marked marks k ≡ any_below (is_for bytes l k) h

-- the table has for each section the first of the first n relocation headers that is for it, if there is one
abbrev pub HasHeadersFor : List ℕ → Loader → ℕ → List (Option ℕ) → Type 0
HasHeadersFor bytes l n table = (k : ℕ) → k < length table → slice_index_or table k None ≡ least (is_for bytes l k) n
