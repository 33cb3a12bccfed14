-- Relocations are refused in a section of zeros at the address 0 where they are in one of its size anywhere.
use Rattle.std.proofs.Common.{◌≡◌, ◌∙◌, refl, sym, ap, ℕ, zero, suc, ◌+◌, ◌<◌, ◌≤◌, nat_le, Bool, true, List, [], ◌∷◌, length, slice_index, replicate, Option, Result, Ok, Err, arith, length-append}
use Rattle.std.specs.Prelude.{◌&&◌, is_some}
use Rattle.std.specs.Result.{is_err, result_err}
use Rattle.std.proofs.lemmas.List.{length-replicate, places}
use Rattle.std.proofs.lemmas.Bool.Decides.{nat_tests}
use Rattle.big_memory.specs.Lists.{part}
use Rattle.big_memory.specs.Memory.{Memory}
use Rattle.pef_head.specs.Container.{instantiated_count}
use Rattle.pef_head.specs.Parts.{import_count, relocs_of}
use Rattle.pef_reloc.specs.declared.error.RelocError.{RelocError}
use Rattle.pef_reloc.specs.Additions.{Sources}
use Rattle.pef_reloc.specs.Program.{relocated}
use Rattle.pef_reloc.specs.ProgramClauses.{relocated_in}
use Rattle.pef_reloc.specs.laws.Laws.{HasSameRefusal}
use Rattle.mix_load.specs.Pieces.{numbered}
use Rattle.mix_load.specs.Sections.{section_base, sources}
use Rattle.mix_load.specs.SectionsClauses.{address_at}
use Rattle.mix_load.specs.laws.Sections.{total_at}
use Rattle.look_words.specs.inner.Unmade.{HasSizes, is_badly_relocated}

length-numbered : (f : ℕ → ℕ) (n : ℕ) → length (numbered f n) ≡ n
length-numbered f zero = refl
length-numbered f (suc n) = omega (arith, length-append (numbered f n) (f n ∷ []), length-numbered f n)

length-part : (at n : ℕ) (xs : List ℕ) → at + n ≤ length xs → length (part at n xs) ≡ n
length-part at n xs within = grind (arith, places)

error_is : {T E : Type 0} (r : Result T E) → is_err r ≡ is_some (result_err r)
error_is (Ok x) = refl
error_is (Err e) = refl

both : (low some : Bool) → low ≡ true → some ≡ (low && some)
both low some q = ap (λ b. b && some) (sym q)

-- what a section of zeros at the address 0 shows of one of its size
pub refused_alike : HasSameRefusal → (bytes zeros sizes addresses words : List ℕ) (k start : ℕ) (m : Memory) → HasSizes bytes zeros sizes addresses → k < instantiated_count bytes
    → length m.bytes ≤ 16777216 → slice_index sizes k ≤ length m.bytes → words ≡ relocs_of bytes k
    → (relocated_in k words zeros sizes addresses m).refusal ≡ (relocated (sources bytes start) (relocs_of bytes k) (replicate (total_at bytes k) 0)).refusal
refused_alike same bytes zeros sizes addresses words k start m has below large low is =
    let one : Sources = record { bases = zeros; imports = addresses } in
    let held : List ℕ = part (slice_index zeros k) (slice_index sizes k) m.bytes in
    let within : slice_index zeros k + slice_index sizes k ≤ length m.bytes = omega (arith, has.low k, low) in
    let long : length held ≡ length (replicate (total_at bytes k) 0) =
    length-part (slice_index zeros k) (slice_index sizes k) m.bytes within ∙ (has.totals k below ∙ sym (length-replicate (total_at bytes k) 0)) in
    let bases : length zeros ≡ length (numbered (section_base bytes start) (instantiated_count bytes)) =
    has.bases ∙ sym (length-numbered (section_base bytes start) (instantiated_count bytes)) in
    let imports : length addresses ≡ length (numbered (address_at bytes) (import_count bytes)) =
    has.imports ∙ sym (length-numbered (address_at bytes) (import_count bytes)) in
    ap (λ (ws : List ℕ). (relocated one ws held).refusal) is ∙ same one (sources bytes start) (relocs_of bytes k) held (replicate (total_at bytes k) 0) bases imports long

-- the answer of a run on such a section
pub refused_anywhere : {T : Type 0} → HasSameRefusal → (bytes zeros sizes addresses words : List ℕ) (k : ℕ) (m : Memory) (r : Result T RelocError)
    → HasSizes bytes zeros sizes addresses → k < instantiated_count bytes → length m.bytes ≤ 16777216 → slice_index sizes k ≤ length m.bytes → words ≡ relocs_of bytes k
    → result_err r ≡ (relocated_in k words zeros sizes addresses m).refusal → (start : ℕ) → is_err r ≡ is_badly_relocated bytes start k
refused_anywhere same bytes zeros sizes addresses words k m r has below large low is refusal start =
    let fits : nat_le (total_at bytes k) 16777216 ≡ true = grind (arith, nat_tests, has.totals k below, large, low) in
    error_is r ∙ (ap (λ (why : Option RelocError). is_some why) (refusal ∙ refused_alike same bytes zeros sizes addresses words k start m has below large low is)
    ∙ both (nat_le (total_at bytes k) 16777216) (is_some (relocated (sources bytes start) (relocs_of bytes k) (replicate (total_at bytes k) 0)).refusal) fits)

-- the same of lists that are these
pub refused_by : {T : Type 0} → HasSameRefusal → (bytes zeros sizes addresses words zs ss xs : List ℕ) (k : ℕ) (m : Memory) (r : Result T RelocError)
    → zs ≡ zeros → ss ≡ sizes → xs ≡ addresses
    → HasSizes bytes zeros sizes addresses → k < instantiated_count bytes → length m.bytes ≤ 16777216 → slice_index sizes k ≤ length m.bytes → words ≡ relocs_of bytes k
    → result_err r ≡ (relocated_in k words zs ss xs m).refusal → (start : ℕ) → is_err r ≡ is_badly_relocated bytes start k
refused_by same bytes zeros sizes addresses words zs ss xs k m r z s a has below large low is refusal =
    refused_anywhere same bytes zeros sizes addresses words k m r has below large low is
    (refusal ∙ (ap (λ (ys : List ℕ). (relocated_in k words ys ss xs m).refusal) z
    ∙ (ap (λ (ys : List ℕ). (relocated_in k words zeros ys xs m).refusal) s ∙ ap (λ (ys : List ℕ). (relocated_in k words zeros sizes ys m).refusal) a)))
