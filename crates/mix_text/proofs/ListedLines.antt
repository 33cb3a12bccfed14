-- The lines of a listing, one after the other.
use Rattle.std.proofs.Common.{◌≡◌, ℕ, zero, suc, List, [], ◌++◌, Some, None, Option, Result, Ok, Err, OnErr, sym, ap, ◌∙◌, subst, refl, append_assoc, append-nil}
use Rattle.mix_bits.specs.Addresses.{onward}
use Rattle.mix_bits.specs.declared.isa.Isa.{Isa}
use Rattle.mix_io.specs.Streams.{Output, Grows, Breaks, StopsWithin}
use Rattle.mix_io.proofs.Streams.{grows-none, grows-more, breaks-after}
use Rattle.big_memory.specs.Memory.{Memory}
use Rattle.mix_text.specs.Listing.{Listed, instruction, line_at, listing, listing_with}

-- so many lines are left from an address on, and the others were put
pub record Way (old new : Output) (count : ℕ) (set : Isa) (m : Memory) (at left next : ℕ) : Type 0 where
  pub before : List ℕ
  pub grows : Grows old new before
  pub split : listing count set m at ≡ before ++ listing left set m next

pub way-begins : (o : Output) (count : ℕ) (set : Isa) (m : Memory) (at left : ℕ) → left ≡ count → Way o o count set m at left at
way-begins o count set m at left same =
    record { before = []; grows = grows-none o; split = ap (λ n. listing n set m at) (sym same) }

with-some : (o : Option Listed) (i : Listed) (at : ℕ) (rest : ℕ → List ℕ) → o ≡ Some i → listing_with o at rest ≡ line_at at i.text ++ rest (onward at i.bytes)
with-some o i at rest some = ap (λ x. listing_with x at rest) some

-- the next line, and the lines behind it
pub listing-some : (left less : ℕ) (set : Isa) (m : Memory) (next : ℕ) (i : Listed) → left ≡ suc less → instruction set m next ≡ Some i
    → listing left set m next ≡ line_at next i.text ++ listing less set m (onward next i.bytes)
unfolding listing
listing-some left less set m next i one whole =
    ap (λ n. listing n set m next) one ∙ with-some (instruction set m next) i next (listing less set m) whole

pub listing-none : (left : ℕ) (set : Isa) (m : Memory) (next : ℕ) → instruction set m next ≡ None → listing left set m next ≡ []
unfolding listing
listing-none zero set m next none = refl
listing-none (suc n) set m next none = ap (λ x. listing_with x next (listing n set m)) none

-- one more line was put
pub way-on : (old mid new : Output) (count : ℕ) (set : Isa) (m : Memory) (at left less next after : ℕ) (i : Listed) → left ≡ suc less → after ≡ onward next i.bytes
    → instruction set m next ≡ Some i → Way old mid count set m at left next → Grows mid new (line_at next i.text) → Way old new count set m at less after
way-on old mid new count set m at left less next after i one same whole way grows =
    record {
      before = way.before ++ line_at next i.text;
      grows = grows-more old mid new way.before (line_at next i.text) way.grows grows;
      split = way.split ∙ (ap (λ xs. way.before ++ xs) (listing-some left less set m next i one whole)
          ∙ (sym (append_assoc way.before (line_at next i.text) (listing less set m (onward next i.bytes)))
          ∙ ap (λ a. (way.before ++ line_at next i.text) ++ listing less set m a) (sym same)));
    }

-- the put of a line failed
pub way-breaks : (old mid new : Output) (count : ℕ) (set : Isa) (m : Memory) (at left less next : ℕ) (i : Listed) → left ≡ suc less
    → instruction set m next ≡ Some i → Way old mid count set m at left next → Breaks mid new [] (line_at next i.text) → StopsWithin old new (listing count set m at)
way-breaks old mid new count set m at left less next i one whole way breaks =
    record {
      before = way.before;
      line = line_at next i.text;
      rest = listing less set m (onward next i.bytes);
      order = way.split ∙ ap (λ xs. way.before ++ xs) (listing-some left less set m next i one whole);
      breaks = subst (λ xs. Breaks old new xs (line_at next i.text)) (append-nil way.before) (breaks-after old mid new way.before [] (line_at next i.text) way.grows breaks);
    }

pub way-ends : (old new : Output) (count : ℕ) (set : Isa) (m : Memory) (at left next : ℕ) → listing left set m next ≡ []
    → Way old new count set m at left next → Grows old new (listing count set m at)
way-ends old new count set m at left next none way =
    subst (Grows old new) (sym (way.split ∙ (ap (λ xs. way.before ++ xs) none ∙ append-nil way.before))) way.grows

-- no line is left
pub listing-zero : (left : ℕ) (set : Isa) (m : Memory) (next : ℕ) → left ≡ 0 → listing left set m next ≡ []
unfolding listing
listing-zero left set m next none = ap (λ n. listing n set m next) none

pub on-err : {V E P : Type 0} (r : Result V E) → P → OnErr r P
on-err (Ok v) p = tt
on-err (Err e) p = p
