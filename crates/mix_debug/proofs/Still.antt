-- A step that changed nothing but registers.
use Rattle.std.proofs.Common.{◌≡◌, ℕ, suc, ◌+◌, nat_lt, Bool, if◌then◌else◌, List, [], ◌∷◌, length, arith, ap, sym, ◌∙◌, refl, inl, inr, eq-eqb}
use Rattle.std.proofs.lemmas.Bool.{cases_lt}
use Rattle.std.proofs.lemmas.Grind.{same_number_lists}
use Rattle.mix_bits.specs.declared.isa.Isa.{Isa}
use Rattle.host_heap.specs.declared.block.Block.{Block}
use Rattle.switch_frame.specs.declared.active.Active.{Active}
use Rattle.switch_frame.specs.Records.{isa_of}
use Rattle.switch_frame.specs.Sets.{frame_size}
use Rattle.mix_engine.specs.declared.machine.Machine.{Machine}
use Rattle.mix_reach.specs.declared.reach.Reach.{Reach}
use Rattle.mix_reach.specs.declared.reach.Stores.{Stores}
use Rattle.mix_reach.specs.laws.Ranges.{Beside}
use Rattle.mix_reach.specs.laws.Steps.{frame_given_up, frame_made, is_made, reach}
use Rattle.mix_debug.specs.declared.head.FrameChange.TheVariants.{Stays as FrameStays, Made as FrameMade, GivenUp}
use Rattle.mix_debug.specs.declared.head.BlockChange.TheVariants.{Stays as BlockStays}
use Rattle.mix_debug.specs.Changes.{runs_from}
use Rattle.mix_debug.specs.inner.Entries.{block_between, first_other, frame_between, freed_of, head_with, made_of, still}
use Rattle.mix_debug.specs.inner.Histories.{entry_of}
use Rattle.mix_debug.specs.inner.Reaches.{stored_in}
use Rattle.mix_debug.proofs.Empty.{no_olds}
use Rattle.mix_debug.proofs.Keeping.{entry-is}
use Rattle.mix_debug.proofs.Reached.{fewer-told}

-- no byte outside an empty range has changed
pub all_same : (w : Reach) (old new : List ℕ) → w.low ≡ w.high → Beside w old new → new ≡ old
all_same w old new none beside =
    same_number_lists new old beside.long (λ k below. beside.same k (elim (cases_lt k w.low) [ inl low ↦ inl low | inr high ↦ inr (omega (arith, none, high)) ]))

runs-alike : (at : ℕ) (xs : List ℕ) → runs_from at xs xs ≡ []
unfolding runs_from
runs-alike at [] = refl
runs-alike at (x ∷ xs) = rw (eq-eqb x x refl) (runs-alike (suc at) xs)

runs-none : (old new : List ℕ) → new ≡ old → [] ≡ runs_from 0 old new
runs-none old new same = sym (ap (runs_from 0 old) same ∙ runs-alike 0 old)

pub frame-stays : (old new : ℕ) (a b : Isa) → new ≡ old → FrameStays ≡ frame_between old new a b
frame-stays old new a b same =
    sym (ap (λ (t : Bool). if t then FrameStays else (if is_made old new then FrameMade new (new + frame_size a) else GivenUp old (old + frame_size b))) (eq-eqb new old same))

pub block-stays : (old new : List Block) → length new ≡ length old → BlockStays ≡ block_between old new
block-stays old new same =
    sym (ap (λ (t : Bool). if t then BlockStays else (if nat_lt (length old) (length new) then made_of (first_other new old) else freed_of (first_other old new))) (eq-eqb (length new) (length old) same))

reach-stays : (next : Stores) (old new : ℕ) (active : Active) → new ≡ old → reach next old new active ≡ next.reach
reach-stays next old new active same =
    ap (λ (t : Bool). if t then next.reach else (if is_made old new then frame_made new active else frame_given_up old active)) (eq-eqb new old same)

-- it stored where was told before it
pub stored_still : (blocks news : List Block) (next : Stores) (top last : ℕ) (active : Active) → length news ≡ length blocks → last ≡ top
    → stored_in (block_between blocks news) next top last active ≡ next.reach
stored_still blocks news next top last active same stays =
    fewer-told blocks news next top last active (omega (arith, same)) ∙ reach-stays next top last active stays

-- what is kept of it
pub still_entry : (file : Active) (top : ℕ) (bytes : List ℕ) (blocks : List Block) (new : Machine) → new.body.top ≡ top → length new.body.heap.blocks ≡ length blocks → new.body.ram.bytes ≡ bytes
    → record { head = head_with file (still top); runs = [] } ≡ entry_of file top bytes blocks new
still_entry file top bytes blocks new tops long same =
    let none : [] ≡ runs_from 0 bytes new.body.ram.bytes = runs-none bytes new.body.ram.bytes same in
    entry-is file top bytes blocks new (isa_of file) (isa_of new.active) FrameStays blocks new.body.heap.blocks BlockStays 0 0 [] refl refl
    (frame-stays top new.body.top (isa_of file) (isa_of new.active) tops) refl refl (block-stays blocks new.body.heap.blocks long) (ap length none) (no_olds (runs_from 0 bytes new.body.ram.bytes) (sym none)) none
