-- What a step changed lies where it stored.
use Rattle.std.proofs.Common.{◌≡◌, ◌⊎◌, ℕ, ◌≤◌, ◌==◌, nat_lt, Bool, true, false, not, if◌then◌else◌, List, [], ◌++◌, length, Option, Some, None, arith, ap, sym, subst, ◌∙◌, refl, inl, inr}
use Rattle.std.proofs.lemmas.Bool.{le-ltb}
use Rattle.std.proofs.lemmas.List.Filters.{length-filter_both}
use Rattle.host_heap.specs.declared.block.Block.{Block}
use Rattle.host_heap.specs.Space.{Space, rounded}
use Rattle.host_heap.specs.Place.{without}
use Rattle.host_heap.specs.Sound.{IsSound as IsSoundHeap}
use Rattle.switch_frame.specs.declared.active.Active.{Active}
use Rattle.switch_frame.specs.Records.{isa_of}
use Rattle.mixed_machine.specs.declared.body.Body.{Body}
use Rattle.mixed_machine.specs.declared.stop.Stop.{Stop}
use Rattle.mixed_machine.specs.Machine.{IsWhole}
use Rattle.mixed_machine.specs.laws.StepLaws.{HeapMoves}
use Rattle.mixed_machine.specs.OutsideClauses.{At}
use Rattle.mixed_machine.specs.inner.Outside.{answers_between, state_of}
use Rattle.toolbox.specs.Calls.{around_at}
use Rattle.mixed_machine.specs.RunsClauses.{Runs, sinks_of}
use Rattle.mixed_machine.specs.Runs.{Stops}
use Rattle.mix_reach.specs.declared.reach.Reach.{Reach}
use Rattle.mix_reach.specs.declared.reach.Stores.{Stores}
use Rattle.mix_reach.specs.laws.Ranges.{Beside, range}
use Rattle.mix_reach.specs.laws.Steps.{next_stores, reach}
use Rattle.mix_reach.specs.laws.Laws.{MakesNone, StoredIn, StoredInBlock}
use Rattle.mix_reach.proofs.Lifted.{stores_where_told}
use Rattle.mix_debug.specs.declared.head.BlockChange.{BlockChange}
use Rattle.mix_debug.specs.declared.head.BlockChange.TheVariants.{Stays, Made}
use Rattle.mix_debug.specs.inner.Entries.{block_between, first_other, freed_of, made_of}
use Rattle.mix_debug.specs.inner.Reaches.{SameBlocks, stored_in}
use Rattle.mix_debug.specs.TrailsClauses.{is_done}
use Rattle.mix_debug.proofs.Blocks.{block-made, blocks-same}
use Rattle.mix_debug.proofs.Stepping.{somewhere, step-goes}

-- a step that makes no block is told by its reach
not-made : (x : Option Block) (next : Stores) (old new : ℕ) (active : Active) → stored_in (freed_of x) next old new active ≡ reach next old new active
not-made None next old new active = refl
not-made (Some b) next old new active = refl

by-tests : (same less : Bool) (x y : Option Block) (next : Stores) (old new : ℕ) (active : Active) → less ≡ false
    → stored_in (if same then Stays else (if less then made_of x else freed_of y)) next old new active ≡ reach next old new active
by-tests true less x y next old new active none = refl
by-tests false true x y next old new active none = absurd (let e : true ≡ false = none in cc)
by-tests false false x y next old new active none = not-made y next old new active

pub fewer-told : (old new : List Block) (next : Stores) (top last : ℕ) (active : Active) → length new ≤ length old → stored_in (block_between old new) next top last active ≡ reach next top last active
fewer-told old new next top last active few =
    by-tests (length new == length old) (nat_lt (length old) (length new)) (first_other new old) (first_other old new) next top last active (le-ltb (length old) (length new) few)

without-fewer : (blocks : List Block) (a : ℕ) → length (without blocks a) ≤ length blocks
without-fewer blocks a = omega (arith, length-filter_both (λ (b : Block). not (b.address == a)) (λ (b : Block). not (not (b.address == a))) (λ b. refl) blocks)

none-fewer : (old new : Space) → MakesNone old new → length new.blocks ≤ length old.blocks
none-fewer old new (inl same) = omega (arith, ap (λ (s : Space). length s.blocks) same)
none-fewer old new (inr gone) = omega (arith, ap (λ (s : Space). length s.blocks) gone.1, without-fewer old.blocks gone.0)

pub stored-told : (b c : Body) (new : Active) (next : Stores) (blocks : List Block) (copy : List ℕ) → copy ≡ b.ram.bytes → blocks ≡ b.heap.blocks → IsSoundHeap b.heap
    → StoredIn (reach next b.top c.top new) b c ⊎ StoredInBlock next.filled b c → Beside (stored_in (block_between blocks c.heap.blocks) next b.top c.top new) copy c.ram.bytes
stored-told b c new next blocks copy copied same sound (inl plain) =
    let told : stored_in (block_between blocks c.heap.blocks) next b.top c.top new ≡ reach next b.top c.top new =
    fewer-told blocks c.heap.blocks next b.top c.top new (omega (arith, ap length same, none-fewer b.heap c.heap plain.heap)) in
    subst (λ (w : Reach). Beside w copy c.ram.bytes) (sym told) (subst (λ (xs : List ℕ). Beside (reach next b.top c.top new) xs c.ram.bytes) (sym copied) plain.beside)
stored-told b c new next blocks copy copied same sound (inr block) =
    let made : block_between blocks c.heap.blocks ≡ Made (record { address = block.place; size = rounded block.size }) =
    ap (λ (bs : List Block). block_between bs c.heap.blocks) same ∙ block-made b.heap c.heap block.size block.place sound block.found block.made in
    subst (λ (x : BlockChange). Beside (stored_in x next b.top c.top new) copy c.ram.bytes) (sym made) (subst (λ (xs : List ℕ). Beside (range block.place next.filled) xs c.ram.bytes) (sym copied) block.beside)

-- a run of one step that is done
pub stored-by_run : (a b : At) (stop : Stop) → is_done stop ≡ true → IsWhole a.body (isa_of a.active) → IsWhole b.body (isa_of b.active) → Runs 1 a b stop
    → StoredIn (reach (next_stores a.body.ram a.active) a.body.top b.body.top b.active) a.body b.body ⊎ StoredInBlock (next_stores a.body.ram a.active).filled a.body b.body
stored-by_run a b stop done first second runs =
    let at = somewhere (λ s t. Stops 0 1 runs.left s t (sinks_of a) (sinks_of b) stop) a b runs.run in
    stores_where_told a.body b.body a.active b.active (around_at a.outside at.before (answers_between a b ++ [])) (around_at b.outside at.after []) first second
    (step-goes stop runs.left (state_of a at.before (answers_between a b ++ [])) (state_of b at.after []) (sinks_of a) (sinks_of b) done at.holds)

-- as it is kept
pub stored-kept : (b c : Body) (old new : Active) (next : Stores) (blocks : List Block) (copy : List ℕ) → copy ≡ b.ram.bytes → blocks ≡ b.heap.blocks → IsSoundHeap b.heap → next ≡ next_stores b.ram old
    → StoredIn (reach (next_stores b.ram old) b.top c.top new) b c ⊎ StoredInBlock (next_stores b.ram old).filled b c → Beside (stored_in (block_between blocks c.heap.blocks) next b.top c.top new) copy c.ram.bytes
stored-kept b c old new next blocks copy copied same sound is stored =
    subst (λ (w : Stores). Beside (stored_in (block_between blocks c.heap.blocks) w b.top c.top new) copy c.ram.bytes) (sym is)
    (stored-told b c new (next_stores b.ram old) blocks copy copied same sound stored)

pub same-kept : (old new : Space) (blocks : List Block) → IsSoundHeap old → blocks ≡ old.blocks → HeapMoves old new → SameBlocks blocks new.blocks
same-kept old new blocks sound same moves = subst (λ (bs : List Block). SameBlocks bs new.blocks) (sym same) (blocks-same old new sound moves)
