-- Restoring and spelling are inverse to each other.
use Rattle.std.proofs.Common.{◌≡◌, ◌⊎◌, inl, inr, ℕ, ◌*◌, ◌/◌, Bool, false, List, length, get_or, Result, Ok, Err, arith, ap, sym, subst, ◌∙◌, refl}
use Rattle.std.specs.Prelude.{IfOk, MatchResult}
use Rattle.big_memory.specs.Memory.{Memory, IsRam}
use Rattle.big_memory.specs.Numbers.{AreBytes, long_at}
use Rattle.switch_frame.specs.Calls.{IsOutermost, active_set}
use Rattle.switch_frame.specs.Chain.{Chain, Frames, Links, cleared, records}
use Rattle.switch_frame.specs.Checks.{IsFirstWrong}
use Rattle.switch_frame.specs.ChecksClauses.{IsWholeChain}
use Rattle.switch_frame.specs.Program.{HasGatePage, Stands, gate_long}
use Rattle.switch_frame.specs.Records.{Record, isa_of}
use Rattle.switch_frame.proofs.Found.{whole_chains_pass}
use Rattle.switch_frame.proofs.Gates.{page_by_bytes}
use Rattle.switch_frame.proofs.Linked.{keeps_length}
use Rattle.switch_frame.proofs.Marked.{marks_same}
use Rattle.switch_frame.proofs.Seen.{low_is_memory}
use Rattle.mixed_machine.specs.Machine.{callers_of, memory_of}
use Rattle.mix_engine.specs.declared.machine.Machine.{Machine}
use Rattle.mix_image.specs.declared.error.ImageError.{ImageError}
use Rattle.mix_image.specs.declared.error.ImageError.TheVariants.{NoMemory, Short, Magic, Ram, Main, StartSp, Heap, Block, Active, Ccr, Page, Extra, Gate, Frame}
use Rattle.mix_image.specs.Fields.{bare, fields_of}
use Rattle.mix_image.specs.laws.Laws.{SpellingIsRestored, SpellingsDiffer}
use Rattle.mix_image.specs.Restoring.{IsGuarded, IsRestored, IsTested, with_guard}
use Rattle.mix_image.specs.Spelling.{HasSpelling, spell}
use Rattle.mix_image.proofs.Spelled.{AreFields, bared, bare-ram, fields-back, fields-there, none-marked}

-- memory with the same bytes has the same frames
links-same : (m n : Memory) (top : ℕ) (rs : List Record) → IsRam n → n.bytes ≡ m.bytes → Links m top rs → Links n top rs
links-same m n top rs ram same links =
    record { ram = ram; first = links.first; few = links.few; frames = subst (λ xs. Frames (length xs) xs rs) (sym same) links.frames }

-- the gate page stands below the frames
page-beside : (m : Memory) (top a5 : ℕ) (rs : List Record) → Links m top rs → HasGatePage a5 m.bytes → HasGatePage a5 (cleared m.bytes rs)
page-beside m top a5 rs links page =
    let ram = links.ram in
    page_by_bytes a5 m.bytes (cleared m.bytes rs) (low_is_memory m top rs 0x1000 0x1000 links (omega (arith, ram.least))) (keeps_length m top rs links) page

page-there : (m : Memory) (top a5 : ℕ) (rs : List Record) → Links m top rs → HasGatePage a5 (cleared m.bytes rs) → HasGatePage a5 m.bytes
page-there m top a5 rs links page =
    let ram = links.ram in
    page_by_bytes a5 (cleared m.bytes rs) m.bytes (sym (low_is_memory m top rs 0x1000 0x1000 links (omega (arith, ram.least)))) (sym (keeps_length m top rs links)) page

-- the words of a machine
callers-are : (m : Machine) → callers_of m.body ≡ records m.body.ram.bytes m.body.top
unfolding callers_of
callers-are m = refl

memory-is : (m : Machine) → memory_of m.body ≡ cleared m.body.ram.bytes (records m.body.ram.bytes m.body.top)
unfolding memory_of callers_of
memory-is m = refl

-- other marks change no spelling
spell-guard : (marks : List Bool) (m : Machine) → spell (with_guard marks m) ≡ spell m
unfolding spell
spell-guard marks m = refl

-- ---- what was restored

guarded-whole : (bytes : List ℕ) (m : Machine) (marks : List Bool) → AreBytes m.body.ram.bytes → AreFields bytes m → HasGatePage m.body.a5 m.body.ram.bytes
    → Chain (with_guard marks m).body.ram m.body.top (records m.body.ram.bytes m.body.top) → isa_of m.active ≡ active_set m.body.main (records m.body.ram.bytes m.body.top) → IsOutermost m.body.main (records m.body.ram.bytes m.body.top)
    → HasSpelling (with_guard marks m)
guarded-whole bytes m marks fit fields page chain called outermost =
    let n = with_guard marks m in
    let rs = records m.body.ram.bytes m.body.top in
    let callers : records m.body.ram.bytes m.body.top ≡ callers_of (with_guard marks m).body = sym (callers-are n) in
    let memory : cleared m.body.ram.bytes (records m.body.ram.bytes m.body.top) ≡ memory_of (with_guard marks m).body = sym (memory-is n) in
    record {
      whole = record {
        chain = subst (λ xs. Chain n.body.ram m.body.top xs) callers chain;
        active = called ∙ ap (λ xs. active_set m.body.main xs) callers;
        outermost = subst (λ xs. IsOutermost m.body.main xs) callers outermost;
        page = subst (λ xs. HasGatePage m.body.a5 xs) memory (page-beside n.body.ram m.body.top m.body.a5 rs chain.links page);
        start = fields.start;
        heap = record { aligned = fields.heap.aligned; behind = fields.heap.behind; ordered = fields.heap.ordered; whole = fields.heap.whole };
      };
      bytes = fit;
      a5 = fields.a5;
      file = fields.file;
      sound = fields.sound;
    }

tested-whole : (bytes : List ℕ) (n m : Machine) → AreFields bytes n → IsGuarded n m → HasSpelling m × (spell m ≡ bytes)
tested-whole bytes n m fields tested =
    let marks = m.body.ram.marks in
    let same : m ≡ with_guard marks n = tested.same in
    let back : with_guard marks n ≡ m = sym same in
    let whole : HasSpelling (with_guard marks n) = guarded-whole bytes n marks fields.held fields tested.page
    (subst (λ v. Chain v.body.ram v.body.top (records v.body.ram.bytes v.body.top)) same tested.chain)
    (subst (λ v. isa_of v.active ≡ active_set v.body.main (records v.body.ram.bytes v.body.top)) same tested.called)
    (subst (λ v. IsOutermost v.body.main (records v.body.ram.bytes v.body.top)) same tested.outermost) in
    (subst (λ v. HasSpelling v) back whole, ap spell same ∙ spell-guard marks n ∙ fields.spelled)

matched : (bytes : List ℕ) (r : Result Machine ImageError) (m : Machine) → r ≡ fields_of bytes → MatchResult r (λ n. (Ok m ≡ Err NoMemory) ⊎ IsTested n (Ok m)) (λ e. Ok m ≡ Err e) → (n : Machine) × (fields_of bytes ≡ Ok n) × IsGuarded n m
matched bytes (Ok n) m is all = elim all [ inl none ↦ absurd (cc) | inr tested ↦ (n, sym is, tested) ]
matched bytes (Err e) m is all = absurd (cc)

pub restored-back : (bytes : List ℕ) (m : Machine) → AreBytes bytes → IsRestored bytes (Ok m) → HasSpelling m × (spell m ≡ bytes)
restored-back bytes m fit restored =
    let found = matched bytes (fields_of bytes) m refl restored in tested-whole bytes found.0 m (fields-back bytes found.0 fit found.1) found.2

pub whole-restored : (bytes : List ℕ) (result : Result Machine ImageError) → AreBytes bytes → IsRestored bytes result → IfOk result HasSpelling
whole-restored bytes (Ok m) fit restored = (restored-back bytes m fit restored).0
whole-restored bytes (Err e) fit restored = tt

pub spelled-restored : (bytes : List ℕ) (result : Result Machine ImageError) → AreBytes bytes → IsRestored bytes result → IfOk result (λ m. spell m ≡ bytes)
spelled-restored bytes (Ok m) fit restored = (restored-back bytes m fit restored).1
spelled-restored bytes (Err e) fit restored = tt

-- ---- what is spelled is restored

bared-guard : (m : Machine) (marks : List Bool) → with_guard marks (bared m) ≡ with_guard marks m
unfolding bared
bared-guard m marks = refl

guard-own : (m : Machine) → with_guard m.body.ram.marks m ≡ m
guard-own m = refl

tested-same : (m r : Machine) → HasSpelling m → IsGuarded (bared m) r → r ≡ m
tested-same m r has tested =
    let marks = r.body.ram.marks in
    let same : r ≡ with_guard marks m = tested.same ∙ bared-guard m marks in
    let rs = callers_of m.body in
    let mine : Chain m.body.ram m.body.top (callers_of m.body) = has.whole.chain in
    let other : Chain r.body.ram r.body.top (records r.body.ram.bytes r.body.top) = tested.chain in
    let here : Chain (with_guard marks m).body.ram m.body.top (records m.body.ram.bytes m.body.top)
    = subst (λ v. Chain v.body.ram v.body.top (records v.body.ram.bytes v.body.top)) same other in
    let theirs : Chain (with_guard marks m).body.ram m.body.top (callers_of m.body) = subst (λ xs. Chain (with_guard marks m).body.ram m.body.top xs) (sym (callers-are m)) here in
    let equal : marks ≡ m.body.ram.marks = marks_same (with_guard marks m).body.ram m.body.ram m.body.top m.body.top rs theirs mine refl in
    same ∙ ap (λ l. with_guard l m) equal ∙ guard-own m

bared-whole : (m : Machine) → HasSpelling m → IsWholeChain (bared m).body.ram (bared m).body.top (isa_of (bared m).active) (bared m).body.main (callers_of m.body)
unfolding bared
bared-whole m has =
    let links = has.whole.chain.links in
    let ram = links.ram in
    let kib : length m.body.ram.bytes ≡ 1024 * (length m.body.ram.bytes / 1024) = omega (arith, ram.whole) in
    let plain : IsRam (bare m.body.ram.bytes) = bare-ram m.body.ram.bytes (length m.body.ram.bytes / 1024) kib (omega (arith, ram.least, kib)) (omega (arith, ram.most)) in
    record { links = links-same m.body.ram (bare m.body.ram.bytes) m.body.top (callers_of m.body) plain refl links; called = has.whole.active; outermost = has.whole.outermost }

bared-page : (m : Machine) → HasSpelling m → HasGatePage (bared m).body.a5 (bared m).body.ram.bytes
unfolding bared
bared-page m has =
    let links = has.whole.chain.links in
    let page : HasGatePage m.body.a5 (cleared m.body.ram.bytes (callers_of m.body)) = subst (λ xs. HasGatePage m.body.a5 (cleared m.body.ram.bytes xs)) (sym (callers-are m)) (subst (λ xs. HasGatePage m.body.a5 xs) (memory-is m) has.whole.page) in
    page-there m.body.ram m.body.top m.body.a5 (callers_of m.body) links page

never-wrong : (a5 a : ℕ) (bytes : List ℕ) → HasGatePage a5 bytes → IsFirstWrong a5 bytes a → ⊥
never-wrong a5 a bytes page wrong = wrong.wrong (subst (λ b. Stands (gate_long a5 (length bytes) b) (long_at b bytes)) (sym wrong.address) (page.longs wrong.place wrong.within))

tested-there : (m : Machine) (result : Result Machine ImageError) → HasSpelling m → IsTested (bared m) result → result ≡ Ok m
tested-there m (Ok r) has tested = ap Ok (tested-same m r has tested)
tested-there m (Err (Gate a)) has tested = absurd (never-wrong (bared m).body.a5 a (bared m).body.ram.bytes (bared-page m has) tested)
tested-there m (Err (Frame lo)) has tested =
    absurd (let no : Err lo ≡ Ok (length (callers_of m.body)) = sym tested.1 ∙ whole_chains_pass (bared m).body.ram (bared m).body.top (isa_of (bared m).active) (bared m).body.main (callers_of m.body) (bared-whole m has) in cc)
tested-there m (Err NoMemory) has tested = absurd tested
tested-there m (Err (Short n)) has tested = absurd tested
tested-there m (Err Magic) has tested = absurd tested
tested-there m (Err (Ram n)) has tested = absurd tested
tested-there m (Err (Main n)) has tested = absurd tested
tested-there m (Err (StartSp n)) has tested = absurd tested
tested-there m (Err Heap) has tested = absurd tested
tested-there m (Err (Block n)) has tested = absurd tested
tested-there m (Err (Active n)) has tested = absurd tested
tested-there m (Err (Ccr n)) has tested = absurd tested
tested-there m (Err (Page n)) has tested = absurd tested
tested-there m (Err (Extra n)) has tested = absurd tested

pub spelling_is_restored : SpellingIsRestored
spelling_is_restored m result has restored =
    elim (subst (λ r. MatchResult r (λ n. (result ≡ Err NoMemory) ⊎ IsTested n result) (λ e. result ≡ Err e)) (fields-there m has) restored) [
      | inl none ↦ inr none
      | inr tested ↦ inl (tested-there m result has tested)
    ]

pub only-spelled : (bytes : List ℕ) (m : Machine) (result : Result Machine ImageError) → HasSpelling m → spell m ≡ bytes → IsRestored bytes result → (result ≡ Ok m) ⊎ (result ≡ Err NoMemory)
only-spelled bytes m result has is restored = spelling_is_restored m result has (subst (λ xs. IsRestored xs result) (sym is) restored)

-- two machines with one spelling
own-guarded : (m : Machine) → HasSpelling m → IsGuarded (bared m) m
unfolding bared
own-guarded m has =
    let callers : callers_of m.body ≡ records m.body.ram.bytes m.body.top = callers-are m in
    record {
      page = bared-page m has;
      same = refl;
      chain = subst (λ xs. Chain m.body.ram m.body.top xs) callers has.whole.chain;
      called = has.whole.active ∙ ap (λ xs. active_set m.body.main xs) callers;
      outermost = subst (λ xs. IsOutermost m.body.main xs) callers has.whole.outermost;
    }

pub spellings_differ : SpellingsDiffer
spellings_differ m n first second same =
    let fields : Ok (bared m) ≡ Ok (bared n) = sym (fields-there m first) ∙ ap fields_of same ∙ fields-there n second in
    let both : bared m ≡ bared n = cc in
    let mine : IsGuarded (bared m) m = own-guarded m first in
    tested-same n m second (subst (λ v. IsGuarded v m) both mine)

-- ---- as the code restores

-- nothing is guarded in a machine of fields
pub fields-clear : (bytes : List ℕ) (m : Machine) → AreBytes bytes → fields_of bytes ≡ Ok m → (unit : ℕ) → get_or m.body.ram.marks unit false ≡ false
fields-clear bytes m fit is unit =
    let fields : AreFields bytes m = fields-back bytes m fit is in
    ap (λ (r : Memory). get_or r.marks unit false) fields.bare_is ∙ none-marked (length m.body.ram.bytes / 16) unit
