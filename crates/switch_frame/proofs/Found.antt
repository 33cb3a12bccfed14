-- A walk finds exactly the whole chains.
use Rattle.std.proofs.Common.{◌≡◌, inl, inr, ℕ, zero, suc, ◌+◌, ◌-◌, ◌≤◌, ◌==◌, nat_le, nat_lt, true, false, ◌&&◌, ◌||◌, cond, lit≤, List, [], ◌∷◌, length, Result, Ok, Err, arith, ap, sym, subst, ◌∙◌, refl}
use Rattle.std.specs.Prelude.{IfOk}
use Rattle.std.proofs.lemmas.Bool.{and_from, and_parts, cases_Bool, eqb-true}
use Rattle.std.proofs.lemmas.Bool.Decides.{nat_tests}
use Rattle.mix_bits.specs.Addresses.{onward}
use Rattle.mix_bits.specs.declared.isa.Isa.{Isa}
use Rattle.big_memory.specs.Memory.{Memory, IsRam}
use Rattle.big_memory.specs.Numbers.{AreBytes, long_at}
use Rattle.proc_info.specs.Signature.{has_signature}
use Rattle.switch_frame.specs.declared.kind.Kind.{Kind}
use Rattle.switch_frame.specs.Sets.{callee_isa, caller_isa, frame_size, kind_at}
use Rattle.switch_frame.specs.Records.{Record, head_of, image, isa_of, record_at}
use Rattle.switch_frame.specs.Chain.{Fits, Frames, Links, most_frames, outer_of, records}
use Rattle.switch_frame.specs.Calls.{IsOutermost}
use Rattle.mix_bits.specs.Isas.{is_isa}
use Rattle.switch_frame.specs.ChecksClauses.{IsWholeChain}
use Rattle.switch_frame.specs.Checks.{caller_at, checked, fits_outer, is_below, is_good, walk}
use Rattle.switch_frame.specs.laws.Laws.{WholeChainsPass}
use Rattle.switch_frame.proofs.Images.{IsReadAt, kind-back}
use Rattle.switch_frame.proofs.Linked.{IsLen, IsRange, first-back, len-ram, range-fits, reads_back}
use Rattle.switch_frame.proofs.Walks.{IsGood, good-is, good-tells, same-set, set-same, walk-bad, walk-ends, walk-last, walk-on}
use Rattle.switch_frame.proofs.Again.{IsRead, file-holds, good-read, told-found}

-- the frames that a walk found from `lo` outward: a first one, and those outside it
pub record IsFound (m : Memory) (main callee : Isa) (most count lo k : ℕ) : Type 0 where
  pub first : Record
  pub rest : List Record
  pub at : lo ≡ first.lo
  pub few : length (first ∷ rest) ≤ most
  pub number : k ≡ count + length (first ∷ rest)
  pub frames : Frames (length m.bytes) m.bytes (first ∷ rest)
  pub called : callee ≡ callee_isa first.kind
  pub outermost : IsOutermost main (first ∷ rest)
  pub depth : long_at (lo + 28) m.bytes ≡ length (first ∷ rest)
  pub there : lo + 112 ≤ length m.bytes

-- what a good frame tells of the frame outside it
alone-outer : (m : Memory) (main caller : Isa) (lo : ℕ) → (long_at lo m.bytes == 0) ≡ true → fits_outer m main caller lo ≡ true → (long_at (lo + 28) m.bytes ≡ 1) × (caller ≡ main)
alone-outer m main caller lo none fits =
    let last : ((long_at (lo + 28) m.bytes == 1) && is_isa caller main) ≡ true = sym (rw none refl) ∙ fits in
    let parts = and_parts (long_at (lo + 28) m.bytes == 1) (is_isa caller main) last in
    (eqb-true (long_at (lo + 28) m.bytes) 1 parts.0, set-same caller main parts.1)

inner-outer : (m : Memory) (main caller : Isa) (lo : ℕ) → (long_at lo m.bytes == 0) ≡ false → fits_outer m main caller lo ≡ true → is_below m (long_at (lo + 20) m.bytes) (long_at (lo + 28) m.bytes) (long_at lo m.bytes) ≡ true
inner-outer m main caller lo more fits = sym (rw more refl) ∙ fits

below-tells : (m : Memory) (hi depth outer : ℕ) → IsLen (length m.bytes) → outer + 32 ≤ length m.bytes → is_below m hi depth outer ≡ true → (hi ≤ outer) × (depth ≡ long_at (outer + 28) m.bytes + 1)
below-tells m hi depth outer ok there below =
    let count = onward outer 28 in
    let same : onward outer 28 ≡ outer + 28 = omega (arith, ok.most) in
    let parts = and_parts (nat_le hi outer) (nat_lt (length m.bytes) (count + 4) || (depth == long_at count m.bytes + 1)) below in
    let inside : nat_lt (length m.bytes) (count + 4) ≡ false = grind (arith, nat_tests, same) in
    let counts : (depth == long_at count m.bytes + 1) ≡ true = sym (rw inside refl) ∙ parts.1 in
    (grind (arith, nat_tests, parts.0), eqb-true depth (long_at count m.bytes + 1) counts ∙ ap (λ a. long_at a m.bytes + 1) same)

-- the outermost frame
found-last : (m : Memory) (main callee : Isa) (most count lo : ℕ) (kind : Kind) → AreBytes m.bytes → IsGood m main callee lo kind → (long_at lo m.bytes == 0) ≡ true → IsFound m main callee (suc most) count lo (suc count)
found-last m main callee most count lo kind fit good none =
    let r = record_at lo m.bytes in
    let read : IsRead m lo kind = good-read m main callee lo kind fit good in
    let outer = alone-outer m main (caller_isa kind) lo none good.outer in
    let zero_is : long_at lo m.bytes ≡ 0 = eqb-true (long_at lo m.bytes) 0 none in
    record {
      first = r;
      rest = [];
      at = refl;
      few = omega arith;
      number = omega arith;
      frames = (read.image_is ∙ ap (λ o. image r o (long_at (lo + 28) m.bytes)) zero_is ∙ ap (λ d. image r 0 d) outer.0, record { alone = read.alone; inside = tt }, tt);
      called = sym good.called ∙ ap callee_isa (sym read.kind_is);
      outermost = ap caller_isa read.kind_is ∙ outer.1;
      depth = outer.0;
      there = good.there;
    }

-- a frame inside of others
outermost-more : (main : Isa) (r s : Record) (rs : List Record) → IsOutermost main (s ∷ rs) → IsOutermost main (r ∷ s ∷ rs)
outermost-more main r s rs is = is

found-more : (m : Memory) (main callee : Isa) (most count lo k : ℕ) (kind : Kind) → IsLen (length m.bytes) → AreBytes m.bytes → IsGood m main callee lo kind → (long_at lo m.bytes == 0) ≡ false
    → IsFound m main (caller_at m lo) most (suc count) (long_at lo m.bytes) k → IsFound m main callee (suc most) count lo k
found-more m main callee most count lo k kind ok fit good more found =
    let r = record_at lo m.bytes in
    let read : IsRead m lo kind = good-read m main callee lo kind fit good in
    let below = inner-outer m main (caller_isa kind) lo more good.outer in
    let outer = below-tells m (long_at (lo + 20) m.bytes) (long_at (lo + 28) m.bytes) (long_at lo m.bytes) ok (omega (arith, found.there)) below in
    let depth : long_at (lo + 28) m.bytes ≡ suc (length (found.first ∷ found.rest)) = omega (arith, outer.1, found.depth) in
    let inside : long_at (lo + 20) m.bytes ≤ found.first.lo = omega (arith, outer.0, found.at) in
    let sets : callee_isa found.first.kind ≡ isa_of r.caller = sym found.called ∙ ap caller_isa (told-found (long_at (lo + 4) m.bytes) kind good.kind_is) ∙ sym read.caller_is in
    record {
      first = r;
      rest = found.first ∷ found.rest;
      at = refl;
      few = omega (arith, found.few);
      number = omega (arith, found.number);
      frames = (read.image_is ∙ ap (λ o. image r o (long_at (lo + 28) m.bytes)) found.at ∙ ap (λ d. image r found.first.lo d) depth, record { alone = read.alone; inside = (inside, sets) }, found.frames);
      called = sym good.called ∙ ap callee_isa (sym read.kind_is);
      outermost = outermost-more main r found.first found.rest found.outermost;
      depth = depth;
      there = good.there;
    }

pub walk-found : (m : Memory) (main : Isa) (most count : ℕ) (callee : Isa) (lo k : ℕ) → IsLen (length m.bytes) → AreBytes m.bytes → walk m main most count callee lo ≡ Ok k → IsFound m main callee most count lo k
walk-found m main zero count callee lo k ok fit is = absurd (let no : Err lo ≡ Ok k = sym (walk-ends m main callee count lo) ∙ is in cc)
walk-found m main (suc most) count callee lo k ok fit is =
    elim (cases_Bool (is_good m main callee lo)) [
      | inr bad ↦ absurd (let no : Err lo ≡ Ok k = sym (walk-bad m main callee most count lo bad) ∙ is in cc)
      | inl good ↦
          let told = good-tells m main callee lo good in
          elim (cases_Bool (long_at lo m.bytes == 0)) [
            | inl none ↦
                let number : suc count ≡ k = (let same : Ok (suc count) ≡ Ok k = sym (walk-last m main callee most count lo good none) ∙ is in cc) in
                subst (λ n. IsFound m main callee (suc most) count lo n) number (found-last m main callee most count lo told.0 fit told.1 none)
            | inr more ↦
                found-more m main callee most count lo k told.0 ok fit told.1 more
                (walk-found m main most (suc count) (caller_at m lo) (long_at lo m.bytes) k ok fit (sym (walk-on m main callee most count lo good more) ∙ is))
          ]
    ]

-- a whole chain from a walk, and from the call
whole-of : (m : Memory) (top : ℕ) (active main : Isa) (k : ℕ) → IsRam m → IsFound m main active most_frames 0 top k → IsWholeChain m top active main (records m.bytes top) × (k ≡ length (records m.bytes top))
whole-of m top active main k ram found =
    let rs = found.first ∷ found.rest in
    let links : Links m top (found.first ∷ found.rest) = record { ram = ram; first = found.at; few = found.few; frames = found.frames } in
    let back : found.first ∷ found.rest ≡ records m.bytes top = sym (reads_back m top rs links) in
    let whole : IsWholeChain m top active main (found.first ∷ found.rest) = record { links = links; called = found.called; outermost = found.outermost } in
    let number : k ≡ length (found.first ∷ found.rest) = omega (arith, found.number) in
    subst (λ xs. IsWholeChain m top active main xs × (k ≡ length xs)) back (whole, number)

pub checked-walks : (m : Memory) (top : ℕ) (active main : Isa) → (top == 0) ≡ false → checked m top active main ≡ walk m main most_frames 0 active top
unfolding checked
checked-walks m top active main live = rw live refl

pub checked-none : (m : Memory) (top : ℕ) (active main : Isa) → top ≡ 0 → checked m top active main ≡ cond (is_isa active main) (Ok 0) (Err 0)
unfolding checked
checked-none m top active main none = rw none refl

pub whole-found : (m : Memory) (top : ℕ) (active main : Isa) (k : ℕ) → IsRam m → AreBytes m.bytes → (top == 0) ≡ false → checked m top active main ≡ Ok k
    → IsWholeChain m top active main (records m.bytes top) × (k ≡ length (records m.bytes top))
whole-found m top active main k ram fit live is =
    whole-of m top active main k ram (walk-found m main most_frames 0 active top k (len-ram m ram) fit (sym (checked-walks m top active main live) ∙ is))

pub none-whole : (m : Memory) (top : ℕ) (active main : Isa) → IsRam m → top ≡ 0 → is_isa active main ≡ true → IsWholeChain m top active main (records m.bytes top) × (0 ≡ length (records m.bytes top))
none-whole m top active main ram none same =
    let links : Links m top [] = record { ram = ram; first = none; few = lit≤ tt; frames = tt } in
    let whole : IsWholeChain m top active main [] = record { links = links; called = set-same active main same; outermost = tt } in
    let begin : 0 ≡ length {A = Record} [] = refl in
    subst (λ xs. IsWholeChain m top active main xs × (0 ≡ length xs)) (sym (reads_back m top [] links)) (whole, begin)

-- a frame of a chain is good
held-outer : (m : Memory) (main : Isa) (r : Record) (rs : List Record) → IsLen (length m.bytes) → length (r ∷ rs) ≤ most_frames → Frames (length m.bytes) m.bytes (r ∷ rs) → IsOutermost main (r ∷ rs)
    → long_at r.lo m.bytes ≡ outer_of rs → long_at (r.lo + 20) m.bytes ≡ r.hi → long_at (r.lo + 28) m.bytes ≡ suc (length rs) → fits_outer m main (caller_isa r.kind) r.lo ≡ true
held-outer m main r [] ok few frames outermost outer hi depth =
    let none : (long_at r.lo m.bytes == 0) ≡ true = ap (λ n. n == 0) outer in
    let one : (long_at (r.lo + 28) m.bytes == 1) ≡ true = ap (λ n. n == 1) depth in
    let set : is_isa (caller_isa r.kind) main ≡ true = ap (λ s. is_isa s main) outermost ∙ same-set main in
    rw none (and_from _ _ one set)
held-outer m main r (s ∷ rs) ok few frames outermost outer hi depth =
    let range : IsRange (length m.bytes) s = range-fits (length m.bytes) s rs ok frames.2.1 in
    let back : IsReadAt m.bytes s (outer_of rs) (suc (length rs)) = first-back (length m.bytes) m.bytes s rs ok (omega (arith, few)) frames.2 in
    let live : (long_at r.lo m.bytes == 0) ≡ false = grind (arith, nat_tests, range.start) in
    let count = onward (long_at r.lo m.bytes) 28 in
    let same : onward (long_at r.lo m.bytes) 28 ≡ s.lo + 28 = omega (arith, outer, range.some, range.end, ok.most) in
    let deep : long_at count m.bytes ≡ suc (length rs) = ap (λ a. long_at a m.bytes) same ∙ back.depth_is in
    let inside : r.hi ≤ s.lo = frames.1.inside.0 in
    let above : nat_le (long_at (r.lo + 20) m.bytes) (long_at r.lo m.bytes) ≡ true = grind (arith, nat_tests) in
    let counts : (long_at (r.lo + 28) m.bytes == long_at count m.bytes + 1) ≡ true = grind (arith, nat_tests) in
    let there : nat_lt (length m.bytes) (count + 4) ≡ false = grind (arith, nat_tests, same, range.some, range.end) in
    rw live (and_from _ _ above (rw there counts))

good-held : (m : Memory) (main : Isa) (r : Record) (rs : List Record) → IsLen (length m.bytes) → length (r ∷ rs) ≤ most_frames → Frames (length m.bytes) m.bytes (r ∷ rs) → IsOutermost main (r ∷ rs) → IsGood m main (callee_isa r.kind) r.lo r.kind
good-held m main r rs ok few frames outermost =
    let fits : Fits (length m.bytes) r rs = frames.1 in
    let alone = fits.alone in
    let range : IsRange (length m.bytes) r = range-fits (length m.bytes) r rs ok fits in
    let back : IsReadAt m.bytes r (outer_of rs) (suc (length rs)) = first-back (length m.bytes) m.bytes r rs ok (omega (arith, few)) frames in
    let hi : long_at (r.lo + 20) m.bytes ≡ r.hi = ap (λ x. x.hi) back.record_is in
    let size : frame_size (caller_isa r.kind) ≡ frame_size (isa_of r.caller) = ap frame_size alone.kind in
    record {
      stack = alone.stack;
      aligned = alone.aligned;
      there = omega (arith, range.some, range.end);
      kind_is = ap kind_at back.kind_is ∙ kind-back r.kind;
      hi = omega (arith, hi, size, alone.size);
      within = omega (arith, size, alone.size, alone.within);
      file = rw alone.kind (file-holds r.lo (r.hi - r.lo) (head_of r (outer_of rs) (suc (length rs))) r.caller m.bytes refl frames.0 alone.held.file);
      signature = ap has_signature (ap (λ x. x.info) back.record_is) ∙ alone.signature;
      called = refl;
      few = omega (arith, back.depth_is, few);
      outer = held-outer m main r rs ok few frames outermost back.outer_is hi back.depth_is;
    }

outermost-less : (main : Isa) (r s : Record) (rs : List Record) → IsOutermost main (r ∷ s ∷ rs) → IsOutermost main (s ∷ rs)
outermost-less main r s rs is = is

pub walk-finds : (m : Memory) (main : Isa) (most count : ℕ) (r : Record) (rs : List Record) → IsLen (length m.bytes) → length (r ∷ rs) ≤ most → length (r ∷ rs) ≤ most_frames → Frames (length m.bytes) m.bytes (r ∷ rs) → IsOutermost main (r ∷ rs)
    → walk m main most count (callee_isa r.kind) r.lo ≡ Ok (count + length (r ∷ rs))
walk-finds m main zero count r rs ok less few frames outermost = absurd (omega arith)
walk-finds m main (suc most) count r [] ok less few frames outermost =
    let good = good-is m main (callee_isa r.kind) r.lo r.kind (good-held m main r [] ok few frames outermost) in
    let back : IsReadAt m.bytes r 0 1 = first-back (length m.bytes) m.bytes r [] ok (omega arith) frames in
    let number : suc count ≡ count + 1 = omega arith in
    walk-last m main (callee_isa r.kind) most count r.lo good (ap (λ n. n == 0) back.outer_is) ∙ ap Ok number
walk-finds m main (suc most) count r (s ∷ rs) ok less few frames outermost =
    let good = good-is m main (callee_isa r.kind) r.lo r.kind (good-held m main r (s ∷ rs) ok few frames outermost) in
    let back : IsReadAt m.bytes r s.lo (suc (length (s ∷ rs))) = first-back (length m.bytes) m.bytes r (s ∷ rs) ok (omega (arith, few)) frames in
    let range : IsRange (length m.bytes) s = range-fits (length m.bytes) s rs ok frames.2.1 in
    let more : (long_at r.lo m.bytes == 0) ≡ false = grind (arith, nat_tests, back.outer_is, range.start) in
    let set : caller_at m r.lo ≡ callee_isa s.kind = ap (λ x. caller_isa x.kind) back.record_is ∙ frames.1.alone.kind ∙ sym frames.1.inside.1 in
    let number : suc count + length (s ∷ rs) ≡ count + length (r ∷ s ∷ rs) = omega arith in
    walk-on m main (callee_isa r.kind) most count r.lo good more
    ∙ ap (λ c. walk m main most (suc count) c (long_at r.lo m.bytes)) set
    ∙ ap (λ a. walk m main most (suc count) (callee_isa s.kind) a) back.outer_is
    ∙ walk-finds m main most (suc count) s rs ok (omega (arith, less)) (omega (arith, few)) frames.2 (outermost-less main r s rs outermost)
    ∙ ap Ok number

pub whole_chains_pass : WholeChainsPass
whole_chains_pass m top active main [] whole =
    let same : is_isa active main ≡ true = ap (λ s. is_isa s main) whole.called ∙ same-set main in
    checked-none m top active main whole.links.first ∙ ap (λ b. cond b (Ok 0) (Err 0)) same
whole_chains_pass m top active main (r ∷ rs) whole =
    let links = whole.links in
    let ok : IsLen (length m.bytes) = len-ram m links.ram in
    let range : IsRange (length m.bytes) r = range-fits (length m.bytes) r rs ok links.frames.1 in
    let live : (top == 0) ≡ false = grind (arith, nat_tests, links.first, range.start) in
    checked-walks m top active main live
    ∙ ap (λ a. walk m main most_frames 0 active a) links.first
    ∙ ap (λ c. walk m main most_frames 0 c r.lo) whole.called
    ∙ walk-finds m main most_frames 0 r rs ok links.few links.few links.frames whole.outermost
    ∙ ap Ok (let none : 0 + length (r ∷ rs) ≡ length (r ∷ rs) = omega arith in none)

pub if-whole : (m : Memory) (top : ℕ) (active main : Isa) (result : Result ℕ ℕ) → IsRam m → AreBytes m.bytes → (top == 0) ≡ false → result ≡ checked m top active main
    → IfOk result (λ count. IsWholeChain m top active main (records m.bytes top) × (count ≡ length (records m.bytes top)))
if-whole m top active main (Ok k) ram fit live is = whole-found m top active main k ram fit live (sym is)
if-whole m top active main (Err lo) ram fit live is = tt
