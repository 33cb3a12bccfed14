-- What a step of a state is to the machines that stand for it.
use Rattle.std.proofs.Common.{◌≡◌, ◌⊎◌, ℕ, suc, ◌+◌, ◌-◌, ◌<◌, ◌≤◌, true, false, List, [], ◌∷◌, length, drop, slice_index, length-drop, arith, ap, sym, subst, ◌∙◌, refl, inl, inr}
use Rattle.std.proofs.lemmas.List.{length-take}
use Rattle.std.proofs.lemmas.Bool.{cases_lt, eq-eqb, le-ltb, lt-ltb, ne_eqb}
use Rattle.mix_bits.specs.Addresses.{onward}
use Rattle.mix_bits.specs.declared.isa.Isa.{Isa}
use Rattle.mix_bits.specs.declared.isa.Isa.TheVariants.{M68, Ppc}
use Rattle.big_memory.specs.Lists.{part, put}
use Rattle.big_memory.specs.Memory.{Memory, floor_of}
use Rattle.big_memory.proofs.Lists.{get_or-put_inside, get_or-put_outside, length-put}
use Rattle.switch_frame.specs.declared.active.Active.{Active}
use Rattle.switch_frame.specs.Chain.{Chain, FitsAlone, Frames, Links, cleared, outer_of, view}
use Rattle.big_memory.specs.Lists.{zeros}
use Rattle.switch_frame.specs.Files.{sp_of}
use Rattle.switch_frame.specs.Records.{Record, image, isa_of}
use Rattle.switch_frame.specs.Sets.{frame_size}
use Rattle.switch_frame.specs.Seen.{seen_by}
use Rattle.switch_frame.proofs.Beside.{view_is_memory}
use Rattle.switch_frame.proofs.Linked.{keeps_length}
use Rattle.switch_frame.proofs.Marked.{top_tells}
use Rattle.switch_frame.proofs.Pieces.{length-zeros}
use Rattle.switch_frame.proofs.Seen.{seen_is_memory}
use Rattle.toolbox.specs.Effects.{Around}
use Rattle.mixed_machine.specs.declared.body.Body.{Body}
use Rattle.mixed_machine.specs.State.{State, seen}
use Rattle.mixed_machine.specs.Next.{Next}
use Rattle.mixed_machine.specs.Next.Next.{Goes, Exits, Faults}
use Rattle.mixed_machine.specs.Exec.{GoesTo}
use Rattle.mixed_machine.specs.Machine.{IsWhole, callers_of, flat, memory_of}
use Rattle.mixed_machine.specs.Step.{step}
use Rattle.mix_reach.specs.declared.reach.Reach.{Reach}
use Rattle.mix_reach.specs.declared.reach.Stores.{Stores}
use Rattle.mix_reach.specs.laws.Ranges.{Beside, range}
use Rattle.mix_reach.specs.laws.Steps.{frame_given_up, frame_made, is_made, next_stores, reach}
use Rattle.mix_reach.specs.laws.Laws.{StoredIn, StoredInBlock, StoresWhereTold}
use Rattle.mix_reach.proofs.Leaving.{wider}
use Rattle.mix_reach.proofs.Went.{Changed, InBlock, IsTold, IsWent, Resumed, Suspended, Went, steps-went}
use Rattle.mix_reach.proofs.Went.Went.{Entered, Left, Stayed, Took}

-- lists of so many bytes that are the same beside a range
pub record Agree (len : ℕ) (w : Reach) (x y : List ℕ) : Type 0 where
  pub first : length x ≡ len
  pub second : length y ≡ len
  pub same : (k : ℕ) → (k < w.low) ⊎ (w.high ≤ k) → slice_index x k ≡ slice_index y k

-- a piece that is put into both keeps that
data Where (k at n : ℕ) : Type 0 where
  Inside : (from : at ≤ k) (to : k < at + n) → Where k at n
  Outside : (out : (k < at) ⊎ (at + n ≤ k)) → Where k at n

find : (k at n : ℕ) → Where k at n
find k at n =
    elim (cases_lt k at) [
      | inl before ↦ Outside (inl before)
      | inr from ↦ elim (cases_lt k (at + n)) [ inl to ↦ Inside from to | inr after ↦ Outside (inr after) ]
    ]

put-same : (k at : ℕ) (ys x y : List ℕ) → Where k at (length ys) → at + length ys ≤ length x → at + length ys ≤ length y → slice_index x k ≡ slice_index y k
    → slice_index (put at ys x) k ≡ slice_index (put at ys y) k
put-same k at ys x y (Inside from to) first second same = get_or-put_inside at k ys x 0 first from to ∙ sym (get_or-put_inside at k ys y 0 second from to)
put-same k at ys x y (Outside out) first second same = get_or-put_outside at k ys x 0 first out ∙ same ∙ sym (get_or-put_outside at k ys y 0 second out)

put-agrees : (len : ℕ) (w : Reach) (at : ℕ) (ys x y : List ℕ) → at + length ys ≤ len → Agree len w x y → Agree len w (put at ys x) (put at ys y)
put-agrees len w at ys x y within agree =
    let first : at + length ys ≤ length x = let l = agree.first in omega (arith, within, l) in
    let second : at + length ys ≤ length y = let l = agree.second in omega (arith, within, l) in
    record {
      first = length-put at ys x first ∙ agree.first;
      second = length-put at ys y second ∙ agree.second;
      same = λ k out. put-same k at ys x y (find k at (length ys)) first second (agree.same k out);
    }

-- a piece inside of the range is put into one of them
out-of : (w : Reach) (at n k : ℕ) → w.low ≤ at → at + n ≤ w.high → (k < w.low) ⊎ (w.high ≤ k) → (k < at) ⊎ (at + n ≤ k)
out-of w at n k low high (inl before) = inl (omega (arith, low, before))
out-of w at n k low high (inr after) = inr (omega (arith, high, after))

put-inside : (len : ℕ) (w : Reach) (at : ℕ) (ys x y : List ℕ) → at + length ys ≤ len → w.low ≤ at → at + length ys ≤ w.high → Agree len w x y → Agree len w (put at ys x) y
put-inside len w at ys x y within low high agree =
    let first : at + length ys ≤ length x = let l = agree.first in omega (arith, within, l) in
    record {
      first = length-put at ys x first ∙ agree.first;
      second = agree.second;
      same = λ k out. get_or-put_outside at k ys x 0 first (out-of w at (length ys) k low high out) ∙ agree.same k out;
    }

turned : (len : ℕ) (w : Reach) (x y : List ℕ) → Agree len w x y → Agree len w y x
turned len w x y agree = record { first = agree.second; second = agree.first; same = λ k out. sym (agree.same k out) }

same-bytes : (len : ℕ) (w : Reach) (x : List ℕ) → length x ≡ len → Agree len w x x
same-bytes len w x long = record { first = long; second = long; same = λ k out. refl }

agree-of : (w : Reach) (m n : List ℕ) → Beside w m n → Agree (length m) w n m
agree-of w m n beside = record { first = beside.long; second = refl; same = beside.same }

beside-of : (w : Reach) (m n x y : List ℕ) → x ≡ n → y ≡ m → Agree (length m) w x y → Beside w m n
beside-of w m n x y first second agree =
    record { long = ap length (sym first) ∙ agree.first; same = λ k out. ap (λ (z : List ℕ). slice_index z k) (sym first) ∙ agree.same k out ∙ ap (λ (z : List ℕ). slice_index z k) second }

-- frames in memory of so many bytes lie in it, and so do their images
length-part : (at n : ℕ) (xs : List ℕ) → at + n ≤ length xs → length (part at n xs) ≡ n
length-part at n xs within = omega (arith, length-take n (drop at xs), length-drop at xs, within)

zeros-within : (lo hi len : ℕ) → lo ≤ hi → hi ≤ len → lo + length (zeros (hi - lo)) ≤ len
zeros-within lo hi len order within = let long = length-zeros (hi - lo) in omega (arith, long, order, within)

in-order : (len : ℕ) (r : Record) → FitsAlone len r → r.lo ≤ r.hi
in-order len r fits = let size = fits.size in omega (arith, size)

largest : (set : Isa) → frame_size set ≤ 192
largest M68 = omega arith
largest Ppc = omega arith

frame-small : (len : ℕ) (r : Record) → FitsAlone len r → r.hi ≤ r.lo + 192
frame-small len r fits = let size = fits.size in let most = largest (isa_of r.caller) in omega (arith, size, most)

image-end : (r : Record) (rs : List Record) (len : ℕ) (bytes : List ℕ) → length bytes ≡ len → Frames len bytes (r ∷ rs) → r.lo + length (image r (outer_of rs) (suc (length rs))) ≡ r.hi
image-end r rs len bytes long frames =
    let order = in-order len r frames.1.alone in
    let within = frames.1.alone.within in
    let count = length-part r.lo (r.hi - r.lo) bytes (omega (arith, order, within, long)) in
    let same : length (part r.lo (r.hi - r.lo) bytes) ≡ length (image r (outer_of rs) (suc (length rs))) = ap length frames.0 in
    omega (arith, order, count, same)

cleared-agrees : (len : ℕ) (w : Reach) (bytes : List ℕ) (rs : List Record) (x y : List ℕ) → Frames len bytes rs → Agree len w x y → Agree len w (cleared x rs) (cleared y rs)
cleared-agrees len w bytes [] x y frames agree = agree
cleared-agrees len w bytes (r ∷ rs) x y frames agree =
    put-agrees len w r.lo (zeros (r.hi - r.lo)) (cleared x rs) (cleared y rs) (zeros-within r.lo r.hi len (in-order len r frames.1.alone) frames.1.alone.within)
    (cleared-agrees len w bytes rs x y frames.2 agree)

view-agrees : (len : ℕ) (w : Reach) (bytes : List ℕ) (rs : List Record) (x y : List ℕ) → length bytes ≡ len → Frames len bytes rs → Agree len w x y → Agree len w (view x rs) (view y rs)
view-agrees len w bytes [] x y long frames agree = agree
view-agrees len w bytes (r ∷ rs) x y long frames agree =
    let ends = image-end r rs len bytes long frames in
    let within = frames.1.alone.within in
    put-agrees len w r.lo (image r (outer_of rs) (suc (length rs))) (view x rs) (view y rs) (omega (arith, ends, within)) (view-agrees len w bytes rs x y long frames.2 agree)

-- where the innermost frame begins before and after the step tells which of the three it was
reach-same : (next : Stores) (old new : ℕ) (active : Active) → new ≡ old → reach next old new active ≡ next.reach
reach-same next old new active same = rw (eq-eqb new old same) refl

made-is : (old new : ℕ) → 0 < new → (old ≡ 0) ⊎ (new < old) → is_made old new ≡ true
made-is old new some (inl none) = rw (ne_eqb new 0 (λ e. omega (arith, e, some)), eq-eqb old 0 none) refl
made-is old new some (inr lower) = rw (ne_eqb new 0 (λ e. omega (arith, e, some)), ne_eqb old 0 (λ e. omega (arith, e, lower)), lt-ltb new old lower) refl

apart-tops : (old new : ℕ) → 0 < new → (old ≡ 0) ⊎ (new < old) → new ≡ old → ⊥
apart-tops old new some (inl none) e = omega (arith, none, e, some)
apart-tops old new some (inr lower) e = omega (arith, lower, e)

reach-made : (next : Stores) (old new : ℕ) (active : Active) → 0 < new → (old ≡ 0) ⊎ (new < old) → reach next old new active ≡ frame_made new active
reach-made next old new active some lower = rw (ne_eqb new old (apart-tops old new some lower), made-is old new some lower) refl

given-is : (old new : ℕ) → 0 < old → (new ≡ 0) ⊎ (old < new) → is_made old new ≡ false
given-is old new some (inl none) = rw (eq-eqb new 0 none) refl
given-is old new some (inr higher) = rw (ne_eqb new 0 (λ e. omega (arith, e, higher)), ne_eqb old 0 (λ e. omega (arith, e, some)), le-ltb new old (omega (arith, higher))) refl

reach-given : (next : Stores) (old new : ℕ) (active : Active) → 0 < old → (new ≡ 0) ⊎ (old < new) → reach next old new active ≡ frame_given_up old active
reach-given next old new active some higher = rw (ne_eqb new old (λ e. apart-tops new old some higher (sym e)), given-is old new some higher) refl

-- a whole machine stands for a told state
seen-is : (b : Body) (set : Isa) → IsWhole b set → seen_by (memory_of b) (callers_of b) ≡ b.ram
unfolding memory_of
seen-is b set whole = seen_is_memory b.ram b.top (callers_of b) whole.chain

memory-is : (b : Body) → memory_of b ≡ cleared b.ram.bytes (callers_of b)
unfolding memory_of
memory-is b = refl

view-is : (b : Body) (set : Isa) → IsWhole b set → view (memory_of b) (callers_of b) ≡ b.ram.bytes
unfolding memory_of
view-is b set whole = view_is_memory b.ram b.top (callers_of b) whole.chain.links

floor-within : (m : Memory) (high : ℕ) → high ≡ floor_of m → high ≤ length m.bytes
floor-within m high is = omega (arith, is)

told : (b : Body) (file : Active) (r : Around) → IsWhole b (isa_of file) → IsTold (flat b file r)
told b file r whole =
    let is = seen-is b (isa_of file) whole in
    record {
      top = b.top;
      chain = subst (λ (m : Memory). Chain m b.top (callers_of b)) (sym is) whole.chain;
      beside = memory-is b ∙ ap (λ (m : Memory). cleared m.bytes (callers_of b)) (sym is);
      heap = subst (λ (m : Memory). b.heap.high ≤ length m.bytes) (sym is) (floor-within b.ram b.heap.high whole.heap.whole);
    }

goes-went : (w : Stores) (s t : State) (x : Next) → IsWent w s x → GoesTo x t → Went w s t
goes-went w s t (Goes u effects) went goes = subst (Went w s) (sym goes) went
goes-went w s t (Exits code) went goes = absurd goes
goes-went w s t (Faults fault) went goes = absurd goes

-- the bytes of the machines before and after
changed-bytes : (w : Reach) (b c : Body) (old new : Active) (r q : Around) → IsWhole b (isa_of old) → IsWhole c (isa_of new) → callers_of c ≡ callers_of b
    → Changed w (flat b old r) (flat c new q) → Beside w b.ram.bytes c.ram.bytes
changed-bytes w b c old new r q first second callers changed =
    let is = seen-is b (isa_of old) first in
    let beside : Beside w b.ram.bytes changed.bytes = subst (λ (m : Memory). Beside w m.bytes changed.bytes) is changed.beside in
    let frames = first.chain.links.frames in
    let after : view (cleared changed.bytes (callers_of b)) (callers_of b) ≡ c.ram.bytes =
    ap (λ (xs : List ℕ). view xs (callers_of b)) (sym changed.memory) ∙ ap (view (memory_of c)) (sym callers) ∙ view-is c (isa_of new) second in
    let before : view (cleared b.ram.bytes (callers_of b)) (callers_of b) ≡ b.ram.bytes = ap (λ (xs : List ℕ). view xs (callers_of b)) (sym (memory-is b)) ∙ view-is b (isa_of old) first in
    beside-of w b.ram.bytes c.ram.bytes _ _ after before
    (view-agrees (length b.ram.bytes) w b.ram.bytes (callers_of b) _ _ refl frames
    (cleared-agrees (length b.ram.bytes) w b.ram.bytes (callers_of b) changed.bytes b.ram.bytes frames (agree-of w b.ram.bytes changed.bytes beside)))

same-top : (b c : Body) (set other : Isa) → IsWhole b set → IsWhole c other → callers_of c ≡ callers_of b → c.top ≡ b.top
same-top b c set other first second callers = second.chain.links.first ∙ ap outer_of callers ∙ sym first.chain.links.first

stayed : (w : Stores) (b c : Body) (old new : Active) (r q : Around) → IsWhole b (isa_of old) → IsWhole c (isa_of new) → callers_of c ≡ callers_of b
    → Changed w.reach (flat b old r) (flat c new q) → Beside (reach w b.top c.top new) b.ram.bytes c.ram.bytes
stayed w b c old new r q first second callers changed =
    subst (λ (v : Reach). Beside v b.ram.bytes c.ram.bytes) (sym (reach-same w b.top c.top new (same-top b c (isa_of old) (isa_of new) first second callers)))
    (changed-bytes w.reach b c old new r q first second callers changed)

took : (filled : ℕ) (b c : Body) (old new : Active) (r q : Around) → IsWhole b (isa_of old) → IsWhole c (isa_of new) → callers_of c ≡ callers_of b
    → InBlock filled (flat b old r) (flat c new q) → StoredInBlock filled b c
took filled b c old new r q first second callers block =
    record {
      size = block.size;
      place = block.place;
      found = block.found;
      made = block.made;
      beside = changed-bytes (range block.place filled) b c old new r q first second callers block.changed;
    }

-- a frame was made
linked : (c : Body) (set : Isa) (rs : List Record) → IsWhole c set → callers_of c ≡ rs → Links c.ram c.top rs
linked c set rs whole is = subst (Links c.ram c.top) is whole.chain.links

made-bytes : (b c : Body) (old new : Active) (r q : Around) (f : Suspended (flat b old r) (flat c new q)) → IsWhole b (isa_of old) → IsWhole c (isa_of new)
    → Links c.ram c.top (f.first ∷ callers_of b) → f.first.hi ≤ length b.ram.bytes → Beside (frame_made c.top new) b.ram.bytes c.ram.bytes
made-bytes b c old new r q f first second links within =
    let w : Reach = frame_made c.top new in
    let rs = callers_of b in
    let len = length b.ram.bytes in
    let frames = links.frames in
    let top : c.top ≡ f.first.lo = links.first in
    let small = frame-small (length c.ram.bytes) f.first frames.1.alone in
    let ends = f.ends in
    let begins = f.begins in
    let image_end = image-end f.first rs (length c.ram.bytes) c.ram.bytes refl frames in
    let after : view (put (sp_of new) f.bytes (memory_of b)) (f.first ∷ rs) ≡ c.ram.bytes =
    ap (λ (xs : List ℕ). view xs (f.first ∷ rs)) (sym f.memory) ∙ ap (view (memory_of c)) (sym f.callers) ∙ view-is c (isa_of new) second in
    let before : view (memory_of b) rs ≡ b.ram.bytes = view-is b (isa_of old) first in
    let long : length (memory_of b) ≡ len = ap length (memory-is b) ∙ keeps_length b.ram b.top rs first.chain.links in
    beside-of w b.ram.bytes c.ram.bytes _ _ after before
    (put-inside len w f.first.lo (image f.first (outer_of rs) (suc (length rs))) (view (put (sp_of new) f.bytes (memory_of b)) rs) (view (memory_of b) rs)
    (omega (arith, image_end, within)) begins (omega (arith, image_end, small, top))
    (view-agrees len w b.ram.bytes rs (put (sp_of new) f.bytes (memory_of b)) (memory_of b) refl first.chain.links.frames
    (put-inside len w (sp_of new) f.bytes (memory_of b) (memory_of b) (omega (arith, ends, within)) (omega arith) (omega (arith, ends, small, top))
    (same-bytes len w (memory_of b) long))))

suspended-bytes : (w : Stores) (b c : Body) (old new : Active) (r q : Around) → IsWhole b (isa_of old) → IsWhole c (isa_of new)
    → Suspended (flat b old r) (flat c new q) → Beside (reach w b.top c.top new) b.ram.bytes c.ram.bytes
suspended-bytes w b c old new r q first second f =
    let links : Links c.ram c.top (f.first ∷ callers_of b) = linked c (isa_of new) (f.first ∷ callers_of b) second f.callers in
    let tells = top_tells c.ram c.top f.first (callers_of b) links in
    let top : b.top ≡ outer_of (callers_of b) = first.chain.links.first in
    let lower : (b.top ≡ 0) ⊎ (c.top < b.top) = subst (λ (n : ℕ). (n ≡ 0) ⊎ (c.top < n)) (sym top) tells.1 in
    let within : f.first.hi ≤ length b.ram.bytes = subst (λ (m : Memory). f.first.hi ≤ length m.bytes) (seen-is b (isa_of old) first) f.within in
    subst (λ (v : Reach). Beside v b.ram.bytes c.ram.bytes) (sym (reach-made w b.top c.top new tells.0 lower)) (made-bytes b c old new r q f first second links within)

-- a frame was given up
given-bytes : (b c : Body) (old new : Active) (r q : Around) (f : Resumed (flat b old r) (flat c new q)) → IsWhole b (isa_of old) → IsWhole c (isa_of new)
    → Links b.ram b.top (f.first ∷ callers_of c) → Beside (frame_given_up b.top new) b.ram.bytes c.ram.bytes
given-bytes b c old new r q f first second links =
    let w : Reach = frame_given_up b.top new in
    let slot = onward (sp_of new) 0 in
    let rs = callers_of c in
    let len = length b.ram.bytes in
    let frames = links.frames in
    let top : b.top ≡ f.first.lo = links.first in
    let small = frame-small len f.first frames.1.alone in
    let within = frames.1.alone.within in
    let image_end = image-end f.first rs len b.ram.bytes refl frames in
    let is = seen-is b (isa_of old) first in
    let changed : Beside w b.ram.bytes f.changed.bytes =
    wider w (range slot 4) b.ram.bytes f.changed.bytes (omega arith) (omega arith) (subst (λ (m : Memory). Beside (range slot 4) m.bytes f.changed.bytes) is f.changed.beside) in
    let after : view (cleared f.changed.bytes (f.first ∷ rs)) rs ≡ c.ram.bytes =
    ap (λ (xs : List ℕ). view xs rs) (sym (f.changed.memory ∙ ap (cleared f.changed.bytes) f.callers)) ∙ view-is c (isa_of new) second in
    let before : view (cleared b.ram.bytes (f.first ∷ rs)) (f.first ∷ rs) ≡ b.ram.bytes = view_is_memory b.ram b.top (f.first ∷ rs) links in
    beside-of w b.ram.bytes c.ram.bytes _ _ after before
    (turned len w _ _
    (put-inside len w f.first.lo (image f.first (outer_of rs) (suc (length rs))) (view (cleared b.ram.bytes (f.first ∷ rs)) rs) (view (cleared f.changed.bytes (f.first ∷ rs)) rs)
    (omega (arith, image_end, within)) (omega (arith, top)) (omega (arith, image_end, small, top))
    (turned len w _ _
    (view-agrees len w b.ram.bytes rs (cleared f.changed.bytes (f.first ∷ rs)) (cleared b.ram.bytes (f.first ∷ rs)) refl frames.2
    (cleared-agrees len w b.ram.bytes (f.first ∷ rs) f.changed.bytes b.ram.bytes frames (agree-of w b.ram.bytes f.changed.bytes changed))))))

resumed-bytes : (w : Stores) (b c : Body) (old new : Active) (r q : Around) → IsWhole b (isa_of old) → IsWhole c (isa_of new)
    → Resumed (flat b old r) (flat c new q) → Beside (reach w b.top c.top new) b.ram.bytes c.ram.bytes
resumed-bytes w b c old new r q first second f =
    let links : Links b.ram b.top (f.first ∷ callers_of c) = linked b (isa_of old) (f.first ∷ callers_of c) first f.callers in
    let tells = top_tells b.ram b.top f.first (callers_of c) links in
    let top : c.top ≡ outer_of (callers_of c) = second.chain.links.first in
    let higher : (c.top ≡ 0) ⊎ (b.top < c.top) = subst (λ (n : ℕ). (n ≡ 0) ⊎ (b.top < n)) (sym top) tells.1 in
    subst (λ (v : Reach). Beside v b.ram.bytes c.ram.bytes) (sym (reach-given w b.top c.top new tells.0 higher)) (given-bytes b c old new r q f first second links)

by-kind : (w : Stores) (b c : Body) (old new : Active) (r q : Around) → IsWhole b (isa_of old) → IsWhole c (isa_of new) → Went w (flat b old r) (flat c new q)
    → StoredIn (reach w b.top c.top new) b c ⊎ StoredInBlock w.filled b c
by-kind w b c old new r q first second (Stayed callers heap changed) = inl (record { heap = heap; beside = stayed w b c old new r q first second callers changed })
by-kind w b c old new r q first second (Took callers block) = inr (took w.filled b c old new r q first second callers block)
by-kind w b c old new r q first second (Entered frame) = inl (record { heap = inl frame.heap; beside = suspended-bytes w b c old new r q first second frame })
by-kind w b c old new r q first second (Left frame) = inl (record { heap = inl frame.heap; beside = resumed-bytes w b c old new r q first second frame })

pub stores_where_told : StoresWhereTold
stores_where_told b c old new r q first second goes =
    let s : State = flat b old r in
    let t : State = flat c new q in
    let went : Went (next_stores (seen s) old) s t = goes-went (next_stores (seen s) old) s t (step s) (steps-went s (told b old r first)) goes in
    by-kind (next_stores b.ram old) b c old new r q first second (subst (λ (m : Memory). Went (next_stores m old) s t) (seen-is b (isa_of old) first) went)
