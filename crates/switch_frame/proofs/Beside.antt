-- Laws of the memory beside the frames, and of what loads read.
use Rattle.std.proofs.Common.{◌≡◌, ◌⊎◌, inl, inr, ℕ, suc, ◌+◌, ◌-◌, ◌≤◌, List, [], ◌∷◌, length, arith, ap, sym, ◌∙◌, refl}
use Rattle.big_memory.specs.Lists.{put}
use Rattle.big_memory.proofs.Lists.{length-put, put-part, put-put_same, put-put_apart}
use Rattle.switch_frame.specs.Records.{Record, image}
use Rattle.switch_frame.specs.laws.Chain.{Above, Apart}
use Rattle.switch_frame.specs.Chain.{Frames, outer_of, cleared, view}
use Rattle.big_memory.specs.Lists.{zeros}
use Rattle.switch_frame.specs.laws.Laws.{ViewIsMemory}
use Rattle.switch_frame.proofs.Pieces.{length-zeros}
use Rattle.switch_frame.proofs.Linked.{IsLen, IsRange, apart-above, frames_above, len-ram, length-cleared, length-image_fits, range-fits}

-- two writes apart go in either order
puts-apart : (a b : ℕ) (ys zs xs : List ℕ) → a + length ys ≤ length xs → b + length zs ≤ length xs → (a + length ys ≤ b) ⊎ (b + length zs ≤ a) → put b zs (put a ys xs) ≡ put a ys (put b zs xs)
puts-apart a b ys zs xs first second apart =
    elim apart [ inl below ↦ put-put_apart a b ys zs xs below second | inr above ↦ sym (put-put_apart b a zs ys xs above first) ]

-- a frame's range apart from a write
range-apart : (a n size : ℕ) (r : Record) → r.lo ≤ r.hi → size ≡ r.hi - r.lo → (r.hi ≤ a) ⊎ (a + n ≤ r.lo) → (a + n ≤ r.lo) ⊎ (r.lo + size ≤ a)
range-apart a n size r order is apart = elim apart [ inl below ↦ inr (omega arith) | inr above ↦ inl above ]

-- a write apart from the frames goes to the memory beside them
pub cleared-put : (len a : ℕ) (ys bytes : List ℕ) (rs : List Record) → length bytes ≡ len → a + length ys ≤ length bytes → Apart a (length ys) rs → Frames (length bytes) bytes rs → IsLen (length bytes) → cleared (put a ys bytes) rs ≡ put a ys (cleared bytes rs)
cleared-put len a ys bytes [] same within apart frames ok = refl
cleared-put len a ys bytes (r ∷ rs) same within apart frames ok =
    let range : IsRange (length bytes) r = range-fits (length bytes) r rs ok frames.1 in
    let none : length (zeros (r.hi - r.lo)) ≡ r.hi - r.lo = length-zeros (r.hi - r.lo) in
    let rest : length (cleared bytes rs) ≡ length bytes = length-cleared bytes rs frames.2 ok in
    ap (λ xs. put r.lo (zeros (r.hi - r.lo)) xs) (cleared-put len a ys bytes rs same within apart.1 frames.2 ok)
    ∙ puts-apart a r.lo ys (zeros (r.hi - r.lo)) (cleared bytes rs) (omega (arith, within, rest)) (omega (arith, range.some, range.end))
    (range-apart a (length ys) (length (zeros (r.hi - r.lo))) r (omega (arith, range.some)) none apart.0)

length-view : (len : ℕ) (bytes held : List ℕ) (rs : List Record) → length bytes ≡ len → Frames len held rs → IsLen len → length (view bytes rs) ≡ len
length-view len bytes held [] same frames ok = same
length-view len bytes held (r ∷ rs) same frames ok =
    let range : IsRange len r = range-fits len r rs ok frames.1 in
    let size : length (image r (outer_of rs) (suc (length rs))) ≡ r.hi - r.lo = length-image_fits len r rs (outer_of rs) (suc (length rs)) frames.1 in
    let rest : length (view bytes rs) ≡ len = length-view len bytes held rs same frames.2 ok in
    length-put r.lo (image r (outer_of rs) (suc (length rs))) (view bytes rs) (omega (arith, range.some, range.end)) ∙ rest

view-put : (len a : ℕ) (ys bytes held : List ℕ) (rs : List Record) → length bytes ≡ len → a + length ys ≤ len → Apart a (length ys) rs → Frames len held rs → IsLen len → view (put a ys bytes) rs ≡ put a ys (view bytes rs)
view-put len a ys bytes held [] same within apart frames ok = refl
view-put len a ys bytes held (r ∷ rs) same within apart frames ok =
    let range : IsRange len r = range-fits len r rs ok frames.1 in
    let size : length (image r (outer_of rs) (suc (length rs))) ≡ r.hi - r.lo = length-image_fits len r rs (outer_of rs) (suc (length rs)) frames.1 in
    let rest : length (view bytes rs) ≡ len = length-view len bytes held rs same frames.2 ok in
    ap (λ xs. put r.lo (image r (outer_of rs) (suc (length rs))) xs) (view-put len a ys bytes held rs same within apart.1 frames.2 ok)
    ∙ puts-apart a r.lo ys (image r (outer_of rs) (suc (length rs))) (view bytes rs) (omega (arith, within, rest)) (omega (arith, range.some, range.end))
    (range-apart a (length ys) (length (image r (outer_of rs) (suc (length rs)))) r (omega (arith, range.some)) size apart.0)

view-is : (bytes : List ℕ) (rs : List Record) → Frames (length bytes) bytes rs → IsLen (length bytes) → view (cleared bytes rs) rs ≡ bytes
view-is bytes [] frames ok = refl
view-is bytes (r ∷ rs) frames ok =
    let len = length bytes in
    let held = image r (outer_of rs) (suc (length rs)) in
    let range : IsRange len r = range-fits len r rs ok frames.1 in
    let none : length (zeros (r.hi - r.lo)) ≡ r.hi - r.lo = length-zeros (r.hi - r.lo) in
    let size : length held ≡ r.hi - r.lo = length-image_fits len r rs (outer_of rs) (suc (length rs)) frames.1 in
    let rest : length (cleared bytes rs) ≡ len = length-cleared bytes rs frames.2 ok in
    let end : r.lo + length (zeros (r.hi - r.lo)) ≡ r.hi = omega (arith, range.some) in
    let above : Above (r.lo + length (zeros (r.hi - r.lo))) rs = rw end (frames_above len bytes r rs frames.1.inside frames.2) in
    ap (λ xs. put r.lo held xs) (view-put len r.lo (zeros (r.hi - r.lo)) (cleared bytes rs) bytes rs rest (omega (arith, range.end)) (apart-above r.lo (length (zeros (r.hi - r.lo))) rs above) frames.2 ok
    ∙ ap (λ xs. put r.lo (zeros (r.hi - r.lo)) xs) (view-is bytes rs frames.2 ok))
    ∙ put-put_same r.lo (zeros (r.hi - r.lo)) held bytes (none ∙ sym size) (omega (arith, range.end))
    ∙ ap (λ ys. put r.lo ys bytes) (sym frames.0)
    ∙ put-part r.lo (r.hi - r.lo) bytes (omega (arith, range.some, range.end))

pub view_is_memory : ViewIsMemory
view_is_memory m top rs links = view-is m.bytes rs links.frames (len-ram m links.ram)
