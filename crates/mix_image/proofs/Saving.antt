-- A spelling is kept piece by piece.
use Rattle.std.proofs.Common.{◌≡◌, ℕ, zero, suc, ◌+◌, ◌-◌, ◌*◌, ◌/◌, ◌<◌, ◌≤◌, false, cond, List, [], ◌∷◌, ◌++◌, length, take, drop, get_or, Option, Ok, Err, arith, ap, sym, subst, ◌∙◌, refl, append_assoc, add-one}
use Rattle.std.proofs.lemmas.List.{append-nil, take-append-drop, take_more}
use Rattle.std.proofs.Math.Seq.{take-add}
use Rattle.std.specs.Int.{w32, to_be_bytes}
use Rattle.big_memory.specs.Lists.{part}
use Rattle.big_memory.specs.Numbers.{bytes_of_longs}
use Rattle.big_memory.proofs.Numbers.{bytes_join}
use Rattle.host_heap.specs.declared.block.Block.{Block}
use Rattle.mix_io.specs.declared.errors.Failed.{Failed}
use Rattle.mix_io.specs.Counts.{CountsStay}
use Rattle.mix_io.specs.Kept.{KeepsMore}
use Rattle.mix_io.specs.KeptClauses.{Saves}
use Rattle.mix_io.proofs.Keeps.{nothing-kept, saves-join, saves-front}
use Rattle.switch_frame.specs.Records.{isa_of, longs_of_file}
use Rattle.mix_engine.specs.declared.machine.Machine.{Machine}
use Rattle.mix_image.specs.Spelling.{block_longs, head_longs, is_blank, page, pages, set_number, spell, tail_longs}

-- a piece was kept, and no count rose
pub record IsSaving (old new : Option (List ℕ → List ℕ)) (before now : List ℕ → ℕ) (name piece : List ℕ) : Type 0 where
  pub kept : KeepsMore old new name piece
  pub calm : CountsStay before now

-- a piece has the bytes of so many longs
pub record HasPiece (piece xs : List ℕ) (count : ℕ) : Type 0 where
  pub bytes : piece ≡ bytes_of_longs xs
  pub size : length piece ≡ 4 * count

pub saving-none : (old : Option (List ℕ → List ℕ)) (before : List ℕ → ℕ) (name : List ℕ) → IsSaving old old before before name []
saving-none old before name = record { kept = nothing-kept old name; calm = λ n. refl }

pub saving-more : (a b c : Option (List ℕ → List ℕ)) (p q r : List ℕ → ℕ) (name xs ys : List ℕ) → IsSaving a b p q name xs → Saves b c name ys (Ok (record {})) → CountsStay q r → IsSaving a c p r name (xs ++ ys)
saving-more a b c p q r name xs ys first second calm = record { kept = saves-join a b c name xs ys (Ok (record {})) first.kept second; calm = λ n. calm n ∙ first.calm n }

-- a failure within one of the pieces
pub saved-front : (a b c : Option (List ℕ → List ℕ)) (p q : List ℕ → ℕ) (name xs ys zs whole : List ℕ) (failed : Failed) → IsSaving a b p q name xs → Saves b c name ys (Err failed) → whole ≡ (xs ++ ys) ++ zs → Saves a c name whole (Err failed)
saved-front a b c p q name xs ys zs whole failed first second is =
    subst (λ l. Saves a c name l (Err failed)) (sym is) (saves-front a c name (xs ++ ys) zs failed (saves-join a b c name xs ys (Err failed) first.kept second))

-- the pieces of longs, of blocks and of pages
pub no-longs-bytes : bytes_of_longs [] ≡ []
unfolding bytes_of_longs
no-longs-bytes = refl

pub one-long-bytes : (x : ℕ) → bytes_of_longs (x ∷ []) ≡ to_be_bytes w32 x
unfolding bytes_of_longs
one-long-bytes x = append-nil (to_be_bytes w32 x)

pub longs-more : (xs : List ℕ) (i : ℕ) → i < length xs → bytes_of_longs (take i xs) ++ to_be_bytes w32 (get_or xs i 0) ≡ bytes_of_longs (take (i + 1) xs)
longs-more xs i less =
    ap (λ l. bytes_of_longs (take i xs) ++ l) (sym (one-long-bytes (get_or xs i 0)))
    ∙ sym (bytes_join (take i xs) (get_or xs i 0 ∷ []))
    ∙ ap bytes_of_longs (sym (take_more xs i 0 less))

pub longs-rest : (xs : List ℕ) (i : ℕ) → i < length xs → bytes_of_longs xs ≡ (bytes_of_longs (take i xs) ++ to_be_bytes w32 (get_or xs i 0)) ++ bytes_of_longs (drop (i + 1) xs)
longs-rest xs i less =
    ap bytes_of_longs (sym (take-append-drop (i + 1) xs)) ∙ bytes_join (take (i + 1) xs) (drop (i + 1) xs) ∙ ap (λ l. l ++ bytes_of_longs (drop (i + 1) xs)) (sym (longs-more xs i less))

block-join : (xs ys : List Block) → block_longs (xs ++ ys) ≡ block_longs xs ++ block_longs ys
block-join [] ys = refl
block-join (x ∷ xs) ys = ap (λ l. x.address ∷ x.size ∷ l) (block-join xs ys)

pub blocks-piece : (xs : List Block) (i : ℕ) (b : Block) → i < length xs → b ≡ get_or xs i b
    → bytes_of_longs (block_longs (take i xs)) ++ bytes_of_longs (b.address ∷ b.size ∷ []) ≡ bytes_of_longs (block_longs (take (i + 1) xs))
blocks-piece xs i b less is =
    sym (bytes_join (block_longs (take i xs)) (b.address ∷ b.size ∷ []))
    ∙ ap bytes_of_longs (sym (block-join (take i xs) (b ∷ [])) ∙ ap (λ x. block_longs (take i xs ++ x ∷ [])) is ∙ ap block_longs (sym (take_more xs i b less)))

-- a block behind others, as two longs
pub block-put : (before address size : List ℕ) → (before ++ address) ++ size ≡ before ++ (address ++ (size ++ []))
block-put before address size = append_assoc before address size ∙ ap (λ l. before ++ (address ++ l)) (sym (append-nil size))

pub two-longs-bytes : (address size : ℕ) → bytes_of_longs (address ∷ size ∷ []) ≡ to_be_bytes w32 address ++ (to_be_bytes w32 size ++ [])
unfolding bytes_of_longs
two-longs-bytes address size = refl

-- blocks behind others
pub blocks-part : (xs : List Block) (done end : ℕ) → done ≤ end → bytes_of_longs (block_longs (take done xs)) ++ bytes_of_longs (block_longs (take (end - done) (drop done xs))) ≡ bytes_of_longs (block_longs (take end xs))
blocks-part xs done end low =
    let more = take (end - done) (drop done xs) in
    let all : done + (end - done) ≡ end = omega arith in
    sym (bytes_join (block_longs (take done xs)) (block_longs more)) ∙ ap bytes_of_longs (sym (block-join (take done xs) more) ∙ ap block_longs (sym (take-add done (end - done) xs) ∙ ap (λ n. take n xs) all))

pub blocks-rest : (xs : List Block) (done end : ℕ) → done ≤ end
    → bytes_of_longs (block_longs xs) ≡ (bytes_of_longs (block_longs (take done xs)) ++ bytes_of_longs (block_longs (take (end - done) (drop done xs)))) ++ bytes_of_longs (block_longs (drop end xs))
blocks-rest xs done end low =
    ap (λ l. bytes_of_longs (block_longs l)) (sym (take-append-drop end xs))
    ∙ ap bytes_of_longs (block-join (take end xs) (drop end xs))
    ∙ bytes_join (block_longs (take end xs)) (block_longs (drop end xs))
    ∙ ap (λ l. l ++ bytes_of_longs (block_longs (drop end xs))) (sym (blocks-part xs done end low))

pub no-pages-bytes : (bytes : List ℕ) → pages 0 bytes ≡ []
unfolding pages
no-pages-bytes bytes = refl

pub pages-piece : (bytes : List ℕ) (k : ℕ) → pages k bytes ++ page (part (1024 * k) 1024 bytes) ≡ pages (k + 1) bytes
unfolding pages
pages-piece bytes k = ap (λ n. pages n bytes) (sym (add-one k))

-- what stands behind the first pages
pages-behind : (bytes : List ℕ) (k more : ℕ) → (rest : List ℕ) × (pages (k + more) bytes ≡ pages k bytes ++ rest)
pages-behind bytes k zero = ([], (let same : k + 0 ≡ k = omega arith in ap (λ n. pages n bytes) same ∙ sym (append-nil (pages k bytes))))
pages-behind bytes k (suc more) =
    let before = pages-behind bytes k more in
    let next : k + suc more ≡ k + more + 1 = omega arith in
    let last = page (part (1024 * (k + more)) 1024 bytes) in
    (before.0 ++ last, ap (λ n. pages n bytes) next ∙ sym (pages-piece bytes (k + more)) ∙ ap (λ l. l ++ last) before.1 ∙ append_assoc (pages k bytes) before.0 last)

pub pages-rest : (bytes : List ℕ) (k n : ℕ) → k < n → (rest : List ℕ) × (pages n bytes ≡ (pages k bytes ++ page (part (1024 * k) 1024 bytes)) ++ rest)
pages-rest bytes k n less =
    let found = pages-behind bytes (k + 1) (n - (k + 1)) in
    let all : k + 1 + (n - (k + 1)) ≡ n = omega arith in
    (found.0, ap (λ m. pages m bytes) (sym all) ∙ found.1 ∙ ap (λ l. l ++ found.0) (sym (pages-piece bytes k)))

-- the parts of a spelling
pub spell-parts : (m : Machine) → spell m ≡ bytes_of_longs (head_longs m) ++ (bytes_of_longs (block_longs m.body.heap.blocks) ++ (bytes_of_longs (tail_longs m) ++ pages (length m.body.ram.bytes / 1024) m.body.ram.bytes))
unfolding spell
spell-parts m =
    let last = pages (length m.body.ram.bytes / 1024) m.body.ram.bytes in
    ap (λ l. l ++ last) (bytes_join (head_longs m) (block_longs m.body.heap.blocks ++ tail_longs m) ∙ ap (λ l. bytes_of_longs (head_longs m) ++ l) (bytes_join (block_longs m.body.heap.blocks) (tail_longs m)))
    ∙ append_assoc (bytes_of_longs (head_longs m)) (bytes_of_longs (block_longs m.body.heap.blocks) ++ bytes_of_longs (tail_longs m)) last
    ∙ ap (λ l. bytes_of_longs (head_longs m) ++ l) (append_assoc (bytes_of_longs (block_longs m.body.heap.blocks)) (bytes_of_longs (tail_longs m)) last)

pub full-piece : (xs : List ℕ) → is_blank xs ≡ false → (1 ∷ []) ++ xs ≡ page xs
full-piece xs full = sym (ap (λ b. cond b (0 ∷ []) (1 ∷ xs)) full)

-- the longs behind the blocks
pub tail-parts : (m : Machine) (set : ℕ) → set ≡ set_number (isa_of m.active) → bytes_of_longs (tail_longs m) ≡ bytes_of_longs (m.body.top ∷ set ∷ []) ++ bytes_of_longs (longs_of_file m.active)
tail-parts m set is =
    ap (λ s. bytes_of_longs (m.body.top ∷ s ∷ longs_of_file m.active)) (sym is) ∙ bytes_join (m.body.top ∷ set ∷ []) (longs_of_file m.active)
