-- The parts of an instruction of 68K code, by what they leave of memory.
use Rattle.std.proofs.Common.{◌≡◌, ℕ, suc, ◌+◌, ◌-◌, ◌*◌, ◌<◌, ◌≤◌, Bool, true, false, if◌then◌else◌, List, [], ◌∷◌, length, slice_index, Result, Ok, Err, arith, subst}
use Rattle.mix_bits.specs.Results.{◌>>=◌}
use Rattle.mix_bits.specs.Sizes.{bytes_of}
use Rattle.mix_bits.specs.Addresses.{onward}
use Rattle.mix_bits.specs.declared.fault.Fault.{Fault}
use Rattle.mix_bits.specs.declared.size.Size.{Size}
use Rattle.mix_bits.specs.declared.size.Size.TheVariants.{Zero}
use Rattle.big_memory.specs.declared.refusals.Access.{Access}
use Rattle.big_memory.specs.Memory.{Memory}
use Rattle.big_memory.specs.Stores.{stored_value}
use Rattle.m68_isa.specs.declared.registers.Regs68.{Regs68}
use Rattle.m68_isa.specs.declared.ea.Ea.{Ea}
use Rattle.m68_ea.specs.declared.places.Place68.{Place68}
use Rattle.m68_ea.specs.declared.places.Place68.TheVariants.{Dn, An, Mem, Imm}
use Rattle.mix_bits.specs.Addresses.{backward}
use Rattle.m68_ea.specs.Places.{placed}
use Rattle.m68_ea.specs.Accesses.{or_fault}
use Rattle.m68_ea.specs.Operands.{put_into, sourced, value_at, written_at}
use Rattle.m68_alu.specs.declared.sums.Out.{Out}
use Rattle.m68_effects.specs.Parts.{Effect, changed, either_way, into_data, pairwise, partner}
use Rattle.m68_effects.specs.Multiple.{stored_along, stored_down}
use Rattle.mix_reach.specs.declared.reach.Reach.{Reach}
use Rattle.mix_reach.specs.laws.Ranges.{Beside, nothing, range}
use Rattle.mix_reach.specs.laws.Rows68.{at_place, behind, if_into, into}
use Rattle.mix_reach.proofs.Leaving.{IsShort, Leaves, Stores, along, anywhere, few-bytes, short-kept, stay, stores, wider}

abbrev pub Holds : Reach → Memory → Effect → Type 0
Holds w m (Ok p) = Beside w m.bytes p.1.bytes
Holds w m (Err e) = Unit {0}

-- an effect leaves memory as it was beside a range
pub record Kept (w : Reach) (m : Memory) (x : Effect) : Type 0 where
  pub holds : Holds w m x

pub still : (w : Reach) (m : Memory) (r : Regs68) → Kept w m (Ok (r, m))
still w m r = record { holds = stay w m.bytes }

pub ends : (w : Reach) (m : Memory) (r : Regs68) (n : Memory) → Beside w m.bytes n.bytes → Kept w m (Ok (r, n))
ends w m r n beside = record { holds = beside }

pub refused : (w : Reach) (m : Memory) (e : Fault) → Kept w m (Err e)
refused w m e = record { holds = tt }

pub either : (w : Reach) (m : Memory) (b : Bool) (x y : Effect) → Kept w m x → Kept w m y → Kept w m (if b then x else y)
either w m true x y first second = first
either w m false x y first second = second

pub reads : {A : Type 0} (w : Reach) (m : Memory) (x : Result A Fault) (f : A → Effect) → ((y : A) → Kept w m (f y)) → Kept w m (x >>= f)
reads w m (Ok y) f each = each y
reads w m (Err e) f each = refused w m e

pub writes : (w : Reach) (m : Memory) (x : Effect) (f : Regs68 × Memory → Effect) → Kept w m x
    → ((r : Regs68) (n : Memory) → Beside w m.bytes n.bytes → Kept w m (f (r, n))) → Kept w m (x >>= f)
writes w m (Ok p) f kept each = each p.0 p.1 kept.holds
writes w m (Err e) f kept each = refused w m e

pub stored-then : (w : Reach) (m : Memory) (x : Result Memory Fault) (f : Memory → Effect) → Leaves w m x
    → ((n : Memory) → Beside w m.bytes n.bytes → Kept w m (f n)) → Kept w m (x >>= f)
stored-then w m (Ok n) f left each = each n left
stored-then w m (Err e) f left each = refused w m e

-- a store at an address, and a value at a place
pub stored-left : (pc : ℕ) (m : Memory) (a : ℕ) (s : Size) (x : Result Memory Access) → Stores m a s x → Leaves (range a 4) m (or_fault pc x)
stored-left pc m a s (Ok n) did = did.beside
stored-left pc m a s (Err e) did = tt

in-memory : (r : Regs68) (m : Memory) (a : ℕ) (s : Size) (x : Result Memory Access) → Stores m a s x → Kept (range a 4) m (or_fault r.pc (x >>= λ done. Ok (r, done)))
in-memory r m a s (Ok n) did = ends (range a 4) m r n did.beside
in-memory r m a s (Err e) did = refused (range a 4) m _

pub written : (r : Regs68) (m : Memory) (p : Place68) (s : Size) (v : ℕ) → Kept (at_place p) m (written_at r m p s v)
written r m (Dn n) s v = still nothing m _
written r m (An n) s v = still nothing m _
written r m (Mem a) s v = in-memory r m a s (stored_value m a s v) (stores m a s v)
written r m (Imm w) s v = still nothing m _

pub put : (r : Regs68) (m : Memory) (s : Size) (to : Ea) (v : ℕ) → Kept (into r s to) m (put_into r m s to v)
put r m s to v = written (placed r to s).0 m (placed r to s).1 s v

-- a source, with the registers once it is found
found : (w : Reach) (m : Memory) (q : Regs68) (x : Result ℕ Fault) (f : Regs68 × ℕ → Effect) → ((v : ℕ) → Kept w m (f (q, v))) → Kept w m ((x >>= λ v. Ok (q, v)) >>= f)
found w m q (Ok v) f each = each v
found w m q (Err e) f each = refused w m e

pub from-source : (w : Reach) (r : Regs68) (m : Memory) (s : Size) (from : Ea) (f : Regs68 × ℕ → Effect) → ((v : ℕ) → Kept w m (f ((placed r from s).0, v))) → Kept w m (sourced r m s from >>= f)
from-source w r m s from f each = found w m (placed r from s).0 (value_at (placed r from s).0 m (placed r from s).1 s) f each

-- what many instructions share
pub into-register : (w : Reach) (r : Regs68) (m : Memory) (next : ℕ) (size : Size) (from : Ea) (n : ℕ) (op : ℕ → ℕ → Out) → Kept w m (into_data r m next size from n op)
into-register w r m next size from n op = reads w m (sourced r m size from) _ (λ p. still w m _)

pub changes : (r : Regs68) (m : Memory) (next : ℕ) (size : Size) (to : Ea) (op : ℕ → Out) → Kept (into r size to) m (changed r m next size to op)
changes r m next size to op =
    reads (into r size to) m (value_at (placed r to size).0 m (placed r to size).1 size) _
    (λ d. writes (into r size to) m (written_at (placed r to size).0 m (placed r to size).1 size (op d).value) _
    (written (placed r to size).0 m (placed r to size).1 size (op d).value) (λ q n beside. ends (into r size to) m _ n beside))

pub either-way : (r : Regs68) (m : Memory) (next : ℕ) (size : Size) (to_memory : Bool) (n : ℕ) (operand : Ea) (op : ℕ → ℕ → Out)
    → Kept (if_into to_memory r size operand) m (either_way r m next size to_memory n operand op)
either-way r m next size true n operand op = changes r m next size operand (λ d. op d (slice_index r.d n))
either-way r m next size false n operand op = into-register nothing r m next size operand n op

pub pairs : (r : Regs68) (m : Memory) (next : ℕ) (size : Size) (memory : Bool) (from to : ℕ) (op : ℕ → ℕ → Out)
    → Kept (behind r size (partner memory from) (partner memory to)) m (pairwise r m next size memory from to op)
pairs r m next size memory from to op =
    from-source (behind r size (partner memory from) (partner memory to)) r m size (partner memory from) _
    (λ s. changes (placed r (partner memory from) size).0 m next size (partner memory to) (λ d. op d s))

-- values one behind the other: where one of some bytes was stored, its address does not wrap
next-address : (a step b len : ℕ) → 0 < b → step ≤ 4 → a + b ≤ len → len ≤ 16777216 → onward a step ≡ a + step
next-address a step b len some few within most = omega (arith, some, few, within, most)

-- one store, and then the rest
joined : (w : Reach) (m n : Memory) (x : Result Memory Fault) → Beside w m.bytes n.bytes → Leaves w n x → Leaves w m x
joined w m n (Ok t) first rest = along w m.bytes n.bytes t.bytes first rest
joined w m n (Err e) first rest = tt

along-from : (w : Reach) (pc : ℕ) (m : Memory) (a step : ℕ) (size : Size) (vs : List ℕ) (x : Result Memory Access) → IsShort m → 0 < bytes_of size → step ≤ 4 → w.low ≤ a → a + 4 ≤ w.high → Stores m a size x
    → ((n : Memory) → IsShort n → onward a step ≡ a + step → Leaves w n (stored_along pc n (onward a step) step size vs))
    → Leaves w m (or_fault pc x >>= λ n. stored_along pc n (onward a step) step size vs)
along-from w pc m a step size vs (Err e) short some few low high did rest = tt
along-from w pc m a step size vs (Ok n) short some few low high did rest =
    let next : onward a step ≡ a + step = next-address a step (bytes_of size) (length m.bytes) some few (did.within some) short.most in
    let first : Beside w m.bytes n.bytes = wider w (range a 4) m.bytes n.bytes low high did.beside in
    joined w m n (stored_along pc n (onward a step) step size vs) first (rest n (short-kept w m n short first) next)

pub stored-along : (w : Reach) (pc : ℕ) (m : Memory) (a step : ℕ) (size : Size) (vs : List ℕ) → IsShort m → 0 < bytes_of size → step ≤ 4 → w.low ≤ a → a + 4 * length vs ≤ w.high
    → Leaves w m (stored_along pc m a step size vs)
unfolding stored_along
stored-along w pc m a step size [] short some few low high = stay w m.bytes
stored-along w pc m a step size (v ∷ vs) short some few low high =
    along-from w pc m a step size vs (stored_value m a size v) short some few low (omega (arith, high)) (stores m a size v)
    (λ n kept next. stored-along w pc n (onward a step) step size vs kept some few (omega (arith, next, low)) (omega (arith, next, high, few)))

-- nothing is stored of no size
still-from : (w : Reach) (pc : ℕ) (m : Memory) (a : ℕ) (f : Memory → Result Memory Fault) (x : Result Memory Access) → Stores m a Zero x → ((n : Memory) → Leaves w n (f n)) → Leaves w m (or_fault pc x >>= f)
still-from w pc m a f (Err e) did rest = tt
still-from w pc m a f (Ok n) did rest = joined w m n (f n) (anywhere w a m.bytes n.bytes did.exact) (rest n)

pub along-still : (w : Reach) (pc : ℕ) (m : Memory) (a step : ℕ) (vs : List ℕ) → Leaves w m (stored_along pc m a step Zero vs)
unfolding stored_along
along-still w pc m a step [] = stay w m.bytes
along-still w pc m a step (v ∷ vs) =
    still-from w pc m a (λ n. stored_along pc n (onward a step) step Zero vs) (stored_value m a Zero v) (stores m a Zero v) (λ n. along-still w pc n (onward a step) step vs)

-- values one right before the other, where the first of them would lie at x
pub record Reaches (w : Reach) (len b count x : ℕ) : Type 0 where
  pub low : x + b ≤ len → w.low ≤ x + 4 - 4 * count
  pub high : x + b ≤ len → x + 4 ≤ w.high

previous : (x b len : ℕ) → 0 < b → b ≤ 4 → x + b ≤ len → len ≤ 16777216 → backward x b + b ≤ len → backward x b + b ≡ x
previous x b len some few within most last = omega (arith, some, few, within, most, last)

first-low : (x count low : ℕ) → low ≤ x + 4 - 4 * suc count → low ≤ x
first-low x count low all = omega (arith, all)

next-low : (x y b count low : ℕ) → b ≤ 4 → y + b ≡ x → low ≤ x + 4 - 4 * suc count → low ≤ y + 4 - 4 * count
next-low x y b count low few is all = omega (arith, few, is, all)

reaches-next : (w : Reach) (len same b count x : ℕ) → 0 < b → b ≤ 4 → same ≡ len → len ≤ 16777216 → x + b ≤ len → Reaches w len b (suc count) x → Reaches w same b count (backward x b)
reaches-next w len same b count x some few long most here at =
    record {
      low = λ last. next-low x (backward x b) b count w.low few (previous x b len some few here most (subst (λ (l : ℕ). backward x b + b ≤ l) long last)) (at.low here);
      high = λ last.
          let is : backward x b + b ≡ x = previous x b len some few here most (subst (λ (l : ℕ). backward x b + b ≤ l) long last) in
          let high : x + 4 ≤ w.high = at.high here in
          omega (arith, is, high);
    }

down-from : (w : Reach) (pc : ℕ) (m : Memory) (x : ℕ) (size : Size) (vs : List ℕ) (y : Result Memory Access) → IsShort m → 0 < bytes_of size
    → Reaches w (length m.bytes) (bytes_of size) (suc (length vs)) x → Stores m x size y
    → ((n : Memory) → IsShort n → Reaches w (length n.bytes) (bytes_of size) (length vs) (backward x (bytes_of size)) → Leaves w n (stored_down pc n x size vs))
    → Leaves w m (or_fault pc y >>= λ n. stored_down pc n x size vs)
down-from w pc m x size vs (Err e) short some at did rest = tt
down-from w pc m x size vs (Ok n) short some at did rest =
    let here : x + bytes_of size ≤ length m.bytes = did.within some in
    let first : Beside w m.bytes n.bytes = wider w (range x 4) m.bytes n.bytes (first-low x (length vs) w.low (at.low here)) (at.high here) did.beside in
    joined w m n (stored_down pc n x size vs) first
    (rest n (short-kept w m n short first) (reaches-next w (length m.bytes) (length n.bytes) (bytes_of size) (length vs) x some (few-bytes size) first.long short.most here at))

pub stored-down : (w : Reach) (pc : ℕ) (m : Memory) (a : ℕ) (size : Size) (vs : List ℕ) → IsShort m → 0 < bytes_of size
    → Reaches w (length m.bytes) (bytes_of size) (length vs) (backward a (bytes_of size)) → Leaves w m (stored_down pc m a size vs)
unfolding stored_down
stored-down w pc m a size [] short some at = stay w m.bytes
stored-down w pc m a size (v ∷ vs) short some at =
    down-from w pc m (backward a (bytes_of size)) size vs (stored_value m (backward a (bytes_of size)) size v) short some at (stores m (backward a (bytes_of size)) size v)
    (λ n kept next. stored-down w pc n (backward a (bytes_of size)) size vs kept some next)

pub down-still : (w : Reach) (pc : ℕ) (m : Memory) (a : ℕ) (vs : List ℕ) → Leaves w m (stored_down pc m a Zero vs)
unfolding stored_down
down-still w pc m a [] = stay w m.bytes
down-still w pc m a (v ∷ vs) =
    still-from w pc m (backward a 0) (λ n. stored_down pc n (backward a 0) Zero vs) (stored_value m (backward a 0) Zero v) (stores m (backward a 0) Zero v)
    (λ n. down-still w pc n (backward a 0) vs)
