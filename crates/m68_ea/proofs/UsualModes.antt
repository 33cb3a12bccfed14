-- Operands in memory of a usual mode, with a register n, that are read or written where nothing is refused.
use Rattle.std.proofs.Common.{◌≡◌, ℕ, ◌+◌, Bool, true, false, ◌&&◌, Option, Some, None, Result, Ok, Err, slice_index, refl, ap, subst, sym, ◌∙◌}
use Rattle.std.specs.Prelude.{MatchOption, is_ok}
use Rattle.mix_bits.specs.Addresses.{backward, onward}
use Rattle.mix_bits.specs.declared.size.Size.{Size}
use Rattle.mix_bits.specs.declared.fault.Fault.{Fault}
use Rattle.mix_bits.specs.Results.{◌>>=◌}
use Rattle.mix_bits.specs.Sizes.{bytes_of}
use Rattle.m68_isa.specs.declared.registers.Regs68.{Regs68}
use Rattle.m68_isa.specs.declared.operand.Operand.{Operand}
use Rattle.m68_isa.specs.Operands.{extended_word, operand_at}
use Rattle.big_memory.specs.declared.refusals.Access.{Access}
use Rattle.big_memory.specs.Memory.{Memory, loaded}
use Rattle.big_memory.specs.Open.{is_open}
use Rattle.big_memory.specs.StoresWhole.{StoresIf}
use Rattle.big_memory.specs.Stores.{stored_value}
use Rattle.m68_ea.specs.declared.places.Place68.{Place68}
use Rattle.m68_ea.specs.declared.places.Place68.TheVariants.{Mem}
use Rattle.m68_ea.specs.Accesses.{or_fault}
use Rattle.m68_ea.specs.FindsClauses.{KeepsControl}
use Rattle.m68_ea.specs.Finds.{KeepsOthers}
use Rattle.m68_ea.specs.Operands.{sourced, value_at, written_at}
use Rattle.m68_ea.specs.Places.{placed, step_of, with_address}
use Rattle.m68_ea.specs.Usual.{IsLeft, TakesUsual, WritesUsual, is_open_at, is_usual}
use Rattle.m68_ea.specs.Words.{words_at}

-- the operand whose words begin with word `first`
abbrev pub found : Regs68 → Memory → ℕ → Size → ℕ → ℕ → Operand
found r m first s mode n = operand_at (words_at m r.pc) first s mode n

-- it stands at `a`, and leaves registers q; `next` is behind its words
pub record Stands (r : Regs68) (m : Memory) (first : ℕ) (s : Size) (mode n : ℕ) (q : Regs68) (a next : ℕ) : Type 0 where
  pub tried : is_usual mode ≡ true
  pub good : (found r m first s mode n).good ≡ true
  pub place : placed r (found r m first s mode n).ea s ≡ (q, Mem a)
  pub behind : next ≡ (found r m first s mode n).next

abbrev there : Regs68 → ℕ → Regs68 × Place68
there q a = (q, Mem a)

pub at_register : (r : Regs68) (m : Memory) (first : ℕ) (s : Size) (mode n : ℕ) → mode ≡ 2 → Stands r m first s mode n r (slice_index r.a n) first
at_register r m first s mode n is = record {
  tried = λ i. is_usual (is i);
  good = λ i. (found r m first s (is i) n).good;
  place = λ i. placed r (found r m first s (is i) n).ea s;
  behind = λ i. (found r m first s (sym is i) n).next;
}

-- before an increment
pub upward : (r : Regs68) (m : Memory) (first : ℕ) (s : Size) (mode n step after : ℕ) → mode ≡ 3 → step ≡ step_of n s → after ≡ onward (slice_index r.a n) step
    → Stands r m first s mode n (with_address r n after) (slice_index r.a n) first
upward r m first s mode n step after is steps ends =
    let end : onward (slice_index r.a n) (step_of n s) ≡ after = sym (ends ∙ (λ i. onward (slice_index r.a n) (steps i))) in
    record {
      tried = λ i. is_usual (is i);
      good = λ i. (found r m first s (is i) n).good;
      place = (λ i. placed r (found r m first s (is i) n).ea s) ∙ (λ i. there (with_address r n (end i)) (slice_index r.a n));
      behind = λ i. (found r m first s (sym is i) n).next;
    }

-- behind a decrement
pub downward : (r : Regs68) (m : Memory) (first : ℕ) (s : Size) (mode n step a : ℕ) → mode ≡ 4 → step ≡ step_of n s → a ≡ backward (slice_index r.a n) step
    → Stands r m first s mode n (with_address r n a) a first
downward r m first s mode n step a is steps ends =
    let end : backward (slice_index r.a n) (step_of n s) ≡ a = sym (ends ∙ (λ i. backward (slice_index r.a n) (steps i))) in
    record {
      tried = λ i. is_usual (is i);
      good = λ i. (found r m first s (is i) n).good;
      place = (λ i. placed r (found r m first s (is i) n).ea s) ∙ (λ i. there (with_address r n (end i)) (end i));
      behind = λ i. (found r m first s (sym is i) n).next;
    }

-- at a displacement
pub displaced : (r : Regs68) (m : Memory) (first : ℕ) (s : Size) (mode n word a : ℕ) → mode ≡ 5 → word ≡ extended_word (words_at m r.pc) first → a ≡ onward (slice_index r.a n) word
    → Stands r m first s mode n r a (first + 1)
displaced r m first s mode n word a is extends ends =
    let end : onward (slice_index r.a n) (extended_word (words_at m r.pc) first) ≡ a = sym (ends ∙ (λ i. onward (slice_index r.a n) (extends i))) in
    record {
      tried = λ i. is_usual (is i);
      good = λ i. (found r m first s (is i) n).good;
      place = (λ i. placed r (found r m first s (is i) n).ea s) ∙ (λ i. there r (end i));
      behind = λ i. (found r m first s (sym is i) n).next;
    }

abbrev with_value : Regs68 → ℕ → Result (Regs68 × ℕ) Fault
with_value r v = Ok (r, v)

-- the value at a place that was found
abbrev from_place : Memory → Size → Regs68 × Place68 → Result (Regs68 × ℕ) Fault
from_place m size at = value_at at.0 m at.1 size >>= with_value at.0

pub takes : (r q : Regs68) (m : Memory) (first next : ℕ) (s : Size) (mode n a v : ℕ)
    → Stands r m first s mode n q a next → KeepsOthers r q → loaded m a s ≡ Ok v → TakesUsual r m first s (found r m first s mode n) (is_usual mode) (Some v) next q
takes r q m first next s mode n a v stands keeps reads =
    (stands.tried, stands.good, ap (from_place m s) stands.place ∙ ap (λ x. or_fault q.pc x >>= with_value q) reads, stands.behind, keeps)

refused : (q : Regs68) (x : Result ℕ Access) → is_ok x ≡ false → is_ok (or_fault q.pc x >>= with_value q) ≡ false
refused q (Ok v) h = h
refused q (Err access) h = h

and-false : (tried b : Bool) → b ≡ false → (tried && b) ≡ false
and-false true b h = h
and-false false b h = refl

-- a value that is not there
pub leaves : (r q : Regs68) (m : Memory) (first next : ℕ) (s : Size) (mode n a : ℕ) (result : Option ℕ)
    → result ≡ None → Stands r m first s mode n q a next → is_ok (loaded m a s) ≡ false → TakesUsual r m first s (found r m first s mode n) (is_usual mode) result first r
leaves r q m first next s mode n a result none stands refuses =
    let e = found r m first s mode n in
    let left : IsLeft (is_usual mode) (sourced r m s e.ea) = and-false (is_usual mode) (is_ok (sourced r m s e.ea)) (ap (λ p. is_ok (from_place m s p)) stands.place ∙ refused q (loaded m a s) refuses) in
    subst (λ x. TakesUsual r m first s e (is_usual mode) x first r) (sym none) (left, refl, refl)

-- either, without another register
pub looks : (r : Regs68) (m : Memory) (first : ℕ) (s : Size) (mode n a : ℕ) (result : Option ℕ)
    → Stands r m first s mode n r a first → MatchOption result (is_ok (loaded m a s) ≡ false) (λ v. loaded m a s ≡ Ok v) → TakesUsual r m first s (found r m first s mode n) (is_usual mode) result first r
looks r m first s mode n a (Some v) stands reads = takes r r m first first s mode n a v stands (record { d = refl; pc = refl; ccr = refl }) reads
looks r m first s mode n a None stands refuses = leaves r r m first first s mode n a None refl stands refuses

abbrev write_place : Memory → Size → ℕ → Regs68 × Place68 → Result (Regs68 × Memory) Fault
write_place m s v at = written_at at.0 m at.1 s v

abbrev with_memory : Regs68 → Memory → Result (Regs68 × Memory) Access
with_memory q m = Ok (q, m)

-- an operand that is written, or left where it isn't plainly open
pub writes : (r q : Regs68) (m n : Memory) (first next : ℕ) (s : Size) (mode k a v : ℕ) (done : Bool)
    → done ≡ true → Stands r m first s mode k q a next → KeepsControl r q → StoresIf (is_open m a (bytes_of s)) (stored_value m a s v) done m n
    → WritesUsual r m first s (found r m first s mode k) v (is_usual mode) done next q n
writes r q m n first next s mode k a v true opened stands keeps stores =
    (stands.tried, stands.good, ap (write_place m s v) stands.place ∙ ap (λ x. or_fault q.pc (x >>= with_memory q)) stores.1, stands.behind, keeps, stores.2)
writes r q m n first next s mode k a v false opened stands keeps stores = absurd (cc)

pub shut : (r q : Regs68) (m n : Memory) (first next : ℕ) (s : Size) (mode k a v : ℕ) (done : Bool)
    → done ≡ false → Stands r m first s mode k q a next → StoresIf (is_open m a (bytes_of s)) (stored_value m a s v) done m n
    → WritesUsual r m first s (found r m first s mode k) v (is_usual mode) done first r n
shut r q m n first next s mode k a v true refuses stands stores = absurd (cc)
shut r q m n first next s mode k a v false refuses stands stores =
    (and-false (is_usual mode) (is_open_at m (placed r (found r m first s mode k).ea s).1 s) (ap (λ (p : Regs68 × Place68). is_open_at m p.1 s) stands.place ∙ stores.0), refl, refl, stores.1)

-- either, without another register
pub puts : (r : Regs68) (m n : Memory) (first : ℕ) (s : Size) (mode k a v : ℕ) (done : Bool)
    → Stands r m first s mode k r a first → StoresIf (is_open m a (bytes_of s)) (stored_value m a s v) done m n
    → WritesUsual r m first s (found r m first s mode k) v (is_usual mode) done first r n
puts r m n first s mode k a v true stands stores = writes r r m n first first s mode k a v true refl stands (record { pc = refl; ccr = refl }) stores
puts r m n first s mode k a v false stands stores = shut r r m n first first s mode k a v false refl stands stores
