-- Words, and bytes, that lie one after another where a whole range may be loaded or stored into.
use Rattle.std.proofs.Common.{◌≡◌, ℕ, ◌+◌, ◌<◌, ◌≤◌, length, Option, Some, None, Result, Ok, Err, true, arith, ◌∙◌, ap, refl}
use Rattle.std.proofs.lemmas.Bool.Decides.{nat_tests}
use Rattle.std.specs.Prelude.{MatchOption}
use Rattle.mix_bits.specs.Addresses.{onward}
use Rattle.mix_bits.specs.declared.size.Size.TheVariants.{One}
use Rattle.big_memory.specs.declared.refusals.Access.{Access}
use Rattle.big_memory.specs.laws.Laws.{Passes}
use Rattle.big_memory.specs.Memory.{Memory, IsRam, in_memory, refusal}
use Rattle.big_memory.proofs.Guarded.{passes, passes_within}
use Rattle.big_memory.proofs.Rams.{in_memory_within, loads_part}
use Rattle.ppc_core.specs.inner.Tested.{BytesOpen, BytesThere}

inside : (m : Memory) (a n : ℕ) → 0 < n → in_memory m a n ≡ true → a + n ≤ length m.bytes
inside m a n some is = grind (arith, nat_tests, some, is)

pub bytes_in : (m : Memory) (at n : ℕ) → IsRam m → in_memory m at n ≡ true → BytesThere m at n
bytes_in m at n ram is = λ k below.
    let within : at + n ≤ length m.bytes = inside m at n (omega (arith, below)) is in
    let most : length m.bytes ≤ 16777216 = ram.most in
    let place : onward at k ≡ at + k = omega arith in
    let here : in_memory m (at + k) 1 ≡ true = in_memory_within m at n (at + k) 1 is (omega arith) (omega arith) in
    (_, loads_part m (onward at k) One (ap (λ a. in_memory m a 1) place ∙ here))

-- a range that no store is refused of is open byte for byte
pub bytes_open : (m : Memory) (at n : ℕ) → IsRam m → refusal m at n ≡ None → BytesOpen m at n
bytes_open m at n ram may = λ k below.
    let all : Passes m at n = passes m at n (omega (arith, below)) may in
    let within : at + n ≤ length m.bytes = all.within in
    let most : length m.bytes ≤ 16777216 = ram.most in
    let place : onward at k ≡ at + k = omega arith in
    ap (λ a. refusal m a 1) place ∙ passes_within m at n (at + k) 1 ram may (omega arith) (omega arith)

pub none_refused : (reason : Option Access) (result : Result (Unit {0}) Access) (done : Unit {0}) → MatchOption reason (result ≡ Ok (record {})) (λ e. result ≡ Err e) → result ≡ Ok done → reason ≡ None
none_refused None result done told is = refl
none_refused (Some e) result done told is =
    let refused : result ≡ Err e = told in
    absurd cc
