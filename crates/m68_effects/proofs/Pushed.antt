-- Pushing and popping.
use Rattle.std.proofs.Common.{◌≡◌, ℕ, ◌^◌, ◌<◌, ◌∙◌, true, false, List, length, get_or, Result, Ok, Err, refl, sym, ap, subst, arith, rules, lit<, get_or-set_same}
use Rattle.std.specs.Prelude.{◌==◌, if◌then◌else◌, slice_index}
use Rattle.std.proofs.Math.ListN.{set}
use Rattle.std.proofs.lemmas.List.{set-set, set-get_or}
use Rattle.mix_bits.specs.declared.size.Size.{Size}
use Rattle.mix_bits.specs.declared.size.Size.TheVariants.{Zero, One, Two, Four}
use Rattle.mix_bits.specs.declared.fault.Fault.{Fault}
use Rattle.mix_bits.specs.Addresses.{onward}
use Rattle.mix_bits.specs.Sizes.{low_replaced, sign_extended, truncated}
use Rattle.mix_bits.specs.Results.{◌>>=◌}
use Rattle.m68_isa.specs.declared.registers.Regs68.{Regs68}
use Rattle.m68_isa.specs.declared.registers.Ccr.{Ccr}
use Rattle.m68_isa.specs.declared.ea.Ea.{Ea}
use Rattle.m68_isa.specs.declared.ea.Ea.TheVariants.{Dn, Post}
use Rattle.m68_isa.specs.declared.instructions.Instr68.TheVariants.{Move, Movea}
use Rattle.m68_alu.specs.Sizes.{result_flags}
use Rattle.big_memory.specs.declared.refusals.Access.{Access}
use Rattle.big_memory.specs.Memory.{Memory, loaded}
use Rattle.big_memory.specs.Stores.{stored_value}
use Rattle.big_memory.proofs.Longs.{stored_loads}
use Rattle.m68_ea.specs.Accesses.{or_fault}
use Rattle.m68_ea.specs.Operands.{put_into, sourced}
use Rattle.m68_ea.specs.Places.{address_of, step_of, with_address}
use Rattle.mix_bits.specs.Addresses.{backward}
use Rattle.m68_effects.specs.laws.Laws.{IsFile, PopsAddress, PopsData, PopsEffective}
use Rattle.m68_effects.specs.Parts.{Effect, goes_on, with_ccr}
use Rattle.m68_effects.specs.Rows.{effect}

-- registers and memory behind a store
abbrev pub changed_to : (Regs68 → Regs68) → Regs68 × Memory → Effect
changed_to g done = Ok (g done.0, done.1)

abbrev pub with_memory : Regs68 → Memory → Result (Regs68 × Memory) Access
with_memory p done = Ok (p, done)

abbrev ok_memory : Memory → Result Memory Access
ok_memory m = Ok m

pub behind : (x : Result Memory Access) (pc : ℕ) (p q : Regs68) (n : Memory) (g : Regs68 → Regs68)
    → (or_fault pc (x >>= with_memory p) >>= changed_to g) ≡ Ok (q, n) → (x ≡ Ok n) × (q ≡ g p)
behind (Ok m) pc p q n g is =
    let left : Regs68 × Memory = (g p, m) in
    let right : Regs68 × Memory = (q, n) in
    let same : left ≡ right = cc in
    (ap (λ (z : Regs68 × Memory). ok_memory z.1) same, ap (λ (z : Regs68 × Memory). z.0) (sym same))
behind (Err e) pc p q n g is = absurd (cc)

-- a number that is read behind a pointer
pub popped_is : (q : Regs68) (n : Memory) (s : Size) (base a v : ℕ) → slice_index q.a base ≡ a → loaded n a s ≡ Ok v
    → sourced q n s (Post base) ≡ Ok (with_address q base (onward a (step_of base s)), v)
popped_is q n s base a v here reads = rw (here, reads) refl

-- addresses
pub forth-back : (a n : ℕ) → a < 2 ^ 32 → n < 2 ^ 32 → onward (backward a n) n ≡ a
forth-back a n fits small = omega arith

small-step : (base : ℕ) (s : Size) → step_of base s < 2 ^ 32
small-step base Zero = omega arith
small-step base One = elim (base == 7) as (λ b. (if b then 2 else 1) < 2 ^ 32) [ true ↦ omega arith | false ↦ omega arith ]
small-step base Two = omega arith
small-step base Four = omega arith

-- sizes
pub whole-truncated : (v : ℕ) → v < 2 ^ 32 → truncated v Four ≡ v
whole-truncated v fits = omega arith

pub whole-extended : (v : ℕ) → v < 2 ^ 32 → sign_extended v Four ≡ v
whole-extended v fits = search rules

pub twice-truncated : (v : ℕ) (s : Size) → truncated (truncated v s) s ≡ truncated v s
twice-truncated v Zero = omega arith
twice-truncated v One = omega arith
twice-truncated v Two = omega arith
twice-truncated v Four = omega arith

same-replaced : (v : ℕ) (s : Size) → low_replaced v (truncated (truncated v s) s) s ≡ v
same-replaced v Zero = omega arith
same-replaced v One = omega arith
same-replaced v Two = omega arith
same-replaced v Four = omega arith

-- what pops give, once a long is pushed from registers r, and the program goes on at `next`
abbrev pub pushed_from : Regs68 → ℕ → ℕ → Regs68
pushed_from r base n = with_address r base (backward (slice_index r.a base) n)

pub top : (r : Regs68) (base a : ℕ) → length r.a ≡ 8 → base < 8 → slice_index (with_address r base a).a base ≡ a
top r base a count below = let here : base < length r.a = omega arith in get_or-set_same r.a base a 0 here

-- a pointer that went back and forth
restored : (xs : List ℕ) (base n : ℕ) → get_or xs base 0 < 2 ^ 32 → n < 2 ^ 32 → set (set xs base (backward (get_or xs base 0) n)) base (onward (backward (get_or xs base 0) n) n) ≡ xs
restored xs base n fits small = rw (forth-back (get_or xs base 0) n fits small, set-set) (set-get_or xs base 0)

pop-back : (r q : Regs68) (m n : Memory) (s : Size) (base v : ℕ) → IsFile r → base < 8 → q.a ≡ (pushed_from r base (step_of base s)).a
    → stored_value m (backward (slice_index r.a base) (step_of base s)) s v ≡ Ok n
    → sourced q n s (Post base) ≡ Ok (record q { a = r.a }, truncated v s)
pop-back r q m n s base v file below is stores =
    let a : ℕ = backward (slice_index r.a base) (step_of base s) in
    let here : slice_index q.a base ≡ a = ap (λ xs. slice_index xs base) is ∙ top r base a file.address_registers.count below in
    let again : set q.a base (onward a (step_of base s)) ≡ r.a =
    ap (λ xs. set xs base (onward a (step_of base s))) is ∙ restored r.a base (step_of base s) (file.address_registers.each base) (small-step base s) in
    popped_is q n s base a (truncated v s) here (stored_loads m n a s v stores)
    ∙ ap (λ xs. Ok (record q { a = xs }, truncated v s)) again

-- moved registers
abbrev with_number : Memory → ℕ → Size → Ea → Ccr → Regs68 × ℕ → Effect
with_number m last size to ccr found = put_into found.0 m size to found.1 >>= changed_to (λ t. record (with_ccr t (result_flags size found.1 ccr)) { pc = last })

abbrev with_pointer : Memory → ℕ → Size → ℕ → Regs68 × ℕ → Effect
with_pointer m last size to found = goes_on last (with_address found.0 to (sign_extended found.1 size)) m

data-back : (r : Regs68) (n : Memory) (next last k base : ℕ) (size : Size) (ccr : Ccr)
    → with_number n last size (Dn k) (result_flags size (truncated (slice_index r.d k) size) ccr) (record r { pc = next; ccr = result_flags size (truncated (slice_index r.d k) size) ccr }, truncated (truncated (slice_index r.d k) size) size)
    ≡ goes_on last (with_ccr r (result_flags size (truncated (slice_index r.d k) size) ccr)) n
data-back r n next last k base size ccr =
    let flags : Ccr = result_flags size (truncated (slice_index r.d k) size) ccr in
    let whole : List ℕ → ℕ → Effect = λ d w. Ok (record r { d = d; pc = last; ccr = result_flags size w flags }, n) in
    let d : List ℕ = set r.d k (low_replaced (slice_index r.d k) (truncated (truncated (slice_index r.d k) size) size) size) in
    ap (whole d) (twice-truncated (slice_index r.d k) size)
    ∙ ap (λ e. whole e (truncated (slice_index r.d k) size)) (ap (set r.d k) (same-replaced (slice_index r.d k) size) ∙ set-get_or r.d k 0)

pub pops_data : PopsData
pops_data r q m n next last k base size file low below is =
    let v : ℕ = truncated (slice_index r.d k) size in
    let a : ℕ = backward (slice_index r.a base) (step_of base size) in
    let flags : Ccr = result_flags size v r.ccr in
    let after : Regs68 = record (pushed_from r base (step_of base size)) { pc = next; ccr = flags } in
    let done = behind (stored_value m a size v) r.pc (pushed_from r base (step_of base size)) q n (λ t. record (with_ccr t flags) { pc = next }) is in
    let at : effect after n last (Move size (Post base) (Dn k)) ≡ goes_on last (with_ccr r flags) n =
    ap (λ (found : Result (Regs68 × ℕ) Fault). found >>= with_number n last size (Dn k) flags) (pop-back r after m n size base v file below refl done.0)
    ∙ data-back r n next last k base size r.ccr in
    subst (λ (t : Regs68). effect t n last (Move size (Post base) (Dn k)) ≡ goes_on last (with_ccr r t.ccr) n) (sym done.1) at

address-back : (r : Regs68) (n : Memory) (next last k : ℕ) (ccr : Ccr) (w : ℕ) → IsFile r → w ≡ slice_index r.a k
    → with_pointer n last Four k (record r { pc = next; ccr = ccr }, truncated w Four) ≡ goes_on last (with_ccr r ccr) n
address-back r n next last k ccr w file is =
    let fits : w < 2 ^ 32 = rw is (file.address_registers.each k) in
    let whole : List ℕ → Effect = λ a. Ok (record r { a = a; pc = last; ccr = ccr }, n) in
    rw (whole-truncated w fits, whole-extended w fits) (ap whole (ap (set r.a k) is ∙ set-get_or r.a k 0))

pub pops_address : PopsAddress
pops_address r q m n next last k base file low below is =
    let v : ℕ = truncated (slice_index r.a k) Four in
    let a : ℕ = backward (slice_index r.a base) 4 in
    let flags : Ccr = result_flags Four v r.ccr in
    let after : Regs68 = record (pushed_from r base 4) { pc = next; ccr = flags } in
    let done = behind (stored_value m a Four v) r.pc (pushed_from r base 4) q n (λ t. record (with_ccr t flags) { pc = next }) is in
    let at : effect after n last (Movea Four (Post base) k) ≡ goes_on last (with_ccr r flags) n =
    ap (λ (found : Result (Regs68 × ℕ) Fault). found >>= with_pointer n last Four k) (pop-back r after m n Four base v file below refl done.0)
    ∙ address-back r n next last k flags v file (whole-truncated (slice_index r.a k) (file.address_registers.each k)) in
    subst (λ (t : Regs68). effect t n last (Movea Four (Post base) k) ≡ goes_on last (with_ccr r t.ccr) n) (sym done.1) at

pub pops_effective : PopsEffective
pops_effective r q m n next last k from file fits is =
    let v : ℕ = address_of r from in
    let a : ℕ = backward (slice_index r.a 7) 4 in
    let after : Regs68 = record (pushed_from r 7 4) { pc = next } in
    let done = behind (stored_value m a Four v) r.pc (pushed_from r 7 4) q n (λ t. record t { pc = next }) is in
    let at : effect after n last (Movea Four (Post 7) k) ≡ goes_on last (with_address r k v) n =
    ap (λ (found : Result (Regs68 × ℕ) Fault). found >>= with_pointer n last Four k) (pop-back r after m n Four 7 v file (lit< tt) refl done.0)
    ∙ ap (λ w. goes_on last (with_address r k w) n) (ap (λ w. sign_extended w Four) (whole-truncated v fits) ∙ whole-extended v fits) in
    subst (λ (t : Regs68). effect t n last (Movea Four (Post 7) k) ≡ goes_on last (with_address r k v) n) (sym done.1) at
