-- Values in registers, and what they read back as.
use Rattle.std.proofs.Common.{◌≡◌, ◌≢◌, inl, inr, ℕ, suc, ◌-◌, ◌<◌, Bool, true, false, ◌==◌, ◌||◌, List, [], ◌∷◌, length, get_or, Option, Some, None, Ok, arith, refl, sym, ap, ◌∙◌}
use Rattle.std.specs.List.{list_any}
use Rattle.std.proofs.lemmas.List.{get_or-set_same, get_or-set_other, length-set}
use Rattle.std.proofs.lemmas.Bool.{cases_lt, lt-ltb, le-ltb, eqb-false}
use Rattle.mix_bits.specs.Sizes.{truncated, low_replaced}
use Rattle.mix_bits.specs.declared.size.Size.{Size}
use Rattle.mix_bits.specs.declared.size.Size.TheVariants.{Zero, One, Two, Four}
use Rattle.big_memory.specs.Memory.{Memory}
use Rattle.m68_isa.specs.declared.registers.Regs68.{Regs68}
use Rattle.proc_info.specs.declared.conv.Conv.{Conv}
use Rattle.proc_info.specs.declared.conv.Dispatch.{Dispatch}
use Rattle.proc_info.specs.declared.conv.Dispatch.TheVariants.{Nowhere, D0, D1, OnStack}
use Rattle.proc_info.specs.Codes.{dispatch_of}
use Rattle.proc_info.specs.declared.param.Param.{Param}
use Rattle.proc_info.specs.Cut.{cut}
use Rattle.proc_info.specs.Signature.{Signature, is_twice}
use Rattle.proc_info.specs.declared.conv.Route.{Route}
use Rattle.proc_info.specs.declared.conv.Route.TheVariants.{PascalStack, CStack, Registers}
use Rattle.args_m68.specs.declared.places.Place.{Place}
use Rattle.args_m68.specs.declared.places.Place.TheVariants.{Stack, Data, Address, Condition}
use Rattle.args_m68.specs.PlacesClauses.{IsThere}
use Rattle.args_m68.specs.Places.{place_by, place_numbered, place_of, selector_place}
use Rattle.args_m68.specs.Values.{value_at, with_value}
use Rattle.args_m68.specs.Gather.{values_at}
use Rattle.args_m68.specs.Deliver.{with_arguments, with_selector}
use Rattle.args_m68.specs.laws.ResultLaws.{IsFile}
use Rattle.args_m68.proofs.Stacks.{in-front}

-- A7 stays where a value goes to a place
pub sp-kept : (place : Place) (s : Size) (v : ℕ) (r : Regs68) → IsThere place → get_or (with_value place s v r).a 7 0 ≡ get_or r.a 7 0
sp-kept (Stack from) s v r there = refl
sp-kept (Data n) s v r there = refl
sp-kept (Address n) s v r there = get_or-set_other r.a n 7 (low_replaced (get_or r.a n 0) v s) 0 (λ e. omega (arith, there, e))
sp-kept (Condition flag) s v r there = refl

-- a register that a number names is a place
pub numbered-there : (code : ℕ) → IsThere (place_numbered code)
numbered-there code = elim (cases_lt code 4) [
  | inl low ↦ rw (lt-ltb code 4 low) (omega (arith, low))
  | inr on ↦ rw (le-ltb code 4 on) (elim (cases_lt code 8) [
    | inl address ↦ rw (lt-ltb code 8 address) (omega (arith, address))
    | inr on ↦ rw (le-ltb code 8 on) (elim (cases_lt code 12) [
      | inl low ↦ rw (lt-ltb code 12 low) (omega (arith, low, on))
      | inr on ↦ rw (le-ltb code 12 on) (elim (cases_lt code 15) [ inl address ↦ rw (lt-ltb code 15 address) (omega (arith, address, on)) | inr on ↦ rw (le-ltb code 15 on) tt ])
    ])
  ])
]

pub place-there : (route : Route) (p : Param) → IsThere (place_of route 0 p 0)
place-there PascalStack p = tt
place-there CStack p = tt
place-there Registers p = numbered-there p.reg

pub passed-there : (dispatch : Dispatch) → IsThere (place_by dispatch)
passed-there Nowhere = omega arith
passed-there D0 = omega arith
passed-there D1 = omega arith
passed-there OnStack = tt

pub selector-there : (conv : Conv) → IsThere (selector_place conv)
selector-there conv = passed-there (dispatch_of conv)

pub arguments-keep_sp : (route : Route) (ps : List Param) (vs : List ℕ) (r : Regs68) → get_or (with_arguments route ps vs r).a 7 0 ≡ get_or r.a 7 0
arguments-keep_sp route [] vs r = refl
arguments-keep_sp route (p ∷ ps) [] r = refl
arguments-keep_sp route (p ∷ ps) (v ∷ vs) r =
    arguments-keep_sp route ps vs (with_value (place_of route 0 p 0) p.size v r) ∙ sp-kept (place_of route 0 p 0) p.size v r (place-there route p)

pub selector-keeps_sp : (sig : Signature) (selector : Option ℕ) (r : Regs68) → get_or (with_selector sig selector r).a 7 0 ≡ get_or r.a 7 0
selector-keeps_sp sig None r = refl
selector-keeps_sp sig (Some v) r = sp-kept (selector_place sig.conv) sig.selector v r (selector-there sig.conv)

-- arguments on the stack leave the registers as they are
pub pascal-leaves : (ps : List Param) (vs : List ℕ) (r : Regs68) → with_arguments PascalStack ps vs r ≡ r
pascal-leaves [] vs r = refl
pascal-leaves (p ∷ ps) [] r = refl
pascal-leaves (p ∷ ps) (v ∷ vs) r = pascal-leaves ps vs r

pub c-leaves : (ps : List Param) (vs : List ℕ) (r : Regs68) → with_arguments CStack ps vs r ≡ r
c-leaves [] vs r = refl
c-leaves (p ∷ ps) [] r = refl
c-leaves (p ∷ ps) (v ∷ vs) r = c-leaves ps vs r

-- the low bytes that were put in are there
pub low-back : (s : Size) (old v : ℕ) → truncated (low_replaced old v s) s ≡ truncated v s
low-back Zero old v = omega arith
low-back One old v = omega arith
low-back Two old v = omega arith
low-back Four old v = omega arith

pub file-kept : (place : Place) (s : Size) (v : ℕ) (r : Regs68) → IsFile r → IsFile (with_value place s v r)
file-kept (Stack from) s v r file = file
file-kept (Data n) s v r file = record { data_registers = length-set r.d n _ ∙ file.data_registers; address_registers = file.address_registers }
file-kept (Address n) s v r file = record { data_registers = file.data_registers; address_registers = length-set r.a n _ ∙ file.address_registers }
file-kept (Condition flag) s v r file = record { data_registers = file.data_registers; address_registers = file.address_registers }

-- a parameter's register holds what was put there
pub same-back : (code : ℕ) (s : Size) (v : ℕ) (r : Regs68) (m : Memory) → code < 8 → IsFile r → value_at (with_value (place_numbered code) s v r) m (place_numbered code) s ≡ Ok (truncated v s)
same-back code s v r m held file = elim (cases_lt code 4) [
  | inl low ↦ rw (lt-ltb code 4 low) (ap (λ x. Ok (truncated x s)) (get_or-set_same r.d code _ 0 (omega (arith, low, file.data_registers))) ∙ ap Ok (low-back s (get_or r.d code 0) v))
  | inr on ↦ rw (le-ltb code 4 on, lt-ltb code 8 held)
      (ap (λ x. Ok (truncated x s)) (get_or-set_same r.a (code - 4) _ 0 (omega (arith, held, on, file.address_registers))) ∙ ap Ok (low-back s (get_or r.a (code - 4) 0) v))
]

-- and what is put into another one leaves it
pub other-back : (code other : ℕ) (s t : Size) (v : ℕ) (r : Regs68) (m : Memory) → code < 8 → other < 8 → code ≢ other → value_at (with_value (place_numbered other) t v r) m (place_numbered code) s ≡ value_at r m (place_numbered code) s
other-back code other s t v r m held there apart = elim (cases_lt code 4) [
  | inl low ↦ rw (lt-ltb code 4 low) (elim (cases_lt other 4) [
    | inl both ↦ rw (lt-ltb other 4 both) (ap (λ x. Ok (truncated x s)) (get_or-set_other r.d other code _ 0 apart))
    | inr on ↦ rw (le-ltb other 4 on, lt-ltb other 8 there) refl
  ])
  | inr over ↦ rw (le-ltb code 4 over, lt-ltb code 8 held) (elim (cases_lt other 4) [
    | inl low ↦ rw (lt-ltb other 4 low) refl
    | inr both ↦ rw (le-ltb other 4 both, lt-ltb other 8 there)
        (ap (λ x. Ok (truncated x s)) (get_or-set_other r.a (other - 4) (code - 4) _ 0 (λ e. apart (omega (arith, over, both, e)))))
  ])
]

-- each parameter is in a register
unfoldable pub AllHeld : List Param → Type 0
AllHeld ps = (k : ℕ) (d : Param) → k < length ps → (get_or ps k d).reg < 8

pub rest-held : (p : Param) (ps : List Param) → AllHeld (p ∷ ps) → AllHeld ps
unfolding AllHeld
rest-held p ps held k d within = held (suc k) d (omega (arith, within))

-- a test that fails of a whole list fails of its first element and of the others
pub none-first : (a b : Bool) → (a || b) ≡ false → a ≡ false
none-first true b none = cc
none-first false b none = refl

pub none-later : (a b : Bool) → (a || b) ≡ false → b ≡ false
none-later true b none = cc
none-later false b none = none

-- later arguments leave a register that none of them is in
arguments-leave : (ps : List Param) (vs : List ℕ) (code : ℕ) (s : Size) (r : Regs68) (m : Memory) → code < 8 → AllHeld ps → list_any (λ q. q.reg == code) ps ≡ false → value_at (with_arguments Registers ps vs r) m (place_numbered code) s ≡ value_at r m (place_numbered code) s
unfolding AllHeld
arguments-leave [] vs code s r m low held none = refl
arguments-leave (p ∷ ps) [] code s r m low held none = refl
arguments-leave (p ∷ ps) (v ∷ vs) code s r m low held none =
    let first : (p.reg == code) ≡ false = none-first (p.reg == code) (list_any (λ q. q.reg == code) ps) none in
    arguments-leave ps vs code s (with_value (place_numbered p.reg) p.size v r) m low (rest-held p ps held) (none-later (p.reg == code) (list_any (λ q. q.reg == code) ps) none)
    ∙ other-back code p.reg s p.size v r m low (held 0 p (omega arith)) (λ e. eqb-false p.reg code first (sym e))

-- arguments in registers that are named once read back
pub registers-back : (ps : List Param) (vs : List ℕ) (r : Regs68) (m : Memory) (base : ℕ) → length vs ≡ length ps → AllHeld ps → is_twice ps ≡ false → IsFile r → values_at (with_arguments Registers ps vs r) m Registers base ps ≡ Ok (cut ps vs)
unfolding AllHeld
registers-back [] vs r m base same held once file = refl
registers-back (p ∷ ps) [] r m base same held once file = absurd (omega (arith, same))
registers-back (p ∷ ps) (v ∷ vs) r m base same held once file =
    let low : p.reg < 8 = held 0 p (omega arith) in
    let free : list_any (λ q. q.reg == p.reg) ps ≡ false = none-first (list_any (λ q. q.reg == p.reg) ps) (is_twice ps) once in
    let later : is_twice ps ≡ false = none-later (list_any (λ q. q.reg == p.reg) ps) (is_twice ps) once in
    let after = with_value (place_numbered p.reg) p.size v r in
    in-front _ _ _ _
    (arguments-leave ps vs p.reg p.size after m low (rest-held p ps held) free ∙ same-back p.reg p.size v r m low file)
    (registers-back ps vs after m base (omega (arith, same)) (rest-held p ps held) later (file-kept (place_numbered p.reg) p.size v r file))
