-- A result that was put is found, and what a return leaves.
use Rattle.std.proofs.Common.{◌≡◌, ◌≢◌, ℕ, ◌+◌, ◌*◌, ◌≤◌, if◌then◌else◌, Bool, true, false, ◌==◌, nat_lt, length, get_or, Option, Some, None, Result, Ok, Err, arith, refl, sym, ap, ◌∙◌, subst}
use Rattle.std.proofs.lemmas.List.{get_or-set_same, length-set}
use Rattle.std.proofs.lemmas.Bool.{le-leb}
use Rattle.std.proofs.lemmas.Bool.Decides.{nat_tests}
use Rattle.std.specs.Int.{from_bool}
use Rattle.mix_bits.specs.Results.{◌>>=◌}
use Rattle.mix_bits.specs.Sizes.{bytes_of, truncated, low_replaced}
use Rattle.mix_bits.specs.declared.size.Size.{Size}
use Rattle.big_memory.specs.declared.refusals.Access.{Access}
use Rattle.big_memory.specs.declared.refusals.Access.TheVariants.{Outside}
use Rattle.big_memory.specs.Memory.{Memory, in_memory, loaded, refusal, stored}
use Rattle.big_memory.specs.Stores.{stored_unless, stored_value}
use Rattle.big_memory.proofs.Guarded.{loads_back}
use Rattle.m68_isa.specs.declared.registers.Ccr.{Ccr}
use Rattle.m68_isa.specs.declared.registers.Regs68.{Regs68}
use Rattle.proc_info.specs.Signature.{Signature}
use Rattle.args_m68.specs.declared.places.Flag.{Flag}
use Rattle.args_m68.specs.declared.places.Flag.TheVariants.{Carry, Overflow, IsZero, Negative, Extend}
use Rattle.args_m68.specs.declared.places.Place.{Place}
use Rattle.args_m68.specs.declared.places.Place.TheVariants.{Stack, Data, Address, Condition}
use Rattle.proc_info.specs.declared.conv.Route.{Route}
use Rattle.proc_info.specs.declared.conv.Route.TheVariants.{PascalStack, CStack, Registers}
use Rattle.args_m68.specs.PlacesClauses.{IsThere}
use Rattle.proc_info.specs.Routes.{route_of}
use Rattle.args_m68.specs.Places.{params_bytes, result_bytes, result_place, selector_width}
use Rattle.args_m68.specs.Values.{Given, above_sp, flag_in, put_at, value_at, with_flag, with_value}
use Rattle.args_m68.specs.Deliver.{callee_base}
use Rattle.args_m68.specs.Results.{after_call, removed_by}
use Rattle.args_m68.specs.laws.ResultLaws.{IsFile, ResultComesBack, ReturnLeaves, left_by, shown_at}
use Rattle.args_m68.proofs.Files.{low-back, numbered-there}
use Rattle.args_m68.proofs.Spots.{only-pascal}

-- bytes that may be stored lie in memory
inside : (m : Memory) (a n : ℕ) → refusal m a n ≡ None → in_memory m a n ≡ true
inside m a n free = by (n == 0) (nat_lt (length m.bytes) (a + n)) refl refl
  where
    by : (none past : Bool) → (n == 0) ≡ none → nat_lt (length m.bytes) (a + n) ≡ past → in_memory m a n ≡ true
    by true past e f = rw e refl
    by false true e f =
        let is : refusal m a n ≡ Some (Outside a) = rw (e, f) refl in
        let no : Some (Outside a) ≡ None = sym is ∙ free in absurd (cc)
    by false false e f =
        let within : a + n ≤ length m.bytes = grind (arith, nat_tests) in rw e (le-leb _ _ within)

-- what was stored is loaded
stored-back : (m n : Memory) (a : ℕ) (s : Size) (v : ℕ) → stored_value m a s v ≡ Ok n → loaded n a s ≡ Ok (truncated v s)
unfolding stored_value
stored-back m n a s v done = by (refusal m a (bytes_of s)) refl done
  where
    by : (refused : Option Access) → refusal m a (bytes_of s) ≡ refused → stored_unless refused (stored m a s v) ≡ Ok n → loaded n a s ≡ Ok (truncated v s)
    by None free is =
        let made : stored m a s v ≡ n = cc in
        subst (λ (k : Memory). loaded k a s ≡ Ok (truncated v s)) made (loads_back m a s v (inside m a (bytes_of s) free))
    by (Some e) refused is = absurd (cc)

flag-back : (flag : Flag) (on : Bool) (ccr : Ccr) → flag_in flag (with_flag flag on ccr) ≡ on
flag-back Carry on ccr = refl
flag-back Overflow on ccr = refl
flag-back IsZero on ccr = refl
flag-back Negative on ccr = refl
flag-back Extend on ccr = refl

-- what is given is as it was made
given-is : (made given : Given) (place : Place) (s : Size) (x : Result ℕ Access) → (let left : Result Given Access = Ok made in left ≡ Ok given)
    → value_at made.regs made.memory place s ≡ x → value_at given.regs given.memory place s ≡ x
given-is made given place s x e found =
    let same : made ≡ given = cc in subst (λ (g : Given). value_at g.regs g.memory place s ≡ x) same found

-- a value that was put at a place is there
put-back : (place : Place) (s : Size) (v : ℕ) (r : Regs68) (m : Memory) (given : Given) → IsThere place → IsFile r → put_at place s v r m ≡ Ok given
    → value_at given.regs given.memory place s ≡ Ok (shown_at place s v)
put-back (Stack from) s v r m given there file done = by (stored_value m (above_sp r from) s v) refl done
  where
    by : (left : Result Memory Access) → stored_value m (above_sp r from) s v ≡ left → (left >>= λ n. Ok (record { regs = r; memory = n })) ≡ Ok given
        → value_at given.regs given.memory (Stack from) s ≡ Ok (truncated v s)
    by (Ok n) stores is = given-is (record { regs = r; memory = n }) given (Stack from) s (Ok (truncated v s)) is (stored-back m n (above_sp r from) s v stores)
    by (Err e) stores is = absurd (cc)
put-back (Data n) s v r m given there file done =
    given-is (record { regs = with_value (Data n) s v r; memory = m }) given (Data n) s (Ok (truncated v s)) done
    (ap (λ x. Ok (truncated x s)) (get_or-set_same r.d n (low_replaced (get_or r.d n 0) v s) 0 (omega (arith, there, file.data_registers))) ∙ ap Ok (low-back s (get_or r.d n 0) v))
put-back (Address n) s v r m given there file done =
    given-is (record { regs = with_value (Address n) s v r; memory = m }) given (Address n) s (Ok (truncated v s)) done
    (ap (λ x. Ok (truncated x s)) (get_or-set_same r.a n (low_replaced (get_or r.a n 0) v s) 0 (omega (arith, there, file.address_registers))) ∙ ap Ok (low-back s (get_or r.a n 0) v))
put-back (Condition flag) s v r m given there file done =
    given-is (record { regs = with_value (Condition flag) s v r; memory = m }) given (Condition flag) s (Ok (shown_at (Condition flag) s v)) done
    (ap (λ on. Ok (from_bool on)) (flag-back flag _ r.ccr))

result-there : (route : Route) (code : ℕ) → IsThere (result_place route code)
result-there PascalStack code = tt
result-there CStack code = omega arith
result-there Registers code = numbered-there code

pub result-comes-back : ResultComesBack
result-comes-back sig v r m given file done =
    put-back (result_place (route_of sig.conv) sig.place) sig.result v (after_call sig r) m given (result-there (route_of sig.conv) sig.place)
    (record { data_registers = file.data_registers; address_registers = length-set r.a 7 _ ∙ file.address_registers }) done

leaves-no_selector : (passed : Bool) (width bytes : ℕ) → width ≡ 0 → 4 + (if passed then width else 0) + bytes + 0 ≡ 4 + bytes
leaves-no_selector true width bytes none = omega (arith, none)
leaves-no_selector false width bytes none = omega arith

leaves-by : (route : Route) (sig : Signature) (passed : Bool) → (route ≢ PascalStack → selector_width sig.conv sig.selector ≡ 0)
    → callee_base sig passed + params_bytes route sig.params + result_bytes route sig.result ≡ removed_by route sig passed + left_by route sig
leaves-by PascalStack sig passed none = refl
leaves-by CStack sig passed none = leaves-no_selector passed (selector_width sig.conv sig.selector) (4 * length sig.params) (none (λ same. cc))
leaves-by Registers sig passed none = leaves-no_selector passed (selector_width sig.conv sig.selector) 0 (none (λ same. cc))

pub return-leaves : ReturnLeaves
return-leaves sig passed = leaves-by (route_of sig.conv) sig passed (only-pascal sig.conv sig.selector)
