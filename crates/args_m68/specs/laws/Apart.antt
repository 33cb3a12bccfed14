-- The places of a call's values, and that no two of them share a byte, a register or a condition bit.
use Rattle.std.specs.Prelude.{◌≡◌, ◌≢◌, ℕ, ◌+◌, ◌<◌, ◌≤◌, Bool, true, if◌then◌else◌, List, [], ◌∷◌, ◌++◌, AllPairs, Result, Ok}
use Rattle.mix_bits.specs.Results.{◌>>=◌}
use Rattle.mix_bits.specs.Sizes.{bytes_of}
use Rattle.mix_bits.specs.declared.size.Size.{Size}
use Rattle.mix_bits.specs.declared.size.Size.TheVariants.{Four}
use Rattle.big_memory.specs.declared.refusals.Access.{Access}
use Rattle.big_memory.specs.Memory.{Memory}
use Rattle.m68_isa.specs.declared.registers.Regs68.{Regs68}
use Rattle.proc_info.specs.declared.param.Param.{Param}
use Rattle.proc_info.specs.Codes.{is_dispatched}
use Rattle.proc_info.specs.Rules.{KeepsRules}
use Rattle.proc_info.specs.Signature.{Signature}
use Rattle.args_m68.specs.declared.places.Place.{Place}
use Rattle.args_m68.specs.declared.places.Place.TheVariants.{Stack, Data, Address, Condition}
use Rattle.proc_info.specs.declared.conv.Route.{Route}
use Rattle.proc_info.specs.declared.conv.Route.TheVariants.{PascalStack, CStack, Registers}
use Rattle.proc_info.specs.Routes.{route_of}
use Rattle.args_m68.specs.Places.{next_base, place_of, selector_place, widths}
use Rattle.args_m68.specs.Values.{value_at}
use Rattle.args_m68.specs.Gather.{values_at}
use Rattle.args_m68.specs.Deliver.{callee_base}
use Rattle.args_m68.specs.Results.{removed}

-- a value's place, and its size
pub record Spot : Type 0 where
  pub place : Place
  pub size : Size

-- whether a value of this size has the byte so far above A7
abbrev pub HasByte : Place → Size → ℕ → Type 0
HasByte (Stack from) s at = (from ≤ at) × (at < from + bytes_of s)
HasByte (Data n) s at = ⊥
HasByte (Address n) s at = ⊥
HasByte (Condition flag) s at = ⊥

-- a place that is a register or a condition bit
abbrev pub IsRegister : Place → Type 0
IsRegister (Stack from) = ⊥
IsRegister (Data n) = Unit {0}
IsRegister (Address n) = Unit {0}
IsRegister (Condition flag) = Unit {0}

-- two values share nothing
pub record IsApart (one other : Spot) : Type 0 where
  pub bytes : (at : ℕ) → HasByte one.place one.size at → HasByte other.place other.size at → ⊥
  pub registers : IsRegister one.place → one.place ≢ other.place

-- the parameters, of which the lowest begins so far above the return address
abbrev pub param_spots : Route → ℕ → List Param → List Spot
param_spots route base [] = []
param_spots route base (p ∷ ps) =
    record { place = place_of route base p (widths ps); size = p.size } ∷ param_spots route (next_base route base) ps

-- what stands there, or the first refusal
abbrev pub values_in : Regs68 → Memory → List Spot → Result (List ℕ) Access
values_in r m [] = Ok []
values_in r m (x ∷ xs) = value_at r m x.place x.size >>= λ v. values_in r m xs >>= λ vs. Ok (v ∷ vs)

abbrev pub AreReadThere : Type 0
AreReadThere =
    (r : Regs68) (m : Memory) (route : Route) (base : ℕ) (ps : List Param) → values_at r m route base ps ≡ values_in r m (param_spots route base ps)

-- a selector that is passed
abbrev pub selector_spots : Signature → Bool → List Spot
selector_spots sig passed = if passed then record { place = selector_place sig.conv; size = sig.selector } ∷ [] else []

-- the room for a Pascal result, which the return leaves at the top of the stack; other results have no place yet
abbrev pub result_spots : Route → Signature → Bool → List Spot
result_spots PascalStack sig passed = record { place = Stack (removed sig passed); size = sig.result } ∷ []
result_spots CStack sig passed = []
result_spots Registers sig passed = []

-- all that a call passes: the return address, the selector, the parameters and the room for the result
abbrev pub call_spots : Signature → Bool → List Spot
call_spots sig passed =
    record { place = Stack 0; size = Four }
    ∷ (selector_spots sig passed ++ (param_spots (route_of sig.conv) (callee_base sig passed) sig.params ++ result_spots (route_of sig.conv) sig passed))

abbrev pub PlacesAreApart : Type 0
PlacesAreApart =
    (sig : Signature) (passed : Bool) → KeepsRules sig → (passed ≡ true → is_dispatched sig.conv ≡ true) → AllPairs IsApart (call_spots sig passed)
