-- Where the values of a call stand in 68K code
-- (Inside Macintosh: PowerPC System Software, chapter 2; the long slots of C parameters are this project's own).
-- All of it is counted from the return address, which is at A7 when a callee begins.
use Rattle.std.specs.Prelude.{ℕ, ◌+◌, ◌-◌, ◌*◌, ◌==◌, nat_lt, Bool, true, false, if◌then◌else◌, List, [], ◌∷◌, length}
use Rattle.mix_bits.specs.declared.size.Size.{Size}
use Rattle.mix_bits.specs.declared.size.Size.TheVariants.{Zero, Four}
use Rattle.mix_bits.specs.Sizes.{bytes_of}
use Rattle.proc_info.specs.declared.conv.Conv.{Conv}
use Rattle.proc_info.specs.declared.conv.Dispatch.{Dispatch}
use Rattle.proc_info.specs.declared.conv.Dispatch.TheVariants.{D1, OnStack}
use Rattle.proc_info.specs.Codes.{dispatch_of}
use Rattle.proc_info.specs.declared.param.Param.{Param}
use Rattle.args_m68.specs.declared.places.Flag.{Flag}
use Rattle.args_m68.specs.declared.places.Flag.TheVariants.{Carry, Overflow, IsZero, Negative, Extend}
use Rattle.args_m68.specs.declared.places.Place.{Place}
use Rattle.args_m68.specs.declared.places.Place.TheVariants.{Stack, Data, Address, Condition}
use Rattle.proc_info.specs.declared.conv.Route.{Route}
use Rattle.proc_info.specs.declared.conv.Route.TheVariants.{PascalStack, CStack, Registers}

-- how many bytes a value takes on a Pascal stack, which stays even
abbrev pub width : Size → ℕ
width Zero = 0
width Four = 4
width _ = 2

abbrev pub widths : List Param → ℕ
widths [] = 0
widths (p ∷ ps) = width p.size + widths ps

-- the registers by their numbers in a procInfo: D0 to D3 are 0 to 3, A0 to A3 4 to 7, D4 to D7 8 to 11, A4 to A6
-- 12 to 14, and the condition bits C, V, Z, N, X 16 to 20
abbrev pub flag_numbered : ℕ → Flag
flag_numbered code =
    if code == 16 then Carry else (if code == 17 then Overflow else (if code == 18 then IsZero else (if code == 19 then Negative else Extend)))

abbrev pub place_numbered : ℕ → Place
place_numbered code =
    if nat_lt code 4 then Data code else
    (if nat_lt code 8 then Address (code - 4) else
    (if nat_lt code 12 then Data (code - 4) else
    (if nat_lt code 15 then Address (code - 8) else Condition (flag_numbered code))))

-- The place of a parameter. `base` is how far above the return address the lowest of this and the later parameters
-- begins, and `later` how many bytes the later ones take: in Pascal they stand below it. In C it is the last bytes of a
-- long.
abbrev pub place_of : Route → ℕ → Param → ℕ → Place
place_of PascalStack base p later = Stack (base + later)
place_of CStack base p later = Stack (base + (4 - bytes_of p.size))
place_of Registers base p later = place_numbered p.reg

-- where the lowest of the later parameters begins: in C behind this one's long
abbrev pub next_base : Route → ℕ → ℕ
next_base CStack base = base + 4
next_base _ base = base

-- the place of a selector; only dispatched conventions have one, of some size
abbrev pub place_by : Dispatch → Place
place_by D1 = Data 1
place_by OnStack = Stack 4
place_by _ = Data 0

abbrev pub selector_place : Conv → Place
selector_place conv = place_by (dispatch_of conv)

-- how far a selector on the stack pushes the parameters up
abbrev pub is_on_stack : Dispatch → Bool
is_on_stack OnStack = true
is_on_stack _ = false

abbrev pub selector_width : Conv → Size → ℕ
selector_width conv s = if is_on_stack (dispatch_of conv) then width s else 0

-- the place of a result once the return has removed what it removes: a Pascal result's room is then the top of the stack
abbrev pub result_place : Route → ℕ → Place
result_place PascalStack code = Stack 0
result_place CStack code = Data 0
result_place Registers code = place_numbered code

-- how many bytes the parameters take on the stack, and the room for the result
abbrev pub params_bytes : Route → List Param → ℕ
params_bytes PascalStack ps = widths ps
params_bytes CStack ps = 4 * length ps
params_bytes Registers ps = 0

abbrev pub result_bytes : Route → Size → ℕ
result_bytes PascalStack s = width s
result_bytes _ s = 0
