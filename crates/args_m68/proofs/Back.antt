-- What a callee was handed reads back.
use Rattle.std.proofs.Common.{◌≡◌, ℕ, ◌+◌, ◌≤◌, true, false, List, ◌++◌, length, drop, get_or, replicate, Option, Some, None, Ok, is_some, arith, refl, sym, ap, ◌∙◌, append_assoc, length-append}
use Rattle.std.proofs.lemmas.List.{drop-drop, drop_at}
use Rattle.byteorder.specs.Endian.{big_bytes}
use Rattle.mix_bits.specs.Sizes.{truncated}
use Rattle.mix_bits.specs.declared.size.Size.{Size}
use Rattle.big_memory.specs.Lists.{put}
use Rattle.mix_bits.specs.declared.isa.Isa.TheVariants.{M68}
use Rattle.big_memory.specs.Map.{return_gate}
use Rattle.big_memory.specs.Memory.{Memory}
use Rattle.big_memory.proofs.Lists.{drop-put, length-put}
use Rattle.big_memory.proofs.Rams.{stay_beside}
use Rattle.m68_isa.specs.declared.registers.Regs68.{Regs68}
use Rattle.proc_info.specs.declared.conv.Conv.{Conv}
use Rattle.proc_info.specs.declared.conv.Conv.TheVariants.{Pascal, C, Register, D0Pascal, D0C, D1Pascal, StackPascal}
use Rattle.proc_info.specs.declared.param.Param.{Param}
use Rattle.proc_info.specs.Cut.{cut}
use Rattle.proc_info.specs.Codes.{is_dispatched}
use Rattle.proc_info.specs.Rules.{KeepsRules}
use Rattle.proc_info.specs.Signature.{Signature, is_twice}
use Rattle.proc_info.specs.declared.conv.Route.{Route}
use Rattle.proc_info.specs.declared.conv.Route.TheVariants.{PascalStack, CStack, Registers}
use Rattle.proc_info.specs.Routes.{route_of}
use Rattle.args_m68.specs.Places.{params_bytes, result_bytes, width}
use Rattle.args_m68.specs.declared.places.Place.TheVariants.{Stack, Data}
use Rattle.args_m68.specs.Values.{value_at}
use Rattle.args_m68.specs.Gather.{selector_in, values_at}
use Rattle.args_m68.specs.Deliver.{callee_base, callee_registers, fresh, pascal_slot, selector_slot, slots, stack_of, with_arguments, with_selector}
use Rattle.args_m68.specs.DeliverClauses.{callee_sp, delivered}
use Rattle.args_m68.specs.laws.Laws.{BeginsAtItsStack, ComesBack, MayBeHanded, SelectorComesBack, TouchesNothingElse}
use Rattle.args_m68.proofs.Stacks.{above-back, bytes-width, c-back, length-selector, length-slot, length-stack, pascal-back, slot-back}
use Rattle.args_m68.specs.laws.ResultLaws.{IsFile}
use Rattle.args_m68.proofs.Files.{AllHeld, arguments-keep_sp, c-leaves, file-kept, low-back, pascal-leaves, registers-back, selector-keeps_sp}

-- parameters in registers are in registers, each in one of its own
abbrev AreApart : Route → List Param → Type 0
AreApart PascalStack ps = Unit {0}
AreApart CStack ps = Unit {0}
AreApart Registers ps = AllHeld ps × (is_twice ps ≡ false)

apart-of : (conv : Conv) (result : Size) (place : ℕ) (selector : Size) (ps : List Param) → KeepsRules (record { conv = conv; result = result; place = place; selector = selector; params = ps }) → AreApart (route_of conv) ps
unfolding AllHeld
apart-of Pascal result place selector ps rules = tt
apart-of C result place selector ps rules = tt
apart-of Register result place selector ps rules = (λ k d within. (rules.each k d within).held, rules.rest.2)
apart-of D0Pascal result place selector ps rules = tt
apart-of D0C result place selector ps rules = tt
apart-of D1Pascal result place selector ps rules = tt
apart-of StackPascal result place selector ps rules = tt

-- values of parameters by one way, where the bytes of those on the stack stand so far above A7
values-back : (route : Route) (ps : List Param) (vs : List ℕ) (r : Regs68) (m : Memory) (sp base : ℕ) (rest : List ℕ) → length vs ≡ length ps → AreApart route ps → IsFile r → get_or r.a 7 0 ≡ sp → sp + base + params_bytes route ps ≤ length m.bytes → length m.bytes ≤ 16777216 → drop (sp + base) m.bytes ≡ slots route ps vs ++ rest → values_at (with_arguments route ps vs r) m route base ps ≡ Ok (cut ps vs)
values-back PascalStack ps vs r m sp base rest same apart file top within most here =
    ap (λ regs. values_at regs m PascalStack base ps) (pascal-leaves ps vs r) ∙ pascal-back ps vs r m sp base rest same top within most here
values-back CStack ps vs r m sp base rest same apart file top within most here =
    ap (λ regs. values_at regs m CStack base ps) (c-leaves ps vs r) ∙ c-back ps vs r m sp base rest same top within most here
values-back Registers ps vs r m sp base rest same apart file top within most here = registers-back ps vs r m base same apart.0 apart.1 file

-- a callee's registers before its arguments
fresh-file : (a5 sp target : ℕ) → IsFile (fresh a5 sp target)
fresh-file a5 sp target = record { data_registers = refl; address_registers = refl }

begun-file : (sig : Signature) (selector : Option ℕ) (r : Regs68) → IsFile r → IsFile (with_selector sig selector r)
begun-file sig None r file = file
begun-file sig (Some v) r file = file-kept _ sig.selector v r file

begun-top : (sig : Signature) (selector : Option ℕ) (a5 sp target : ℕ) → get_or (with_selector sig selector (fresh a5 sp target)).a 7 0 ≡ sp
begun-top sig selector a5 sp target = selector-keeps_sp sig selector (fresh a5 sp target)

-- where a callee's parameters begin
base-length : (sig : Signature) (selector : Option ℕ) → length (big_bytes 4 (return_gate M68) ++ selector_slot sig.conv sig.selector selector) ≡ callee_base sig (is_some selector)
base-length sig selector = omega (arith, length-append (big_bytes 4 (return_gate M68)) (selector_slot sig.conv sig.selector selector), length-selector sig.conv sig.selector selector)

-- the delivered memory from there on
pub from-base : (sig : Signature) (selector : Option ℕ) (values : List ℕ) (lo : ℕ) (m : Memory) → MayBeHanded sig selector values lo m → (rest : List ℕ) × (drop (callee_sp sig selector lo + callee_base sig (is_some selector)) (delivered sig selector values lo m).bytes ≡ slots (route_of sig.conv) sig.params values ++ rest)
from-base sig selector values lo m handed =
    let route = route_of sig.conv in
    let sp = callee_sp sig selector lo in
    let base = callee_base sig (is_some selector) in
    let gate = big_bytes 4 (return_gate M68) in
    let chosen = selector_slot sig.conv sig.selector selector in
    let given = slots route sig.params values in
    let room : List ℕ = replicate (result_bytes route sig.result) 0 in
    let stack = stack_of sig selector values in
    let above = drop (sp + length stack) m.bytes in
    let whole : drop sp (put sp stack m.bytes) ≡ (gate ++ chosen) ++ (given ++ (room ++ above)) =
    drop-put sp stack m.bytes (omega (arith, handed.room, handed.inside)) ∙ simp append_assoc in (
      room ++ above,
      sym (drop-drop base sp (put sp stack m.bytes)) ∙ ap (drop base) whole ∙ drop_at (gate ++ chosen) (given ++ (room ++ above)) base (base-length sig selector),
    )

-- the length of the delivered memory
delivered-length : (sig : Signature) (selector : Option ℕ) (values : List ℕ) (lo : ℕ) (m : Memory) → MayBeHanded sig selector values lo m → length (delivered sig selector values lo m).bytes ≡ length m.bytes
delivered-length sig selector values lo m handed =
    length-put (callee_sp sig selector lo) (stack_of sig selector values) m.bytes (omega (arith, handed.room, handed.inside, length-stack sig selector values handed.count))

pub comes-back : ComesBack
comes-back sig selector values lo a5 target m handed =
    let sp = callee_sp sig selector lo in
    let here = from-base sig selector values lo m handed in
    let long = delivered-length sig selector values lo m handed in
    values-back (route_of sig.conv) sig.params values (with_selector sig selector (fresh a5 sp target)) (delivered sig selector values lo m) sp (callee_base sig (is_some selector)) here.0 handed.count
    (apart-of sig.conv sig.result sig.place sig.selector sig.params handed.rules)
    (begun-file sig selector (fresh a5 sp target) (fresh-file a5 sp target))
    (begun-top sig selector a5 sp target)
    (omega (arith, handed.room, handed.inside, long)) (omega (arith, handed.ram.most, long)) here.1

pub touches-nothing : TouchesNothingElse
touches-nothing sig selector values lo m handed =
    stay_beside m (callee_sp sig selector lo) lo (stack_of sig selector values) (omega (arith, handed.room, length-stack sig selector values handed.count)) handed.inside

-- a selector on the stack, where it was put
stack-selector_back : (sig : Signature) (v : ℕ) (values : List ℕ) (lo : ℕ) (m : Memory) (r : Regs68) → MayBeHanded sig (Some v) values lo m → selector_slot sig.conv sig.selector (Some v) ≡ pascal_slot sig.selector v → get_or r.a 7 0 ≡ callee_sp sig (Some v) lo → value_at r (delivered sig (Some v) values lo m) (Stack 4) sig.selector ≡ Ok (truncated v sig.selector)
stack-selector_back sig v values lo m r handed slot top =
    let sp = callee_sp sig (Some v) lo in
    let chosen = selector_slot sig.conv sig.selector (Some v) in
    let rest = slots (route_of sig.conv) sig.params values ++ replicate (result_bytes (route_of sig.conv) sig.result) 0 in
    let stack = stack_of sig (Some v) values in
    let above = drop (sp + length stack) m.bytes in
    let here : drop (sp + 4) (put sp stack m.bytes) ≡ pascal_slot sig.selector v ++ (rest ++ above) =
    sym (drop-drop 4 sp (put sp stack m.bytes)) ∙ ap (drop 4) (drop-put sp stack m.bytes (omega (arith, handed.room, handed.inside)))
    ∙ append_assoc chosen rest above ∙ ap (λ list. list ++ (rest ++ above)) slot in
    let long = delivered-length sig (Some v) values lo m handed in
    let width-is : length chosen ≡ width sig.selector = ap length slot ∙ length-slot sig.selector v in
    above-back r (delivered sig (Some v) values lo m) sp 4 sig.selector _ _ top
    (omega (arith, handed.room, handed.inside, long, width-is, bytes-width sig.selector, length-selector sig.conv sig.selector (Some v)))
    (omega (arith, handed.ram.most, long)) here (slot-back sig.selector v (rest ++ above))

-- a selector in D0 or D1, behind which arguments go to the stack
selector-of : (conv : Conv) (result : Size) (place : ℕ) (selector : Size) (ps : List Param) (v : ℕ) (values : List ℕ) (lo a5 target : ℕ) (m : Memory) → let sig : Signature = record { conv = conv; result = result; place = place; selector = selector; params = ps } in MayBeHanded sig (Some v) values lo m → is_dispatched conv ≡ true → selector_in sig (callee_registers sig (Some v) values a5 (callee_sp sig (Some v) lo) target) (delivered sig (Some v) values lo m) ≡ Ok (truncated v selector)
selector-of Pascal result place selector ps v values lo a5 target m handed is = cc
selector-of C result place selector ps v values lo a5 target m handed is = cc
selector-of Register result place selector ps v values lo a5 target m handed is = cc
selector-of D0Pascal result place selector ps v values lo a5 target m handed is =
    ap (λ regs. value_at regs m (Data 0) selector) (pascal-leaves ps values _) ∙ ap Ok (low-back selector 0 v)
selector-of D0C result place selector ps v values lo a5 target m handed is =
    ap (λ regs. value_at regs m (Data 0) selector) (c-leaves ps values _) ∙ ap Ok (low-back selector 0 v)
selector-of D1Pascal result place selector ps v values lo a5 target m handed is =
    ap (λ regs. value_at regs m (Data 1) selector) (pascal-leaves ps values _) ∙ ap Ok (low-back selector 0 v)
selector-of StackPascal result place selector ps v values lo a5 target m handed is =
    let sig : Signature = record { conv = StackPascal; result = result; place = place; selector = selector; params = ps } in
    let sp = callee_sp sig (Some v) lo in
    stack-selector_back sig v values lo m (callee_registers sig (Some v) values a5 sp target) handed refl
    (arguments-keep_sp PascalStack ps values (with_selector sig (Some v) (fresh a5 sp target)) ∙ begun-top sig (Some v) a5 sp target)

pub selector-comes-back : SelectorComesBack
selector-comes-back sig v values lo a5 target m handed is = selector-of sig.conv sig.result sig.place sig.selector sig.params v values lo a5 target m handed is

pub begins-at-stack : BeginsAtItsStack
begins-at-stack sig selector values a5 sp target =
    arguments-keep_sp (route_of sig.conv) sig.params values (with_selector sig selector (fresh a5 sp target)) ∙ begun-top sig selector a5 sp target
