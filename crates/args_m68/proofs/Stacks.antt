-- The bytes of a callee's stack, and what they read back as.
use Rattle.std.proofs.Common.{◌≡◌, ℕ, ◌+◌, ◌-◌, ◌*◌, ◌≤◌, List, [], ◌∷◌, ◌++◌, length, drop, get_or, replicate, Option, Some, None, Result, Ok, Err, is_some, if◌then◌else◌, arith, refl, sym, ap, ◌∙◌, append_assoc, length-append, Bool, true, false}
use Rattle.std.proofs.lemmas.List.{drop-drop, drop_at, length-replicate}
use Rattle.byteorder.specs.Endian.{big_bytes, big_number}
use Rattle.mix_bits.specs.Results.{◌>>=◌}
use Rattle.mix_bits.specs.Sizes.{bytes_of, truncated}
use Rattle.mix_bits.specs.declared.size.Size.{Size}
use Rattle.mix_bits.specs.declared.size.Size.TheVariants.{Zero, One, Two, Four}
use Rattle.mix_bits.proofs.Sizes.{bytes-few}
use Rattle.big_memory.specs.Memory.{Memory, loaded}
use Rattle.big_memory.proofs.Numbers.{loads_number}
use Rattle.m68_isa.specs.declared.registers.Regs68.{Regs68}
use Rattle.proc_info.specs.declared.conv.Conv.{Conv}
use Rattle.proc_info.specs.Codes.{dispatch_of}
use Rattle.proc_info.specs.declared.param.Param.{Param}
use Rattle.proc_info.specs.Cut.{cut}
use Rattle.proc_info.specs.declared.conv.Route.{Route}
use Rattle.proc_info.specs.declared.conv.Route.TheVariants.{PascalStack, CStack, Registers}
use Rattle.proc_info.specs.Routes.{route_of}
use Rattle.args_m68.specs.Places.{is_on_stack, params_bytes, result_bytes, selector_width, width, widths}
use Rattle.args_m68.specs.Values.{above_sp}
use Rattle.args_m68.specs.Gather.{values_at}
use Rattle.args_m68.specs.Deliver.{pascal_slot, selector_slot, slots}
use Rattle.args_m68.specs.laws.Laws.{FillsItsStack}

-- lengths of the parts of a stack
pub length-slot : (s : Size) (v : ℕ) → length (pascal_slot s v) ≡ width s
length-slot Zero v = refl
length-slot One v = refl
length-slot Two v = refl
length-slot Four v = refl

pub length-slots : (route : Route) (ps : List Param) (vs : List ℕ) → length vs ≡ length ps → length (slots route ps vs) ≡ params_bytes route ps
length-slots PascalStack [] vs same = refl
length-slots PascalStack (p ∷ ps) [] same = absurd (omega (arith, same))
length-slots PascalStack (p ∷ ps) (v ∷ vs) same =
    omega (arith, length-append (slots PascalStack ps vs) (pascal_slot p.size v), length-slots PascalStack ps vs (omega (arith, same)), length-slot p.size v)
length-slots CStack [] vs same = refl
length-slots CStack (p ∷ ps) [] same = absurd (omega (arith, same))
length-slots CStack (p ∷ ps) (v ∷ vs) same =
    omega (arith, length-append (big_bytes 4 (truncated v p.size)) (slots CStack ps vs), length-slots CStack ps vs (omega (arith, same)))
length-slots Registers ps vs same = refl

length-passed : (passed : Bool) (s : Size) (v : ℕ) → length (if passed then pascal_slot s v else []) ≡ (if passed then width s else 0)
length-passed true s v = length-slot s v
length-passed false s v = refl

pub length-selector : (conv : Conv) (s : Size) (selector : Option ℕ) → length (selector_slot conv s selector) ≡ (if is_some selector then selector_width conv s else 0)
length-selector conv s None = refl
length-selector conv s (Some v) = length-passed (is_on_stack (dispatch_of conv)) s v

-- how many bytes a value has, and how many it takes
pub bytes-width : (s : Size) → bytes_of s ≤ width s
bytes-width Zero = omega arith
bytes-width One = omega arith
bytes-width Two = omega arith
bytes-width Four = omega arith

-- a number in the bytes at an address
pub loads : (m : Memory) (a : ℕ) (s : Size) (bytes : List ℕ) → a + bytes_of s ≤ length m.bytes → drop a m.bytes ≡ bytes → loaded m a s ≡ Ok (big_number (bytes_of s) bytes)
loads m a s bytes within here = loads_number m a s within ∙ ap (λ list. Ok (big_number (bytes_of s) list)) here

-- a value reads back from its slot
pub slot-back : (s : Size) (v : ℕ) (rest : List ℕ) → big_number (bytes_of s) (pascal_slot s v ++ rest) ≡ truncated v s
slot-back Zero v rest = omega arith
slot-back One v rest = omega arith
slot-back Two v rest = omega arith
slot-back Four v rest = omega arith

pub long-back : (s : Size) (v : ℕ) (rest : List ℕ) → big_number (bytes_of s) (drop (4 - bytes_of s) (big_bytes 4 (truncated v s) ++ rest)) ≡ truncated v s
long-back Zero v rest = omega arith
long-back One v rest = omega arith
long-back Two v rest = omega arith
long-back Four v rest = omega arith

-- a stack has as many bytes as it takes
pub length-stack : FillsItsStack
length-stack sig selector values same =
    let route = route_of sig.conv in
    let chosen = selector_slot sig.conv sig.selector selector in
    let given = slots route sig.params values in
    let room : List ℕ = replicate (result_bytes route sig.result) 0 in
    omega (
      arith,
      length-append chosen (given ++ room),
      length-append given room,
      length-selector sig.conv sig.selector selector,
      length-slots route sig.params values same,
      length-replicate {A = ℕ} (result_bytes route sig.result) 0,
    )

-- a value so far above A7, from the bytes that stand there
pub above-back : (r : Regs68) (m : Memory) (sp from : ℕ) (s : Size) (bytes : List ℕ) (v : ℕ) → get_or r.a 7 0 ≡ sp → sp + from + bytes_of s ≤ length m.bytes → length m.bytes ≤ 16777216 → drop (sp + from) m.bytes ≡ bytes → big_number (bytes_of s) bytes ≡ v → loaded m (above_sp r from) s ≡ Ok v
above-back r m sp from s bytes v top within most here number =
    let at : above_sp r from ≡ sp + from = omega (arith, top, within, most) in
    ap (λ a. loaded m a s) at ∙ loads m (sp + from) s bytes within here ∙ ap Ok number

-- one value in front of others
pub in-front : {E : Type 0} (v : Result ℕ E) (x : ℕ) (vs : Result (List ℕ) E) (xs : List ℕ) → v ≡ Ok x → vs ≡ Ok xs → (v >>= λ y. vs >>= λ ys. Ok (y ∷ ys)) ≡ Ok (x ∷ xs)
in-front (Ok y) x (Ok ys) xs one others = cc
in-front (Ok y) x (Err e) xs one others = cc
in-front (Err e) x vs xs one others = cc

-- parameters on a Pascal stack, with `rest` above them
pub pascal-back : (ps : List Param) (vs : List ℕ) (r : Regs68) (m : Memory) (sp base : ℕ) (rest : List ℕ) → length vs ≡ length ps → get_or r.a 7 0 ≡ sp → sp + base + widths ps ≤ length m.bytes → length m.bytes ≤ 16777216 → drop (sp + base) m.bytes ≡ slots PascalStack ps vs ++ rest → values_at r m PascalStack base ps ≡ Ok (cut ps vs)
pascal-back [] vs r m sp base rest same top within most here = refl
pascal-back (p ∷ ps) [] r m sp base rest same top within most here = absurd (omega (arith, same))
pascal-back (p ∷ ps) (v ∷ vs) r m sp base rest same top within most here =
    let tail : length vs ≡ length ps = omega (arith, same) in
    let apart : drop (sp + base) m.bytes ≡ slots PascalStack ps vs ++ (pascal_slot p.size v ++ rest) = here ∙ append_assoc (slots PascalStack ps vs) (pascal_slot p.size v) rest in
    let further : sp + base + widths ps ≡ sp + (base + widths ps) = omega arith in
    let first : drop (sp + (base + widths ps)) m.bytes ≡ pascal_slot p.size v ++ rest =
    ap (λ n. drop n m.bytes) (sym further) ∙ sym (drop-drop (widths ps) (sp + base) m.bytes) ∙ ap (drop (widths ps)) apart
    ∙ drop_at (slots PascalStack ps vs) (pascal_slot p.size v ++ rest) (widths ps) (length-slots PascalStack ps vs tail) in
    in-front _ _ _ _
    (above-back r m sp (base + widths ps) p.size _ _ top (omega (arith, within, bytes-width p.size)) most first (slot-back p.size v rest))
    (pascal-back ps vs r m sp base (pascal_slot p.size v ++ rest) tail top (omega (arith, within)) most apart)

-- parameters in longs, with `rest` above them
pub c-back : (ps : List Param) (vs : List ℕ) (r : Regs68) (m : Memory) (sp base : ℕ) (rest : List ℕ) → length vs ≡ length ps → get_or r.a 7 0 ≡ sp → sp + base + 4 * length ps ≤ length m.bytes → length m.bytes ≤ 16777216 → drop (sp + base) m.bytes ≡ slots CStack ps vs ++ rest → values_at r m CStack base ps ≡ Ok (cut ps vs)
c-back [] vs r m sp base rest same top within most here = refl
c-back (p ∷ ps) [] r m sp base rest same top within most here = absurd (omega (arith, same))
c-back (p ∷ ps) (v ∷ vs) r m sp base rest same top within most here =
    let long = big_bytes 4 (truncated v p.size) in
    let apart : drop (sp + base) m.bytes ≡ long ++ (slots CStack ps vs ++ rest) = here ∙ append_assoc long (slots CStack ps vs) rest in
    let further : sp + base + (4 - bytes_of p.size) ≡ sp + (base + (4 - bytes_of p.size)) = omega arith in
    let first : drop (sp + (base + (4 - bytes_of p.size))) m.bytes ≡ drop (4 - bytes_of p.size) (long ++ (slots CStack ps vs ++ rest)) =
    ap (λ n. drop n m.bytes) (sym further) ∙ sym (drop-drop (4 - bytes_of p.size) (sp + base) m.bytes) ∙ ap (drop (4 - bytes_of p.size)) apart in
    let on : sp + base + 4 ≡ sp + (base + 4) = omega arith in
    let others : drop (sp + (base + 4)) m.bytes ≡ slots CStack ps vs ++ rest =
    ap (λ n. drop n m.bytes) (sym on) ∙ sym (drop-drop 4 (sp + base) m.bytes) ∙ ap (drop 4) apart in
    in-front _ _ _ _
    (above-back r m sp (base + (4 - bytes_of p.size)) p.size _ _ top (omega (arith, within, bytes-few p.size)) most first (long-back p.size v _))
    (c-back ps vs r m sp (base + 4) rest (omega (arith, same)) top (omega (arith, within)) most others)
