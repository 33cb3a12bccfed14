-- What the first of some parameters and values adds, and what the others add behind it.
use Rattle.std.proofs.Common.{◌≡◌, ℕ, ◌+◌, ◌-◌, ◌*◌, ◌≤◌, List, [], ◌∷◌, ◌++◌, length, take, drop, get_or, arith, sym, ap, ◌∙◌, append_assoc, length-append}
use Rattle.std.proofs.lemmas.List.{append-nil, take_all}
use Rattle.byteorder.specs.Endian.{big_bytes}
use Rattle.mix_bits.specs.Sizes.{truncated}
use Rattle.mix_bits.specs.declared.size.Size.{Size}
use Rattle.mix_bits.specs.declared.size.Size.TheVariants.{Zero, One, Two, Four}
use Rattle.m68_isa.specs.declared.registers.Regs68.{Regs68}
use Rattle.proc_info.specs.declared.param.Param.{Param}
use Rattle.args_m68.specs.declared.places.Place.{Place}
use Rattle.proc_info.specs.declared.conv.Route.{Route}
use Rattle.proc_info.specs.declared.conv.Route.TheVariants.{PascalStack, CStack, Registers}
use Rattle.args_m68.specs.Places.{params_bytes, place_of, width, widths}
use Rattle.args_m68.specs.Values.{with_value}
use Rattle.args_m68.specs.Deliver.{pascal_slot, slots, with_arguments}
use Rattle.args_m68.proofs.Stacks.{length-slots}

-- the others of a list
abbrev pub rest_of : {A : Type 0} → List A → List A
rest_of xs = take (length xs - 1) (drop 1 xs)

pub rest-is : {A : Type 0} (x : A) (xs : List A) → rest_of (x ∷ xs) ≡ xs
rest-is x xs = take_all (length (x ∷ xs) - 1) xs (omega arith)

-- slots on a stack
pub pascal-slots : (route : Route) (ps : List Param) (vs : List ℕ) (key : Param) (old mid new : List ℕ) → route ≡ PascalStack → 1 ≤ length ps → 1 ≤ length vs
    → mid ≡ old ++ slots route (rest_of ps) (rest_of vs) → new ≡ mid ++ pascal_slot (get_or ps 0 key).size (get_or vs 0 0) → new ≡ old ++ slots route ps vs
pascal-slots route [] vs key old mid new is some many first second = absurd (omega (arith, some))
pascal-slots route (p ∷ ps) [] key old mid new is some many first second = absurd (omega (arith, many))
pascal-slots route (p ∷ ps) (v ∷ vs) key old mid new is some many first second =
    second
    ∙ ap (λ xs. xs ++ pascal_slot p.size v) (first ∙ ap (λ r. old ++ slots r (rest_of (p ∷ ps)) (rest_of (v ∷ vs))) is
    ∙ ap (λ qs. old ++ slots PascalStack qs (rest_of (v ∷ vs))) (rest-is p ps) ∙ ap (λ ws. old ++ slots PascalStack ps ws) (rest-is v vs))
    ∙ append_assoc old (slots PascalStack ps vs) (pascal_slot p.size v)
    ∙ sym (ap (λ r. old ++ slots r (p ∷ ps) (v ∷ vs)) is)

pub c-slots : (route : Route) (ps : List Param) (vs : List ℕ) (key : Param) (old piece mid new : List ℕ) (w : ℕ) → route ≡ CStack → 1 ≤ length ps → 1 ≤ length vs
    → w ≡ truncated (get_or vs 0 0) (get_or ps 0 key).size → piece ≡ big_bytes 4 w → mid ≡ old ++ piece → new ≡ mid ++ slots route (rest_of ps) (rest_of vs) → new ≡ old ++ slots route ps vs
c-slots route [] vs key old piece mid new w is some many cut-is long first second = absurd (omega (arith, some))
c-slots route (p ∷ ps) [] key old piece mid new w is some many cut-is long first second = absurd (omega (arith, many))
c-slots route (p ∷ ps) (v ∷ vs) key old piece mid new w is some many cut-is long first second =
    let slot = big_bytes 4 (truncated v p.size) in
    second
    ∙ ap (λ xs. xs ++ slots route (rest_of (p ∷ ps)) (rest_of (v ∷ vs))) (first ∙ ap (λ ys. old ++ ys) (long ∙ ap (big_bytes 4) cut-is))
    ∙ ap (λ r. (old ++ slot) ++ slots r (rest_of (p ∷ ps)) (rest_of (v ∷ vs))) is
    ∙ ap (λ qs. (old ++ slot) ++ slots CStack qs (rest_of (v ∷ vs))) (rest-is p ps) ∙ ap (λ ws. (old ++ slot) ++ slots CStack ps ws) (rest-is v vs)
    ∙ append_assoc old slot (slots CStack ps vs)
    ∙ sym (ap (λ r. old ++ slots r (p ∷ ps) (v ∷ vs)) is)

pub no-slots : (route : Route) (ps : List Param) (vs old : List ℕ) → route ≡ Registers → old ≡ old ++ slots route ps vs
no-slots route ps vs old is = sym (ap (λ r. old ++ slots r ps vs) is ∙ append-nil old)

-- how long they are
width-few : (s : Size) → width s ≤ 4
width-few Zero = omega arith
width-few One = omega arith
width-few Two = omega arith
width-few Four = omega arith

widths-few : (ps : List Param) → widths ps ≤ 4 * length ps
widths-few [] = omega arith
widths-few (p ∷ ps) = omega (arith, width-few p.size, widths-few ps)

bytes-few : (route : Route) (ps : List Param) → params_bytes route ps ≤ 4 * length ps
bytes-few PascalStack ps = widths-few ps
bytes-few CStack ps = omega arith
bytes-few Registers ps = omega arith

pub slots-long : (route : Route) (ps : List Param) (vs old new : List ℕ) → length vs ≡ length ps → new ≡ old ++ slots route ps vs → (length new ≡ length old + params_bytes route ps) × (length new ≤ length old + 4 * length ps)
slots-long route ps vs old new same is =
    let longer : length new ≡ length old + params_bytes route ps = ap length is ∙ length-append old (slots route ps vs) ∙ ap (λ n. length old + n) (length-slots route ps vs same) in
    (longer, omega (arith, longer, bytes-few route ps))

-- values in registers
pub arguments-more : (route : Route) (ps : List Param) (vs : List ℕ) (key : Param) (place : Place) (old mid new : Regs68) → 1 ≤ length ps → 1 ≤ length vs
    → place ≡ place_of route 0 (get_or ps 0 key) 0 → mid ≡ with_value place (get_or ps 0 key).size (get_or vs 0 0) old → new ≡ with_arguments route (rest_of ps) (rest_of vs) mid
    → new ≡ with_arguments route ps vs old
arguments-more route [] vs key place old mid new some many at first second = absurd (omega (arith, some))
arguments-more route (p ∷ ps) [] key place old mid new some many at first second = absurd (omega (arith, many))
arguments-more route (p ∷ ps) (v ∷ vs) key place old mid new some many at first second =
    second
    ∙ ap (λ qs. with_arguments route qs (rest_of (v ∷ vs)) mid) (rest-is p ps) ∙ ap (λ ws. with_arguments route ps ws mid) (rest-is v vs)
    ∙ ap (with_arguments route ps vs) (first ∙ ap (λ q. with_value q p.size v old) at)
