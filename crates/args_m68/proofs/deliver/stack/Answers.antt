-- Four pieces, one after the other.
use Rattle.std.proofs.Common.{◌≡◌, ℕ, ◌≤◌, List, ◌∷◌, [], ◌++◌, length, take, replicate, arith, refl, sym, ap, ◌∙◌, append_assoc}
use Rattle.std.proofs.lemmas.List.{length-replicate, take-replicate}
use Rattle.byteorder.specs.Endian.{big_bytes}
use Rattle.proc_info.specs.Views.{signature}
use Rattle.proc_info.specs.Routes.{route_of}
use Rattle.args_m68.specs.Places.{result_bytes}
use Rattle.args_m68.specs.Deliver.{selector_slot, slots}
use Rattle.args_m68.proofs.Stacks.{length-stack}
use Rattle.args_m68.proofs.deliver.stack.Goals as goal

four : (gate chosen given room a b d e : List ℕ) → a ≡ gate → b ≡ a ++ chosen → d ≡ b ++ given → e ≡ d ++ room → e ≡ gate ++ (chosen ++ (given ++ room))
four gate chosen given room a b d e first second third fourth =
    fourth ∙ ap (λ xs. xs ++ room) (third ∙ ap (λ xs. xs ++ given) (second ∙ ap (λ xs. xs ++ chosen) first))
    ∙ append_assoc (gate ++ chosen) given room ∙ append_assoc gate chosen (given ++ room)

-- the zeros of the room for a result
abbrev zeros : List ℕ
zeros = 0 ∷ 0 ∷ 0 ∷ 0 ∷ []

blank : (n w : ℕ) → n ≡ w → n ≤ 4 → take n zeros ≡ replicate {A = ℕ} w 0
blank n w same small = take-replicate n 4 0 small ∙ ap (λ k. replicate k 0) same

length-blank : (n : ℕ) → n ≤ 4 → length (take n zeros) ≤ 4
length-blank n small = omega (arith, ap length (blank n n refl small), length-replicate {A = ℕ} n 0)

pub append-requires-2 : goal.append-requires-2
append-requires-2 c =
    let first : length c.append.new.list.items ≡ 4 = ap length (c.append.ensures.is ∙ ap (λ xs. xs ++ c.to_be_bytes.result) c.new-stack.ensures ∙ c.to_be_bytes.ensures) in
    (omega arith, omega (arith, first, c.append_selector.ensures.few, c.append_slots.ensures.few, c.requires.few, length-blank c.result_bytes.result c.result_bytes.ensures.small))

pub append_slots-requires-clause-room : goal.append_slots-requires-clause-room
append_slots-requires-clause-room c =
    let first : length c.append.new.list.items ≡ 4 = ap length (c.append.ensures.is ∙ ap (λ xs. xs ++ c.to_be_bytes.result) c.new-stack.ensures ∙ c.to_be_bytes.ensures) in
    omega (arith, first, c.append_selector.ensures.few, c.requires.few)

pub returns : goal.returns
returns c =
    let sig = signature c.args.sig.now in
    let route = route_of sig.conv in
    let values = c.args.values.now in
    let given : c.append_slots.new.stack.items ≡ c.append_selector.new.stack.items ++ slots route sig.params values =
    c.append_slots.ensures.bytes ∙ ap (λ r. c.append_selector.new.stack.items ++ slots r c.args.params.now values) c.route-route.ensures
    ∙ ap (λ ps. c.append_selector.new.stack.items ++ slots route ps values) (sym c.requires.params) in
    let room : c.append-2.new.list.items ≡ c.append_slots.new.stack.items ++ replicate (result_bytes route sig.result) 0 =
    c.append-2.ensures.is ∙ ap (λ ys. c.append_slots.new.stack.items ++ ys)
    (blank c.result_bytes.result (result_bytes route sig.result) (c.result_bytes.ensures.value ∙ ap (λ r. result_bytes r sig.result) c.route-route.ensures) c.result_bytes.ensures.small) in
    let gate = c.append.ensures.is ∙ ap (λ xs. xs ++ c.to_be_bytes.result) c.new-stack.ensures ∙ c.to_be_bytes.ensures ∙ ap (big_bytes 4) c.return_gate.ensures in
    let bytes = four _ (selector_slot sig.conv sig.selector c.args.selector) (slots route sig.params values) (replicate (result_bytes route sig.result) 0) _ _ _ _ gate c.append_selector.ensures.bytes given room in
    record { bytes = bytes; length = ap length bytes ∙ length-stack sig c.args.selector values (c.requires.count ∙ ap length (sym c.requires.params)) }
