-- What a word's row makes is what its operation makes.
use Rattle.std.proofs.Common.{◌≡◌, ℕ, List, [], ◌∷◌, Bool, true, false, map, Option, Some, None, if◌then◌else◌, refl, ap}
use Rattle.ppc_isa.specs.declared.instruction.InstrPpc.{InstrPpc}
use Rattle.ppc_isa.specs.declared.fields.Fields.{Fields}
use Rattle.ppc_isa.specs.declared.op.OpPpc.{OpPpc}
use Rattle.ppc_isa.specs.declared.op.OpPpc.TheVariants.{Invalid}
use Rattle.ppc_isa.specs.Fields.{fields_of}
use Rattle.ppc_isa.specs.Made.{made}
use Rattle.ppc_isa.specs.Operations.{operation, operation_among, operations}
use Rattle.ppc_isa.specs.Rows.{Row, decoded, found, instruction_in, is_allowed, is_in, table}

abbrev makes : Row → Fields → Option InstrPpc
makes r = λ f. Some (instruction_in r f)

-- row by row
alike : map makes table ≡ map made operations
alike = refl

chosen : (within allowed : Bool) (i rest : Option InstrPpc) (op more : OpPpc) (f : Fields) → i ≡ made op f → rest ≡ made more f
    → (if within then (if allowed then i else None) else rest) ≡ made (if within then (if allowed then op else Invalid) else more) f
chosen true true i rest op more f here there = here
chosen true false i rest op more f here there = refl
chosen false allowed i rest op more f here there = there

found_made : (rows : List Row) (ops : List OpPpc) (f : Fields) → map makes rows ≡ map made ops → found rows f ≡ made (operation_among rows ops f) f
found_made [] ops f same = refl
found_made (r ∷ rows) [] f same = cc
found_made (r ∷ rows) (op ∷ ops) f same =
    let here : makes r ≡ made op = cc in
    let there : map makes rows ≡ map made ops = cc in
    chosen (is_in r f) (is_allowed r f) (Some (instruction_in r f)) (found rows f) op (operation_among rows ops f) f (ap (λ (make : Fields → Option InstrPpc). make f) here) (found_made rows ops f there)

pub decoded_made : (w : ℕ) → decoded w ≡ made (operation w) (fields_of w)
unfolding decoded operation
decoded_made w = found_made table operations (fields_of w) alike
