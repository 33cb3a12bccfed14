-- What a first word's row makes of the words is what the row's operation makes of them.
use Rattle.std.proofs.Common.{ℕ, ◌≡◌, ◌<◌, ◌==◌, ◌&&◌, Bool, true, false, if◌then◌else◌, List, [], ◌∷◌, length, map, slice_index, refl, ap, arith}
use Rattle.m68_isa.specs.declared.instructions.Decoded68.{Decoded68}
use Rattle.m68_isa.specs.declared.instructions.Decoded68.TheVariants.{LineA as WordOfA, LineF as WordOfF}
use Rattle.m68_isa.specs.declared.found.Found.{Found}
use Rattle.m68_isa.specs.declared.op.Op68.{Op68}
use Rattle.m68_isa.specs.declared.op.Op68.TheVariants.{LineA, LineF}
use Rattle.m68_isa.specs.First.{First, first_of}
use Rattle.m68_isa.specs.Rows.{Row, row, Section, section, chosen, rows_in}
use Rattle.m68_isa.specs.Decode.{decoded, ended, table}
use Rattle.m68_isa.specs.Operations.{operation, operation_among, operation_in, operations, read}
use Rattle.m68_isa.specs.laws.Needs.{IsByOperation}

abbrev reading : Row → First → List ℕ → Decoded68
reading (row has make) = λ f ws. ended (make f ws) (length ws)

abbrev readings : Section → List (First → List ℕ → Decoded68)
readings (section line has rows) = map reading rows

-- section by section, and row by row
alike : map readings table ≡ map (map read) operations
alike = refl

in_row : (has : Bool) (here there : Found) (op more : Op68) (f : First) (ws : List ℕ) → ended here (length ws) ≡ read op f ws → ended there (length ws) ≡ read more f ws
    → ended (if has then here else there) (length ws) ≡ read (if has then op else more) f ws
in_row true here there op more f ws is others = is
in_row false here there op more f ws is others = others

among : (rows : List Row) (ops : List Op68) (f : First) (ws : List ℕ) → map reading rows ≡ map read ops → ended (chosen rows f ws) (length ws) ≡ read (operation_among rows ops f) f ws
among [] ops f ws same = refl
among (row has make ∷ rows) [] f ws same = cc
among (row has make ∷ rows) (op ∷ ops) f ws same =
    let here : reading (row has make) ≡ read op = cc in
    let others : map reading rows ≡ map read ops = cc in
    in_row (has f) (make f ws) (chosen rows f ws) op (operation_among rows ops f) f ws (ap (λ (r : First → List ℕ → Decoded68). r f ws) here) (among rows ops f ws others)

in_section : (has : Bool) (rows others : List Row) (op more : Op68) (f : First) (ws : List ℕ) → ended (chosen rows f ws) (length ws) ≡ read op f ws
    → ended (chosen others f ws) (length ws) ≡ read more f ws → ended (chosen (if has then rows else others) f ws) (length ws) ≡ read (if has then op else more) f ws
in_section true rows others op more f ws is rest = is
in_section false rows others op more f ws is rest = rest

in_sections : (sections : List Section) (ops : List (List Op68)) (f : First) (ws : List ℕ) → map readings sections ≡ map (map read) ops
    → ended (chosen (rows_in sections f) f ws) (length ws) ≡ read (operation_in sections ops f) f ws
in_sections [] ops f ws same = refl
in_sections (section line has rows ∷ sections) [] f ws same = cc
in_sections (section line has rows ∷ sections) (some ∷ ops) f ws same =
    let here : map reading rows ≡ map read some = cc in
    let others : map readings sections ≡ map (map read) ops = cc in
    in_section ((f.line == line) && has f) rows (rows_in sections f) (operation_among rows some f) (operation_in sections ops f) f ws (among rows some f ws here) (in_sections sections ops f ws others)

in_line : (a b : Bool) (d : Decoded68) (op : Op68) (f : First) (w : ℕ) (ws : List ℕ) → d ≡ read op f (w ∷ ws)
    → (if a then WordOfA w else if b then WordOfF else d) ≡ read (if a then LineA else if b then LineF else op) f (w ∷ ws)
in_line true b d op f w ws is = refl
in_line false true d op f w ws is = refl
in_line false false d op f w ws is = is

pub by_operation : IsByOperation
by_operation w ws =
    let f = first_of w in
    in_line (f.line == 10) (f.line == 15) (ended (chosen (rows_in table f) f (w ∷ ws)) (length (w ∷ ws))) (operation_in table operations f) f w ws (in_sections table operations f (w ∷ ws) alike)

-- the same of a list of words
pub words_by_operation : (ws : List ℕ) → 0 < length ws → decoded ws ≡ read (operation (first_of (slice_index ws 0))) (first_of (slice_index ws 0)) ws
words_by_operation [] some = absurd (omega (arith, some))
words_by_operation (w ∷ ws) some = by_operation w ws
