-- The table of names: the first word of each with zeros for operands, and the places of its operands
-- (M68000 Family Programmer's Reference Manual, section 8; conditions in table 3-19). Operands are counted with all
-- their six bits, so that a word is lower where the instruction itself has bits of their mode.
use Rattle.std.specs.Prelude.{ℕ, ◌==◌, List, [], ◌∷◌, Option, Some, None, map, slice_index, if◌then◌else◌}
use Rattle.std.specs.Str.{bytes_eq}
use Rattle.asm_m68.specs.declared.form.Form.{Form}
use Rattle.asm_m68.specs.declared.table.TheConstants.{NAMES_A, NAMES_B, NAMES_C, NAMES_D, NAMES_E, NAMES_J, NAMES_L, NAMES_M, NAMES_N, NAMES_O, NAMES_P, NAMES_R, NAMES_S, NAMES_T, NAMES_U}

-- a name and its form
abbrev pub Row : Type 0
Row = List ℕ × Form

-- the form in the first row of a name
abbrev pub found_in : List Row → List ℕ → Option Form
found_in [] name = None
found_in (r ∷ rs) name = if bytes_eq r.0 name then Some r.1 else found_in rs name

-- the rows of the code, a list for each letter
unfoldable pub rows_a : List Row
rows_a = map (λ r. (r.0.now, r.1)) NAMES_A

unfoldable pub rows_b : List Row
rows_b = map (λ r. (r.0.now, r.1)) NAMES_B

unfoldable pub rows_c : List Row
rows_c = map (λ r. (r.0.now, r.1)) NAMES_C

unfoldable pub rows_d : List Row
rows_d = map (λ r. (r.0.now, r.1)) NAMES_D

unfoldable pub rows_e : List Row
rows_e = map (λ r. (r.0.now, r.1)) NAMES_E

unfoldable pub rows_j : List Row
rows_j = map (λ r. (r.0.now, r.1)) NAMES_J

unfoldable pub rows_l : List Row
rows_l = map (λ r. (r.0.now, r.1)) NAMES_L

unfoldable pub rows_m : List Row
rows_m = map (λ r. (r.0.now, r.1)) NAMES_M

unfoldable pub rows_n : List Row
rows_n = map (λ r. (r.0.now, r.1)) NAMES_N

unfoldable pub rows_o : List Row
rows_o = map (λ r. (r.0.now, r.1)) NAMES_O

unfoldable pub rows_p : List Row
rows_p = map (λ r. (r.0.now, r.1)) NAMES_P

unfoldable pub rows_r : List Row
rows_r = map (λ r. (r.0.now, r.1)) NAMES_R

unfoldable pub rows_s : List Row
rows_s = map (λ r. (r.0.now, r.1)) NAMES_S

unfoldable pub rows_t : List Row
rows_t = map (λ r. (r.0.now, r.1)) NAMES_T

unfoldable pub rows_u : List Row
rows_u = map (λ r. (r.0.now, r.1)) NAMES_U

-- by the first letter
unfoldable pub form_by : ℕ → List ℕ → Option Form
form_by letter name =
    if letter == 97 then found_in rows_a name
    else if letter == 98 then found_in rows_b name
    else if letter == 99 then found_in rows_c name
    else if letter == 100 then found_in rows_d name
    else if letter == 101 then found_in rows_e name
    else if letter == 106 then found_in rows_j name
    else if letter == 108 then found_in rows_l name
    else if letter == 109 then found_in rows_m name
    else if letter == 110 then found_in rows_n name
    else if letter == 111 then found_in rows_o name
    else if letter == 112 then found_in rows_p name
    else if letter == 114 then found_in rows_r name
    else if letter == 115 then found_in rows_s name
    else if letter == 116 then found_in rows_t name
    else if letter == 117 then found_in rows_u name
    else None

-- the form of a name
unfoldable pub form_of : List ℕ → Option Form
form_of name = form_by (slice_index name 0) name
