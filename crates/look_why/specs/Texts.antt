-- Why a text to assemble is refused: of its first line that is refused, the first rule that the line breaks, in the order in
-- which they stand here.
use Rattle.std.specs.Prelude.{ℕ, ◌≡◌, ◌-◌, ◌==◌, nat_eq, Bool, true, false, List, [], ◌∷◌, length, take, drop, codes, if◌then◌else◌, IfSome, is_some, Option, None, Result, Ok, Err}
use Rattle.std.specs.List.{ends_with}
use Rattle.mix_bits.specs.Names.{name_of}
use Rattle.mix_bits.specs.declared.isa.Isa.{Isa}
use Rattle.mix_bits.specs.declared.isa.Isa.TheVariants.{M68, Ppc}
use Rattle.mix_text.specs.Assembling.{IsAssembled}
use Rattle.mix_text.specs.Lines.{address_in}
use Rattle.mix_text.specs.declared.refused.Reason.{Reason}
use Rattle.mix_text.specs.declared.refused.Reason.TheVariants.{Address as wrong_address, Name as wrong_name, Operands as wrong_operands}
use Rattle.mix_text.specs.declared.refused.Refused.{Refused}
use Rattle.mix_top.specs.Commands.{begins}
use Rattle.look_why.specs.Kinds.{has}
use Rattle.look_why.specs.Lines.{nth_line, without_feed}
use Rattle.look_why.specs.Operands.{operand_rule}
use Rattle.look_why.specs.Places.{Leads}
use Rattle.look_why.specs.Reports.{refused_text, taken_text}
use Rattle.look_why.specs.declared.kind.Kind.TheVariants.{Blank, Capital, Colon, Tab as tab}
use Rattle.look_why.specs.declared.rule.Rule.{Rule}
use Rattle.look_why.specs.declared.rule.Rule.TheVariants.{Elsewhere, Nameless, Indented, Comment, OtherSet, Return, Tab, Label, Capitals, Directive, Name68, NamePpc}

abbrev pub other_set : Isa → Isa
other_set M68 = Ppc
other_set Ppc = M68

abbrev pub unknown : Isa → Rule
unknown M68 = Name68
unknown Ppc = NamePpc

-- of a name that no set has
abbrev pub spelling_rule : Isa → List ℕ → Rule
spelling_rule set name =
    if ends_with nat_eq name (13 ∷ []) then Return
    else (if has tab name then Tab
    else (if has Colon name then Label
    else (if has Capital name then Capitals
    else (if begins (codes ".") name then Directive else unknown set))))

-- of a line without its address, of which the set does not have the name, but the other set has it or not
abbrev pub name_rule : Isa → Bool → List ℕ → Rule
name_rule set known text =
    if length text == 0 then Nameless
    else (if has Blank (take 1 text) then Indented
    else (if begins (codes ";") text then Comment
    else (if known then OtherSet else spelling_rule set (name_of text))))

-- a set has the name of a line that it takes, or refuses for its operands
abbrev pub is_operands : Reason → Bool
is_operands wrong_address = false
is_operands wrong_name = false
is_operands wrong_operands = true

abbrev pub has_name : Result (List ℕ) Refused → Bool
has_name (Ok bytes) = true
has_name (Err refused) = is_operands refused.reason

abbrev pub IsKnown : Isa → ℕ → List ℕ → Bool → Type 0
IsKnown set at text known = (all : Result (List ℕ) Refused) × IsAssembled set at text all × (known ≡ has_name all)

-- a line without the address in front, if it has one
abbrev pub bare : List ℕ → List ℕ
bare line = if is_some (address_in line) then drop 10 line else line

-- the rule that a line breaks which is refused for a reason
abbrev pub IsRule : Isa → ℕ → List ℕ → Reason → Rule → Type 0
IsRule set at line wrong_address rule = rule ≡ Elsewhere
IsRule set at line wrong_name rule = (known : Bool) × IsKnown (other_set set) at (bare line) known × (rule ≡ name_rule set known (bare line))
IsRule set at line wrong_operands rule = rule ≡ operand_rule set (bare line)

-- where an address in front is wrong it is told where the line stands, if the lines before lead there
abbrev pub IsPlaced : Isa → ℕ → List ℕ → ℕ → Reason → Option ℕ → Type 0
IsPlaced set at text number wrong_address place = IfSome place (λ address. Leads set (number - 1) text at address)
IsPlaced set at text number wrong_name place = place ≡ None
IsPlaced set at text number wrong_operands place = place ≡ None

-- what is said of a text by what it assembles to, and whether every line is taken
abbrev pub Says : Isa → ℕ → List ℕ → Result (List ℕ) Refused → List ℕ → Bool → Type 0
Says set at text (Ok bytes) said taken = (said ≡ taken_text) × (taken ≡ true)
Says set at text (Err refused) said taken =
    (rule : Rule) × (place : Option ℕ) × IsRule set at (without_feed (nth_line refused.line text)) refused.reason rule
    × IsPlaced set at text refused.line refused.reason place
    × (said ≡ refused_text refused.line (without_feed (nth_line refused.line text)) rule place) × (taken ≡ false)

abbrev pub IsTold : Isa → ℕ → List ℕ → List ℕ → Bool → Type 0
IsTold set at text said taken = (all : Result (List ℕ) Refused) × IsAssembled set at text all × Says set at text all said taken
