-- Where the numbers of a line stand in its word (PowerPC 601 RISC Microprocessor User's Manual, chapter 10).
use Rattle.std.specs.Prelude.{ℕ, ◌+◌, ◌-◌, ◌*◌, ◌%◌, ◌^◌, Bool, true, false}
use Rattle.asm_ppc.specs.declared.layout.Layout.{Layout}
use Rattle.asm_ppc.specs.declared.layout.Layout.TheVariants.{Nothing, One, Two, Three, LogicalTwo, LogicalThree, Immediate, LogicalImmediate, CompareImmediate, Compare, Rotate, Access, ConditionalBy, ConditionalTo, BranchBy, BranchTo, ConditionFields, ConditionField, FieldMask, Long}
use Rattle.asm_ppc.specs.declared.layout.Spelling.{Spelling}
use Rattle.asm_ppc.specs.declared.numbers.Numbers.{Numbers}

-- the sum of the numbers at their places, in the order of the line; targets are relative to the address
abbrev pub placed : Layout → Numbers → ℕ → ℕ
placed Nothing n at = 0
placed One n at = n.a * 0x20_0000
placed Two n at = n.b * 0x20_0000 + n.a * 0x1_0000
placed Three n at = n.c * 0x20_0000 + n.b * 0x1_0000 + n.a * 0x800
placed LogicalTwo n at = n.a * 0x20_0000 + n.b * 0x1_0000
placed LogicalThree n at = n.b * 0x20_0000 + n.c * 0x1_0000 + n.a * 0x800
placed Immediate n at = n.c * 0x20_0000 + n.b * 0x1_0000 + n.a
placed LogicalImmediate n at = n.b * 0x20_0000 + n.c * 0x1_0000 + n.a
placed CompareImmediate n at = n.d * 0x80_0000 + n.b * 0x1_0000 + n.a
placed Compare n at = n.d * 0x80_0000 + n.b * 0x1_0000 + n.a * 0x800
placed Rotate n at = n.d * 0x20_0000 + n.e * 0x1_0000 + n.c * 0x800 + n.b * 0x40 + n.a * 2
placed Access n at = n.c * 0x20_0000 + n.a * 0x1_0000 + n.b
placed ConditionalBy n at = n.c * 0x20_0000 + n.b * 0x1_0000 + (n.a + 0x1_0000_0000 - at) % 0x1_0000
placed ConditionalTo n at = n.c * 0x20_0000 + n.b * 0x1_0000 + n.a % 0x1_0000
placed BranchBy n at = (n.a + 0x1_0000_0000 - at) % 0x400_0000
placed BranchTo n at = n.a % 0x400_0000
placed ConditionFields n at = n.b * 0x80_0000 + n.a * 0x4_0000
placed ConditionField n at = n.a * 0x80_0000
placed FieldMask n at = n.b * 0x1000 + n.a * 0x20_0000
placed Long n at = n.a

-- the word with its numbers
abbrev pub spelled : Spelling → Numbers → ℕ → ℕ
spelled s n at = (s.word + placed s.layout n at) % 2 ^ 32

-- the layout of `.long`, whose number is the word
abbrev pub is_long : Layout → Bool
is_long Long = true
is_long _ = false
