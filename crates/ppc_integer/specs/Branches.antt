-- Branches (PowerPC 601 RISC Microprocessor User's Manual, chapter 3, branch instructions, and chapter 10).
use Rattle.std.specs.Prelude.{ℕ, ◌+◌, ◌-◌, ◌%◌, ◌^◌, ◌==◌, Bool, true, false, not, ◌&&◌, ◌||◌, if◌then◌else◌}
use Rattle.mix_bits.specs.Addresses.{aligned, onward}
use Rattle.mix_bits.specs.Digits.{digit_of}
use Rattle.ppc_isa.specs.declared.registers.RegsPpc.{RegsPpc}
use Rattle.ppc_isa.specs.declared.instruction.BranchRegister.{BranchRegister}
use Rattle.ppc_isa.specs.declared.instruction.BranchRegister.TheVariants.{Link, Count}
use Rattle.ppc_isa.specs.Targets.{branch_target}
use Rattle.ppc_integer.specs.Condition.{bit_of}

-- with LK, the link register takes the address of the next instruction
abbrev pub linked : Bool → RegsPpc → RegsPpc
linked lk r = if lk then record r { lr = onward r.pc 4 } else r

abbrev pub is_same : Bool → Bool → Bool
is_same true b = b
is_same false b = not b

-- The five bits of BO, from the first on: the condition does not matter; the value that it has to have; the
-- count register stays and does not matter; it has to be 0 after it was counted down, where 0 stands for
-- not 0. The fifth is a hint.

abbrev pub leaves_count : ℕ → Bool
leaves_count bo = digit_of bo 2 1 == 1

abbrev pub counted : ℕ → RegsPpc → ℕ
counted bo r = if leaves_count bo then r.ctr else (r.ctr + (2 ^ 32 - 1)) % 2 ^ 32

abbrev pub count_allows : ℕ → ℕ → Bool
count_allows bo ctr = leaves_count bo || is_same (digit_of bo 1 1 == 1) (ctr == 0)

abbrev pub condition_allows : ℕ → Bool → Bool
condition_allows bo condition = digit_of bo 4 1 == 1 || is_same (digit_of bo 3 1 == 1) condition

-- the branch to a target that was read before the registers change, where BO allows it
abbrev pub branch_where : RegsPpc → ℕ → ℕ → Bool → ℕ → RegsPpc
branch_where r bo bi lk target =
    record (linked lk r) {
      ctr = counted bo r;
      pc = if count_allows bo (counted bo r) && condition_allows bo (bit_of r.cr bi) then target else onward r.pc 4;
    }

abbrev pub branch : RegsPpc → ℕ → Bool → Bool → RegsPpc
branch r displacement aa lk = record (linked lk r) { pc = branch_target aa r.pc displacement }

abbrev pub branch_conditional : RegsPpc → ℕ → ℕ → ℕ → Bool → Bool → RegsPpc
branch_conditional r bo bi displacement aa lk = branch_where r bo bi lk (branch_target aa r.pc displacement)

abbrev pub branch_conditional_to_register : RegsPpc → BranchRegister → ℕ → ℕ → Bool → RegsPpc
branch_conditional_to_register r Link bo bi lk = branch_where r bo bi lk (aligned r.lr)
branch_conditional_to_register r Count bo bi lk = branch_where r bo bi lk (aligned r.ctr)
