-- A callee's stack and registers.
use Rattle.std.proofs.Common.{◌≡◌, ℕ, ◌≤◌, List, length, take, get_or, set, replicate, arith, refl, ◌∙◌}
use Rattle.std.proofs.lemmas.List.{places, get_or-set_same, get_or-set_other}
use Rattle.mix_bits.specs.declared.isa.Isa.TheVariants.{M68 as set_m68, Ppc as set_ppc}
use Rattle.big_memory.specs.Lists.{put}
use Rattle.big_memory.proofs.Lists.{length-put}
use Rattle.args_m68.proofs.Stacks as stacks_68k
use Rattle.args_m68.proofs.Back.{begins-at-stack}
use Rattle.args_ppc.specs.Deliver.{callee_words, registers_with}
use Rattle.args_ppc.proofs.Frames as frames_ppc
use Rattle.mode_switch.specs.laws.Laws.{BeginsAtItsStack, FillsItsStack, IsOfItsSet}

pub fills-stack : FillsItsStack
fills-stack set_m68 sig selector values count = stacks_68k.length-stack sig selector values count
fills-stack set_ppc sig selector values count = frames_ppc.length-stack sig selector values count

pub of-set : IsOfItsSet
of-set set_m68 sig selector values sp entry = refl
of-set set_ppc sig selector values sp entry = refl

few : (words : List ℕ) → length (take 8 words) ≤ 8
few words = grind (arith, places)

top-ppc : (words : List ℕ) (sp code toc : ℕ) → get_or (registers_with words sp code toc).gpr 1 0 ≡ sp
top-ppc words sp code toc =
    let gpr = put 3 (take 8 words) (replicate 32 0) in
    let long : length gpr ≡ 32 = length-put 3 (take 8 words) (replicate 32 0) (omega (arith, few words)) in
    get_or-set_other (set gpr 1 sp) 2 1 toc 0 (λ e. omega (arith, e)) ∙ get_or-set_same gpr 1 sp 0 (omega (arith, long))

pub begins-at_stack : BeginsAtItsStack
begins-at_stack set_m68 sig selector values sp entry = begins-at-stack sig selector values entry.globals sp entry.code
begins-at_stack set_ppc sig selector values sp entry = top-ppc (callee_words sig selector values) sp entry.code entry.globals
