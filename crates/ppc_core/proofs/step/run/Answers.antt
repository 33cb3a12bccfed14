use Rattle.std.proofs.Common.{refl, sym, subst}
use Rattle.big_memory.specs.declared.steps.Did.TheVariants.{Next}
use Rattle.ppc_core.specs.inner.Fetch.{Fetches, IsOfWord}
use Rattle.ppc_core.proofs.Fetching.{done, of-word}
use Rattle.ppc_core.proofs.step.run.Goals as goal
use Rattle.ppc_core.proofs.step.run.Goals.{then-is_plain, else-is_plain+in-Next}

pub returns-clause-does : goal.returns-clause-does
returns-clause-does c =
    let r = c.args.regs.now in
    let m = c.args.ram.now in
    let is : IsOfWord r m c.if-is_plain.word =
    elim c.if-is_plain.branch [
      | then-is_plain w ↦ subst (λ word. IsOfWord r m word) (sym w.word-is) w.plain_word-word.ensures
      | else-is_plain+in-Next w ↦
          let fetched : Fetches Next w.fetch.new.fault r m = subst (λ did. Fetches did w.fetch.new.fault r m) w.in-Next.is (w.fetch.ensures r refl) in
          subst (λ word. IsOfWord r m word) (sym w.word-is) fetched
    ] in
    of-word c.run_word.result c.run_word.new.fault r c.run_word.new.regs m c.run_word.new.ram c.if-is_plain.word is c.run_word.ensures

pub returns-in_default : goal.returns-in_default
returns-in_default c =
    record {
      does = done c.fetch.result c.fetch.new.fault c.args.regs.now c.args.ram.now c.in_default.not-Next (c.fetch.ensures c.args.regs.now refl);
      places = refl;
    }
