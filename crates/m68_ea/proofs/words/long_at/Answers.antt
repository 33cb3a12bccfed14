use Rattle.m68_ea.proofs.Fetch.{long_of_bytes}
use Rattle.m68_ea.proofs.words.long_at.Goals as goal

pub returns-in-Ok : goal.returns-in-Ok
returns-in-Ok c =
    long_of_bytes c.args.ram.now c.args.pc c.args.at c.in-Ok.words.now c.memory_laws.ensures.loads c.meets_invariant.ensures.most c.requires c.in-Ok.ensures.0 c.in-Ok.ensures.1 _ _ c.last_word.ensures.value c.last_word-in-Ok.ensures.value
