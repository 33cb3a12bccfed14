-- The image is loaded, unless there is no memory.
use Rattle.mix_top.proofs.Loading.{only-memory, sample-loadable, sample-loaded}
use Rattle.mix_top.proofs.sample_run.load_sample.Goals as goal

pub load-requires-clause-files : goal.load-requires-clause-files
load-requires-clause-files c = sample-loadable c.args.n c.args.depth _ c.in_ok-files.ensures

pub returns-in-Ok-clause-is : goal.returns-in-Ok-clause-is
returns-in-Ok-clause-is c = sample-loaded c.args.kib c.args.n c.args.depth _ _ c.in_ok-files.ensures c.in-Ok.ensures.is

pub want_of_memory-requires : goal.want_of_memory-requires
want_of_memory-requires c = only-memory c.args.kib c.args.n c.args.depth _ c.in-Err.error c.requires.least c.in_ok-files.ensures c.in-Err.ensures.is
