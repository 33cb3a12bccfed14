-- What was built is read back.
use Rattle.std.proofs.Common.{◌∙◌, subst, IfOk}
use Rattle.routine_desc.specs.inner.Build.{IsPut}
use Rattle.routine_desc.proofs.Built.{built-back}
use Rattle.routine_desc.proofs.making.build.Goals as goal

pub returns-clause-reads_back : goal.returns-clause-reads_back
returns-clause-reads_back c =
    let put = subst (λ bytes. IfOk c.put.result (λ done. IsPut c.args.ram.now c.args.a bytes c.put.new.ram)) (c.deref.ensures.0 ∙ c.image-image.ensures.bytes) c.put.ensures.put in
    built-back c.put.result c.args.ram.now c.put.new.ram c.args.a c.args.info c.args.m68k c.args.isa c.args.proc c.ranges.info.fits c.image-image.ensures.fits c.ranges.proc.fits put
