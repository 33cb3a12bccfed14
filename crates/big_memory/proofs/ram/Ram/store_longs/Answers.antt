use Rattle.std.proofs.Common.{rules, ◌≡◌, Err, refl}
use Rattle.big_memory.proofs.Longs.{probe-err, probe-ok, longs_done, longs_refused}
use Rattle.big_memory.proofs.ram.Ram.store_longs.Goals as goal

pub returns-in_err-probe_longs : goal.returns-in_err-probe_longs
returns-in_err-probe_longs c =
    let is : c.from_residual.result ≡ Err c.in_err-probe_longs.field-0.0 = search rules in
    rw is (longs_refused c.args.self.now c.args.a c.args.values.now _ (probe-err _ _ _ c.probe_longs.ensures c.in_err-probe_longs.was), refl)

pub put_longs-requires : goal.put_longs-requires
put_longs-requires c = probe-ok _ _ c.probe_longs.ensures c.in_ok-probe_longs.was

pub returns : goal.returns
returns c =
    longs_done c.args.self.now c.put_longs.new.self c.args.a c.args.values.now c.meets_invariant.ensures
    (probe-ok _ _ c.probe_longs.ensures c.in_ok-probe_longs.was) c.put_longs.ensures
