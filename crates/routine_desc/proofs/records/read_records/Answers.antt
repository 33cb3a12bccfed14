-- One more record is read, or refused.
use Rattle.std.proofs.Common.{◌≡◌, ◌+◌, ◌-◌, suc, length, Ok, Err, sym, ap, ◌∙◌, arith}
use Rattle.std.proofs.lemmas.List.{length-set}
use Rattle.routine_desc.specs.Read.{first_records}
use Rattle.routine_desc.proofs.RecordLemmas.{records-none, records-more, records-refused, records-stay_refused, take-set}
use Rattle.routine_desc.proofs.records.read_records.Goals as goal

pub loop-k-init : goal.loop-k-init
loop-k-init c = records-none _ _ c.args.recs.now

pub returns-in-Err : goal.returns-in-Err
returns-in-Err c =
    let refused : first_records c.args.ram.now c.args.a (suc c.loop-k.k) ≡ Err c.in-Err.bad =
    records-refused _ _ c.loop-k.k _ c.in-Err.bad c.loop-k.invariant c.in-Err.ensures.record in
    let all : (length c.args.recs.now - suc c.loop-k.k) + suc c.loop-k.k ≡ length c.args.recs.now = omega arith in (
      ap (λ n. first_records c.args.ram.now c.args.a n) (sym all)
          ∙ records-stay_refused _ _ (suc c.loop-k.k) (length c.args.recs.now - suc c.loop-k.k) c.in-Err.bad refused,
      length-set c.loop-k.recs c.loop-k.k c.read_record.new.rec ∙ c.loop-k.auto.recs,
    )

pub loop-k-preserved : goal.loop-k-preserved
loop-k-preserved c =
    let more : c.loop-k.k + 1 ≡ suc c.loop-k.k = omega arith in
    ap (λ n. first_records c.args.ram.now c.args.a n) more
    ∙ records-more _ _ c.loop-k.k _ c.read_record.new.rec c.loop-k.invariant c.in-Ok.ensures.record
    ∙ ap Ok (take-set c.loop-k.recs c.loop-k.k c.read_record.new.rec (omega arith))
