use Rattle.std.proofs.Common.{◌≡◌, ◌<◌, suc, List, ◌∷◌, length, ap, arith, refl, ◌∙◌}
use Rattle.switch_frame.specs.Records.{Record}
use Rattle.mix_engine.proofs.Ways.{whole-back, whole-begins, whole-stopped}
use Rattle.mix_engine.proofs.machine.run_beside.Goals as goal

pub turns-init : goal.turns-init
turns-init g c = (whole-begins _ _ c.requires, refl)

pub run_turns-requires : goal.run_turns-requires
run_turns-requires g c = c.turns.invariant.0.whole

pub turns-preserved : goal.turns-preserved
turns-preserved g c =
    let turn = c.in-Back.ensures in (whole-back _ _ _ _ _ _ _ c.turns.invariant.0 turn.turned, turn.same ∙ c.turns.invariant.1)

fewer-outside : (old new : List Record) (r : Record) → old ≡ r ∷ new → length new < length old
fewer-outside old new r is = let one : length old ≡ suc (length new) = ap length is in omega (arith, one)

pub turns-smaller : goal.turns-smaller
turns-smaller g c = fewer-outside _ _ _ c.in-Back.ensures.turned.callers.1

pub returns-in-Stop : goal.returns-in-Stop
returns-in-Stop g c =
    let turn = c.in-Stop.ensures in
    let end = whole-stopped _ _ _ _ _ _ _ _ c.turns.invariant.0 turn.turned in
    record {
      whole = end.whole;
      run = record { fewer = end.fewer; run = end.stops };
      blames = end.blames;
      devices = end.devices;
      same = turn.same ∙ c.turns.invariant.1;
    }
