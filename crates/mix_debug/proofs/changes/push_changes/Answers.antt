use Rattle.std.proofs.Common.{◌≡◌, ℕ, suc, ◌+◌, ◌-◌, ◌<◌, ◌≤◌, ◌++◌, List, length, take, arith, refl, ap, sym, subst, ◌∙◌}
use Rattle.std.proofs.lemmas.List.{length-take-le}
use Rattle.circular_buffer.specs.Buffer.{Buffer, buffer}
use Rattle.mix_debug.specs.inner.Entries.{closed, started}
use Rattle.mix_debug.specs.WrittenBack.{olds_of}
use Rattle.mix_debug.proofs.Scanning.{Counted, Pushed, runs_at, counted-none, counted-off, counted-on, opened, pushed-none, pushed-down-same, pushed-down-other, pushed-all}
use Rattle.mix_debug.proofs.changes.push_changes.Goals as goal

pub bytes-init : goal.bytes-init
bytes-init c =
    let long : length (take c.args.high c.args.old.now) ≤ c.args.high = omega (arith, length-take-le c.args.high c.args.old.now c.requires.old_long) in
    record {
      low = c.requires.order;
      high = omega arith;
      small = omega arith;
      span_room = refl;
      old_room = refl;
      pushed = pushed-none c.args.high c.args.spans.now.capacity c.args.olds.now.capacity (take c.args.high c.args.old.now) (take c.args.high c.args.new.now)
          c.args.spans.now.items c.args.olds.now.items long c.requires.spans_fit c.requires.olds_fit;
      counted = counted-none c.args.high (take c.args.high c.args.old.now) (take c.args.high c.args.new.now) long;
    }

pub bytes-preserved-then-old-at : goal.bytes-preserved-then-old-at
bytes-preserved-then-old-at c =
    let below : c.bytes.at ≤ c.args.high = c.bytes.invariant.high in
    let small : c.bytes.count + c.bytes.at ≤ c.args.high = c.bytes.invariant.small in
    let more = pushed-down-other c.bytes.at c.args.high c.bytes.count c.args.spans.now.capacity c.args.olds.now.capacity c.args.old.now c.args.new.now
    c.bytes.spans.items c.args.spans.now.items c.bytes.olds.items c.args.olds.now.items
    (omega (arith, c.bytes-test.true)) below c.requires.old_long c.requires.new_long c.if-old-at.true c.bytes.invariant.pushed in
    let ring : c.push_front.new.self ≡ buffer (take c.bytes.olds.capacity (Rattle.std.proofs.Common.◌∷◌ (Rattle.std.proofs.Common.get_or c.args.old.now (c.bytes.at - 1) 0) c.bytes.olds.items)) c.bytes.olds.capacity = c.push_front.ensures.items in
    let items = ap (λ (b : Buffer ℕ). b.items) ring ∙ ap (λ n. take n (Rattle.std.proofs.Common.◌∷◌ (Rattle.std.proofs.Common.get_or c.args.old.now (c.bytes.at - 1) 0) c.bytes.olds.items)) c.bytes.invariant.old_room in
    let count : suc c.bytes.count ≡ c.bytes.count + 1 = omega arith in
    record {
      low = omega (arith, c.bytes-test.true);
      high = omega (arith, below);
      small = omega (arith, small, c.bytes-test.true);
      span_room = c.bytes.invariant.span_room;
      old_room = ap (λ (b : Buffer ℕ). b.capacity) ring ∙ c.bytes.invariant.old_room;
      pushed =
          subst (λ n. Pushed (c.bytes.at - 1) n (runs_at (c.bytes.at - 1) (take c.args.high c.args.old.now) (take c.args.high c.args.new.now)) c.args.spans.now.capacity c.bytes.spans.items c.args.spans.now.items c.args.olds.now.capacity c.push_front.new.self.items c.args.olds.now.items) count
          (subst (λ xs. Pushed (c.bytes.at - 1) (suc c.bytes.count) (runs_at (c.bytes.at - 1) (take c.args.high c.args.old.now) (take c.args.high c.args.new.now)) c.args.spans.now.capacity c.bytes.spans.items c.args.spans.now.items c.args.olds.now.capacity xs c.args.olds.now.items) (sym items) more);
      counted =
          subst (λ n. Counted (c.bytes.at - 1) c.args.high (runs_at (c.bytes.at - 1) (take c.args.high c.args.old.now) (take c.args.high c.args.new.now)) (c.bytes.changes.runs + started n) (c.bytes.changes.bytes + n) (opened n)) count
          (counted-on c.bytes.at c.args.high c.args.old.now c.args.new.now c.bytes.changes.runs c.bytes.changes.bytes c.bytes.count
          (omega (arith, c.bytes-test.true)) below c.requires.old_long c.requires.new_long c.if-old-at.true c.bytes.invariant.counted);
    }

pub bytes-preserved : goal.bytes-preserved
bytes-preserved c =
    let below : c.bytes.at ≤ c.args.high = c.bytes.invariant.high in
    let one : c.bytes.at - 1 + 1 ≡ c.bytes.at = omega (arith, c.bytes-test.true) in
    let more = pushed-down-same c.bytes.at c.args.high c.bytes.count c.args.spans.now.capacity c.args.olds.now.capacity c.args.old.now c.args.new.now
    c.bytes.spans.items c.args.spans.now.items c.bytes.olds.items c.args.olds.now.items
    (omega (arith, c.bytes-test.true)) below c.requires.old_long c.requires.new_long c.if-old-at.false c.bytes.invariant.pushed in
    let spans : c.close-changes.new.spans.items ≡ closed c.args.spans.now.capacity c.bytes.at c.bytes.count c.bytes.spans.items =
    c.close-changes.ensures.spans ∙ ap (λ n. closed n (c.bytes.at - 1 + 1) c.bytes.count c.bytes.spans.items) c.bytes.invariant.span_room
    ∙ ap (λ n. closed c.args.spans.now.capacity n c.bytes.count c.bytes.spans.items) one in
    record {
      low = omega (arith, c.bytes-test.true);
      high = omega (arith, below);
      small = omega (arith, below);
      span_room = c.close-changes.ensures.room ∙ c.bytes.invariant.span_room;
      old_room = c.bytes.invariant.old_room;
      pushed = subst (λ ss. Pushed (c.bytes.at - 1) 0 (runs_at (c.bytes.at - 1) (take c.args.high c.args.old.now) (take c.args.high c.args.new.now)) c.args.spans.now.capacity ss c.args.spans.now.items c.args.olds.now.capacity c.bytes.olds.items c.args.olds.now.items) (sym spans) more;
      counted =
          counted-off c.bytes.at c.args.high c.args.old.now c.args.new.now c.bytes.changes.runs c.bytes.changes.bytes c.bytes.count c.close-changes.result.runs c.close-changes.result.bytes
          (omega (arith, c.bytes-test.true)) below c.requires.old_long c.requires.new_long c.if-old-at.false c.close-changes.ensures.runs c.close-changes.ensures.bytes c.bytes.invariant.counted;
    }

-- so many of both fit
fewer : (a b at high : ℕ) → a + b + at ≤ high → high ≤ 16777216 → a ≤ 16777216
fewer a b at high all most = omega (arith, all, most)

few-both : (a b at high : ℕ) → a + b + at ≤ high → high ≤ 16777216 → a + b ≤ 16777216
few-both a b at high all most = omega (arith, all, most)

pub close-changes-requires-clause-runs : goal.close-changes-requires-clause-runs
close-changes-requires-clause-runs c = fewer c.bytes.changes.runs (started c.bytes.count) c.bytes.at c.args.high c.bytes.invariant.counted.few c.requires.small

pub close-changes-requires-clause-bytes : goal.close-changes-requires-clause-bytes
close-changes-requires-clause-bytes c = few-both c.bytes.changes.bytes c.bytes.count c.bytes.at c.args.high c.bytes.invariant.counted.small c.requires.small

pub close-requires-clause-runs : goal.close-requires-clause-runs
close-requires-clause-runs c = fewer c.bytes.changes.runs (started c.bytes.count) c.bytes.at c.args.high c.bytes.invariant.counted.few c.requires.small

pub close-requires-clause-bytes : goal.close-requires-clause-bytes
close-requires-clause-bytes c = few-both c.bytes.changes.bytes c.bytes.count c.bytes.at c.args.high c.bytes.invariant.counted.small c.requires.small

pub returns-clause-runs : goal.returns-clause-runs
returns-clause-runs c =
    let low : c.args.low ≤ c.bytes.at = c.bytes.invariant.low in
    let end : c.bytes.at ≡ c.args.low = omega (arith, low, c.bytes-test.false) in
    c.close.ensures.runs ∙ c.bytes.invariant.counted.runs_are ∙ ap (λ n. length (runs_at n (take c.args.high c.args.old.now) (take c.args.high c.args.new.now))) end

pub returns-clause-bytes : goal.returns-clause-bytes
returns-clause-bytes c =
    let low : c.args.low ≤ c.bytes.at = c.bytes.invariant.low in
    let end : c.bytes.at ≡ c.args.low = omega (arith, low, c.bytes-test.false) in
    c.close.ensures.bytes ∙ c.bytes.invariant.counted.bytes_are ∙ ap (λ n. length (olds_of (runs_at n (take c.args.high c.args.old.now) (take c.args.high c.args.new.now)))) end

pub returns-clause-spans : goal.returns-clause-spans
returns-clause-spans c =
    let low : c.args.low ≤ c.bytes.at = c.bytes.invariant.low in
    let end : c.bytes.at ≡ c.args.low = omega (arith, low, c.bytes-test.false) in
    let pushed = subst (λ n. Pushed n c.bytes.count (runs_at n (take c.args.high c.args.old.now) (take c.args.high c.args.new.now)) c.args.spans.now.capacity c.bytes.spans.items c.args.spans.now.items c.args.olds.now.capacity c.bytes.olds.items c.args.olds.now.items) end c.bytes.invariant.pushed in
    c.close.ensures.spans ∙ ap (λ n. closed n c.args.low c.bytes.count c.bytes.spans.items) c.bytes.invariant.span_room
    ∙ pushed-all c.args.low c.bytes.count c.args.spans.now.capacity c.args.olds.now.capacity (runs_at c.args.low (take c.args.high c.args.old.now) (take c.args.high c.args.new.now)) c.bytes.spans.items c.args.spans.now.items c.bytes.olds.items c.args.olds.now.items pushed

pub returns-clause-olds : goal.returns-clause-olds
returns-clause-olds c =
    let low : c.args.low ≤ c.bytes.at = c.bytes.invariant.low in
    let end : c.bytes.at ≡ c.args.low = omega (arith, low, c.bytes-test.false) in
    c.bytes.invariant.pushed.olds_are
    ∙ ap (λ n. take c.args.olds.now.capacity (olds_of (runs_at n (take c.args.high c.args.old.now) (take c.args.high c.args.new.now)) ++ c.args.olds.now.items)) end
