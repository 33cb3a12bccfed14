use Rattle.std.proofs.Common.{◌≡◌, ℕ, ◌+◌, ◌-◌, ◌≤◌, length, take, drop, ap, sym, ◌∙◌, arith}
use Rattle.circular_buffer.specs.Buffer.{Buffer, buffer}
use Rattle.big_memory.specs.Lists.{part, put}
use Rattle.big_memory.specs.Memory.{Memory, with_bytes}
use Rattle.std.proofs.lemmas.List.{length-take-le}
use Rattle.mix_debug.specs.declared.head.Span.{Span}
use Rattle.mix_debug.proofs.Undoing.{copy-follows, memory-is, taken, undoing-ends, undoing-next}
use Rattle.mix_debug.proofs.undo.undo_runs.Goals as goal

pub undo_run-requires-clause-whole : goal.undo_run-requires-clause-whole
undo_run-requires-clause-whole c =
    (taken c.runs.left c.in-Some.span c.runs.spans.items _ c.runs.olds.items _ c.runs.ram.bytes _ _ c.runs-test.true (sym c.pop_front.ensures.value ∙ c.in-Some.is) c.runs.invariant.undoing).whole

pub undo_run-requires-clause-inside : goal.undo_run-requires-clause-inside
undo_run-requires-clause-inside c =
    let it = taken c.runs.left c.in-Some.span c.runs.spans.items _ c.runs.olds.items _ c.runs.ram.bytes _ _ c.runs-test.true (sym c.pop_front.ensures.value ∙ c.in-Some.is) c.runs.invariant.undoing in
    let long : length c.runs.ram.bytes ≡ length c.args.ram.now.bytes = c.runs.invariant.undoing.long in
    let inside : c.in-Some.span.at + c.in-Some.span.count ≤ length c.args.ram.now.bytes = it.inside in
    omega (arith, long, inside)

pub copy_range-requires-clause-copy_long : goal.copy_range-requires-clause-copy_long
copy_range-requires-clause-copy_long c =
    let it = taken c.runs.left c.in-Some.span c.runs.spans.items _ c.runs.olds.items _ c.runs.ram.bytes _ _ c.runs-test.true (sym c.pop_front.ensures.value ∙ c.in-Some.is) c.runs.invariant.undoing in
    let long : length c.runs.ram.bytes ≡ length c.args.ram.now.bytes = c.runs.invariant.undoing.long in
    let same : length c.runs.copy ≡ length c.runs.ram.bytes = ap length c.runs.invariant.copied in
    let inside : c.in-Some.span.at + c.in-Some.span.count ≤ length c.args.ram.now.bytes = it.inside in
    omega (arith, long, same, inside)

pub copy_range-requires-clause-bytes_long : goal.copy_range-requires-clause-bytes_long
copy_range-requires-clause-bytes_long c =
    let it = taken c.runs.left c.in-Some.span c.runs.spans.items _ c.runs.olds.items _ c.runs.ram.bytes _ _ c.runs-test.true (sym c.pop_front.ensures.value ∙ c.in-Some.is) c.runs.invariant.undoing in
    let after = it.more.long in
    let inside : c.in-Some.span.at + c.in-Some.span.count ≤ length c.args.ram.now.bytes = it.inside in
    let now : length c.bytes.result.now ≡ length (put c.in-Some.span.at (take c.in-Some.span.count c.runs.olds.items) c.runs.ram.bytes) =
    ap length c.bytes.ensures.is ∙ ap (λ (m : Memory). length m.bytes) c.undo_run.ensures.ram in
    omega (arith, now, after, inside)

pub runs-preserved : goal.runs-preserved
runs-preserved c =
    let it = taken c.runs.left c.in-Some.span c.runs.spans.items _ c.runs.olds.items _ c.runs.ram.bytes _ _ c.runs-test.true (sym c.pop_front.ensures.value ∙ c.in-Some.is) c.runs.invariant.undoing in
    let long : length c.runs.ram.bytes ≡ length c.args.ram.now.bytes = c.runs.invariant.undoing.long in
    let inside : c.in-Some.span.at + c.in-Some.span.count ≤ length c.args.ram.now.bytes = it.inside in
    let whole : c.in-Some.span.count ≤ length c.runs.olds.items = it.whole in
    let ram : c.undo_run.new.ram ≡ with_bytes c.in-Some.span.at (take c.in-Some.span.count c.runs.olds.items) c.runs.ram = c.undo_run.ensures.ram in
    let bytes : c.undo_run.new.ram.bytes ≡ put c.in-Some.span.at (take c.in-Some.span.count c.runs.olds.items) c.runs.ram.bytes = ap (λ (m : Memory). m.bytes) ram in
    let spans : c.pop_front.new.self ≡ buffer (drop 1 c.runs.spans.items) c.runs.spans.capacity = c.pop_front.ensures.items in
    let olds : c.undo_run.new.olds ≡ buffer (drop c.in-Some.span.count c.runs.olds.items) c.runs.olds.capacity = c.undo_run.ensures.olds in
    record {
      undoing = undoing-next c.runs.left c.in-Some.span c.runs.spans c.pop_front.new.self _ c.runs.olds c.undo_run.new.olds _ c.runs.ram.bytes c.undo_run.new.ram.bytes _ _ spans olds bytes it.more;
      marks = ap (λ (m : Memory). m.marks) ram ∙ c.runs.invariant.marks;
      span_room = ap (λ (b : Buffer Span). b.capacity) spans ∙ c.runs.invariant.span_room;
      old_room = ap (λ (b : Buffer ℕ). b.capacity) olds ∙ c.runs.invariant.old_room;
      copied = c.copy_range.ensures ∙ ap (λ xs. put c.in-Some.span.at (part c.in-Some.span.at (c.in-Some.span.at + c.in-Some.span.count - c.in-Some.span.at) xs) c.runs.copy) (c.bytes.ensures.is ∙ bytes)
          ∙ copy-follows c.in-Some.span.at c.in-Some.span.count (take c.in-Some.span.count c.runs.olds.items) c.runs.copy c.runs.ram.bytes c.runs.invariant.copied
          (length-take-le c.in-Some.span.count c.runs.olds.items whole) (omega (arith, inside, long))
          ∙ sym bytes;
    }

pub returns-clause-spans : goal.returns-clause-spans
returns-clause-spans c =
    let ends = undoing-ends c.runs.left c.runs.spans.items _ c.runs.olds.items _ c.runs.ram.bytes _ _ c.runs-test.false c.runs.invariant.undoing in
    ap (λ xs. buffer xs c.runs.spans.capacity) ends.0 ∙ ap (buffer _) c.runs.invariant.span_room

pub returns-clause-olds : goal.returns-clause-olds
returns-clause-olds c =
    let ends = undoing-ends c.runs.left c.runs.spans.items _ c.runs.olds.items _ c.runs.ram.bytes _ _ c.runs-test.false c.runs.invariant.undoing in
    ap (λ xs. buffer xs c.runs.olds.capacity) ends.1 ∙ ap (buffer _) c.runs.invariant.old_room

pub returns-clause-ram : goal.returns-clause-ram
returns-clause-ram c =
    let ends = undoing-ends c.runs.left c.runs.spans.items _ c.runs.olds.items _ c.runs.ram.bytes _ _ c.runs-test.false c.runs.invariant.undoing in
    memory-is c.runs.ram _ ends.2 c.runs.invariant.marks
