use Rattle.std.proofs.Common.{◌≡◌, ◌+◌, ◌-◌, ◌≤◌, ◌++◌, length, take, drop, arith, ap, sym, subst, ◌∙◌}
use Rattle.std.proofs.lemmas.List.{length-take-le}
use Rattle.big_memory.specs.Lists.{put}
use Rattle.pef_reloc.specs.Pattern.{followed}
use Rattle.pef_reloc.proofs.Written.{done_followed, left_followed, part_left, parts_left, take_put_behind}
use Rattle.pef_reloc.proofs.writing.write_parts.Goals as goal

pub write_block-requires : goal.write_block-requires
write_block-requires c =
    let block = take c.args.common c.args.to.now in
    let count : length block ≡ c.args.common = length-take-le c.args.common c.args.to.now c.requires.front in
    let enough : c.args.parts.size ≤ length c.loop-part.rest.now = part_left c.args.parts.count c.loop-part._part c.args.parts.size (length c.loop-part.rest.now) c.loop-part-test.true c.loop-part.invariant.whole in
    omega (arith, c.split_at.ensures.front_len, left_followed block c.args.parts.size c.args.parts.count c.loop-part._part c.loop-part.at (length c.loop-part.to) c.loop-part.rest.now c.loop-part-test.true enough c.loop-part.invariant.left)

pub write_front-requires : goal.write_front-requires
write_front-requires c =
    let block = take c.args.common c.args.to.now in
    let count : length block ≡ c.args.common = length-take-le c.args.common c.args.to.now c.requires.front in
    let enough : c.args.parts.size ≤ length c.loop-part.rest.now = part_left c.args.parts.count c.loop-part._part c.args.parts.size (length c.loop-part.rest.now) c.loop-part-test.true c.loop-part.invariant.whole in
    omega (arith, left_followed block c.args.parts.size c.args.parts.count c.loop-part._part c.loop-part.at (length c.loop-part.to) c.loop-part.rest.now c.loop-part-test.true enough c.loop-part.invariant.left)

pub loop-part-preserved : goal.loop-part-preserved
loop-part-preserved c =
    let n = c.args.parts.count in
    let k = c.loop-part._part in
    let size = c.args.parts.size in
    let at = c.loop-part.at in
    let rest = c.loop-part.rest.now in
    let block = take c.args.common c.args.to.now in
    let more = c.loop-part-test.true in
    let count : length block ≡ c.args.common = length-take-le c.args.common c.args.to.now c.requires.front in
    let enough : size ≤ length rest = part_left n k size (length rest) more c.loop-part.invariant.whole in
    let part : length (take size rest) ≡ size = length-take-le size rest enough in
    let later = left_followed block size n k at (length c.loop-part.to) rest more enough c.loop-part.invariant.left in
    let wrote : c.write_block.new.to ≡ put at (take size rest) c.loop-part.to = c.write_block.ensures ∙ ap (λ piece. put at piece c.loop-part.to) c.split_at.ensures.front in
    let within : at + length (take size rest) ≤ length c.loop-part.to = omega (arith, part, count, later) in
    let front : take c.args.common c.write_block.new.to ≡ block
    = ap (λ to. take c.args.common to) wrote ∙ take_put_behind c.args.common at (take size rest) c.loop-part.to c.loop-part.invariant.behind within ∙ c.loop-part.invariant.front in
    let common : c.write_front.new.to ≡ put (at + size) block (put at (take size rest) c.loop-part.to)
    = c.write_front.ensures ∙ ap (λ piece. put (at + size) piece c.write_block.new.to) front ∙ ap (λ to. put (at + size) block to) wrote in
    let len : length c.write_block.new.to ≡ length c.loop-part.to = omega arith in
    let inside : at + size + length block ≤ length c.write_block.new.to = omega (arith, count, later, len) in
    let stays : take c.args.common c.write_front.new.to ≡ block
    = ap (λ to. take c.args.common to) (c.write_front.ensures ∙ ap (λ piece. put (at + size) piece c.write_block.new.to) front)
    ∙ take_put_behind c.args.common (at + size) block c.write_block.new.to (omega arith) inside ∙ front in
    record {
      front = stays;
      behind = omega arith;
      whole = omega (arith, c.split_at.ensures.back_len, parts_left n k size (length rest) more c.loop-part.invariant.whole);
      left = subst (λ ys. at + (size + c.args.common) + length (followed block size (n - (k + 1)) ys) ≡ length c.write_front.new.to) (sym c.split_at.ensures.back)
          (omega (arith, count, later));
      done = ap (λ to. take (at + (size + c.args.common)) to ++ followed block size (n - (k + 1)) c.split_at.result.1.now) common
          ∙ ap (λ ys. take (at + (size + c.args.common)) (put (at + size) block (put at (take size rest) c.loop-part.to)) ++ followed block size (n - (k + 1)) ys) c.split_at.ensures.back
          ∙ ap (λ m. take (at + (size + m)) (put (at + size) block (put at (take size rest) c.loop-part.to)) ++ followed block size (n - (k + 1)) (drop size rest)) (sym count)
          ∙ done_followed block size n k at rest c.loop-part.to _ more enough c.loop-part.invariant.left c.loop-part.invariant.done;
    }
