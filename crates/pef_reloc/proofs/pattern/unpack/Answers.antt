use Rattle.std.proofs.Common.{◌≡◌, ◌+◌, ◌-◌, ◌≤◌, ◌<◌, ◌++◌, length, take, drop, arith, ap, sym, ◌∙◌, append_assoc}
use Rattle.pef_reloc.specs.Pattern.{with_rest, unpacked, unpacked_by}
use Rattle.pef_reloc.specs.inner.Pattern.{with_piece}
use Rattle.pef_reloc.specs.inner.Pieces.{bytes_of}
use Rattle.pef_reloc.proofs.Unpacked.{next_piece}
use Rattle.pef_reloc.proofs.Written.{take_put, drop_put_behind, drop_more}
use Rattle.pef_reloc.proofs.pattern.unpack.Goals as goal

pub loop-rest-preserved : goal.loop-rest-preserved
loop-rest-preserved c =
    let len = length c.args.from.now in
    let at = c.loop-rest.at in
    let piece = bytes_of c.in-Some.piece in
    let behind = c.in-Some.behind.now in
    let size : c.size_of-size.result ≡ length piece = c.size_of-size.ensures in
    let within : at + length piece ≤ length c.loop-rest.to = omega arith in
    let same : length c.write_piece.new.to ≡ length c.loop-rest.to = omega arith in
    let later = unpacked_by (length behind) len behind (length c.write_piece.new.to - (at + c.size_of-size.result)) in
    let some : 0 < length c.loop-rest.rest.now = omega (arith, c.in-Some.ensures.less) in
    let fits : length piece ≤ length c.loop-rest.to - at = omega arith in
    let room : length c.loop-rest.to - at - length piece ≡ length c.write_piece.new.to - (at + c.size_of-size.result) = omega arith in
    let next : unpacked_by (length c.loop-rest.rest.now) len c.loop-rest.rest.now (length c.loop-rest.to - at) ≡ with_piece piece later
    = next_piece len c.loop-rest.rest.now (length c.loop-rest.to - at) (with_rest piece behind) some (sym c.in-Some.ensures.is) fits
    ∙ ap (λ left. with_piece piece (unpacked_by (length behind) len behind left)) room in
    let whole = ap (λ n. unpacked c.args.from.now n) (sym same) in
    let wrote : take (at + c.size_of-size.result) c.write_piece.new.to ≡ take at c.loop-rest.to ++ piece
    = ap (λ n. take (at + n) c.write_piece.new.to) size ∙ ap (take (at + length piece)) c.write_piece.ensures ∙ take_put at piece c.loop-rest.to within in
    record {
      refusal = sym (ap (λ u. u.refusal) next) ∙ c.loop-rest.invariant.refusal ∙ ap (λ u. u.refusal) whole;
      written = ap (λ ys. ys ++ later.written) wrote ∙ append_assoc (take at c.loop-rest.to) piece later.written
          ∙ ap (λ ys. take at c.loop-rest.to ++ ys) (sym (ap (λ u. u.written) next)) ∙ c.loop-rest.invariant.written ∙ ap (λ u. u.written) whole;
      kept = ap (λ n. drop (at + n) c.write_piece.new.to) size ∙ ap (drop (at + length piece)) c.write_piece.ensures
          ∙ drop_put_behind at piece c.loop-rest.to within
          ∙ drop_more at (length piece) c.loop-rest.to c.args.to.now (omega arith) c.loop-rest.invariant.kept
          ∙ ap (λ n. drop (at + n) c.args.to.now) (sym size);
      room = omega arith;
      less = omega (arith, c.in-Some.ensures.less);
    }
