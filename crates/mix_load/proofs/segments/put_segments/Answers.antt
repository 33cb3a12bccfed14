use Rattle.std.proofs.Common.{ℕ, ◌≡◌, List, [], ◌∷◌, ◌++◌, add-one, ap, subst, ◌∙◌, arith}
use Rattle.std.proofs.lemmas.Result.{err_from_is_err_and}
use Rattle.mix_bits.specs.Multiples.{rounded_up}
use Rattle.mix_load.specs.Pieces.{with_pieces}
use Rattle.mix_load.specs.Segments.{segment_pieces}
use Rattle.mix_load.specs.SegmentsClauses.{segment_places}
use Rattle.mix_load.proofs.Ends.{end_within, ends_grow, step-end, step-memory}
use Rattle.mix_load.proofs.segments.put_segments.Goals as goal

pub put_segment-end-requires-clause-fits : goal.put_segment-end-requires-clause-fits
put_segment-end-requires-clause-fits c =
    rw (c.loop-id.invariant.end, c.segment_at.ensures.is)
    (omega (arith, end_within c.args.fork.now c.args.start c.loop-id.id c.args.ids c.loop-id-test.true, c.requires.fits, c.loop-id.invariant.len))

pub loop-id-preserved : goal.loop-id-preserved
loop-id-preserved c = record {
  end = rw add-one (step-end c.args.fork.now c.args.start c.loop-id.id c.loop-id.end _ c.put_segment-end.result c.loop-id.invariant.end c.segment_at.ensures.is c.put_segment-end.ensures.end);
  places = rw add-one (c.in_ok-push.ensures.items ∙ (ap (λ (xs : List ℕ). xs ++ c.round_up-place.result ∷ []) c.loop-id.invariant.places
      ∙ ap (λ (place : ℕ). segment_places c.args.fork.now c.args.start c.loop-id.id ++ place ∷ []) (c.round_up-place.ensures.is ∙ ap (rounded_up 16) c.loop-id.invariant.end)));
  memory = rw add-one (step-memory c.args.fork.now c.args.start c.loop-id.id c.loop-id.end _ c.put_segment-end.new.ram c.loop-id.ram c.args.ram.now
      c.loop-id.invariant.end c.segment_at.ensures.is c.put_segment-end.ensures.memory c.loop-id.invariant.memory);
  len = c.put_segment-end.ensures.len ∙ c.loop-id.invariant.len;
}

pub round_up-place-requires-clause-room : goal.round_up-place-requires-clause-room
round_up-place-requires-clause-room c =
    omega (arith, c.loop-id.invariant.end, ends_grow c.args.fork.now c.args.start c.loop-id.id c.args.ids (omega (arith, c.loop-id-test.true)), c.requires.fits, c.requires.small)

pub overflow_cast-place : goal.overflow_cast-place
overflow_cast-place c =
    omega (arith, c.round_up-place.ensures.most, c.loop-id.invariant.end, ends_grow c.args.fork.now c.args.start c.loop-id.id c.args.ids (omega (arith, c.loop-id-test.true)), c.requires.fits, c.requires.small)

pub returns-in_err-push-clause-places : goal.returns-in_err-push-clause-places
returns-in_err-push-clause-places c =
    let p = err_from_is_err_and c.from_residual.result c.from_residual.ensures.1 in
    rw p.1 tt

pub returns-in_err-push-clause-memory : goal.returns-in_err-push-clause-memory
returns-in_err-push-clause-memory c =
    let p = err_from_is_err_and c.from_residual.result c.from_residual.ensures.1 in
    rw p.1 tt

pub returns-in_err-push-clause-len : goal.returns-in_err-push-clause-len
returns-in_err-push-clause-len c = c.loop-id.invariant.len

pub returns-clause-places : goal.returns-clause-places
returns-clause-places c =
    let same : c.loop-id.id ≡ c.args.ids = omega (arith, c.loop-id-test.false, c.loop-id.auto) in
    subst (λ (n : ℕ). c.loop-id.places.items ≡ segment_places c.args.fork.now c.args.start n) same c.loop-id.invariant.places

pub returns-clause-memory : goal.returns-clause-memory
returns-clause-memory c =
    let same : c.loop-id.id ≡ c.args.ids = omega (arith, c.loop-id-test.false, c.loop-id.auto) in
    subst (λ (n : ℕ). c.loop-id.ram ≡ with_pieces (segment_pieces c.args.fork.now c.args.start n) c.args.ram.now) same c.loop-id.invariant.memory

pub returns-clause-len : goal.returns-clause-len
returns-clause-len c = c.loop-id.invariant.len
