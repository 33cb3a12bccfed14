-- One segment more.
use Rattle.std.proofs.Common.{◌≡◌, ◌∙◌, ℕ, List, [], ◌∷◌, ◌++◌, Option, add-one, ap, arith}
use Rattle.mix_bits.specs.Multiples.{rounded_up}
use Rattle.rsrc_fork.specs.Resources.{Resource}
use Rattle.mix_load.specs.Segments.{segment_at, segment_place, segments_end, with_segment}
use Rattle.mix_load.specs.SegmentsClauses.{segment_places}
use Rattle.look_text.specs.Forks.{segment_line, segments_text}
use Rattle.look_text.proofs.Lines.{at_end, next}
use Rattle.look_text.proofs.segments.add_segments.Goals as goal

line_is : (fork : List Resource) (start id end : ℕ) (code : Option (List ℕ)) → code ≡ segment_at fork id → end ≡ segments_end fork start id
    → segment_line id (rounded_up 16 end) code ≡ segment_line id (segment_place fork start id) (segment_at fork id)
line_is fork start id end code is there =
    ap (λ (x : Option (List ℕ)). segment_line id (rounded_up 16 end) x) is ∙ ap (λ (e : ℕ). segment_line id (rounded_up 16 e) (segment_at fork id)) there

places_are : (fork : List Resource) (start id end place : ℕ) (old new : List ℕ) → new ≡ old ++ (place ∷ []) → old ≡ segment_places fork start id
    → place ≡ rounded_up 16 end → end ≡ segments_end fork start id → new ≡ segment_places fork start id ++ (segment_place fork start id ∷ [])
places_are fork start id end place old new made before is there =
    made ∙ ap (λ (ps : List ℕ). ps ++ (place ∷ [])) before
    ∙ ap (λ (p : ℕ). segment_places fork start id ++ (p ∷ [])) (is ∙ ap (λ (e : ℕ). rounded_up 16 e) there)

end_is : (fork : List Resource) (start id end after : ℕ) (code : Option (List ℕ)) → code ≡ segment_at fork id → end ≡ segments_end fork start id
    → after ≡ with_segment end code → after ≡ with_segment (segments_end fork start id) (segment_at fork id)
end_is fork start id end after code is there made =
    made ∙ ap (λ (x : Option (List ℕ)). with_segment end x) is ∙ ap (λ (e : ℕ). with_segment e (segment_at fork id)) there

pub loop-id-preserved : goal.loop-id-preserved
loop-id-preserved c = record {
  text = rw add-one
      (next _ _ _ _ _ _ c.in_ok-end.ensures.text c.loop-id.invariant.text
      (line_is c.args.fork.now c.args.start c.loop-id.id c.loop-id.end _ c.segment_at.ensures.is c.loop-id.invariant.end));
  places = rw add-one
      (places_are c.args.fork.now c.args.start c.loop-id.id c.loop-id.end c.round_up.result c.loop-id.places.items c.push.new.self.items
      c.in_ok-push.ensures.items c.loop-id.invariant.places c.round_up.ensures.is c.loop-id.invariant.end);
  end = rw add-one (end_is c.args.fork.now c.args.start c.loop-id.id c.loop-id.end c.in_ok-end.end _ c.segment_at.ensures.is c.loop-id.invariant.end c.in_ok-end.ensures.end);
  few = omega (arith, c.in_ok-end.ensures.near, c.loop-id.invariant.few);
}

pub returns : goal.returns
returns c =
    let fork : List Resource = c.args.fork.now in
    record {
      text = at_end (λ (n : ℕ). c.loop-id.text.items ≡ c.args.text.now.items ++ segments_text fork c.args.start n) c.loop-id.id c.args.ids c.loop-id.invariant.text
          c.loop-id.auto.id-end c.loop-id-test.false;
      places = at_end (λ (n : ℕ). c.loop-id.places.items ≡ segment_places fork c.args.start n) c.loop-id.id c.args.ids c.loop-id.invariant.places
          c.loop-id.auto.id-end c.loop-id-test.false;
      end = at_end (λ (n : ℕ). c.loop-id.end ≡ segments_end fork c.args.start n) c.loop-id.id c.args.ids c.loop-id.invariant.end c.loop-id.auto.id-end c.loop-id-test.false;
      near = omega (arith, c.loop-id.invariant.few, c.loop-id.auto.id-end, c.requires.start, c.ranges.ids);
    }
