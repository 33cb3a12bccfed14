use Rattle.std.proofs.Common.{ℕ, ◌≤◌, subst, sym, ap, ◌∙◌, ◌≡◌}
use Rattle.mix_load.specs.ForkImage.{fork_end}
use Rattle.mix_bits.specs.Multiples.{rounded_up}
use Rattle.mix_load.specs.Segments.{header_of, segments_end, segments_start}
use Rattle.mix_load.proofs.Wholes.{not_too_large, world_within}
use Rattle.mix_load.proofs.fork.test_codes.Goals as goal

pub returns-clause-room : goal.returns-clause-room
returns-clause-room c =
    let end_is : c.segments_end-end.result ≡ fork_end c.args.ids c.args.fork.now (header_of c.args.code0.now) =
    c.segments_end-end.ensures.is ∙ ap (λ (s : ℕ). segments_end c.args.fork.now s c.args.ids) (c.segments_start-start.ensures.is ∙ ap segments_start c.in_ok-header.ensures.header) in
    let fits : rounded_up 16 (fork_end c.args.ids c.args.fork.now (header_of c.args.code0.now)) ≤ c.args.floor =
    subst (λ (n : ℕ). rounded_up 16 n ≤ c.args.floor) end_is (not_too_large c.args.floor c.segments_end-end.result (sym c.in_ok-test_end.ensures)) in
    record {
      table = c.in_ok-header.ensures.table;
      end_fits = fits;
      world_fits = world_within c.args.ids c.args.floor c.args.fork.now (header_of c.args.code0.now) fits;
    }
