-- One value more.
use Rattle.std.proofs.Common.{◌≡◌, ◌≤◌, length, sym, arith}
use Rattle.args_m68.proofs.Gathered.{appends-more, appends-one, counts-more}
use Rattle.args_m68.proofs.gather.+append_values.Goals as goal

pub returns-in_ok-value_at-in-len1 : goal.returns-in_ok-value_at-in-len1
returns-in_ok-value_at-in-len1 t c =
    let one : length c.args.params.now ≡ 1 = omega (arith, c.in-len1.len_at_least, c.in-len1.len_below) in
    record {
      values =
          appends-one c.args.regs.now c.args.ram.now c.args.route c.args.base c.args.params.now _ c.place_for-place.result c.in_ok-value_at-in-len1.field-0 _ _ one c.place_for-place.ensures.place (sym c.in_ok-value_at-in-len1.ensures) c.push.ensures.values;
      count = omega (arith, one, c.push.ensures.count);
      rest = c.push.ensures.rest;
    }

pub returns-in_ok-value_at-in-len1-up : goal.returns-in_ok-value_at-in-len1-up
returns-in_ok-value_at-in-len1-up t c =
    let push = c.push-in-len1-up.ensures in
    let others = c.append_values.ensures in
    let some : 1 ≤ length c.args.params.now = omega (arith, c.in-len1-up.len_at_least) in
    record {
      values =
          appends-more c.append_values.result c.args.regs.now c.args.ram.now c.args.route c.args.base c.widths.result c.next_base.result c.args.params.now _ c.place_for-place-in-len1-up.result c.in_ok-value_at-in-len1-up.field-0 _ _ _ some
          c.widths.ensures.value c.place_for-place-in-len1-up.ensures.place (sym c.in_ok-value_at-in-len1-up.ensures) push.values c.next_base.ensures.value others.values;
      count = counts-more c.append_values.result c.args.params.now _ _ _ some push.count others.count;
      rest = others.rest;
    }
