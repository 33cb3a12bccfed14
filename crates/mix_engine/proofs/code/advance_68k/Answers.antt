use Rattle.std.proofs.Common.{arith, sym, ◌∙◌}
use Rattle.switch_frame.specs.declared.active.Active.TheVariants.{M68}
use Rattle.mix_engine.proofs.Advancing.{own-last, own-more}
use Rattle.mix_engine.proofs.code.advance_68k.Goals as goal

pub codes-preserved : goal.codes-preserved
codes-preserved c =
    let codes = c.codes in
    let new = c.code_68k.new in
    record {
      whole = c.in-Next.ensures.codes.1;
      some = omega arith;
      fewer = omega arith;
      rest = codes.invariant.rest;
      places = codes.invariant.places ∙ sym c.code_68k.ensures.places;
      own = own-more c.args.left.now codes.count (M68 c.args.regs.now) (M68 codes.regs) (M68 new.regs) c.args.body.now codes.body new.body codes.invariant.some codes.invariant.fewer codes.invariant.own c.in-Next.ensures.codes;
    }

pub returns-then-count-eq0-clause-codes : goal.returns-then-count-eq0-clause-codes
returns-then-count-eq0-clause-codes c =
    let codes = c.codes in
    let new = c.code_68k.new in
    rw codes.invariant.rest (own-last c.args.left.now codes.count new.fault (M68 c.args.regs.now) (M68 codes.regs) (M68 new.regs) c.args.body.now codes.body new.body codes.invariant.some c.if-count-eq0.true codes.invariant.own c.in-Next.ensures.codes)

pub returns-then-count-eq0-clause-some : goal.returns-then-count-eq0-clause-some
returns-then-count-eq0-clause-some c = omega (arith, c.codes.invariant.rest)

pub returns-then-count-eq0-clause-fewer : goal.returns-then-count-eq0-clause-fewer
returns-then-count-eq0-clause-fewer c = omega (arith, c.codes.invariant.rest, c.codes.invariant.some, c.codes.invariant.fewer)
