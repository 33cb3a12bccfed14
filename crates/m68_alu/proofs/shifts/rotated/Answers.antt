use Rattle.std.proofs.Common.{◌+◌, ◌<◌, ◌*◌, ◌/◌, ◌%◌, ◌^◌, arith}
use Rattle.m68_alu.proofs.Turns.{turned-long, turned-within}
use Rattle.m68_alu.proofs.shifts.rotated.Goals as goal

pub overflow_mul-result : goal.overflow_mul-result
overflow_mul-result c =
    let all : c.args.v % c.numbers-below.result * c.numbers.result + c.args.v / c.numbers-below.result < 2 ^ 64 =
    rw (c.numbers.ensures, c.numbers-below.ensures) (turned-long c.args.width c.args.turns c.args.v c.requires.width c.requires.turns c.requires.fits) in
    omega (arith, all)

pub overflow_add-result : goal.overflow_add-result
overflow_add-result c =
    let all : c.args.v % c.numbers-below.result * c.numbers.result + c.args.v / c.numbers-below.result < 2 ^ 64 =
    rw (c.numbers.ensures, c.numbers-below.ensures) (turned-long c.args.width c.args.turns c.args.v c.requires.width c.requires.turns c.requires.fits) in
    omega (arith, all)

pub returns-clause-below : goal.returns-clause-below
returns-clause-below c = rw (c.numbers.ensures, c.numbers-below.ensures) (turned-within c.args.width c.args.turns c.args.v c.requires.turns c.requires.fits)
