use Rattle.std.proofs.Common.{◌≡◌, ℕ, ◌+◌, ◌*◌, ◌<◌, get_or, arith}
use Rattle.big_memory.specs.Numbers.{long_at}
use Rattle.switch_frame.proofs.Pieces.{long-read}
use Rattle.switch_frame.proofs.files.read_ppc.Goals as goal

rest : (c : goal.After-rest-2-1) (b k : ℕ) → k < 5 → b ≡ c.args.at + 128 + 4 * k → get_or c.read_longs-2.new.to k 0 ≡ long_at b c.args.ram.now.bytes
rest c b k within place = long-read 5 (c.args.at + 128) b k c.args.ram.now.bytes c.read_longs-2.new.to c.read_longs-2.ensures within place

pub returns : goal.returns
returns c =
    let at = c.args.at in
    let cr = rest c (at + 128) 0 (omega arith) (omega arith) in
    let lr = rest c (at + 132) 1 (omega arith) (omega arith) in
    let ctr = rest c (at + 136) 2 (omega arith) (omega arith) in
    let xer = rest c (at + 140) 3 (omega arith) (omega arith) in
    let pc = rest c (at + 144) 4 (omega arith) (omega arith) in
    λ i. record { gpr = c.read_longs.ensures i; cr = cr i; lr = lr i; ctr = ctr i; xer = xer i; pc = pc i }
