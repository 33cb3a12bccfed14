use Rattle.std.proofs.Common.{◌≡◌, ℕ, ◌+◌, ◌*◌, ◌<◌, List, get_or, Option, Some, IsSome, unwrap_or, arith, ap, sym, subst, ◌∙◌}
use Rattle.big_memory.specs.Numbers.{long_at, longs_at}
use Rattle.switch_frame.specs.Records.{file_at}
use Rattle.switch_frame.specs.Sets.{caller_isa, frame_size, kind_at, kind_told}
use Rattle.switch_frame.specs.declared.kind.Kind.{Kind}
use Rattle.switch_frame.specs.declared.kind.Kind.TheVariants.{M68ToPpc}
use Rattle.switch_frame.proofs.Pieces.{long-read}
use Rattle.switch_frame.proofs.frames.read_held.Goals as goal

-- the kind in the head of a frame
code-is : (lo : ℕ) (bytes head : List ℕ) → head ≡ longs_at 8 lo bytes → kind_at (get_or head 1 0) ≡ kind_at (long_at (lo + 4) bytes)
code-is lo bytes head read = ap kind_at (long-read 8 lo (lo + 4) 1 bytes head read (omega arith) (omega arith))

kind-is : (lo : ℕ) (bytes head : List ℕ) (found : Option Kind) (kind : Kind) → head ≡ longs_at 8 lo bytes → found ≡ kind_at (get_or head 1 0) → found ≡ Some kind → kind ≡ kind_told (long_at (lo + 4) bytes)
kind-is lo bytes head found kind read is some = ap (λ k. unwrap_or k M68ToPpc) (sym some ∙ is ∙ code-is lo bytes head read)

pub unwrap-kind-requires : goal.unwrap-kind-requires
unwrap-kind-requires c = subst (λ k. IsSome k) (sym (c.of_code.ensures ∙ code-is c.args.lo c.args.ram.now.bytes c.read_longs.new.to c.read_longs.ensures)) c.requires.kind

pub read_file-requires-clause-within : goal.read_file-requires-clause-within
read_file-requires-clause-within c =
    let kind = kind-is c.args.lo c.args.ram.now.bytes c.read_longs.new.to c.of_code.result c.unwrap-kind.result c.read_longs.ensures c.of_code.ensures c.unwrap-kind.ensures in
    let size : frame_size c.caller.result ≡ frame_size (caller_isa (kind_told (long_at (c.args.lo + 4) c.args.ram.now.bytes))) = ap frame_size (c.caller.ensures ∙ ap caller_isa kind) in
    omega (arith, size, c.requires.within)

pub returns : goal.returns
returns c =
    let lo = c.args.lo in
    let bytes = c.args.ram.now.bytes in
    let head = λ (b k : ℕ) (within : k < 8) (place : b ≡ lo + 4 * k). long-read 8 lo b k bytes c.read_longs.new.to c.read_longs.ensures within place in
    let kind = kind-is lo bytes c.read_longs.new.to c.of_code.result c.unwrap-kind.result c.read_longs.ensures c.of_code.ensures c.unwrap-kind.ensures in
    let caller = c.read_file.ensures ∙ ap (λ set. file_at set (lo + 32) bytes) (c.caller.ensures ∙ ap caller_isa kind) in
    let info = head (lo + 8) 2 (omega arith) (omega arith) in
    let selector = head (lo + 12) 3 (omega arith) (omega arith) in
    let target = head (lo + 16) 4 (omega arith) (omega arith) in
    let hi = head (lo + 20) 5 (omega arith) (omega arith) in
    let want = head (lo + 24) 6 (omega arith) (omega arith) in
    let depth = head (lo + 28) 7 (omega arith) (omega arith) in
    λ i. record { kind = kind i; caller = caller i; info = info i; selector = selector i; target = target i; lo = lo; hi = hi i; want_sp = want i; depth = depth i }
