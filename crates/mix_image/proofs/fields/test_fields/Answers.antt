use Rattle.std.proofs.Common.{◌≡◌, ◌+◌, ◌*◌, ◌≤◌, length, arith, ap, sym, ◌∙◌}
use Rattle.switch_frame.specs.Records.{isa_of}
use Rattle.mix_image.specs.Fields.{file_size}
use Rattle.mix_image.proofs.Tails.{active-within}
use Rattle.mix_image.proofs.fields.test_fields.Goals as goal

pub test_memory-requires-clause-place : goal.test_memory-requires-clause-place
test_memory-requires-clause-place c =
    let within : 36 + 8 * c.in_ok-head.head.count + 4 + 4 + file_size (isa_of c.in_ok-active.active) ≤ length c.args.bytes.now
    = active-within c.args.bytes.now (36 + 8 * c.in_ok-head.head.count + 4) c.in_ok-active.active (sym c.in_ok-active.ensures) in
    let size : c.file_size.result ≡ file_size (isa_of c.in_ok-active.active) = c.file_size.ensures ∙ ap file_size c.isa.ensures in
    omega (arith, within, size)
