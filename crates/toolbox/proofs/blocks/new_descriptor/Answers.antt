-- A new block may be written.
use Rattle.std.proofs.Common.{rules, ◌≡◌, None, length, refl, subst}
use Rattle.big_memory.specs.Memory.{refusal, with_bytes}
use Rattle.routine_desc.specs.Build.{image}
use Rattle.toolbox.proofs.Free.{block_free, done}
use Rattle.toolbox.proofs.blocks.new_descriptor.Goals as goal

pub unwrap-requires : goal.unwrap-requires
unwrap-requires c =
    let m = c.args.ram.now in
    let bytes = image c.args.info c.args.m68k c.args.isa c.args.proc in
    let none : refusal m c.in-Some.address (length bytes) ≡ None =
    subst (λ n. refusal m c.in-Some.address n ≡ None) (c.image_size.ensures c.args.info c.args.isa c.args.proc)
    (block_free m c.args.heap.now c.image_size.result c.in-Some.address c.meets_invariant.ensures c.requires c.in-Some.ensures.place) in
    let all = done _ m (with_bytes c.in-Some.address bytes m) _ c.build.result _ none c.build.ensures.exact in
    rw (all.0) (search rules)

pub returns-in-Some-clause-free : goal.returns-in-Some-clause-free
returns-in-Some-clause-free c =
    let m = c.args.ram.now in
    let bytes = image c.args.info c.args.m68k c.args.isa c.args.proc in
    let none : refusal m c.in-Some.address (length bytes) ≡ None =
    subst (λ n. refusal m c.in-Some.address n ≡ None) (c.image_size.ensures c.args.info c.args.isa c.args.proc)
    (block_free m c.args.heap.now c.image_size.result c.in-Some.address c.meets_invariant.ensures c.requires c.in-Some.ensures.place) in
    let all = done _ m (with_bytes c.in-Some.address bytes m) _ c.build.result _ none c.build.ensures.exact in
    rw (all.1) (c.laws.ensures.stores m c.in-Some.address (length bytes) bytes refl c.meets_invariant.ensures none)
