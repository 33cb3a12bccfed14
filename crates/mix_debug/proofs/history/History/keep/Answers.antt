use Rattle.std.proofs.Common.{◌≡◌, ◌==◌, ◌&&◌, Bool, true, false, length, ap, sym, subst, refl, ◌∙◌}
use Rattle.std.proofs.lemmas.Bool.{eqb-true}
use Rattle.mix_reach.specs.declared.reach.Reach.{Reach}
use Rattle.mix_reach.specs.laws.Ranges.{Beside}
use Rattle.mix_debug.proofs.Still.{stored_still}
use Rattle.mix_debug.proofs.history.History.keep.Goals as goal

parts : (a b : Bool) → (a && b) ≡ true → (a ≡ true) × (b ≡ true)
parts true true all = (refl, refl)
parts true false all = absurd (let e : false ≡ true = all in cc)
parts false b all = absurd (let e : false ≡ true = all in cc)

pub keep_stored-requires-clause-frames : goal.keep_stored-requires-clause-frames
keep_stored-requires-clause-frames c =
    let test = parts (c.args.machine.now.body.top == c.args.top) (length c.blocks-2.result.now == c.len.result) c.if-same_frames-same_blocks.true in
    eqb-true c.args.machine.now.body.top c.args.top test.0

pub keep_stored-requires-clause-blocks : goal.keep_stored-requires-clause-blocks
keep_stored-requires-clause-blocks c =
    let test = parts (c.args.machine.now.body.top == c.args.top) (length c.blocks-2.result.now == c.len.result) c.if-same_frames-same_blocks.true in
    let blocks = c.args.self.now.blocks.items in
    let news = c.args.machine.now.body.heap.blocks in
    let long : length news ≡ length blocks = ap length (sym c.blocks-2.ensures) ∙ eqb-true (length c.blocks-2.result.now) c.len.result test.1 ∙ c.len.ensures ∙ c.args.self.now.blocks.ok.0 in
    sym (c.requires.same_blocks long)

pub keep_stored-requires-clause-stored : goal.keep_stored-requires-clause-stored
keep_stored-requires-clause-stored c =
    let test = parts (c.args.machine.now.body.top == c.args.top) (length c.blocks-2.result.now == c.len.result) c.if-same_frames-same_blocks.true in
    let blocks = c.args.self.now.blocks.items in
    let news = c.args.machine.now.body.heap.blocks in
    let long : length news ≡ length blocks = ap length (sym c.blocks-2.ensures) ∙ eqb-true (length c.blocks-2.result.now) c.len.result test.1 ∙ c.len.ensures ∙ c.args.self.now.blocks.ok.0 in
    let tops : c.args.machine.now.body.top ≡ c.args.top = eqb-true c.args.machine.now.body.top c.args.top test.0 in
    subst (λ (w : Reach). Beside w c.args.self.now.copy.items c.args.machine.now.body.ram.bytes)
    (stored_still blocks news c.args.next.now c.args.top c.args.machine.now.body.top c.args.machine.now.active long tops) c.requires.stored
