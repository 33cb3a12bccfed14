use Rattle.std.proofs.Common.{◌≡◌, ◌∙◌, ap, sym}
use Rattle.switch_frame.specs.declared.active.Active.{Active}
use Rattle.mix_debug.specs.declared.head.Effect.{Effect}
use Rattle.mix_debug.specs.declared.head.Head.{Head}
use Rattle.mix_debug.specs.inner.Entries.{head_with, still}
use Rattle.mix_debug.proofs.past.Past.prepare.Goals as goal

pub returns-clause-past : goal.returns-clause-past
returns-clause-past c =
    let past = c.requires in
    record { heads = past.heads; spans = past.spans; olds = past.olds; all = past.all; spelled = past.spelled; room = past.room }

pub returns-clause-ready : goal.returns-clause-ready
returns-clause-ready c = ap (λ (h : Head). h.file) c.put_effect.ensures ∙ c.put_file.ensures

pub returns-clause-waits : goal.returns-clause-waits
returns-clause-waits c =
    c.put_effect.ensures ∙ ap (λ (e : Effect). head_with c.put_file.new.to e) c.still.ensures
    ∙ ap (λ (f : Active). head_with f (still c.args.top)) (sym (ap (λ (h : Head). h.file) c.put_effect.ensures))
