-- What a function performs is what the call answers.
use Rattle.std.proofs.Common.{refl, sym, ap, ◌∙◌, None}
use Rattle.big_memory.specs.Faults.{fault_of}
use Rattle.toolbox.specs.Effects.{results_of}
use Rattle.toolbox.specs.Registers.{answered}
use Rattle.toolbox.specs.Host.Hosted.{Stops}
use Rattle.toolbox.proofs.Ends.{goes_blames, puts_blames, puts_left, reads_blames, reads_left, stays_blames, stays_left}
use Rattle.toolbox.proofs.Puts.{counts}
use Rattle.toolbox.proofs.Settled.{goes, stays, cannot_read, cannot_put}
use Rattle.toolbox.proofs.call.host_call.Goals as goal

pub returns-in-Given-clause-does : goal.returns-in-Given-clause-does
returns-in-Given-clause-does g c =
    goes c.args.index c.args.active.now _ c.at-function.result c.operands_of-operands.result c.in-Given.results None _ _
    (record { function = c.at-function.ensures; operands = c.operands_of-operands.ensures }) c.settle.ensures c.in-Given.ensures.does

pub returns-in-Asked-clause-does : goal.returns-in-Asked-clause-does
returns-in-Asked-clause-does g c =
    goes c.args.index c.args.active.now _ c.at-function.result c.operands_of-operands.result (results_of c.in-Asked.answer) _ _ _
    (record { function = c.at-function.ensures; operands = c.operands_of-operands.ensures })
    (c.settle-in-Asked.ensures ∙ ap (λ x. answered c.at-function.result x c.args.active.now) c.of_ask.ensures) c.in-Asked.ensures.does

pub returns-in-Crossed-clause-does : goal.returns-in-Crossed-clause-does
returns-in-Crossed-clause-does g c = (
  stays c.args.index c.args.active.now c.at-function.result c.operands_of-operands.result _ _ _ _
      (record { function = c.at-function.ensures; operands = c.operands_of-operands.ensures }) refl c.in-Crossed.ensures.does,
  refl,
)

pub returns-in-Left-clause-does : goal.returns-in-Left-clause-does
returns-in-Left-clause-does g c = (
  stays c.args.index c.args.active.now c.at-function.result c.operands_of-operands.result _ _ _ _
      (record { function = c.at-function.ensures; operands = c.operands_of-operands.ensures }) refl c.in-Left.ensures.does,
  refl,
)

pub returns-in-Refused-clause-does : goal.returns-in-Refused-clause-does
returns-in-Refused-clause-does g c = (
  stays c.args.index c.args.active.now c.at-function.result c.operands_of-operands.result _ _ _ _
      (record { function = c.at-function.ensures; operands = c.operands_of-operands.ensures })
      (ap Stops (ap (λ pc. fault_of pc c.in-Refused.access) (sym c.pc.ensures) ∙ sym c.fault.ensures)) c.in-Refused.ensures.does,
  refl,
)

pub returns-in-ReadFault-clause-does : goal.returns-in-ReadFault-clause-does
returns-in-ReadFault-clause-does g c = (
  cannot_read c.args.index c.args.active.now c.at-function.result c.operands_of-operands.result _ _
      (record { function = c.at-function.ensures; operands = c.operands_of-operands.ensures }) c.in-ReadFault.ensures.does,
  refl,
)

pub returns-in-OutFault-clause-does : goal.returns-in-OutFault-clause-does
returns-in-OutFault-clause-does g c = (
  cannot_put c.args.index c.args.active.now c.at-function.result c.operands_of-operands.result _ _
      (record { function = c.at-function.ensures; operands = c.operands_of-operands.ensures }) c.in-OutFault.ensures.does,
  refl,
)

pub returns-in-Given-clause-count : goal.returns-in-Given-clause-count
returns-in-Given-clause-count g c = λ around. counts c.args.index c.args.active.now c.at-function.result c.operands_of-operands.result _ _ _
    (record { function = c.at-function.ensures; operands = c.operands_of-operands.ensures }) c.perform.ensures.count

pub returns-in-Asked-clause-count : goal.returns-in-Asked-clause-count
returns-in-Asked-clause-count g c = λ around. counts c.args.index c.args.active.now c.at-function.result c.operands_of-operands.result _ _ _
    (record { function = c.at-function.ensures; operands = c.operands_of-operands.ensures }) c.perform.ensures.count

pub returns-in-Crossed-clause-count : goal.returns-in-Crossed-clause-count
returns-in-Crossed-clause-count g c = λ around. counts c.args.index c.args.active.now c.at-function.result c.operands_of-operands.result _ _ _
    (record { function = c.at-function.ensures; operands = c.operands_of-operands.ensures }) c.perform.ensures.count

pub returns-in-Left-clause-count : goal.returns-in-Left-clause-count
returns-in-Left-clause-count g c = λ around. counts c.args.index c.args.active.now c.at-function.result c.operands_of-operands.result _ _ _
    (record { function = c.at-function.ensures; operands = c.operands_of-operands.ensures }) c.perform.ensures.count

pub returns-in-Refused-clause-count : goal.returns-in-Refused-clause-count
returns-in-Refused-clause-count g c = λ around. counts c.args.index c.args.active.now c.at-function.result c.operands_of-operands.result _ _ _
    (record { function = c.at-function.ensures; operands = c.operands_of-operands.ensures }) c.perform.ensures.count

pub returns-in-ReadFault-clause-count : goal.returns-in-ReadFault-clause-count
returns-in-ReadFault-clause-count g c = λ around. counts c.args.index c.args.active.now c.at-function.result c.operands_of-operands.result _ _ _
    (record { function = c.at-function.ensures; operands = c.operands_of-operands.ensures }) c.perform.ensures.count

pub returns-in-OutFault-clause-count : goal.returns-in-OutFault-clause-count
returns-in-OutFault-clause-count g c = λ around. counts c.args.index c.args.active.now c.at-function.result c.operands_of-operands.result _ _ _
    (record { function = c.at-function.ensures; operands = c.operands_of-operands.ensures }) c.perform.ensures.count

pub returns-in-Given-clause-blames : goal.returns-in-Given-clause-blames
returns-in-Given-clause-blames g c = goes_blames _ _ _ _ _ c.in-Given.ensures.does

pub returns-in-Given-clause-devices : goal.returns-in-Given-clause-devices
returns-in-Given-clause-devices g c = c.in-Given.ensures.does.devices

pub returns-in-Given-clause-bounds : goal.returns-in-Given-clause-bounds
returns-in-Given-clause-bounds g c = c.in-Given.ensures.does.bounds

pub returns-in-Given-clause-free : goal.returns-in-Given-clause-free
returns-in-Given-clause-free g c = c.in-Given.ensures.does.free

pub returns-in-Asked-clause-blames : goal.returns-in-Asked-clause-blames
returns-in-Asked-clause-blames g c = goes_blames _ _ _ _ _ c.in-Asked.ensures.does

pub returns-in-Asked-clause-devices : goal.returns-in-Asked-clause-devices
returns-in-Asked-clause-devices g c = c.in-Asked.ensures.does.devices

pub returns-in-Asked-clause-bounds : goal.returns-in-Asked-clause-bounds
returns-in-Asked-clause-bounds g c = c.in-Asked.ensures.does.bounds

pub returns-in-Asked-clause-free : goal.returns-in-Asked-clause-free
returns-in-Asked-clause-free g c = c.in-Asked.ensures.does.free

pub returns-in-Crossed-clause-blames : goal.returns-in-Crossed-clause-blames
returns-in-Crossed-clause-blames g c = stays_blames _ _ _ _ c.in-Crossed.ensures.does

pub returns-in-Crossed-clause-devices : goal.returns-in-Crossed-clause-devices
returns-in-Crossed-clause-devices g c = (stays_left c.laws.ensures _ _ _ _ c.in-Crossed.ensures.does).devices

pub returns-in-Crossed-clause-bounds : goal.returns-in-Crossed-clause-bounds
returns-in-Crossed-clause-bounds g c = (stays_left c.laws.ensures _ _ _ _ c.in-Crossed.ensures.does).bounds

pub returns-in-Crossed-clause-free : goal.returns-in-Crossed-clause-free
returns-in-Crossed-clause-free g c = (stays_left c.laws.ensures _ _ _ _ c.in-Crossed.ensures.does).free

pub returns-in-Left-clause-blames : goal.returns-in-Left-clause-blames
returns-in-Left-clause-blames g c = stays_blames _ _ _ _ c.in-Left.ensures.does

pub returns-in-Left-clause-devices : goal.returns-in-Left-clause-devices
returns-in-Left-clause-devices g c = (stays_left c.laws.ensures _ _ _ _ c.in-Left.ensures.does).devices

pub returns-in-Left-clause-bounds : goal.returns-in-Left-clause-bounds
returns-in-Left-clause-bounds g c = (stays_left c.laws.ensures _ _ _ _ c.in-Left.ensures.does).bounds

pub returns-in-Left-clause-free : goal.returns-in-Left-clause-free
returns-in-Left-clause-free g c = (stays_left c.laws.ensures _ _ _ _ c.in-Left.ensures.does).free

pub returns-in-Refused-clause-blames : goal.returns-in-Refused-clause-blames
returns-in-Refused-clause-blames g c = stays_blames _ _ _ _ c.in-Refused.ensures.does

pub returns-in-Refused-clause-devices : goal.returns-in-Refused-clause-devices
returns-in-Refused-clause-devices g c = (stays_left c.laws.ensures _ _ _ _ c.in-Refused.ensures.does).devices

pub returns-in-Refused-clause-bounds : goal.returns-in-Refused-clause-bounds
returns-in-Refused-clause-bounds g c = (stays_left c.laws.ensures _ _ _ _ c.in-Refused.ensures.does).bounds

pub returns-in-Refused-clause-free : goal.returns-in-Refused-clause-free
returns-in-Refused-clause-free g c = (stays_left c.laws.ensures _ _ _ _ c.in-Refused.ensures.does).free

pub returns-in-ReadFault-clause-blames : goal.returns-in-ReadFault-clause-blames
returns-in-ReadFault-clause-blames g c = reads_blames _ _ _ _ c.in-ReadFault.ensures.does

pub returns-in-ReadFault-clause-devices : goal.returns-in-ReadFault-clause-devices
returns-in-ReadFault-clause-devices g c = (reads_left c.laws.ensures _ _ _ _ c.in-ReadFault.ensures.does).devices

pub returns-in-ReadFault-clause-bounds : goal.returns-in-ReadFault-clause-bounds
returns-in-ReadFault-clause-bounds g c = (reads_left c.laws.ensures _ _ _ _ c.in-ReadFault.ensures.does).bounds

pub returns-in-ReadFault-clause-free : goal.returns-in-ReadFault-clause-free
returns-in-ReadFault-clause-free g c = (reads_left c.laws.ensures _ _ _ _ c.in-ReadFault.ensures.does).free

pub returns-in-OutFault-clause-blames : goal.returns-in-OutFault-clause-blames
returns-in-OutFault-clause-blames g c = puts_blames _ _ _ _ c.in-OutFault.ensures.does

pub returns-in-OutFault-clause-devices : goal.returns-in-OutFault-clause-devices
returns-in-OutFault-clause-devices g c = (puts_left c.laws.ensures _ _ _ _ c.in-OutFault.ensures.does).devices

pub returns-in-OutFault-clause-bounds : goal.returns-in-OutFault-clause-bounds
returns-in-OutFault-clause-bounds g c = (puts_left c.laws.ensures _ _ _ _ c.in-OutFault.ensures.does).bounds

pub returns-in-OutFault-clause-free : goal.returns-in-OutFault-clause-free
returns-in-OutFault-clause-free g c = (puts_left c.laws.ensures _ _ _ _ c.in-OutFault.ensures.does).free
