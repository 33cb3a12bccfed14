-- What the table does is what the rack did.
use Rattle.toolbox.proofs.Devices.{asked}
use Rattle.toolbox.proofs.perform.ask_device.Goals as goal

pub returns : goal.returns
returns g c = λ memory heap input out. asked c.laws.ensures c.args.operands memory heap input out _ _ c.ask-answer.result c.ask-answer.ensures
