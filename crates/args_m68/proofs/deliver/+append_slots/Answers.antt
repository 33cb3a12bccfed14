-- One slot more, and how long it is.
use Rattle.args_m68.proofs.Handed.{c-slots, no-slots, pascal-slots, slots-long}
use Rattle.args_m68.proofs.deliver.+append_slots.Goals as goal

pub returns-in-PascalStack : goal.returns-in-PascalStack
returns-in-PascalStack t c =
    let bytes = pascal-slots c.args.route c.args.params.now c.args.values.now _ c.args.stack.now.items _ _ c.in-PascalStack.is c.in-len1-up.len_at_least c.in-len1-up-values.len_at_least c.append_slots.ensures.bytes c.append_packed.ensures.bytes in
    let long = slots-long _ _ _ _ _ c.requires.count bytes in
    record { bytes = bytes; longer = long.0; few = long.1 }

pub returns-in-CStack : goal.returns-in-CStack
returns-in-CStack t c =
    let bytes = c-slots c.args.route c.args.params.now c.args.values.now _ c.args.stack.now.items _ _ _ _ c.in-CStack.is c.in-len1-up.len_at_least c.in-len1-up-values.len_at_least c.trunc.ensures c.to_be_bytes.ensures c.append.ensures.is c.append_slots-in-CStack.ensures.bytes in
    let long = slots-long _ _ _ _ _ c.requires.count bytes in
    record { bytes = bytes; longer = long.0; few = long.1 }

pub returns-in-Registers : goal.returns-in-Registers
returns-in-Registers t c =
    let bytes = no-slots c.args.route c.args.params.now c.args.values.now c.args.stack.now.items c.in-Registers.is in
    let long = slots-long _ _ _ _ _ c.requires.count bytes in
    record { bytes = bytes; longer = long.0; few = long.1 }
