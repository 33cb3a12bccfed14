use Rattle.m68_ea.specs.Words.{words_at}
use Rattle.mix_reach.proofs.Quick68.{changes_Ori, changes_Andi, changes_Subi, changes_Addi, changes_Eori, changes_Cmpi, linked_by, changes_AddToMemory, changes_Addq, changes_AndToMemory, changes_Clr, changes_Eor, changes_Neg, changes_Negx, changes_Not, changes_OrToMemory, changes_SubToMemory, changes_Subq, moves_MoveByte, moves_MoveLong, moves_MoveWord, saves_by}
use Rattle.mix_reach.proofs.quick.storing.Goals as goal

pub returns-in-MoveByte : goal.returns-in-MoveByte
returns-in-MoveByte c = moves_MoveByte c.args.regs.now (words_at c.args.ram.now c.args.regs.now.pc) c.args.word c.args.op c.moved.result c.requires c.in-MoveByte.is c.moved.ensures

pub returns-in-MoveWord : goal.returns-in-MoveWord
returns-in-MoveWord c = moves_MoveWord c.args.regs.now (words_at c.args.ram.now c.args.regs.now.pc) c.args.word c.args.op c.moved-in-MoveWord.result c.requires c.in-MoveWord.is c.moved-in-MoveWord.ensures

pub returns-in-MoveLong : goal.returns-in-MoveLong
returns-in-MoveLong c = moves_MoveLong c.args.regs.now (words_at c.args.ram.now c.args.regs.now.pc) c.args.word c.args.op c.moved-in-MoveLong.result c.requires c.in-MoveLong.is c.moved-in-MoveLong.ensures

pub returns-in-Negx : goal.returns-in-Negx
returns-in-Negx c = changes_Negx c.args.regs.now (words_at c.args.ram.now c.args.regs.now.pc) c.args.word c.args.op c.changed.result c.requires c.in-Negx.is c.changed.ensures

pub returns-in-Clr : goal.returns-in-Clr
returns-in-Clr c = changes_Clr c.args.regs.now (words_at c.args.ram.now c.args.regs.now.pc) c.args.word c.args.op c.changed-in-Clr.result c.requires c.in-Clr.is c.changed-in-Clr.ensures

pub returns-in-Neg : goal.returns-in-Neg
returns-in-Neg c = changes_Neg c.args.regs.now (words_at c.args.ram.now c.args.regs.now.pc) c.args.word c.args.op c.changed-in-Neg.result c.requires c.in-Neg.is c.changed-in-Neg.ensures

pub returns-in-Not : goal.returns-in-Not
returns-in-Not c = changes_Not c.args.regs.now (words_at c.args.ram.now c.args.regs.now.pc) c.args.word c.args.op c.changed-in-Not.result c.requires c.in-Not.is c.changed-in-Not.ensures

pub returns-in-Addq : goal.returns-in-Addq
returns-in-Addq c = changes_Addq c.args.regs.now (words_at c.args.ram.now c.args.regs.now.pc) c.args.word c.args.op c.changed-in-Addq.result c.requires c.in-Addq.is c.changed-in-Addq.ensures

pub returns-in-Subq : goal.returns-in-Subq
returns-in-Subq c = changes_Subq c.args.regs.now (words_at c.args.ram.now c.args.regs.now.pc) c.args.word c.args.op c.changed-in-Subq.result c.requires c.in-Subq.is c.changed-in-Subq.ensures

pub returns-in-OrToMemory : goal.returns-in-OrToMemory
returns-in-OrToMemory c = changes_OrToMemory c.args.regs.now (words_at c.args.ram.now c.args.regs.now.pc) c.args.word c.args.op c.changed-in-OrToMemory.result c.requires c.in-OrToMemory.is c.changed-in-OrToMemory.ensures

pub returns-in-SubToMemory : goal.returns-in-SubToMemory
returns-in-SubToMemory c = changes_SubToMemory c.args.regs.now (words_at c.args.ram.now c.args.regs.now.pc) c.args.word c.args.op c.changed-in-SubToMemory.result c.requires c.in-SubToMemory.is c.changed-in-SubToMemory.ensures

pub returns-in-Eor : goal.returns-in-Eor
returns-in-Eor c = changes_Eor c.args.regs.now (words_at c.args.ram.now c.args.regs.now.pc) c.args.word c.args.op c.changed-in-Eor.result c.requires c.in-Eor.is c.changed-in-Eor.ensures

pub returns-in-AndToMemory : goal.returns-in-AndToMemory
returns-in-AndToMemory c = changes_AndToMemory c.args.regs.now (words_at c.args.ram.now c.args.regs.now.pc) c.args.word c.args.op c.changed-in-AndToMemory.result c.requires c.in-AndToMemory.is c.changed-in-AndToMemory.ensures

pub returns-in-AddToMemory : goal.returns-in-AddToMemory
returns-in-AddToMemory c = changes_AddToMemory c.args.regs.now (words_at c.args.ram.now c.args.regs.now.pc) c.args.word c.args.op c.changed-in-AddToMemory.result c.requires c.in-AddToMemory.is c.changed-in-AddToMemory.ensures

pub returns-in-MovemToMemory : goal.returns-in-MovemToMemory
returns-in-MovemToMemory c = saves_by c.args.regs.now (words_at c.args.ram.now c.args.regs.now.pc) c.args.word c.args.op c.saved.result c.requires c.in-MovemToMemory.is c.saved.ensures

pub returns-in-Ori : goal.returns-in-Ori
returns-in-Ori c = changes_Ori c.args.regs.now (words_at c.args.ram.now c.args.regs.now.pc) c.args.word c.args.op c.changed_by.result c.requires c.in-Ori.is c.changed_by.ensures

pub returns-in-Andi : goal.returns-in-Andi
returns-in-Andi c = changes_Andi c.args.regs.now (words_at c.args.ram.now c.args.regs.now.pc) c.args.word c.args.op c.changed_by-in-Andi.result c.requires c.in-Andi.is c.changed_by-in-Andi.ensures

pub returns-in-Subi : goal.returns-in-Subi
returns-in-Subi c = changes_Subi c.args.regs.now (words_at c.args.ram.now c.args.regs.now.pc) c.args.word c.args.op c.changed_by-in-Subi.result c.requires c.in-Subi.is c.changed_by-in-Subi.ensures

pub returns-in-Addi : goal.returns-in-Addi
returns-in-Addi c = changes_Addi c.args.regs.now (words_at c.args.ram.now c.args.regs.now.pc) c.args.word c.args.op c.changed_by-in-Addi.result c.requires c.in-Addi.is c.changed_by-in-Addi.ensures

pub returns-in-Eori : goal.returns-in-Eori
returns-in-Eori c = changes_Eori c.args.regs.now (words_at c.args.ram.now c.args.regs.now.pc) c.args.word c.args.op c.changed_by-in-Eori.result c.requires c.in-Eori.is c.changed_by-in-Eori.ensures

pub returns-in-Cmpi : goal.returns-in-Cmpi
returns-in-Cmpi c = changes_Cmpi c.args.regs.now (words_at c.args.ram.now c.args.regs.now.pc) c.args.word c.args.op c.changed_by-in-Cmpi.result c.requires c.in-Cmpi.is c.changed_by-in-Cmpi.ensures

pub returns-in-Link : goal.returns-in-Link
returns-in-Link c = linked_by c.args.regs.now (words_at c.args.ram.now c.args.regs.now.pc) c.args.word c.args.op c.links.result c.requires c.in-Link.is c.links.ensures
