-- What a flat instruction means.
-- Our choice: one name for each instruction that computes, branches or loads, in place of one for a format and another for what it does; and names of their
-- own for those whose result goes to x0, so nowhere.
use Rattle.instruction_model.specs.declared.Comparison.TheVariants as comparison
use Rattle.instruction_model.specs.declared.LoadKind.TheVariants as kind
use Rattle.instruction_model.specs.declared.Operation.TheVariants as operation
use Rattle.instruction_model.specs.declared.Instruction.{Instruction}
use Rattle.instruction_model.specs.declared.Instruction.TheVariants as plain
use Rattle.rv_exec.specs.declared.flat.FlatInstruction.{FlatInstruction}
use Rattle.rv_exec.specs.declared.flat.FlatInstruction.TheVariants as flat

abbrev pub meaning : FlatInstruction → Instruction
meaning (flat.Lui r v) = plain.Lui r v
meaning (flat.Auipc r v) = plain.Auipc r v
meaning (flat.Jal r v) = plain.Jal r v
meaning (flat.J v) = plain.Jal 0 v
meaning (flat.Jalr r a v) = plain.Jalr r a v
meaning (flat.Jr a v) = plain.Jalr 0 a v
meaning (flat.Beq a b v) = plain.Branch comparison.Beq a b v
meaning (flat.Bne a b v) = plain.Branch comparison.Bne a b v
meaning (flat.Blt a b v) = plain.Branch comparison.Blt a b v
meaning (flat.Bge a b v) = plain.Branch comparison.Bge a b v
meaning (flat.Bltu a b v) = plain.Branch comparison.Bltu a b v
meaning (flat.Bgeu a b v) = plain.Branch comparison.Bgeu a b v
meaning (flat.Lb r a v) = plain.Load kind.Lb r a v
meaning (flat.Lh r a v) = plain.Load kind.Lh r a v
meaning (flat.Lw r a v) = plain.Load kind.Lw r a v
meaning (flat.Lbu r a v) = plain.Load kind.Lbu r a v
meaning (flat.Lhu r a v) = plain.Load kind.Lhu r a v
meaning (flat.Store a b w v) = plain.Store w a b v
meaning (flat.Addi r a v) = plain.OperateImmediate operation.Add r a v
meaning (flat.Slli r a v) = plain.OperateImmediate operation.Sll r a v
meaning (flat.Slti r a v) = plain.OperateImmediate operation.Slt r a v
meaning (flat.Sltiu r a v) = plain.OperateImmediate operation.Sltu r a v
meaning (flat.Xori r a v) = plain.OperateImmediate operation.Xor r a v
meaning (flat.Srli r a v) = plain.OperateImmediate operation.Srl r a v
meaning (flat.Srai r a v) = plain.OperateImmediate operation.Sra r a v
meaning (flat.Ori r a v) = plain.OperateImmediate operation.Or r a v
meaning (flat.Andi r a v) = plain.OperateImmediate operation.And r a v
meaning (flat.Add r a b) = plain.Operate operation.Add r a b
meaning (flat.Sub r a b) = plain.Operate operation.Sub r a b
meaning (flat.Sll r a b) = plain.Operate operation.Sll r a b
meaning (flat.Slt r a b) = plain.Operate operation.Slt r a b
meaning (flat.Sltu r a b) = plain.Operate operation.Sltu r a b
meaning (flat.Xor r a b) = plain.Operate operation.Xor r a b
meaning (flat.Srl r a b) = plain.Operate operation.Srl r a b
meaning (flat.Sra r a b) = plain.Operate operation.Sra r a b
meaning (flat.Or r a b) = plain.Operate operation.Or r a b
meaning (flat.And r a b) = plain.Operate operation.And r a b
meaning (flat.DiscardLui v) = plain.Lui 0 v
meaning (flat.DiscardAuipc v) = plain.Auipc 0 v
meaning (flat.DiscardLoad k a v) = plain.Load k 0 a v
meaning (flat.DiscardImmediate o a v) = plain.OperateImmediate o 0 a v
meaning (flat.DiscardOperation o a b) = plain.Operate o 0 a b
meaning flat.Fence = plain.Fence
meaning flat.Ecall = plain.Ecall
meaning flat.Ebreak = plain.Ebreak
