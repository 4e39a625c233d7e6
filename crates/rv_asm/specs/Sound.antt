-- What statements that were read have.
-- Our choice: a restatement for proofs.
use Rattle.std.specs.Prelude.{◌+◌, ◌^◌, ◌≤◌, IfSome}
use Rattle.instruction_model.specs.Form.{HasFields, IsRegister}
use Rattle.instruction_model.specs.declared.Operation.{Operation}
use Rattle.instruction_model.specs.declared.Operation.TheVariants.{Add, Sub, Sll, Slt, Sltu, Xor, Srl, Sra, Or, And}
use Rattle.source_model.specs.declared.statement.Layout.{Layout}
use Rattle.source_model.specs.declared.mnemonic.Mnemonic.{Mnemonic}
use Rattle.source_model.specs.declared.mnemonic.Mnemonic.TheVariants as words
use Rattle.source_model.specs.declared.statement.Statement.{Statement}
use Rattle.source_model.specs.declared.statement.Statement.TheVariants.{Nothing, Plain, Branch, Jump, LoadImmediate, Segment, Dti2, Entry, Stack, Word, Byte, Zero}

-- an operation whose second number is one of twelve bits
abbrev pub HasNumber : Operation → Type 0
HasNumber Add = Unit {0}
HasNumber Sub = ⊥
HasNumber Sll = ⊥
HasNumber Slt = Unit {0}
HasNumber Sltu = Unit {0}
HasNumber Xor = Unit {0}
HasNumber Srl = ⊥
HasNumber Sra = ⊥
HasNumber Or = Unit {0}
HasNumber And = Unit {0}

abbrev pub IsShift : Operation → Type 0
IsShift Add = ⊥
IsShift Sub = ⊥
IsShift Sll = Unit {0}
IsShift Slt = ⊥
IsShift Sltu = ⊥
IsShift Xor = ⊥
IsShift Srl = Unit {0}
IsShift Sra = Unit {0}
IsShift Or = ⊥
IsShift And = ⊥

abbrev pub IsMnemonic : Mnemonic → Type 0
IsMnemonic (words.OperateImmediate o) = HasNumber o
IsMnemonic (words.ShiftImmediate o) = IsShift o
IsMnemonic (words.Alone i) = HasFields i
IsMnemonic m = Unit {0}

-- fields that its instruction can hold, and a count of zeros that was cut short
abbrev pub IsStatement : Statement → Type 0
IsStatement Nothing = Unit {0}
IsStatement (Plain i) = HasFields i
IsStatement (Branch c a b t) = IsRegister a × IsRegister b
IsStatement (Jump r t) = IsRegister r
IsStatement (LoadImmediate r v) = IsRegister r
IsStatement (Segment a p) = Unit {0}
IsStatement Dti2 = Unit {0}
IsStatement (Entry v) = Unit {0}
IsStatement (Stack v) = Unit {0}
IsStatement (Word v) = Unit {0}
IsStatement (Byte n) = Unit {0}
IsStatement (Zero n) = n ≤ 2 ^ 32 + 1

-- an address reached is at most the end of memory
abbrev pub IsNear : Layout → Type 0
IsNear here = IfSome here.reached (λ a. a ≤ 2 ^ 32)
