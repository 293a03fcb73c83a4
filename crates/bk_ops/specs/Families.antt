-- Families that are alike.
use Rattle.std.specs.Prelude.{Bool, true, false}
use Rattle.bk_ops.specs.declared.family.Family.{Family}
use Rattle.bk_ops.specs.declared.family.Family.TheVariants.{Phi, Copy, NilCheck, Load, Addr, StaticLECall, Call, CallRegs, SelectN, ResWord, ResReg, Arm, Rv}
use Rattle.bk_ops.specs.declared.family.ArmOp.TheVariants as arm
use Rattle.bk_ops.specs.declared.family.RvOp.TheVariants as rv

-- the value of the edge that was taken
abbrev pub is_phi : Family → Bool
is_phi Phi = true
is_phi _ = false

-- the value of its argument
abbrev pub is_copy : Family → Bool
is_copy Copy = true
is_copy _ = false

-- a check that an address is not nil
abbrev pub is_nil_check : Family → Bool
is_nil_check NilCheck = true
is_nil_check (Arm arm.Nil) = true
is_nil_check (Rv rv.Nil) = true
is_nil_check _ = false

-- a read of memory
abbrev pub is_load : Family → Bool
is_load Load = true
is_load (Arm arm.Load) = true
is_load (Rv rv.Load) = true
is_load _ = false

-- the address of a variable
abbrev pub is_address : Family → Bool
is_address Addr = true
is_address (Arm arm.Addr) = true
is_address (Rv rv.Addr) = true
is_address _ = false

-- a call of a function
abbrev pub is_call : Family → Bool
is_call StaticLECall = true
is_call Call = true
is_call CallRegs = true
is_call _ = false

-- a call of a function whose arguments are machine words
abbrev pub is_word_call : Family → Bool
is_word_call Call = true
is_word_call CallRegs = true
is_word_call _ = false

-- a result of a call
abbrev pub is_call_result : Family → Bool
is_call_result SelectN = true
is_call_result ResWord = true
is_call_result ResReg = true
is_call_result _ = false

-- a machine word of the results of a call
abbrev pub is_word_result : Family → Bool
is_word_result ResWord = true
is_word_result ResReg = true
is_word_result _ = false
