-- What a function begins with and how it returns, and what stands before a branch.
use Rattle.std.specs.Prelude.{ℕ, pos, ◌-◌, List, [], ◌∷◌, ◌++◌}
use Rattle.bk_arm_isa.specs.declared.Condition.TheVariants.{Al, Cs}
use Rattle.bk_arm_isa.specs.declared.DataOp.TheVariants.{Add, Sub}
use Rattle.bk_arm_isa.specs.declared.TestOp.TheVariants.{Tst, Cmp}
use Rattle.bk_arm_isa.specs.declared.Inst.{Inst}
use Rattle.bk_arm_isa.specs.declared.Inst.TheVariants as i
use Rattle.bk_arm_emit.specs.Insts.{plain, byte, compute, test, copy, skip, number, trap}
use Rattle.bk_arm_emit.specs.Words.{load_by, store_by}

-- r11 is where the stack pointer goes: trap 5 where it is below the bound, else it goes there
abbrev pub guard : List Inst
guard =
    compute Sub 11 13 (plain 11) ∷ test Cmp 11 (plain 10) ∷ skip Cs ∷ trap (pos 5) ∷ copy 13 (plain 11) ∷ []

-- trap 5 where the frame exceeds the stack that is left, else the frame is made and the return address saved
abbrev pub entry : ℕ → List Inst
entry f = number 11 f ++ (guard ++ store_by 11 14 (f - 4))

-- the frame is given back, and the function returns
abbrev pub back : List Inst
back = compute Add 13 13 (plain 11) ∷ i.Bx Al 14 ∷ []

-- the return address is loaded, the frame given back, and the function returns
abbrev pub leave : ℕ → List Inst
leave f = load_by 11 14 (f - 4) ++ (number 11 f ++ back)

abbrev pub copy_to : ℕ → ℕ → List Inst
copy_to d a = copy d (plain a) ∷ []

-- the low bit of a register is tested
abbrev pub bit_test : ℕ → List Inst
bit_test control = test Tst control (byte 1) ∷ []
