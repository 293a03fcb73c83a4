-- The types of values: their widths, their sizes in memory and their codes.
use Rattle.std.specs.Prelude.{ℕ, Option, Some, None}
use Rattle.bk_ops.specs.declared.types.Target.{Target}
use Rattle.bk_ops.specs.declared.types.Target.TheVariants.{Arm, Riscv64}
use Rattle.bk_ops.specs.declared.types.Ty.{Ty}
use Rattle.bk_ops.specs.declared.types.Ty.TheVariants.{Bool, Int8, Uint8, Int16, Uint16, Int32, Uint32, Int64, Uint64, Int, Uint, Uintptr, Ptr, Mem, Void, Tuple}

-- the bits of a machine word
abbrev pub word_width : Target → ℕ
word_width Arm = 32
word_width Riscv64 = 64

-- the bits of a value, 0 where it is no machine word
abbrev pub width_of : Ty → Target → ℕ
width_of Bool t = 1
width_of Int8 t = 8
width_of Uint8 t = 8
width_of Int16 t = 16
width_of Uint16 t = 16
width_of Int32 t = 32
width_of Uint32 t = 32
width_of Int64 t = 64
width_of Uint64 t = 64
width_of Int t = word_width t
width_of Uint t = word_width t
width_of Uintptr t = word_width t
width_of Ptr t = word_width t
width_of Mem t = 0
width_of Void t = 0
width_of Tuple t = 0

-- the bytes of a word in memory
abbrev pub word_size : Target → ℕ
word_size Arm = 4
word_size Riscv64 = 8

-- the bytes of a value in memory, 0 where it is no machine word
abbrev pub size_of_ty : Ty → Target → ℕ
size_of_ty Bool t = 1
size_of_ty Int8 t = 1
size_of_ty Uint8 t = 1
size_of_ty Int16 t = 2
size_of_ty Uint16 t = 2
size_of_ty Int32 t = 4
size_of_ty Uint32 t = 4
size_of_ty Int64 t = 8
size_of_ty Uint64 t = 8
size_of_ty Int t = word_size t
size_of_ty Uint t = word_size t
size_of_ty Uintptr t = word_size t
size_of_ty Ptr t = word_size t
size_of_ty Mem t = 0
size_of_ty Void t = 0
size_of_ty Tuple t = 0

-- the code of a type in an object's list of signatures
abbrev pub code_of : Ty → Option ℕ
code_of Bool = Some 1
code_of Int8 = Some 2
code_of Uint8 = Some 3
code_of Int16 = Some 4
code_of Uint16 = Some 5
code_of Int32 = Some 6
code_of Uint32 = Some 7
code_of Int64 = Some 8
code_of Uint64 = Some 9
code_of Int = Some 10
code_of Uint = Some 11
code_of Uintptr = Some 12
code_of Ptr = Some 13
code_of Mem = None
code_of Void = None
code_of Tuple = None
