-- The numbers of a function's values in one call of it.
--
-- Arguments, phis and the results of calls have their numbers from outside, and each state of memory has its data window.
-- Every other value has a number that follows from these, by recursion on its arguments.
use Rattle.std.specs.Prelude.{ℕ, zero, suc, ℤ, pos, negsuc, ◌+◌, ◌-◌, ◌%◌, ◌^◌, ◌==◌, Bool, true, false, ◌&&◌, if◌then◌else◌, List, [], ◌∷◌, length, map, flat_map, find, slice_get, slice_index, Option, Some, None, unwrap_or, option_map}
use Rattle.std.specs.List.{last_or}
use Rattle.bk_num.specs.Word.{signed, residue}
use Rattle.bk_num.specs.Memory.{data_base}
use Rattle.bk_ops.specs.Table.{info_of}
use Rattle.bk_ops.specs.Types.{word_width, width_of, size_of_ty}
use Rattle.bk_ops.specs.Memory.{number_at}
use Rattle.bk_ops.specs.Values.{op_value}
use Rattle.bk_ops.specs.declared.family.Family.{Family}
use Rattle.bk_ops.specs.declared.family.Family.TheVariants as op
use Rattle.bk_ops.specs.declared.family.ArmOp.TheVariants as arm
use Rattle.bk_ops.specs.declared.family.RvOp.TheVariants as rv
use Rattle.bk_ops.specs.declared.table.Op.{Op}
use Rattle.bk_ops.specs.declared.types.Target.{Target}
use Rattle.bk_ops.specs.declared.types.Ty.{Ty}
use Rattle.bk_ops.specs.declared.types.Ty.TheVariants.{Bool as Truth, Mem}
use Rattle.bk_func.specs.declared.parts.Aux.{Aux}
use Rattle.bk_func.specs.declared.parts.Aux.TheVariants as beside
use Rattle.bk_func.specs.Records.{ValueRecord, FuncRecord, VarRecord, PackageRecord}
use Rattle.bk_func.specs.Symbols.{symbol_of, sig_of}

-- what a run is of: a package, the machine, the places that the types of a signature take (one each, or one for each
-- machine word), and the bytes of each function's frame
pub record Program : Type 0 where
  pub pkg : PackageRecord
  pub target : Target
  pub places : List Ty → List Ty
  pub frames : List ℕ

-- what the numbers of a call's values follow from: the numbers in the places of its arguments, of phis by number of the phi,
-- the results of each call in it, and the data window at each state of memory, both by number of the value
pub record Env : Type 0 where
  pub args : List ℕ
  pub phis : ℕ → ℕ
  pub given : ℕ → List ℕ
  pub windows : ℕ → List ℕ

-- where the number of a value comes from
pub data Origin : Type 0 where
  phi : Origin
  argument : Origin
  argument_word : Origin
  result : Origin
  address : Origin
  loaded : Origin
  checked : Origin
  same : Origin
  computed : Origin

abbrev pub origin_of : Family → Origin
origin_of op.Phi = phi
origin_of op.Arg = argument
origin_of op.ArgWord = argument_word
origin_of op.ArgReg = argument_word
origin_of op.SelectN = result
origin_of op.ResWord = result
origin_of op.ResReg = result
origin_of op.Addr = address
origin_of (op.Arm arm.Addr) = address
origin_of (op.Rv rv.Addr) = address
origin_of op.Load = loaded
origin_of (op.Arm arm.Load) = loaded
origin_of (op.Rv rv.Load) = loaded
origin_of op.Copy = same
origin_of op.NilCheck = checked
origin_of (op.Arm arm.Nil) = checked
origin_of (op.Rv rv.Nil) = checked
origin_of _ = computed

abbrev pub values_of : FuncRecord → List ValueRecord
values_of f = flat_map (λ b. b.values) f.blocks

abbrev pub value_in : List ValueRecord → ℕ → Option ValueRecord
value_in vs id = find (λ v. v.id == id) vs

-- the value with this number
abbrev pub value_of : FuncRecord → ℕ → Option ValueRecord
value_of f id = value_in (values_of f) id

-- as many steps as a chain of arguments can have
abbrev pub room : FuncRecord → ℕ
room f = length (values_of f)

-- the number beside an op as a count, 0 where it is negative
abbrev pub natural : ℤ → ℕ
natural (pos n) = n
natural (negsuc n) = 0

-- memory

abbrev pub is_mem : Ty → Bool
is_mem Mem = true
is_mem _ = false

abbrev pub is_copy : Family → Bool
is_copy op.Copy = true
is_copy _ = false

abbrev pub is_memory_copy : ValueRecord → Bool
is_memory_copy v = is_copy v.op.family && is_mem v.ty

-- the memory that a number stands for: a copy of memory stands for what it copies
abbrev pub copied : Option ValueRecord → (ℕ → ℕ) → ℕ → ℕ
copied None next id = id
copied (Some v) next id = if is_memory_copy v then next (slice_index v.args 0) else id

abbrev pub memory_at : ℕ → FuncRecord → ℕ → ℕ
memory_at zero f id = id
memory_at (suc k) f id = copied (value_of f id) (memory_at k f) id

-- the argument that names memory: of a result its call, of an op with memory the last
abbrev pub memory_arg : Origin → ValueRecord → Option ℕ
memory_arg result v = slice_get v.args 0
memory_arg _ v = if (info_of v.op).memory then last_or None v.args else None

-- the state of memory that a value names
abbrev pub state_of : FuncRecord → ValueRecord → Option ℕ
state_of f v = option_map (memory_at (room f) f) (memory_arg (origin_of v.op.family) v)

-- the address that a load or a store is at: its first argument and the number beside it
abbrev pub address_by : Target → ValueRecord → (ℕ → ℕ) → ℕ
address_by t v m = (m (slice_index v.args 0) + residue (word_width t) v.int) % 2 ^ word_width t

-- how many bytes a load reads
abbrev pub load_size : Target → Ty → Op → Family → ℕ
load_size t ty o op.Load = size_of_ty ty t
load_size t ty o _ = o.a

-- the number that a load makes of the bytes' number: of a bool the low bit, and RVLOAD4 keeps the sign
abbrev pub is_truth : Ty → Bool
is_truth Truth = true
is_truth _ = false

abbrev pub made_of : Family → Ty → ℕ → ℕ → ℕ
made_of op.Load ty size n = if is_truth ty then n % 2 else n
made_of (op.Rv rv.Load) ty size n = if size == 4 then residue 64 (signed 32 n) else n
made_of _ ty size n = n

-- the bytes' number at the address of a load, 0 where they are not in the window
abbrev pub read_at : Target → ValueRecord → List ℕ → ℕ → ℕ
read_at t v window a = unwrap_or (number_at window (load_size t v.ty v.op v.op.family) a) 0

-- addresses of variables

-- where a variable begins that comes after others: each begins at a multiple of 8
abbrev pub rounded : ℕ → ℕ
rounded n = n + (8 - n % 8) % 8

abbrev pub place_of_var : ℕ → List VarRecord → ℕ → ℕ
place_of_var s [] n = n
place_of_var s (x ∷ xs) n = if x.name == s then n else place_of_var s xs (rounded (n + x.size))

abbrev pub address_of : PackageRecord → Aux → ℕ
address_of p (beside.Sym s) = place_of_var s p.vars data_base
address_of p _ = 0

abbrev pub place_of_arg : Aux → ℕ
place_of_arg (beside.Arg k) = k
place_of_arg _ = 0

-- the function that the call names whose result the value is
abbrev pub callee_of_some : Option ValueRecord → ℕ
callee_of_some None = 0
callee_of_some (Some c) = symbol_of c.aux

abbrev pub callee_of : FuncRecord → ValueRecord → ℕ
callee_of f v = callee_of_some (value_of f (slice_index v.args 0))

-- which result of its call the value is: a word is counted from the first of the arguments on
abbrev pub result_place : Family → Program → FuncRecord → ValueRecord → ℕ
result_place op.ResWord p f v = natural v.int - length (p.places (sig_of p.pkg (callee_of f v)).args)
result_place _ p f v = natural v.int

-- a result is cut to its type; a word is passed whole
abbrev pub cut_result : Family → Target → Ty → ℕ → ℕ
cut_result op.SelectN t ty n = n % 2 ^ width_of ty t
cut_result _ t ty n = n

-- the number of a value, where m has those of its arguments
abbrev pub number_by : Origin → Program → FuncRecord → Env → (ℕ → ℕ) → ValueRecord → ℕ
number_by phi p f e m v = e.phis v.id
number_by argument p f e m v = slice_index e.args (place_of_arg v.aux) % 2 ^ width_of v.ty p.target
number_by argument_word p f e m v = slice_index e.args (natural v.int)
number_by result p f e m v =
    cut_result v.op.family p.target v.ty (slice_index (e.given (slice_index v.args 0)) (result_place v.op.family p f v))
number_by address p f e m v = address_of p.pkg v.aux
number_by loaded p f e m v =
    made_of v.op.family v.ty v.op.a (read_at p.target v (e.windows (unwrap_or (state_of f v) 0)) (address_by p.target v m))
number_by checked p f e m v = m (slice_index v.args 0)
number_by same p f e m v = m (slice_index v.args 0)
number_by computed p f e m v = unwrap_or (op_value v.op v.int (map m v.args) p.target) 0

abbrev pub number_of : Option ValueRecord → Program → FuncRecord → Env → (ℕ → ℕ) → ℕ
number_of None p f e m = 0
number_of (Some v) p f e m = number_by (origin_of v.op.family) p f e m v

-- the numbers, going at most k arguments deep
abbrev pub number : ℕ → Program → FuncRecord → Env → ℕ → ℕ
number zero p f e id = 0
number (suc k) p f e id = number_of (value_of f id) p f e (number k p f e)

-- the numbers of a call's values
abbrev pub numbers : Program → FuncRecord → Env → ℕ → ℕ
numbers p f e = number (room f) p f e
