-- The keys of a function's values and of the types of its signature.
use Rattle.std.specs.Prelude.{◌≢◌, ℤ, ◌+◌, ◌<◌, List, ◌++◌, flat_map, Option, Some, None, option_map, if◌then◌else◌, IsTrue}
use Rattle.std.specs.List.{filter_map, All}
use Rattle.bk_num.specs.Word.{residue, fits_signed}
use Rattle.bk_ops.specs.declared.family.ArmOp.TheVariants as arm
use Rattle.bk_ops.specs.declared.family.Family.{Family}
use Rattle.bk_ops.specs.declared.family.Family.TheVariants as op
use Rattle.bk_ops.specs.declared.family.RvOp.TheVariants as rv
use Rattle.bk_ops.specs.declared.types.Ty.{Ty}
use Rattle.bk_ops.specs.Types.{code_of}
use Rattle.bk_func.specs.declared.parts.Aux.{Aux}
use Rattle.bk_func.specs.declared.parts.Aux.TheVariants as aux
use Rattle.bk_func.specs.Records.{ValueRecord, BlockRecord, FuncRecord}
use Rattle.bk_piece.specs.declared.Key.{Key}
use Rattle.bk_piece.specs.Filled.{key_in}

-- a word of one of the three areas, which is not 0
abbrev pub IsKey : Key → Type 0
IsKey k = (k.area < 3) × (k.key ≢ 0)

-- the key of a symbol: the number of its name plus 1, in area 0
abbrev pub symbol_key : Aux → Option Key
symbol_key aux.Nothing = None
symbol_key (aux.Sym name) = Some (key_in 0 (name + 1))
symbol_key (aux.Ty t) = None
symbol_key (aux.Arg place) = None

-- the key of a constant that 32 bits with a sign don't hold: itself modulo 2 ^ 64, in area 2
abbrev pub constant_key : ℤ → Option Key
constant_key c = if fits_signed 32 c then None else Some (key_in 2 (residue 64 c))

-- the key of a type that stands for a machine word: its code, in area 1
abbrev pub type_key : Ty → Option Key
type_key t = option_map (key_in 1) (code_of t)

-- the values that have a key: addresses, calls, and on riscv64 constants
unfoldable pub op_key : Family → Aux → ℤ → Option Key
op_key op.Call a c = symbol_key a
op_key op.CallRegs a c = symbol_key a
op_key (op.Arm arm.Addr) a c = symbol_key a
op_key (op.Rv rv.Addr) a c = symbol_key a
op_key (op.Rv rv.Const) a c = constant_key c
op_key _ a c = None

abbrev pub key_of : ValueRecord → Option Key
key_of v = op_key v.op.family v.aux v.int

-- the keys of values in order
abbrev pub block_keys : BlockRecord → List Key
block_keys b = filter_map key_of b.values

abbrev pub value_keys : FuncRecord → List Key
value_keys f = flat_map block_keys f.blocks

-- the keys of a function: those of its values, then those of the types of its signature
abbrev pub keys_of : FuncRecord → List Key
keys_of f = value_keys f ++ (filter_map type_key f.sig.args ++ filter_map type_key f.sig.results)

-- the constants of a function are numbers of 64 bits with a sign
abbrev pub HasSmallConstants : FuncRecord → Type 0
HasSmallConstants f = All (λ b. All (λ v. IsTrue (fits_signed 64 v.int)) b.values) f.blocks
