-- What contracts see of values, blocks, functions and packages: records of lists.
use Rattle.std.specs.Prelude.{ℕ, ℤ, List, Option}
use Rattle.bk_ops.specs.declared.table.Op.{Op}
use Rattle.bk_ops.specs.declared.types.Ty.{Ty}
use Rattle.bk_func.specs.declared.parts.Aux.{Aux}
use Rattle.bk_func.specs.declared.parts.Kind.{Kind}
use Rattle.bk_func.specs.declared.parts.Likely.{Likely}
use Rattle.bk_func.specs.declared.parts.Loc.{Loc}

-- a value: its number, op, type, the numbers of its arguments, its AuxInt and its aux
pub record ValueRecord : Type 0 where
  pub id : ℕ
  pub op : Op
  pub ty : Ty
  pub args : List ℕ
  pub int : ℤ
  pub aux : Aux

-- a block: its number, kind and control, the numbers of its predecessors and successors, its values in order
pub record BlockRecord : Type 0 where
  pub id : ℕ
  pub kind : Kind
  pub control : Option ℕ
  pub preds : List ℕ
  pub succs : List ℕ
  pub likely : Likely
  pub values : List ValueRecord

-- the types of a function's arguments and results
pub record SigRecord : Type 0 where
  pub args : List Ty
  pub results : List Ty

-- a function: its name's number, signature and blocks, and the count of values in its text
pub record FuncRecord : Type 0 where
  pub name : ℕ
  pub sig : SigRecord
  pub blocks : List BlockRecord
  pub given : ℕ

-- a variable: its name's number, its bytes in the data window and the first of them
pub record VarRecord : Type 0 where
  pub name : ℕ
  pub size : ℕ
  pub bytes : List ℕ

-- a package: the declared names as bytes, and what they name
pub record PackageRecord : Type 0 where
  pub names : List (List ℕ)
  pub funcs : List FuncRecord
  pub vars : List VarRecord

-- a step of a placed block
pub data StepRecord : Type 0 where
  load : (reg slot : ℕ) → StepRecord
  store : (reg slot : ℕ) → StepRecord
  do_value : (value : ℕ) (args : List ℕ) (place : Option ℕ) → StepRecord
  move : (source destination : Loc) → StepRecord

-- a block with its values in registers and slots
pub record PlacedBlockRecord : Type 0 where
  pub id : ℕ
  pub kind : Kind
  pub control : Option ℕ
  pub succs : List ℕ
  pub steps : List StepRecord

-- a placed function: its blocks in layout order, and its slots and outgoing words
pub record PlacedRecord : Type 0 where
  pub blocks : List PlacedBlockRecord
  pub slots : ℕ
  pub out : ℕ
