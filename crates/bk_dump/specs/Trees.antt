-- What the lines of a text give, before its references are looked up.
use Rattle.std.specs.Prelude.{ℕ, ℤ, List, Option, Some, None}
use Rattle.bk_ops.specs.declared.table.Op.{Op}
use Rattle.bk_ops.specs.declared.types.Ty.{Ty}
use Rattle.bk_func.specs.Records.{SigRecord}
use Rattle.bk_func.specs.declared.parts.Aux.{Aux}
use Rattle.bk_func.specs.declared.parts.Aux.TheVariants as aux
use Rattle.bk_func.specs.declared.parts.Kind.{Kind}
use Rattle.bk_func.specs.declared.parts.Likely.{Likely}

-- what braces hold: a name that is to be looked up, or what needs no looking up
pub record MentionTree : Type 0 where
  pub aux : Aux
  pub name : Option (List ℕ)

abbrev pub no_mention : MentionTree
no_mention = record { aux = aux.Nothing; name = None }

abbrev pub of_type : Ty → MentionTree
of_type t = record { aux = aux.Ty t; name = None }

abbrev pub of_name : List ℕ → MentionTree
of_name n = record { aux = aux.Nothing; name = Some n }

-- a value's line
pub record ValueTree : Type 0 where
  pub id : ℕ
  pub op : Op
  pub ty : Ty
  pub args : List ℕ
  pub int : ℤ
  pub mention : MentionTree

-- the line that opens a block
pub record LabelTree : Type 0 where
  pub id : ℕ
  pub preds : List ℕ

-- the line that ends a block
pub record EndTree : Type 0 where
  pub kind : Kind
  pub control : Option ℕ
  pub succs : List ℕ
  pub likely : Likely

-- a variable's line
pub record VarTree : Type 0 where
  pub name : List ℕ
  pub size : ℕ
  pub hex : List ℕ

-- a parameter
pub record ParameterTree : Type 0 where
  pub name : List ℕ
  pub ty : Ty

-- a function's line
pub record HeaderTree : Type 0 where
  pub name : List ℕ
  pub parameters : List ParameterTree
  pub results : List Ty

-- a block whose end is not read yet
pub record OpenTree : Type 0 where
  pub label : LabelTree
  pub values : List ValueTree

-- a block
pub record BlockTree : Type 0 where
  pub label : LabelTree
  pub values : List ValueTree
  pub end : EndTree

-- a function: its name's number, its parameters and signature, its blocks,
-- and the numbers of its values and blocks, also of those that are still open
pub record FuncTree : Type 0 where
  pub name : ℕ
  pub parameters : List (List ℕ)
  pub sig : SigRecord
  pub blocks : List BlockTree
  pub value_ids : List ℕ
  pub block_ids : List ℕ
