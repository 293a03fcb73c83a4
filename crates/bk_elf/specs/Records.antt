-- What contracts see of an object: a record of lists.
use Rattle.std.specs.Prelude.{ℕ, Bool, List}
use Rattle.bk_ops.specs.declared.types.Target.{Target}
use Rattle.bk_func.specs.Records.{SigRecord}

-- a name as bytes, whether it is a function's, and the address and size of what it names
pub record SymbolRecord : Type 0 where
  pub name : List ℕ
  pub func : Bool
  pub address : ℕ
  pub size : ℕ

-- the words of the text, the constants, the bytes of the data window, the codes of types, the functions' signatures,
-- and the names
pub record ObjectRecord : Type 0 where
  pub target : Target
  pub text : List ℕ
  pub pool : List ℕ
  pub window : List ℕ
  pub types : List ℕ
  pub sigs : List SigRecord
  pub symbols : List SymbolRecord
