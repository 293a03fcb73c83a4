-- What is asked of a function whose blocks are ordered, split or cleaned.
use Rattle.std.specs.Prelude.{◌<◌, length}
use Rattle.bk_func.specs.Records.{FuncRecord}
use Rattle.bk_func.specs.Edits.{greatest_value, greatest_block}
use Rattle.bk_func.specs.Form.Signatures.{Setting}
use Rattle.bk_func.specs.Form.{IsFormed}

-- the function is in form or in word form of some package, its numbers are below 4,000,000,000, and it has fewer than
-- 100,000,000 blocks
pub record IsGiven (f : FuncRecord) : Type 0 where
  pub setting : Setting
  pub formed : IsFormed setting f
  pub values : greatest_value f < 4000000000
  pub blocks : greatest_block f < 4000000000
  pub count : length f.blocks < 100000000
