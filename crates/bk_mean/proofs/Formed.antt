-- What is known of a function in form, by its parts.
use Rattle.bk_ops.specs.Table.{info_of}
use Rattle.bk_func.specs.Records.{ValueRecord, BlockRecord, FuncRecord}
use Rattle.bk_func.specs.declared.form.FormKind.TheVariants.{Missing, Arity, Ty, Width, Use, Memory, Order}
use Rattle.bk_func.specs.Form.{Keeps, IsFormed}
use Rattle.bk_func.specs.Form.Text.{HasBlock, HasValue}
use Rattle.bk_func.specs.Form.States.{KeepsStates, KeepsMemory}
use Rattle.bk_func.specs.Form.Before.{Precedes}
use Rattle.bk_func.specs.Form.Signatures.{Setting}
use Rattle.bk_func.specs.Form.Shapes.{HasTypes}
use Rattle.bk_func.specs.Form.Parts.{HasRange}
use Rattle.bk_mean.proofs.Named.{IsNamed, is_named}
use Rattle.bk_mean.proofs.Roles.{HasRow}

-- numbers name one thing each, ops have their rows, uses are behind definitions, no value comes before itself, and memory is
-- one chain
pub record Sound (s : Setting) (f : FuncRecord) : Type 0 where
  pub named : IsNamed f
  pub rows : (b : BlockRecord) (v : ValueRecord) → HasValue f b v → HasRow s f b v
  pub uses : Keeps s f Use
  pub order : (b : BlockRecord) (v : ValueRecord) → HasValue f b v → ¬ Precedes f b v v
  pub memory : (b : BlockRecord) (v : ValueRecord) → HasValue f b v → KeepsMemory f b v
  pub ranges : (b : BlockRecord) (v : ValueRecord) → HasValue f b v → HasRange s f v (info_of v.op).aux
  pub types : (b : BlockRecord) (v : ValueRecord) → HasValue f b v → HasTypes s f v
  pub states : (b : BlockRecord) → HasBlock f b → KeepsStates f b

pub sound : (s : Setting) (f : FuncRecord) → IsFormed s f → Sound s f
sound s f h = record {
  named = is_named s f (h.kinds Missing);
  rows = λ b v i. record { op = ((h.kinds Ty b i.0).value v i.1).op; arity = (h.kinds Arity b i.0).value v i.1 };
  uses = h.kinds Use;
  order = λ b v i. (h.kinds Order b i.0).value v i.1;
  memory = λ b v i. (h.kinds Memory b i.0).value v i.1;
  ranges = λ b v i. (h.kinds Width b i.0).value v i.1;
  types = λ b v i. (h.kinds Ty b i.0).value v i.1;
  states = λ b i. (h.kinds Memory b i).block;
}
