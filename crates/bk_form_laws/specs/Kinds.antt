-- One application of a rule, and what the kinds of form ask of a function.
use Rattle.std.specs.Prelude.{ℕ, ◌≡◌, Bool, List, Some, slice_get}
use Rattle.bk_func.specs.Records.{ValueRecord, BlockRecord, FuncRecord}
use Rattle.bk_func.specs.declared.form.FormKind.TheVariants.{Control, Missing, Arity, Ty, Width, Use, Memory}
use Rattle.bk_func.specs.Form.{Keeps}
use Rattle.bk_func.specs.Form.Text.{HasBlock, HasValue}
use Rattle.bk_func.specs.Form.Walks.{IsReached}
use Rattle.bk_func.specs.Form.Signatures.{Setting}
use Rattle.bk_rule.specs.declared.trees.Bound.{Bound}
use Rattle.bk_rule.specs.declared.trees.Rule.{Rule}
use Rattle.bk_rule.specs.Match.{IsMatch}
use Rattle.bk_order_laws.specs.Base.{BasePrecedes}

-- the rule matches at the value v, which stands at place k of block x, at place b
pub record Applies (s : Setting) (r : Rule) (f : FuncRecord) (b k : ℕ) (x : BlockRecord) (v : ValueRecord) (bs : List Bound) (cs : List Bool) : Type 0 where
  pub matches : IsMatch s.target f r bs v.id cs
  pub there : slice_get f.blocks b ≡ Some x
  pub stands : slice_get x.values k ≡ Some v

-- what four of the kinds ask
pub record Framed (s : Setting) (f : FuncRecord) : Type 0 where
  pub control : Keeps s f Control
  pub missing : Keeps s f Missing
  pub arity : Keeps s f Arity
  pub uses : Keeps s f Use

-- what the other kinds but Memory and Order ask
pub record Typed (s : Setting) (f : FuncRecord) : Type 0 where
  pub types : Keeps s f Ty
  pub width : Keeps s f Width

-- what all the kinds but Order ask
pub record Nearly (s : Setting) (f : FuncRecord) : Type 0 where
  pub framed : Framed s f
  pub typed : Typed s f
  pub memory : Keeps s f Memory

-- no value comes before itself in the base of the order
abbrev pub HasNoCycle : FuncRecord → Type 0
HasNoCycle f = (c : BlockRecord) (u : ValueRecord) → HasValue f c u → ¬ BasePrecedes f c u u

abbrev pub AllReached : FuncRecord → Type 0
AllReached f = (c : BlockRecord) → HasBlock f c → IsReached f c
