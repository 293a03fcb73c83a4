-- What is cleaned of a function in form is one function.
use Rattle.std.proofs.Common.{◌≡◌, ◌∙◌, sym, refl}
use Rattle.bk_func.specs.Records.{FuncRecord}
use Rattle.bk_graph.specs.Cleaned.{IsCleaned}
use Rattle.bk_graph.specs.Given.{IsGiven}
use Rattle.bk_graph.specs.Tables.{tables_of}
use Rattle.bk_graph_laws.proofs.Agreeing.{same_rebuilt}
use Rattle.bk_graph_laws.proofs.Forming.{orderly}

blocks_are : (f : FuncRecord) → (tables_of f).blocks ≡ f.blocks
unfolding tables_of
blocks_are f = refl

pub one_cleaned : (f g h : FuncRecord) → IsGiven f → IsCleaned f g → IsCleaned f h → g ≡ h
one_cleaned f g h given x y =
    x.is ∙ (same_rebuilt (tables_of f) (orderly f given) x.facts y.facts x.sound x.closed y.sound y.closed x.needed y.needed x.needs y.needs f (blocks_are f) ∙ sym y.is)
