use Rattle.std.proofs.Common.{◌≡◌, ℕ, ◌<◌, Some}
use Rattle.std.specs.List.{slice_get}
use Rattle.bk_func.specs.Records.{BlockRecord}
use Rattle.bk_graph.specs.Joining.{AgreesAt}
use Rattle.bk_graph.proofs.joined.agree.Given as goal

abbrev pub invariant-loop-place : goal.invariant-loop-place
invariant-loop-place l = (p : ℕ) (b : BlockRecord) → p < l.place → slice_get l.blocks p ≡ Some b → AgreesAt l.blocks p b
