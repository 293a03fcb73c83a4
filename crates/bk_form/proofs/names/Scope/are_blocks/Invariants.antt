use Rattle.std.proofs.Common.{take}
use Rattle.std.specs.List.{All}
use Rattle.bk_func.specs.Form.Parts.{IsBlockNumber}
use Rattle.bk_form.proofs.names.Scope.are_blocks.Given as goal

abbrev pub invariant-loop-id : goal.invariant-loop-id
invariant-loop-id l = All (IsBlockNumber l.self.func.now) (take l.id-index l.ids)
