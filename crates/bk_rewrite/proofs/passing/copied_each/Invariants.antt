use Rattle.std.proofs.Common.{◌≡◌, ◌++◌, drop, map}
use Rattle.bk_rewrite.specs.Places.{HasNumbers}
use Rattle.bk_rewrite.specs.Passes.{copied_in}
use Rattle.bk_rewrite.proofs.passing.copied_each.Given as goal

abbrev pub invariant-loop-id : goal.invariant-loop-id
invariant-loop-id l = HasNumbers l.func → l.args.items ++ map (copied_in l.func) (drop l.id-index l.ids) ≡ map (copied_in l.func) l.ids
