use Rattle.std.proofs.Common.{◌≡◌, ◌++◌, map, take, drop}
use Rattle.bk_func.specs.Edits.{renamed}
use Rattle.bk_func.proofs.edits.replace_in_args.Given as goal

abbrev pub invariant-loop-arg : goal.invariant-loop-arg
invariant-loop-arg l = l.args ≡ map (renamed l.old l.new) (take l.arg-index l.fn.args) ++ drop l.arg-index l.fn.args
