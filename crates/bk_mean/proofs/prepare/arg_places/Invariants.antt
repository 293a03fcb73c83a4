use Rattle.std.proofs.Common.{◌≡◌, map, take}
use Rattle.bk_func.specs.Records.{FuncRecord}
use Rattle.bk_mean.specs.Numbering.{IsNumbering, place_in}
use Rattle.bk_mean.proofs.prepare.arg_places.Given as goal

abbrev pub invariant-loop-arg : goal.invariant-loop-arg
invariant-loop-arg l = (f : FuncRecord) → IsNumbering f l.numbering → l.places.items ≡ map (place_in f) (take l.arg-index l.args)
