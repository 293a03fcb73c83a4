use Rattle.std.proofs.Common.{◌≡◌, ◌++◌, take}
use Rattle.bk_work.specs.Package.{in_area}
use Rattle.bk_work.proofs.make.push_in.Given as goal

abbrev pub invariant-loop-key : goal.invariant-loop-key
invariant-loop-key l = l.words.items ≡ l.initial.words.items ++ in_area l.area (take l.key-index l.keys)
