use Rattle.std.proofs.Common.{◌≡◌, take}
use Rattle.std.specs.List.{flat_map}
use Rattle.bk_work.specs.Package.{in_area}
use Rattle.bk_work.specs.Rounds.{Entry}
use Rattle.bk_work.proofs.make.area_keys.Given as goal

abbrev pub invariant-loop-entry : goal.invariant-loop-entry
invariant-loop-entry l = l.words.items ≡ flat_map (λ (e : Entry). in_area l.area e.1.items) (take l.entry-index l.lowered)
