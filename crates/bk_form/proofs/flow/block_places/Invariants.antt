use Rattle.std.proofs.Common.{◌≡◌, take}
use Rattle.std.specs.List.{filter_map}
use Rattle.bk_form.specs.Numbers.{block_named}
use Rattle.bk_form.proofs.flow.block_places.Given as goal

abbrev pub invariant-loop-id : goal.invariant-loop-id
invariant-loop-id l = l.places.items ≡ filter_map (block_named l.numbers) (take l.id-index l.ids)
