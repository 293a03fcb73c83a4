use Rattle.std.proofs.Common.{◌≡◌, ◌++◌, drop}
use Rattle.bk_form.specs.Places.{nodes_from}
use Rattle.bk_form.proofs.places.nodes.Given as goal

abbrev pub invariant-loop-home : goal.invariant-loop-home
invariant-loop-home l = l.nodes.items ++ nodes_from l.home (drop l.home l.blocks) ≡ nodes_from 0 l.blocks
