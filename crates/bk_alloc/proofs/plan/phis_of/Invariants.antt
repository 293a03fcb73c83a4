-- the phis so far
use Rattle.std.proofs.Common.{◌≡◌, map, take}
use Rattle.std.specs.Prelude.{filter}
use Rattle.bk_alloc.specs.Blocks.{phi_of}
use Rattle.bk_alloc.specs.Placement.{is_word_phi}
use Rattle.bk_alloc.proofs.plan.phis_of.Given as goal

abbrev pub invariant-loop-value : goal.invariant-loop-value
invariant-loop-value l = l.phis.items ≡ map phi_of (filter is_word_phi (map (λ v. v.now) (take l.value-index l.values)))
