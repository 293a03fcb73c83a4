use Rattle.std.proofs.Common.{List, subst}
use Rattle.bk_alloc.specs.Blocks.{PartRecord}
use Rattle.bk_alloc.specs.Placement.{IsPlacing}
use Rattle.bk_alloc.proofs.allocation.allocate_by.Goals as goal

pub returns : goal.returns
returns c = λ next ordered uses. record {
  placing = subst (λ (ps : List PartRecord). IsPlacing c.args.target ps c.in_ok-blocks.blocks.items c.in_ok-blocks.slots) (c.in_ok-parts.ensures next ordered uses) c.in_ok-blocks.ensures;
  out = c.in_ok-out.ensures;
}
