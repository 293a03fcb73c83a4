use Rattle.bk_fixup.proofs.Gains.{few_branches}
use Rattle.bk_fixup.proofs.sizes.branch_sizes.Goals as goal

pub least_sizes-requires : goal.least_sizes-requires
least_sizes-requires c = (c.requires.rise, few_branches c.args.branches.now c.args.words c.requires c.ranges.words.fits)
