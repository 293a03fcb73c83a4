use Rattle.std.proofs.Common.{◌<◌, length, IfSome, sym, ◌∙◌, subst}
use Rattle.bk_func.proofs.Blocks.{found_at}
use Rattle.bk_func.proofs.edits.set_succ.Goals as goal

pub put_succ-requires : goal.put_succ-requires
put_succ-requires c =
    subst (λ b. c.args.index < length b.succs) c.index-blocks-place.is
    (subst (λ o. IfSome o (λ b. c.args.index < length b.succs))
    (found_at c.args.from c.args.blocks.now c.in-Some.place _ (sym c.place.ensures ∙ c.in-Some.is) c.index-blocks-place.is)
    c.requires.within)
