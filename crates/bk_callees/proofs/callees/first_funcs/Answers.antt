use Rattle.std.proofs.Common.{◌∙◌, arith}
use Rattle.bk_callees.proofs.Found.{firsts_more}
use Rattle.bk_callees.proofs.callees.first_funcs.Goals as goal

pub loop-place-preserved : goal.loop-place-preserved
loop-place-preserved c =
    let inv = c.loop-place.invariant in
    let f = c.index-funcs-place in
    let noted = c.note_first.ensures in (
      noted.len ∙ inv.0,
      firsts_more (λ g. g.name) c.args.funcs.now c.loop-place.place f.result c.loop-place.firsts.items _ c.args.names (omega arith) f.is inv.1
          (λ s m. rw (← c.func.view_is) (noted.first s (omega (arith, inv.0)))),
    )
