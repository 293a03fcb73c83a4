use Rattle.std.proofs.Common.{rules, ◌≡◌, ◌<◌, ◌++◌, ◌∙◌, sym, ap, arith, length, get_or, append-nil, []}
use Rattle.std.specs.List.{cons_option}
use Rattle.bk_mean.specs.Memories.{taken_place}
use Rattle.bk_mean.proofs.Ordered.{taken_more}
use Rattle.bk_mean.proofs.prepare.add_taken.Goals as goal
use Rattle.bk_mean.proofs.prepare.add_taken.Goals.{in-Some+in_ok-push, in_default}

pub loop-arg-preserved : goal.loop-arg-preserved
loop-arg-preserved c =
    let h : c.loop-arg.arg-index < length c.args.args.now = omega arith in
    let e : c.taken_at.result ≡ taken_place c.args.numbering.now c.args.first c.args.values.now (get_or c.args.args.now c.loop-arg.arg-index 0) = search rules in
    taken_more (taken_place c.args.numbering.now c.args.first c.args.values.now) c.args.args.now c.loop-arg.arg-index c.taken_at.result c.args.taken.now.items c.loop-arg.taken.items c.match-taken_at.taken.items h e c.loop-arg.invariant
    (elim c.match-taken_at.branch [
      | in-Some+in_ok-push w ↦ rw w.taken-is (w.in_ok-push.ensures.ok ∙ ap (λ o. c.loop-arg.taken.items ++ cons_option o []) (sym w.in-Some.is))
      | in_default w ↦ rw w.taken-is (sym (append-nil c.loop-arg.taken.items) ∙ ap (λ o. c.loop-arg.taken.items ++ cons_option o []) (sym w.in_default.is))
    ])
