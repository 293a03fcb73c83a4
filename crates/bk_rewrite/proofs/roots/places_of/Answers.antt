use Rattle.std.proofs.Common.{◌∙◌, ◌+◌, refl, ap, arith, length, ℕ, sym, subst, Vec, Global}
use Rattle.std.proofs.lemmas.Option.{slice_get_read}
use Rattle.bk_rewrite.proofs.Rooted.{RootedBelow, rooted_all, rooted_more, rooted_other}
use Rattle.bk_rewrite.proofs.roots.places_of.Goals as goal
use Rattle.bk_rewrite.proofs.roots.places_of.Goals.{then-has_root+in_ok-push_place, else-has_root}

pub loop-place-preserved : goal.loop-place-preserved
loop-place-preserved c =
    let is = slice_get_read c.args.rules.now (length c.args.rules.now) c.loop-place.place c.index-rules-place.result refl (omega arith) c.index-rules-place.is in
    elim c.if-has_root.branch [
      | then-has_root+in_ok-push_place w ↦ subst (λ ps. RootedBelow c.args.op c.args.rules.now (c.loop-place.place + 1) ps) (sym (ap (λ (v : Vec ℕ Global). v.items) w.places-is ∙ w.in_ok-push_place.ensures))
          (rooted_more c.args.op c.args.rules.now c.loop-place.place c.loop-place.places.items c.index-rules-place.result is (c.has_root.ensures.same w.if-has_root.true) c.loop-place.invariant)
      | else-has_root w ↦ subst (λ ps. RootedBelow c.args.op c.args.rules.now (c.loop-place.place + 1) ps) (sym (ap (λ (v : Vec ℕ Global). v.items) w.places-is))
          (rooted_other c.args.op c.args.rules.now c.loop-place.place c.loop-place.places.items c.index-rules-place.result is (c.has_root.ensures.other w.if-has_root.false) c.loop-place.invariant)
    ]

pub returns : goal.returns
returns c = rooted_all c.args.op c.args.rules.now c.loop-place.place c.loop-place.places.items (omega arith) c.loop-place.invariant
