use Rattle.std.proofs.Common.{◌∙◌, ap, ◌++◌, List, ◌∷◌, [], ◌<◌, ◌≤◌, get_or, length, min, arith}
use Rattle.bk_dec64.specs.Halves.{made, half, numbers}
use Rattle.bk_dec64.specs.declared.made.Made.{Made}
use Rattle.bk_dec64.proofs.InWords.{grown, grown_all, counted, counted_all, halves_next, halves_all}
use Rattle.bk_dec64.proofs.halves.halves_in.Goals as goal

pub loop-place-preserved : goal.loop-place-preserved
loop-place-preserved c =
    let bs = c.args.blocks.now in
    let xs = c.args.args.now in
    let i = c.loop-place.place in
    let is = c.in_ok-half.ensures in
    let before = c.loop-place.invariant in
    let l : i < min (length bs) (length xs) = omega (arith, c.min-place-end.ensures) in
    let more : List Made = made (get_or bs i 0) (half c.args.family c.loop-place.growth.next (get_or xs i 0)) ∷ [] in
    let e = halves_next c.args.family c.loop-place.growth.next c.half.new.self.next bs xs i l is.next in
    record {
      made = grown _ _ more _ _ _ e is.made before.made;
      next = counted more _ _ c.loop-place.growth.next c.half.new.self.next _ e is.next before.next;
      numbers = grown c.loop-place.halves.items c.push.new.self.items (c.loop-place.growth.next ∷ []) _ _ _ (ap numbers e)
          (c.in_ok-push.ensures.ok ∙ ap (λ n. c.loop-place.halves.items ++ n ∷ []) is.number) before.numbers;
    }

pub returns-clause-made : goal.returns-clause-made
returns-clause-made c =
    let bs = c.args.blocks.now in
    let xs = c.args.args.now in
    let l : min (length bs) (length xs) ≤ c.loop-place.place = omega (arith, c.min-place-end.ensures) in
    grown_all _ _ _ (halves_all c.args.family c.loop-place.growth.next bs xs c.loop-place.place l) c.loop-place.invariant.made

pub returns-clause-next : goal.returns-clause-next
returns-clause-next c =
    let bs = c.args.blocks.now in
    let xs = c.args.args.now in
    let l : min (length bs) (length xs) ≤ c.loop-place.place = omega (arith, c.min-place-end.ensures) in
    counted_all _ _ _ (halves_all c.args.family c.loop-place.growth.next bs xs c.loop-place.place l) c.loop-place.invariant.next

pub returns-clause-numbers : goal.returns-clause-numbers
returns-clause-numbers c =
    let bs = c.args.blocks.now in
    let xs = c.args.args.now in
    let l : min (length bs) (length xs) ≤ c.loop-place.place = omega (arith, c.min-place-end.ensures) in
    grown_all _ _ _ (ap numbers (halves_all c.args.family c.loop-place.growth.next bs xs c.loop-place.place l)) c.loop-place.invariant.numbers
