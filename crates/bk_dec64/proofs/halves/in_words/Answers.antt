use Rattle.std.proofs.Common.{◌∙◌, ap, ◌++◌, ◌<◌, length, arith}
use Rattle.bk_dec64.specs.Words.{listed_words}
use Rattle.bk_dec64.proofs.InWords.{grown, grown_all, counted, counted_all, parts_next, parts_all, words_next, words_all}
use Rattle.bk_dec64.proofs.halves.in_words.Goals as goal

pub loop-place-preserved : goal.loop-place-preserved
loop-place-preserved c =
    let tys = c.args.types.now in
    let xs = c.args.args.now in
    let i = c.loop-place.place in
    let n = c.loop-place.growth.next in
    let m = c.words_of.new.growth.next in
    let is = c.in_ok-one.ensures in
    let before = c.loop-place.invariant in
    let l : i < length xs = omega arith in
    let e = parts_next c.double_at.result c.args.block n m tys xs i l c.double_at.ensures is.next in
    record {
      made = grown _ _ _ _ _ _ e is.made before.made;
      next = counted _ _ _ n m _ e is.next before.next;
      words = grown c.loop-place.words.items c.push_words.new.list.items _ _ _ _ (words_next c.double_at.result c.args.block n m tys xs i l c.double_at.ensures is.next)
          (c.in_ok-push_words.ensures ∙ ap (λ w. c.loop-place.words.items ++ listed_words w) is.words) before.words;
    }

pub returns-clause-made : goal.returns-clause-made
returns-clause-made c =
    grown_all _ _ _ (parts_all c.args.block c.loop-place.growth.next c.args.types.now c.args.args.now c.loop-place.place (omega arith)) c.loop-place.invariant.made

pub returns-clause-next : goal.returns-clause-next
returns-clause-next c =
    counted_all _ _ _ (parts_all c.args.block c.loop-place.growth.next c.args.types.now c.args.args.now c.loop-place.place (omega arith)) c.loop-place.invariant.next

pub returns-clause-words : goal.returns-clause-words
returns-clause-words c =
    grown_all _ _ _ (words_all c.loop-place.growth.next c.args.types.now c.args.args.now c.loop-place.place (omega arith)) c.loop-place.invariant.words
