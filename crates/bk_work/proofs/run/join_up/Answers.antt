use Rattle.std.proofs.Common.{◌≡◌, suc, List, [], ◌∷◌, ◌++◌, ◌+◌, sym, ap, subst, arith, length, length-append}
use Rattle.std.specs.List.{All}
use Rattle.std.specs.List.{Contains}
use Rattle.std.proofs.lemmas.Result.{IfOk-at_ok}
use Rattle.std.proofs.lemmas.List.Elements.{All-append, Contains-append_left, Contains-append_right}
use Rattle.bk_core.specs.Rule.{Sight}
use Rattle.bk_share.specs.Passes.{view}
use Rattle.bk_work.specs.declared.items.Part.{Part}
use Rattle.bk_work.specs.declared.run.Shift.{Shift}
use Rattle.bk_work.specs.Rounds.{IsItem}
use Rattle.bk_work.specs.Run.{AreDrawn, IsShift}
use Rattle.bk_work.proofs.Grow.{Within, items_grow}
use Rattle.bk_work.proofs.Draws.{drawn_join}
use Rattle.bk_work.proofs.run.join_up.Goals as goal

pub loop-shift-preserved : goal.loop-shift-preserved
loop-shift-preserved c =
    let r = c.args.round.now in let x = c.in-Some.shift in let rest = c.next.new.self.rest.items in let count = length r.order.now in
    let all : All (IsShift r) c.loop-shift.shift-iterator.rest.items = c.loop-shift.invariant.left in
    let step = rw c.in-Some.is at c.next.ensures.steps in
    let now : All (IsShift r) (x ∷ rest) = subst (λ (l : List Shift). All (IsShift r) l) step.0 all in
    let here : IsShift r x = now 0 x (omega arith) in
    let v = view c.args.pass.now in let u = view c.loop-shift.pass in let w = view x.pass in let q = view c.join.new.pass in
    let both = c.join.ensures.both in
    let old = c.loop-shift.items.items in let more = c.in_ok-more.field-0.items.items in let new = c.append.new.self.items in
    let drawn : AreDrawn count 1 [] w.numbers more = IfOk-at_ok (λ (p : Part). AreDrawn count 1 [] w.numbers p.items.items) c.in_ok-more.was here.drawn in
    let mine : All (IsItem r.pkg.now r.target r.job r.order.now (Contains w.known)) more = IfOk-at_ok (λ (p : Part). All (IsItem r.pkg.now r.target r.job r.order.now (Contains w.known)) p.items.items) c.in_ok-more.was here.items in
    let left : Within (Contains u.known) (Contains q.known) = λ y h. subst (λ (s : Sight). Contains s.known y) (sym both) (Contains-append_left u.known w.known y h) in
    let right : Within (Contains w.known) (Contains q.known) = λ y h. subst (λ (s : Sight). Contains s.known y) (sym both) (Contains-append_right u.known w.known y h) in
    let pushed : new ≡ old ++ more = c.in_ok-append.ensures.items in
    let one : length (c.loop-shift.yielded ++ x ∷ []) ≡ length c.loop-shift.yielded + 1 = length-append c.loop-shift.yielded (x ∷ []) in record {
      pass = c.join.ensures.pass;
      parts = let j = ap (λ (s : Sight). s.parts) both in let i = c.loop-shift.invariant.parts in let p = here.part in omega arith;
      left = λ k d lt. now (suc k) d (omega arith);
      drawn = rw one (drawn_join count (length c.loop-shift.yielded) v.numbers u.numbers w.numbers q.numbers old more new c.loop-shift.invariant.drawn drawn (ap (λ (s : Sight). s.numbers) both) pushed);
      items = rw pushed (All-append (IsItem r.pkg.now r.target r.job r.order.now (Contains q.known)) old more (items_grow r.pkg.now r.target r.job r.order.now (Contains u.known) (Contains q.known) old left c.loop-shift.invariant.items) (items_grow r.pkg.now r.target r.job r.order.now (Contains w.known) (Contains q.known) more right mine));
    }
