use Rattle.std.proofs.Common.{◌++◌, List, [], ◌∷◌, ap, sym, subst, ◌∙◌, length, length-set, append_assoc, Option, Some}
use Rattle.bk_work.specs.declared.items.Done.{Done}
use Rattle.bk_work.specs.Placed.{ArePlaced}
use Rattle.bk_work.specs.Rounds.{Item}
use Rattle.bk_work.proofs.Slots.{placed_more}
use Rattle.bk_work.proofs.placing.placed.Goals as goal

pub loop-func-preserved : goal.loop-func-preserved
loop-func-preserved c =
    let i : Item = (c.in-Some.field-0-0, c.in-Some.func, c.in-Some.done) in let rest = c.next.new.self.rest.items in let slots = c.loop-func.after.items in
    let step = c.in-Some.ensures.steps in let put = c.in_ok-put_at.ensures.put in record {
      all = c.loop-func.invariant.all ∙ (ap (λ (l : List Item). c.loop-func.yielded ++ l) step.0 ∙ sym (append_assoc c.loop-func.yielded (i ∷ []) rest));
      long = ap (λ (s : List (Option Done)). length s) put ∙ (length-set slots i.1 (Some i.2) ∙ c.loop-func.invariant.long);
      placed = subst (λ (s : List (Option Done)). ArePlaced (c.loop-func.yielded ++ i ∷ []) c.args.slots.items s) (sym put)
          (placed_more c.loop-func.yielded c.args.slots.items slots i.0 i.1 i.2 c.loop-func.invariant.placed);
    }
