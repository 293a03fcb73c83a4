use Rattle.std.proofs.Common.{◌++◌, ◌∷◌, [], List, Option, Some, subst, sym, ap, ◌∙◌}
use Rattle.bk_work.specs.declared.items.Done.{Done}
use Rattle.bk_work.specs.declared.refusals.Cause.{Cause}
use Rattle.bk_work.specs.Placed.{AreFirsts}
use Rattle.bk_work.proofs.Slots.{more_lowered, one_stopped}
use Rattle.bk_work.proofs.placing.Firsts.note.Goals as goal

pub returns-in-Some-Lowered : goal.returns-in-Some-Lowered
returns-in-Some-Lowered c = λ before firsts.
    more_lowered c.note_lowered.result before c.args.self.now.lowered.items c.note_lowered.new.self.lowered.items c.args.self.now.causes.items c.note_lowered.new.self.causes.items c.args.slot
    (c.in-Some-Lowered.func, c.in-Some-Lowered.keys) (c.in-Some-Lowered.is ∙ ap (λ (d : Done). Some d) c.in-Some-Lowered.field-0-is) firsts c.note_lowered.ensures.lowered c.note_lowered.ensures.causes

pub returns-in-Some-Refused : goal.returns-in-Some-Refused
returns-in-Some-Refused c = λ before firsts.
    let es = c.args.self.now.lowered.items in let causes = c.args.self.now.causes.items in let cause = c.in-Some-Refused.cause in
    subst (λ (cs : List (Option Cause)). AreFirsts (before ++ c.args.slot ∷ []) es cs) (sym c.in_ok-put-in-Some-Refused.ensures)
    (subst (λ (d : Option Done). AreFirsts (before ++ d ∷ []) es (causes ++ Some cause ∷ [])) (sym (c.in-Some-Refused.is ∙ ap (λ (d : Done). Some d) c.in-Some-Refused.field-0-is))
    (one_stopped before es causes cause firsts))
