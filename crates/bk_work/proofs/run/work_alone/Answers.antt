use Rattle.std.proofs.Common.{◌++◌, [], ◌∷◌, ap, ◌∙◌, length}
use Rattle.std.proofs.lemmas.Result.{IfOk-weaker}
use Rattle.bk_core.specs.Rule.{Sight}
use Rattle.bk_share.specs.Passes.{view}
use Rattle.bk_work.specs.declared.items.Part.{Part}
use Rattle.bk_work.specs.Rounds.{Worked, claims_of}
use Rattle.bk_work.specs.Run.{AreDrawn}
use Rattle.bk_work.proofs.Draws.{drawn_alone}
use Rattle.bk_work.proofs.run.work_alone.Goals as goal

pub returns : goal.returns
returns g c =
    let v = view c.args.turn.pass in let w = view c.work-part.new.pass in let count = length c.args.round.now.order.now in record {
      pass = c.work-part.ensures.pass;
      part = c.work-part.ensures.parts ∙ ap (λ (s : Sight). s.parts) c.requires.1;
      drawn = IfOk-weaker c.work-part.result (λ (p : Part). Worked count v w p.items.items) (λ (p : Part). AreDrawn count 1 [] w.numbers p.items.items)
          (λ p k. drawn_alone count w.numbers p.items.items k.last k.past (k.numbers ∙ ap (λ (s : Sight). s.numbers ++ (claims_of p.items.items ++ k.last ∷ [])) c.requires.1))
          c.work-part.ensures.worked;
      items = c.work-part.ensures.items;
    }
