use Rattle.bk_top.proofs.Endings.{all_below}
use Rattle.bk_top.proofs.rows.run.image_of.Goals as goal

pub returns-in-Ok-clause-object : goal.returns-in-Ok-clause-object
returns-in-Ok-clause-object c = (c.objects_and_files.ensures.loaded c.args.object.now c.in-Ok.image (all_below c.args.object.now (λ k. (c.type_inv.object k).fits)) c.in-Ok.ensures.image).0
