use Rattle.bk_form_laws.proofs.Applied.{framed}
use Rattle.bk_form_laws.proofs.rules_keep_frames.Goals as goal

pub returns : goal.returns
returns c = framed
