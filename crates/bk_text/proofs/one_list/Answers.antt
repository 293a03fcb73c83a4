use Rattle.bk_text.proofs.One.{one_list_of}
use Rattle.bk_text.proofs.one_list.Goals as goal

pub returns : goal.returns
returns c = one_list_of
