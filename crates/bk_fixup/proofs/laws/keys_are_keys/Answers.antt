use Rattle.bk_fixup.proofs.Keyed.{are_keys}
use Rattle.bk_fixup.proofs.laws.keys_are_keys.Goals as goal

pub returns : goal.returns
returns c = λ f small. are_keys f small
