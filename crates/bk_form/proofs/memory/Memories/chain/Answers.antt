use Rattle.std.proofs.Common.{◌∙◌, ap}
use Rattle.std.specs.List.{slice_get}
use Rattle.std.specs.Option.{unwrap_or}
use Rattle.bk_form.specs.declared.chains.Chain.TheVariants.{Broken}
use Rattle.bk_places.proofs.Elements.{lent}
use Rattle.bk_form.specs.Memories.{func_of}
use Rattle.bk_form.proofs.Remembered.{chain_is}
use Rattle.bk_form.proofs.memory.Memories.chain.Goals as goal

pub returns : goal.returns
returns c =
    chain_is (func_of c.args.self.now) c.args.self.now.chains.items c.requires.memories.chains c.args.at c.unwrap_or.result
    (c.unwrap_or.ensures ∙ ap (λ o. unwrap_or o Broken) (c.copied-chain.ensures ∙ (lent c.deref.result.now c.args.at c.get.result c.get.ensures.lookup ∙ ap (λ cs. slice_get cs c.args.at) c.deref.ensures.value)))
