use Rattle.std.proofs.Common.{◌∙◌}
use Rattle.bk_elf.proofs.Naming.{utf8_is}
use Rattle.bk_elf.proofs.names.is_utf8.Goals as goal

pub returns : goal.returns
returns c = c.is_ok.ensures.value ∙ utf8_is c.args.name.now c.from_utf8.result _ _ c.from_utf8.ensures.cases
