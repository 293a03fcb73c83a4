use Rattle.std.proofs.Common.{sym, ap, ◌∙◌}
use Rattle.bk_elf.proofs.Images.{loaded_is}
use Rattle.bk_elf.proofs.Whole.{whole_of}
use Rattle.bk_elf.proofs.Written.{written_loads, wide_loads, written_holds}
use Rattle.bk_elf.proofs.laws.objects_and_files.Goals as goal

pub returns-clause-written : goal.returns-clause-written
returns-clause-written c = written_loads

pub returns-clause-wide : goal.returns-clause-wide
returns-clause-wide c = wide_loads

pub returns-clause-loaded : goal.returns-clause-loaded
returns-clause-loaded c = loaded_is

pub returns-clause-once : goal.returns-clause-once
returns-clause-once c a b oa wa ob wb is = sym (written_holds a oa wa) ∙ (ap whole_of is ∙ written_holds b ob wb)
