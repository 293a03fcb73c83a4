use Rattle.bk_elf.proofs.Images.{loaded_is}
use Rattle.bk_elf.proofs.loader.load.Goals as goal

pub returns-clause-object : goal.returns-clause-object
returns-clause-object c = (loaded_is c.args.bytes.now _ c.are_bytes.ensures c.in_ok-image.ensures.image).0

pub returns-clause-file : goal.returns-clause-file
returns-clause-file c = (loaded_is c.args.bytes.now _ c.are_bytes.ensures c.in_ok-image.ensures.image).2
