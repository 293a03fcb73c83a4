use Rattle.std.proofs.Common.{◌∙◌, ap, sym, take}
use Rattle.bk_num.proofs.Written.{low, stored}
use Rattle.bk_num.proofs.windows.store_in.Goals as goal

pub returns-in-Some-clause-value : goal.returns-in-Some-clause-value
returns-in-Some-clause-value c =
    stored c.args.base c.args.size c.args.address c.args.n c.in-Some.at c.args.window.now c.copy_from_slice.new.self (sym c.in-Some.is ∙ c.place.ensures)
    (c.copy_from_slice.ensures.after ∙ ap (take c.args.size) c.to_le_bytes.ensures ∙ low c.args.size c.args.n c.requires)
