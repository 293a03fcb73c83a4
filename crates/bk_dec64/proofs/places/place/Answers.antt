use Rattle.std.proofs.Common.{◌∙◌, sym, ap}
use Rattle.bk_func.specs.Edits.{with_value}
use Rattle.bk_func.proofs.Blocks.{changed_at}
use Rattle.bk_dec64.proofs.Placed.{none_changed}
use Rattle.bk_dec64.proofs.places.place.Goals as goal

pub returns-in_ok-push_last-in-Some-clause-blocks : goal.returns-in_ok-push_last-in-Some-clause-blocks
returns-in_ok-push_last-in-Some-clause-blocks c =
    changed_at c.args.one.block (with_value c.args.one.value) c.args.blocks.now c.in-Some.place c.index-blocks-place.result c.push_last.new.block
    (sym (c.in-Some.ensures ∙ c.requires c.args.one.block)) c.index-blocks-place.is (c.in_ok-push_last-in-Some.ensures ∙ ap (with_value c.args.one.value) (sym c.index-blocks-place.is))

pub returns-in-None-clause-blocks : goal.returns-in-None-clause-blocks
returns-in-None-clause-blocks c = sym (none_changed c.args.one.block c.args.one.value c.args.blocks.now (sym (c.in-None.ensures ∙ c.requires c.args.one.block)))
