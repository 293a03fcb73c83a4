use Rattle.std.proofs.Common.{◌≡◌, ap, ◌∙◌, sym, map, Ok, None}
use Rattle.bk_dump.specs.Trees.{LabelTree, FuncTree}
use Rattle.bk_dump.specs.Drafts.{block_fault}
use Rattle.bk_dump.specs.Views.{state}
use Rattle.bk_dump.proofs.Faults.{new_block}
use Rattle.bk_dump.proofs.Stages.{block_opened, block_numbered, open_tree}
use Rattle.bk_dump.proofs.read.state.Reader.open_block.Goals as goal

pub add_number-requires : goal.add_number-requires
add_number-requires c =
    let none : block_fault c.args.func c.args.label ≡ None = cc (c.in_default.ensures) in
    new_block c.args.func c.args.label c.func-2.inside.block_ids.keys c.label.inside.id none (ap (λ (t : FuncTree). t.block_ids) c.func-2.view_is) (ap (λ (b : LabelTree). b.id) c.label.view_is)

pub returns : goal.returns
returns c =
    let f = c.func-2.inside in
    let none : block_fault c.args.func c.args.label ≡ None = cc (c.in_default.ensures) in
    block_opened (state c.args.self.now) c.args.func c.args.label _ _ none
    (block_numbered c.args.func c.args.label f.name (map (λ n. n.now) f.parameters.keys) f.sig f.blocks.items f.value_ids.keys f.block_ids.keys c.add_number.new.numbers.keys c.label.inside.id c.func-2.view_is c.in_ok-add_number.ensures (ap (λ (b : LabelTree). b.id) c.label.view_is))
    (ap (open_tree c.args.label) c.new-values.ensures.items)
    ∙ ap Ok (sym c.enter.ensures)
