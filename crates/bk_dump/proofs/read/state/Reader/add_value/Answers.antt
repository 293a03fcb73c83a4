use Rattle.std.proofs.Common.{◌≡◌, ap, ◌∙◌, sym, map, Ok, None}
use Rattle.bk_dump.specs.Trees.{ValueTree, FuncTree}
use Rattle.bk_dump.specs.Drafts.{value_fault}
use Rattle.bk_dump.specs.Views.{state}
use Rattle.bk_dump.proofs.Faults.{new_value}
use Rattle.bk_dump.proofs.Stages.{value_added, value_numbered, value_next}
use Rattle.bk_dump.proofs.read.state.Reader.add_value.Goals as goal

pub add_number-requires : goal.add_number-requires
add_number-requires c =
    let none : value_fault c.args.func c.args.line ≡ None = cc (c.in_default.ensures) in
    new_value c.args.func c.args.line c.func.inside.value_ids.keys c.line.inside.id none (ap (λ (t : FuncTree). t.value_ids) c.func.view_is) (ap (λ (v : ValueTree). v.id) c.line.view_is)

pub returns : goal.returns
returns c =
    let f = c.func.inside in
    let none : value_fault c.args.func c.args.line ≡ None = cc (c.in_default.ensures) in
    value_added (state c.args.self.now) c.args.func c.args.block c.args.line _ _ none
    (value_numbered c.args.func c.args.line f.name (map (λ n. n.now) f.parameters.keys) f.sig f.blocks.items f.value_ids.keys f.block_ids.keys c.add_number.new.numbers.keys c.line.inside.id c.func.view_is c.in_ok-add_number.ensures (ap (λ (v : ValueTree). v.id) c.line.view_is))
    (value_next c.args.block c.args.line c.block.inside.label c.block.inside.values.items c.push.new.self.items _ c.block.view_is c.in_ok-push.ensures.items (cc c.line.view_is))
    ∙ ap Ok (sym c.enter.ensures)
