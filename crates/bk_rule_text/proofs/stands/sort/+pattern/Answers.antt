use Rattle.std.proofs.Common.{◌∙◌, ◌++◌, ap, sym}
use Rattle.bk_rule.proofs.Opened.{opened}
use Rattle.bk_rule_text.specs.declared.stands.sort.Sort.TheVariants as sort
use Rattle.bk_rule_text.specs.Stands.{said, sort_of_aux, variable_of_int, pattern_sorts, patterns_sorts}
use Rattle.bk_rule_text.proofs.Standing.{noted, four_noted, sorts_of_node}
use Rattle.bk_rule_text.proofs.stands.sort.+pattern.Goals as goal

pub note_pattern-returns-in_ok-note-in-Node-4 : goal.note_pattern-returns-in_ok-note-in-Node-4
unfolding opened
note_pattern-returns-in_ok-note-in-Node-4 t c =
    let n = c.in-Node in
    let a = c.args.said.now.items in
    noted c.note_patterns.result c.note_patterns.new.said.items (c.note-in-Node-4.new.said.items ++ patterns_sorts c.as_slice.result.now) (a ++ pattern_sorts c.args.pattern.now)
    (
    ap (λ ps. c.note-in-Node-4.new.said.items ++ patterns_sorts ps) c.as_slice.ensures
    ∙ four_noted a c.note-in-Node.new.said.items c.note-in-Node-2.new.said.items c.note-in-Node-3.new.said.items c.note-in-Node-4.new.said.items
    (said n.var sort.Value) (said n.ty sort.Type) (said (variable_of_int n.int) sort.Int) (said n.aux (sort_of_aux n.op)) (patterns_sorts n.args)
    c.in_ok-note-in-Node.ensures c.in_ok-note-in-Node-2.ensures
    (c.in_ok-note-in-Node-3.ensures ∙ ap (λ i. c.note-in-Node-2.new.said.items ++ said i sort.Int) c.variable_of_int.ensures)
    (c.in_ok-note-in-Node-4.ensures ∙ ap (λ s. c.note-in-Node-3.new.said.items ++ said n.aux s) c.sort_of_aux.ensures)
    ∙ ap (λ xs. a ++ xs) (sym (ap pattern_sorts n.is ∙ sorts_of_node n.var n.op n.ty n.int n.aux n.args))
    )
    c.note_patterns.ensures
