use Rattle.std.proofs.Common.{◌∙◌, ◌++◌, ap, sym}
use Rattle.bk_rule.proofs.Opened.{opened}
use Rattle.bk_rule_text.specs.Stands.{said}
use Rattle.bk_rule_text.specs.Widths.{pattern_classes, patterns_classes}
use Rattle.bk_rule_text.proofs.Standing.{noted, two_noted, classes_of_node}
use Rattle.bk_rule_text.proofs.stands.width.+classes.Goals as goal

pub note_pattern-returns-in_ok-note-in-Node-2 : goal.note_pattern-returns-in_ok-note-in-Node-2
unfolding opened
note_pattern-returns-in_ok-note-in-Node-2 t c =
    let n = c.in-Node in
    let a = c.args.said.now.items in
    noted c.note_patterns.result c.note_patterns.new.said.items (c.note-in-Node-2.new.said.items ++ patterns_classes n.op 0 c.as_slice.result.now) (a ++ pattern_classes c.args.pattern.now c.args.class)
    (
    ap (λ ps. c.note-in-Node-2.new.said.items ++ patterns_classes n.op 0 ps) c.as_slice.ensures
    ∙ two_noted a c.note-in-Node.new.said.items c.note-in-Node-2.new.said.items (said n.var c.args.class) (said n.ty c.args.class) (patterns_classes n.op 0 n.args) c.in_ok-note-in-Node.ensures c.in_ok-note-in-Node-2.ensures
    ∙ ap (λ xs. a ++ xs) (sym (ap (λ p. pattern_classes p c.args.class) n.is ∙ classes_of_node n.var n.op n.ty n.int n.aux n.args c.args.class))
    )
    c.note_patterns.ensures
