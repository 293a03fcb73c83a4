use Rattle.std.proofs.Common.{◌∙◌, ◌++◌, ap, sym}
use Rattle.bk_rule.proofs.Opened.{opened}
use Rattle.bk_rule_text.specs.Stands.{said, variable_of_type}
use Rattle.bk_rule_text.specs.Widths.{build_classes, builds_classes}
use Rattle.bk_rule_text.proofs.Standing.{noted, one_noted, classes_of_build}
use Rattle.bk_rule_text.proofs.stands.width.+made_classes.Goals as goal

pub note_build-returns-in_ok-note-in-Node : goal.note_build-returns-in_ok-note-in-Node
unfolding opened
note_build-returns-in_ok-note-in-Node t c =
    let n = c.in-Node in
    let a = c.args.said.now.items in
    noted c.note_builds.result c.note_builds.new.said.items (c.note-in-Node.new.said.items ++ builds_classes n.op 0 c.as_slice.result.now) (a ++ build_classes c.args.build.now c.args.class)
    (
    ap (λ bs. c.note-in-Node.new.said.items ++ builds_classes n.op 0 bs) c.as_slice.ensures
    ∙ one_noted a c.note-in-Node.new.said.items (said (variable_of_type n.ty) c.args.class) (builds_classes n.op 0 n.args) (c.in_ok-note-in-Node.ensures ∙ ap (λ i. a ++ said i c.args.class) c.variable_of_type.ensures)
    ∙ ap (λ xs. a ++ xs) (sym (ap (λ b. build_classes b c.args.class) n.is ∙ classes_of_build n.op n.ty n.int n.aux n.args c.args.class))
    )
    c.note_builds.ensures
