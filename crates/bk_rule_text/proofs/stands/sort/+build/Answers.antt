use Rattle.std.proofs.Common.{◌∙◌, ◌++◌, ap, sym}
use Rattle.bk_rule.proofs.Opened.{opened}
use Rattle.bk_rule_text.specs.declared.stands.sort.Sort.TheVariants as sort
use Rattle.bk_rule_text.specs.Stands.{said, sort_of_aux, variable_of_type, int_sorts, build_sorts, builds_sorts}
use Rattle.bk_rule_text.proofs.Standing.{noted, three_noted, sorts_of_build}
use Rattle.bk_rule_text.proofs.stands.sort.+build.Goals as goal

pub note_build-returns-in_ok-note-in-Node-2 : goal.note_build-returns-in_ok-note-in-Node-2
unfolding opened
note_build-returns-in_ok-note-in-Node-2 t c =
    let n = c.in-Node in
    let a = c.args.said.now.items in
    noted c.note_builds.result c.note_builds.new.said.items (c.note-in-Node-2.new.said.items ++ builds_sorts c.as_slice.result.now) (a ++ build_sorts c.args.build.now)
    (
    ap (λ bs. c.note-in-Node-2.new.said.items ++ builds_sorts bs) c.as_slice.ensures
    ∙ three_noted a c.note-in-Node.new.said.items c.note_int.new.said.items c.note-in-Node-2.new.said.items
    (said (variable_of_type n.ty) sort.Type) (int_sorts n.int) (said n.aux (sort_of_aux n.op)) (builds_sorts n.args)
    (c.in_ok-note-in-Node.ensures ∙ ap (λ i. a ++ said i sort.Type) c.variable_of_type.ensures)
    c.in_ok-note_int-in-Node.ensures
    (c.in_ok-note-in-Node-2.ensures ∙ ap (λ s. c.note_int.new.said.items ++ said n.aux s) c.sort_of_aux.ensures)
    ∙ ap (λ xs. a ++ xs) (sym (ap build_sorts n.is ∙ sorts_of_build n.op n.ty n.int n.aux n.args))
    )
    c.note_builds.ensures
