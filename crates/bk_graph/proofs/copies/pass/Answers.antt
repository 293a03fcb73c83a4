use Rattle.std.proofs.Common.{◌∙◌, sym, subst, ℕ, List}
use Rattle.bk_graph.specs.Settling.{tables, Yields}
use Rattle.bk_graph.proofs.Passing.{passed_past, passed_on}
use Rattle.bk_graph.proofs.copies.pass.Goals as goal

pub returns-in-Some : goal.returns-in-Some
returns-in-Some c =
    let t = tables c.args.graph.now in
    let P : List ℕ → Type 0 = λ xs. Yields xs c.bypass.new.roots c.args.place c.find-root.result in
    let Q : ℕ → Type 0 = λ r. Yields c.args.roots.now c.bypass.new.roots c.args.place r in
    passed_on t c.args.roots.now c.bypass.new.roots c.args.place c.in-Some.first c.requires.roots c.requires.within (sym c.first_of.ensures ∙ c.in-Some.is)
    (subst Q c.find-root.ensures.root (subst P c.find-root.ensures.same c.bypass.ensures))

pub returns-in-None : goal.returns-in-None
returns-in-None c = passed_past (tables c.args.graph.now) c.args.roots.now c.args.place c.requires.roots (sym c.first_of.ensures ∙ c.in-None.is)
