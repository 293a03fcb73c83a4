use Rattle.std.proofs.Common.{◌∙◌, sym, ap, subst, ℕ, List, length}
use Rattle.bk_graph.specs.Roots.{root_of, roots, IsTree}
use Rattle.bk_graph.proofs.Trees.{put_tree, put_each, put_length}
use Rattle.bk_graph.proofs.roots.Roots.put.Goals as goal

pub invariant_of-self : goal.invariant_of-self
invariant_of-self c =
    let P : List ℕ → Type 0 = λ xs. IsTree xs in
    subst P (sym c.set_above.ensures)
    (put_tree c.self.inside.above.items c.args.self.now c.self.invariant c.args.from c.args.to c.self.view_is c.requires.from c.requires.to c.requires.apart c.requires.there c.requires.within)

pub returns-clause-size : goal.returns-clause-size
returns-clause-size c = ap (λ (xs : List ℕ). length (roots xs)) c.set_above.ensures ∙ put_length c.self.inside.above.items c.args.self.now c.args.from c.args.to c.self.view_is

pub returns-clause-each : goal.returns-clause-each
returns-clause-each c = λ p l.
    ap (λ (xs : List ℕ). root_of (roots xs) p) c.set_above.ensures
    ∙ put_each c.self.inside.above.items c.args.self.now c.self.invariant c.args.from c.args.to c.self.view_is c.requires.from c.requires.to c.requires.apart c.requires.there c.requires.within p
