use Rattle.std.proofs.Common.{◌≡◌, ◌∙◌, sym, subst, ℕ, None, Some, true, rules}
use Rattle.bk_graph.specs.Cleaned.{IsNeeded, control}
use Rattle.bk_graph.specs.Reads.{facts, tables_in}
use Rattle.bk_graph.specs.Tables.{control_of}
use Rattle.bk_graph.proofs.needed.Needed.mark_control.Goals as goal

pub mark-requires-clause-needed : goal.mark-requires-clause-needed
mark-requires-clause-needed c =
    let s = c.args.self.now.settled.now in
    let b = c.args.block in
    let reached : (facts s).reached b ≡ true = search rules in
    let taken : (facts s).taken b ≡ None = search rules in
    let at : control_of (tables_in s) b ≡ Some c.in-Some.control = sym c.control_of.ensures ∙ c.in-Some.is in
    let P : ℕ → Type 0 = λ r. IsNeeded (tables_in s) (facts s) r in
    subst P (sym c.root.ensures) (control b c.in-Some.control reached taken at)
