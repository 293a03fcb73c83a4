use Rattle.bk_rewrite.proofs.Rooted.{rooted_nowhere, ungrouped}
use Rattle.bk_rewrite.proofs.roots.places_in.Goals as goal

pub returns-in-None : goal.returns-in-None
returns-in-None c = λ rules h.
    rooted_nowhere c.args.op rules (λ k r e q. ungrouped c.args.op rules c.args.groups.now k r h c.in-None.ensures.none e q)
