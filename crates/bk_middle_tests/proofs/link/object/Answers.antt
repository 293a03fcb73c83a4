use Rattle.std.proofs.Common.{sym, subst}
use Rattle.bk_link.specs.Conditions.{IsNamed}
use Rattle.bk_middle_tests.proofs.Named.{named}
use Rattle.bk_middle_tests.proofs.link.object.Goals as goal

pub is_linkable-requires : goal.is_linkable-requires
is_linkable-requires c = subst IsNamed (sym c.in_ok-package.ensures) named
