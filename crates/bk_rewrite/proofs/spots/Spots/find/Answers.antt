use Rattle.bk_rewrite.proofs.Standings.{found_named, unnamed}
use Rattle.std.proofs.Common.{sym}
use Rattle.bk_rewrite.proofs.spots.Spots.find.Goals as goal

pub returns-in-Some-clause-named : goal.returns-in-Some-clause-named
returns-in-Some-clause-named c = λ u. found_named c.args.func.now c.args.id c.in-Some.spot.block c.in-Some.spot.place _ u c.in-Some.ensures c.value_at.ensures

pub returns-in-None-clause-named : goal.returns-in-None-clause-named
returns-in-None-clause-named c = λ u. sym (unnamed c.args.func.now c.args.id c.in-None.ensures)
