use Rattle.std.proofs.Common.{ap, ◌++◌}
use Rattle.std.proofs.lemmas.Grind.{common_steps}
use Rattle.std.proofs.Common.{arith}
use Rattle.bk_num.proofs.Written.{low}
use Rattle.bk_num.proofs.windows.push_bytes.Goals as goal

pub returns-clause-ok : goal.returns-clause-ok
returns-clause-ok c =
    let e = ap (λ l. c.args.out.now.items ++ l) (low c.args.size c.args.n c.requires) in
    grind (arith, common_steps)
