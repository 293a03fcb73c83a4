-- no place passes
use Rattle.std.proofs.Common.{length, None, arith, sym}
use Rattle.std.proofs.lemmas.List.Sums.{position_or_len_is}
use Rattle.bk_alloc.specs.Registers.{is_open}
use Rattle.bk_alloc.proofs.registers.first_open.Goals as goal

pub returns-clause-is : goal.returns-clause-is
returns-clause-is c =
    sym (position_or_len_is is_open c.args.held.now (length c.args.held.now) None (omega arith) (λ k l. c.loop-place.invariant k (omega arith)) (λ l. absurd (omega arith)))
