use Rattle.std.proofs.Common.{ℕ, List, Bor}
use Rattle.bk_elf.proofs.Naming.{set_more}
use Rattle.bk_elf.proofs.names.set_of.Goals as goal

pub loop-name-preserved : goal.loop-name-preserved
loop-name-preserved c =
    set_more (λ (n : Bor (List ℕ)). n.now) c.args.names.now c.loop-name.name-index _ c.loop-name.set c.insert.new.self c.loop-name-test.true c.loop-name.invariant
    c.in_ok-insert.ensures.updates c.in_ok-insert.ensures.ordered
