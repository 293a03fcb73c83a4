use Rattle.std.proofs.Common.{◌≡◌, ◌∙◌, ap, ℕ, List, [], replicate, arith}
use Rattle.bk_live.specs.declared.rows.LiveValue.{LiveValue}
use Rattle.bk_live.proofs.Edging.{lists_more}
use Rattle.bk_live.proofs.rows.Rows.new.Goals as goal

pub loop-preserved : goal.loop-preserved
loop-preserved c = lists_more _ c.loop.rows.items c.push.new.self.items c.new.result c.loop.counter [] c.loop.invariant c.in_ok-push.ensures.items c.new.ensures.items

pub returns : goal.returns
returns c =
    let same : c.loop.counter ≡ c.args.count = omega arith in
    c.loop.invariant ∙ ap (λ (n : ℕ). replicate {A = List LiveValue} n []) same
