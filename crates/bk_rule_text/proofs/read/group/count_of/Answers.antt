use Rattle.std.proofs.Common.{◌∙◌, sym, ap, Some, None}
use Rattle.std.specs.Prelude.{if◌then◌else◌}
use Rattle.bk_rule_text.proofs.GroupLoops.{counted}
use Rattle.bk_rule_text.proofs.read.group.count_of.Goals as goal

pub returns-then-all_have : goal.returns-then-all_have
returns-then-all_have c =
    let n = c.first_count-count.result in
    ap (λ t. if t then Some n else None) (sym c.if-all_have.true) ∙ counted c.args.bits.now n c.all_have.result c.first_count-count.ensures c.all_have.ensures

pub returns-else-all_have : goal.returns-else-all_have
returns-else-all_have c =
    let n = c.first_count-count.result in
    ap (λ t. if t then Some n else None) (sym c.if-all_have.false) ∙ counted c.args.bits.now n c.all_have.result c.first_count-count.ensures c.all_have.ensures
