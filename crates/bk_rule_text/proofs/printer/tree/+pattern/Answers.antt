use Rattle.std.proofs.Common.{◌++◌, codes, string_bytes}
use Rattle.bk_rule.proofs.Opened.{opened}
use Rattle.bk_rule_text.specs.Layout.{pattern_text, patterns_text}
use Rattle.bk_rule_text.proofs.Told.{told, node_is}
use Rattle.bk_rule_text.proofs.printer.tree.+pattern.Goals as goal

pub write_pattern-returns-in_ok-write_head-in-Node : goal.write_pattern-returns-in_ok-write_head-in-Node
unfolding opened
write_pattern-returns-in_ok-write_head-in-Node t c =
    let n = c.in-Node in
    told c.write_patterns.result (string_bytes c.write_patterns.new.out) (string_bytes c.write_head.new.out ++ (patterns_text c.as_slice.result.now ++ codes ")")) (string_bytes c.args.out.now ++ pattern_text c.args.pattern.now)
    (
    node_is n.var n.op n.ty n.int n.aux n.args c.as_slice.result.now c.args.pattern.now (string_bytes c.args.out.now) (string_bytes c.write_name.new.out) (string_bytes c.write_head.new.out)
    n.is c.as_slice.ensures c.in_ok-write_name-in-Node.ensures c.in_ok-write_head-in-Node.ensures
    )
    c.write_patterns.ensures
