use Rattle.std.proofs.Common.{◌++◌, codes, string_bytes}
use Rattle.bk_rule.proofs.Opened.{opened}
use Rattle.bk_rule_text.specs.Layout.{build_text, builds_text}
use Rattle.bk_rule_text.proofs.Told.{told, made_is}
use Rattle.bk_rule_text.proofs.printer.tree.+build.Goals as goal

pub write_build-returns-in_ok-write_made-in-Node : goal.write_build-returns-in_ok-write_made-in-Node
unfolding opened
write_build-returns-in_ok-write_made-in-Node t c =
    let n = c.in-Node in
    told c.write_builds.result (string_bytes c.write_builds.new.out) (string_bytes c.write_made.new.out ++ (builds_text c.as_slice.result.now ++ codes ")")) (string_bytes c.args.out.now ++ build_text c.args.build.now)
    (made_is n.op n.ty n.int n.aux n.args c.as_slice.result.now c.args.build.now (string_bytes c.args.out.now) (string_bytes c.write_made.new.out) n.is c.as_slice.ensures c.in_ok-write_made-in-Node.ensures)
    c.write_builds.ensures
