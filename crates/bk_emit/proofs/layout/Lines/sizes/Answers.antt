use Rattle.std.proofs.Common.{◌≡◌, ◌∙◌, length, rules}
use Rattle.bk_emit.specs.Tables.{line_of}
use Rattle.bk_emit.proofs.Branches.{branches_fit}
use Rattle.bk_emit.proofs.layout.Lines.sizes.Goals as goal

pub sizes-requires : goal.sizes-requires
sizes-requires g c =
    let words : c.in_ok-lines.lines ≡ length c.args.self.now.lines.items = search rules in
    branches_fit (line_of c.args.self.now.starts) c.args.self.now.lines.items c.deref.result.now c.in_ok-lines.lines (c.deref.ensures.value ∙ c.in_ok-branches.ensures) words
