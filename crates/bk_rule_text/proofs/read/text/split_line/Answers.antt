use Rattle.std.proofs.Common.{◌∙◌, ◌∷◌, ◌+◌, drop, ap, sym, arith}
use Rattle.bk_rule_text.specs.Texts.{lines}
use Rattle.bk_rule_text.proofs.Cuts.{cut_at, uncut, no_lines, rest_of}
use Rattle.bk_rule_text.proofs.read.text.split_line.Goals as goal

pub returns-then-end-text-clause-split : goal.returns-then-end-text-clause-split
returns-then-end-text-clause-split c =
    let text = c.args.text.now in
    uncut text c.line_len-end.result c.line_len-end.ensures.value (omega arith) (omega arith) ∙ ap (λ ls. text ∷ ls) (sym no_lines)

pub returns-else-end-text-clause-split : goal.returns-else-end-text-clause-split
returns-else-end-text-clause-split c =
    let text = c.args.text.now in
    let end = c.line_len-end.result in
    cut_at text end c.line_len-end.ensures.value (omega arith)
    ∙ ap (λ line. line ∷ lines (drop (end + 1) text)) (sym c.without_cr.ensures)
    ∙ ap (λ t. c.without_cr.result.now ∷ lines t) (rest_of text end)
