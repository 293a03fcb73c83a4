use Rattle.std.proofs.Common.{sym, ◌∙◌, ap, ◌∷◌}
use Rattle.bk_dump.specs.Texts.{lines}
use Rattle.bk_dump.proofs.TextLines.{first_line, last_line}
use Rattle.bk_dump.proofs.read.lines.split_line.Goals as goal

pub returns-in-Some : goal.returns-in-Some
returns-in-Some c =
    let f = first_line c.args.text.now c.in-Some.line.now c.in-Some.rest.now (sym c.in-Some.ensures) in
    record { lines = f.0 ∙ ap (λ l. l ∷ lines c.in-Some.rest.now) (sym c.without_cr.ensures); shorter = f.1 }

pub returns-in-None : goal.returns-in-None
returns-in-None c = record { lines = last_line c.args.text.now (sym c.in-None.ensures) c.requires; shorter = c.requires }
