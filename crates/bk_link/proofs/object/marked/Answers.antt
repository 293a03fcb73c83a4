use Rattle.std.proofs.Common.{◌≡◌, ◌∙◌, sym, ap, take}
use Rattle.std.proofs.lemmas.List.{take_all}
use Rattle.bk_link.specs.Sites.{is_among}
use Rattle.bk_link.proofs.Keyed.{among_keys}
use Rattle.bk_link.proofs.object.marked.Goals as goal

pub returns-clause-each : goal.returns-clause-each
returns-clause-each c = λ n l.
    let words = c.args.words.now in
    let whole : take c.loop-word.word-index words ≡ words = take_all c.loop-word.word-index words c.loop-word-test.false in
    c.loop-word.invariant.each n l ∙ (ap (λ ws. is_among ws n) whole ∙ sym (among_keys words n))
