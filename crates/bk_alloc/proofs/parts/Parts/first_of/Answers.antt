use Rattle.std.proofs.Common.{◌≡◌, ◌∙◌, ap, sym}
use Rattle.std.specs.List.{slice_get}
use Rattle.std.proofs.lemmas.List.Folds.{find_at}
use Rattle.bk_alloc.specs.Blocks.{is_before}
use Rattle.bk_alloc.proofs.Firsts.{lent}
use Rattle.bk_alloc.proofs.parts.Parts.first_of.Goals as goal

pub returns : goal.returns
returns c =
    let same : c.deref.result.now ≡ c.args.self.now = c.deref.ensures.value ∙ c.self.view_is in
    lent c.deref.result.now c.first_place.result c.get.result c.get.ensures.lookup
    ∙ (ap (λ xs. slice_get xs c.first_place.result) same ∙ (ap (slice_get c.args.self.now) c.first_place.ensures ∙ sym (find_at (is_before c.args.numbers.now) c.args.self.now)))
