use Rattle.std.proofs.Common.{rules}
use Rattle.std.proofs.lemmas.List.Sorted.{answers_always}
use Rattle.bk_live.proofs.Finding.{searched}
use Rattle.bk_live.proofs.rows.search.Goals as goal

-- the closure gives an element's number
pub returns : goal.returns
returns c =
    let facts = c.binary_search_by_key.ensures in
    let by_key = facts.position (λ live. live.value) (answers_always _ _ _ (λ f a r g called. search rules)) in
    searched c.args.row.now c.args.value _ c.requires facts.bound by_key
