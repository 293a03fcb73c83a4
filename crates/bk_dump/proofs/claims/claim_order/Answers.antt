use Rattle.std.proofs.Common.{ap, ◌∙◌, map}
use Rattle.bk_func.specs.Records.{PackageRecord}
use Rattle.bk_dump.specs.ClaimOrder.{ranked_from, place_of}
use Rattle.bk_dump.proofs.Orders.{claimed}
use Rattle.bk_dump.proofs.claims.claim_order.Goals as goal

pub returns : goal.returns
returns c =
    claimed _ _ _ _ (c.in_ok-ranked.ensures ∙ ap (ranked_from 0) (c.deref.ensures.value ∙ ap (λ (p : PackageRecord). p.funcs) c.pkg.view_is)) c.sort.ensures.permutation c.in_ok-sort.ensures.sorted
    (c.in_ok-order.ensures ∙ ap (map place_of) c.deref-2.ensures.value)
