use Rattle.std.proofs.Common.{sym, subst, ℕ, List, map}
use Rattle.bk_live.specs.Live.{AreLive}
use Rattle.bk_live.proofs.Tabled.{live_rows_are}
use Rattle.bk_live.proofs.live.live_in.Goals as goal

pub returns : goal.returns
returns c = λ given.
    let os = map (λ o. o.items) c.args.orders.now in
    subst (λ (rows : List (List ℕ)). AreLive c.args.func.now os rows) (sym c.in_ok-values.ensures) (live_rows_are (c.in_ok-table.ensures given))
