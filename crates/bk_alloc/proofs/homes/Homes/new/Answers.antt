use Rattle.std.proofs.Common.{ap, map, subst, sym}
use Rattle.std.specs.BTreeMap.{is_at}
use Rattle.std.specs.List.{list_any}
use Rattle.std.specs.Ordering.{nat_cmp}
use Rattle.bk_alloc.specs.Placing.{AreHomes}
use Rattle.bk_alloc.proofs.Gathered.{gathered_homes}
use Rattle.bk_alloc.proofs.homes.Homes.new.Goals as goal

pub returns : goal.returns
returns c =
    subst (AreHomes c.args.parts.now) (sym c.in_ok-homes.ensures.values)
    (gathered_homes c.args.parts.now (map (λ m. m.items) c.args.ends.now) c.new-values.result c.add_parts.new.values c.add_ends.new.values
    (λ q. ap (λ ks. list_any (is_at (nat_cmp q)) ks) c.new-values.ensures.empty) c.in_ok-add_parts.ensures c.in_ok-add_ends.ensures c.requires c.in_ok-homes.ensures.ordered)
