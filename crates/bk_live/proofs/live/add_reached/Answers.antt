use Rattle.std.proofs.Common.{◌∙◌, sym, ap, subst, ℕ, length}
use Rattle.bk_live.specs.Homes.{home}
use Rattle.bk_live.specs.Prepared.{home_or}
use Rattle.bk_live.specs.Search.{IsClear}
use Rattle.bk_live.proofs.Rowing.{finds_as}
use Rattle.bk_live.proofs.live.add_reached.Goals as goal

pub spread-requires : goal.spread-requires
spread-requires c = subst (λ (k : ℕ). IsClear k c.clear.new.self) (c.requires.size ∙ ap length (sym c.roads-roads.ensures.edges)) c.clear.ensures

pub returns-clause-finds : goal.returns-clause-finds
returns-clause-finds c =
    let ways = c.args.ways.now in
    finds_as ways.edges.now ways.lengths.now (home_or (home ways.homes.now c.args.value) (length ways.edges.now)) c.roads-roads.result.edges.now c.roads-roads.result.lengths.now
    c.roads-roads.result.avoided c.args.begun.now c.spread.new.self c.roads-roads.ensures.edges c.roads-roads.ensures.lengths c.roads-roads.ensures.avoided c.in_ok-spread.ensures
