use Rattle.std.proofs.Common.{◌∙◌, ◌≡◌, ℕ, List, ap, map, slice_index, subst}
use Rattle.bk_alloc.specs.Blocks.{PartRecord}
use Rattle.bk_alloc.specs.Names.{number_in}
use Rattle.bk_alloc.specs.Placing.{AreHomes, placed_part}
use Rattle.bk_alloc.proofs.allocation.place.Goals as goal

pub returns : goal.returns
returns c =
    let ps = c.args.parts.now in
    let hs = c.in_ok-homes.homes in
    let names = c.new-names.result in
    let first : c.deref.result.now ≡ ps = cc in
    let third : c.deref-3.result.now ≡ ps = cc in
    record {
      homes = hs;
      are = subst (λ (qs : List PartRecord). AreHomes qs hs) first c.in_ok-homes.ensures;
      blocks = c.in_ok-blocks.ensures
          ∙ (ap (λ (qs : List PartRecord). map (placed_part (number_in names) names.homes qs) qs) third
          ∙ (ap (λ (own : List ℕ). map (placed_part (number_in names) own ps) ps) c.new-names.ensures.homes
          ∙ ap (λ (numbers : List ℕ). map (placed_part (slice_index numbers) hs ps) ps) c.new-names.ensures.registers));
      count = c.count-slots.ensures;
    }
