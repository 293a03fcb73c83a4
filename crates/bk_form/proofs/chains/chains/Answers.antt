use Rattle.std.proofs.Common.{◌≡◌, ◌∙◌, ap, ◌<◌, length, arith}
use Rattle.bk_places.proofs.Elements.{at_contains}
use Rattle.bk_places.proofs.Filling.{filled_none, filled_more}
use Rattle.bk_form.specs.Names.{measure}
use Rattle.bk_form.specs.declared.chains.Chain.TheVariants.{Empty}
use Rattle.bk_form.proofs.ChainNumbers.{ArePlaces, IsPlaceIn, chain_of, one_chain, members_are, members_close, members_within}
use Rattle.bk_form.proofs.Copied.{values_named}
use Rattle.bk_form.proofs.Homes.{chains_all}
use Rattle.bk_form.proofs.chains.chains.Goals as goal

pub loop-at-init : goal.loop-at-init
loop-at-init c = filled_none _ Empty c.in_ok-chains.chains.items c.in_ok-chains.ensures.items

pub chain-chain-requires-clause-closed : goal.chain-chain-requires-clause-closed
chain-chain-requires-clause-closed c =
    let within : c.loop-at.at < length c.in_ok-members.members = omega (arith, c.in_ok-members.ensures.size) in
    let all : IsPlaceIn c.args.homes.now c.loop-at.at c.behind-places.result.now =
    members_are c.args.homes.now c.in_ok-members.members c.in_ok-members.ensures.edges c.loop-at.at within c.behind-places.result.now c.behind-places.ensures in
    members_close c.args.homes.now c.args.names.now c.in_ok-links.links.befores.items c.in_ok-links.ensures.befores c.loop-at.at c.behind-places.result.now all

pub chain-chain-requires-clause-within : goal.chain-chain-requires-clause-within
chain-chain-requires-clause-within c = λ p m.
    let within : c.loop-at.at < length c.in_ok-members.members = omega (arith, c.in_ok-members.ensures.size) in
    let all : IsPlaceIn c.args.homes.now c.loop-at.at c.behind-places.result.now =
    members_are c.args.homes.now c.in_ok-members.members c.in_ok-members.ensures.edges c.loop-at.at within c.behind-places.result.now c.behind-places.ensures in
    omega (arith, members_within c.args.homes.now c.loop-at.at c.behind-places.result.now all p m, c.in_ok-links.ensures.befores.size, c.in_ok-links.ensures.links.size)

pub loop-at-preserved : goal.loop-at-preserved
loop-at-preserved c = filled_more c.loop-at.invariant c.chain-chain.result c.push.new.self.items
    (λ b eb.
    let f = c.args.flow.now.scope.func.now in
    let within : c.loop-at.at < length c.in_ok-members.members = omega (arith, c.in_ok-members.ensures.size) in
    let all : IsPlaceIn c.args.homes.now c.loop-at.at c.behind-places.result.now =
    members_are c.args.homes.now c.in_ok-members.members c.in_ok-members.ensures.edges c.loop-at.at within c.behind-places.result.now c.behind-places.ensures in
    let here : ArePlaces f c.args.homes.now c.args.names.now c.in_ok-links.links.befores.items = record {
      values = values_named (measure c.args.flow.now.scope) f c.requires.flow.named;
      homes = c.requires.homes;
      names = c.requires.names;
      befores = c.in_ok-links.ensures.befores;
    } in
    chain_of f c.args.homes.now c.args.names.now c.in_ok-links.links.befores.items here c.loop-at.at b eb c.behind-places.result.now all c.chain-chain.result c.chain-chain.ensures)
    c.in_ok-push.ensures.items

pub returns : goal.returns
returns c =
    let f = c.args.flow.now.scope.func.now in
    let long : length c.deref-blocks.result.now ≡ length f.blocks = ap length (c.deref-blocks.ensures.value ∙ ap (λ v. v.blocks) c.func.view_is) in
    let here : ArePlaces f c.args.homes.now c.args.names.now c.in_ok-links.links.befores.items = record {
      values = values_named (measure c.args.flow.now.scope) f c.requires.flow.named;
      homes = c.requires.homes;
      names = c.requires.names;
      befores = c.in_ok-links.ensures.befores;
    } in
    chains_all f
    (λ b l k has. let (i, eb) = at_contains f.blocks b has in one_chain f c.args.homes.now c.args.names.now c.in_ok-links.links.befores.items here i b eb l k)
    c.loop-at.chains.items c.loop-at.at (omega (arith, long)) c.loop-at.invariant
