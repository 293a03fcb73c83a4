use Rattle.std.proofs.Common.{◌<◌, ℕ, ◌∙◌, ap, refl, subst}
use Rattle.std.specs.Prelude.{slice_index}
use Rattle.std.specs.List.{Contains}
use Rattle.bk_core.specs.Rule.{Sight}
use Rattle.bk_share.specs.Passes.{view, count_in}
use Rattle.bk_work.specs.Rounds.{IsItem, Item}
use Rattle.bk_work.proofs.Grow.{Within, claim_knows, items_push, numbers_push}
use Rattle.bk_work.proofs.rounds.Round.work.Goals as goal

pub returns-in_default-clause-known : goal.returns-in_default-clause-known
returns-in_default-clause-known g c = λ x h. claim_knows (count_in c.args.self.now.share) (view c.claims.pass) (view c.claim.new.pass) c.claim.result c.claim.ensures.drew x (c.claims.invariant.known x h)

pub returns-in_err-done-clause-known : goal.returns-in_err-done-clause-known
returns-in_err-done-clause-known g c = λ x h. c.done.ensures.knows.known x (claim_knows (count_in c.args.self.now.share) (view c.claims.pass) (view c.claim.new.pass) c.claim.result c.claim.ensures.drew x (c.claims.invariant.known x h))

pub returns-in_err-put-clause-known : goal.returns-in_err-put-clause-known
returns-in_err-put-clause-known g c = λ x h. c.done.ensures.knows.known x (claim_knows (count_in c.args.self.now.share) (view c.claims.pass) (view c.claim.new.pass) c.claim.result c.claim.ensures.drew x (c.claims.invariant.known x h))

pub claims-preserved : goal.claims-preserved
claims-preserved g c =
    let r = c.args.self.now in let u = view c.claims.pass in let p = view c.claim.new.pass in let q = view c.done.new.pass in
    let n = c.in-Some.claim in
    let i : Item = (n, slice_index r.order.now n, c.in_ok-done.done) in
    let drawn = c.in-Some.ensures.drew in
    let within : Within (Contains u.known) (Contains q.known) = λ x h. c.done.ensures.knows.known x (claim_knows (count_in r.share) u p c.claim.result c.claim.ensures.drew x h) in
    let pushed = c.in_ok-put.ensures in
    let is : IsItem r.pkg.now r.target r.job r.order.now (Contains q.known) i = record { below = subst (λ (m : ℕ). n < m) r.count_is drawn.0; func = refl; is = c.in_ok-done.ensures.done } in record {
      pass = c.done.ensures.pass;
      parts = c.done.ensures.knows.parts ∙ (ap (λ (s : Sight). s.parts) drawn.1 ∙ c.claims.invariant.parts);
      known = λ x h. within x (c.claims.invariant.known x h);
      numbers = numbers_push (view c.args.pass.now) u p q c.claims.items.items c.put.new.list.items i n c.claims.invariant.numbers drawn.1 c.done.ensures.knows.numbers pushed refl;
      items = rw pushed (items_push r.pkg.now r.target r.job r.order.now (Contains u.known) (Contains q.known) c.claims.items.items i within c.claims.invariant.items is);
    }
