use Rattle.std.proofs.Common.{rules, ◌≡◌, ap, ◌∙◌, map, length}
use Rattle.std.specs.Prelude.{◌==◌, position}
use Rattle.std.proofs.lemmas.List.{length-map}
use Rattle.bk_func.specs.Numbers.{values_of, room}
use Rattle.bk_mean.proofs.Firsts.{position-map}
use Rattle.bk_mean.proofs.numbering.Numbering.new.Goals as goal

pub roots-requires-clause-count : goal.roots-requires-clause-count
roots-requires-clause-count c =
    let v : c.deref-2.result.now ≡ map (λ v. v.id) (values_of c.args.func.now) = search rules in
    let n : length (map (λ v. v.id) (values_of c.args.func.now)) ≡ room c.args.func.now = simp length-map in
    let l : c.len.result ≡ length c.deref-2.result.now = search rules in
    l ∙ ap length v ∙ n

pub roots-requires-clause-places : goal.roots-requires-clause-places
roots-requires-clause-places c = λ id.
    let v : c.deref-2.result.now ≡ map (λ v. v.id) (values_of c.args.func.now) = search rules in
    c.in_ok-values.ensures id ∙ ap (λ xs. position (λ x. x == id) xs) v ∙ position-map (λ v. v.id) id (values_of c.args.func.now)

pub returns : goal.returns
returns c =
    let v : c.deref-2.result.now ≡ map (λ v. v.id) (values_of c.args.func.now) = search rules in
    let b : c.deref-4.result.now ≡ map (λ b. b.id) c.args.func.now.blocks = search rules in
    record {
      values = λ id. c.in_ok-values.ensures id ∙ ap (λ xs. position (λ x. x == id) xs) v ∙ position-map (λ v. v.id) id (values_of c.args.func.now);
      blocks = λ id. c.in_ok-blocks.ensures id ∙ ap (λ xs. position (λ x. x == id) xs) b ∙ position-map (λ b. b.id) id c.args.func.now.blocks;
      roots = c.in_ok-roots.ensures;
    }
