use Rattle.std.proofs.Common.{◌≡◌, ◌∙◌, sym, ap, subst, ℕ, Bool, true, List, length, Option, None, replicate}
use Rattle.std.proofs.lemmas.List.{length-replicate}
use Rattle.bk_graph.specs.Settling.{tables, facts_in, IsSettling}
use Rattle.bk_graph.proofs.Passing.{beginning}
use Rattle.bk_graph.proofs.settled.Settled.begun.Goals as goal

pub returns-clause-right : goal.returns-clause-right
returns-clause-right c =
    let g = c.args.graph.now in
    let n = length g.blocks.now in
    let rs = c.in_ok-roots.roots in
    let a : c.in_ok-taken.taken.items ≡ replicate n None = c.in_ok-taken.ensures in
    let b : c.in_ok-reached.reached.items ≡ replicate n true = c.in_ok-reached.ensures.items_if_clones_equal (λ y k. k) in
    let P : List (Option ℕ) → List Bool → Type 0 = λ xs ys. IsSettling (tables g) (facts_in xs ys rs) in
    record {
      sized = record {
        taken = ap (λ (xs : List (Option ℕ)). length xs) a ∙ length-replicate {A = Option ℕ} n None;
        reached = ap (λ (xs : List Bool). length xs) b ∙ length-replicate n true;
        roots = c.in_ok-roots.ensures.size;
      };
      settling = subst (λ (xs : List (Option ℕ)). P xs c.in_ok-reached.reached.items) (sym a)
          (subst (λ (ys : List Bool). P (replicate n None) ys) (sym b) (beginning (tables g) rs c.requires c.in_ok-roots.ensures));
    }
