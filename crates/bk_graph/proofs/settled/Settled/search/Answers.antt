use Rattle.std.proofs.Common.{◌≡◌, ◌∙◌, sym, subst, ℕ, ◌≤◌, ◌++◌, Bool, List, length, take, arith}
use Rattle.std.proofs.lemmas.List.{take-append-le, take_all}
use Rattle.bk_graph.specs.Reads.{facts, tables_in}
use Rattle.bk_graph.specs.Settling.{IsShut}
use Rattle.bk_graph.proofs.settled.Settled.search.Goals as goal

take_whole : (n : ℕ) (xs ys : List Bool) → length xs ≡ n → take n (xs ++ ys) ≡ xs
take_whole n xs ys e =
    let l : n ≤ length xs = omega (arith, e) in
    let m : length xs ≤ n = omega (arith, e) in
    rw (take-append-le) (take_all n xs m)

pub returns-then-not-look_on-clause-last : goal.returns-then-not-look_on-clause-last
returns-then-not-look_on-clause-last c =
    let s = c.args.self.now in
    let r = c.look_on.ensures.none c.if-not-look_on.true in
    let n = c.look_on.ensures.found.size ∙ sym c.loop.invariant.size ∙ sym c.loop.found.ok.0 in
    λ b l. subst (λ (xs : List Bool). IsShut (tables_in s) (facts s) xs b) (sym (take_whole c.loop.found.len c.look_on.new.found _ n ∙ r.0)) (r.1 b l)
