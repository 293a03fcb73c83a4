use Rattle.std.proofs.Common.{◌≡◌, ◌∙◌, sym, subst, ℕ, ◌<◌, ◌↔◌, Bool, true, List, length, arith}
use Rattle.bk_graph.specs.declared.settled.Settled.{Settled}
use Rattle.bk_graph.specs.Cleaned.{IsNeeded}
use Rattle.bk_graph.specs.Marks.{marked}
use Rattle.bk_graph.specs.Reads.{facts, tables_in, IsRight}
use Rattle.bk_graph.proofs.Marking.{all_marked}
use Rattle.bk_graph.proofs.Ruling.{reached_within}
use Rattle.bk_graph.proofs.needed.Needed.new.Goals as goal

pub returns-then-not-look_on : goal.returns-then-not-look_on
returns-then-not-look_on c =
    let s = c.args.settled.now in
    let u = c.look_back.new.self.settled.now in
    let m = c.look_back.new.self.needed.items in
    let same : u ≡ s = c.look_back.ensures.settled ∙ c.loop.invariant.settled in
    let right : IsRight u = subst IsRight (sym same) c.requires in
    let none = c.look_on.ensures.none c.if-not-look_on.true in
    let P : Settled → Type 0 = λ x. (p : ℕ) → p < length (tables_in x).nodes → (marked m p ≡ true) ↔ IsNeeded (tables_in x) (facts x) p in
    let Q : List Bool → Type 0 = λ ms. (p : ℕ) → p < length (tables_in s).nodes → (marked ms p ≡ true) ↔ IsNeeded (tables_in s) (facts s) p in
    let within : (b : ℕ) → (facts u).reached b ≡ true → b < length (tables_in u).blocks = λ b d. (let l = reached_within u.reached.items b d in let z = right.sized.reached in omega (arith, l, z)) in
    let all : P u = all_marked (tables_in u) (facts u) m c.look_back.ensures.marks within none.1 none.2 in
    subst Q (sym none.0) (subst P same all)
