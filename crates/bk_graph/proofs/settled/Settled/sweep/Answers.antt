use Rattle.std.proofs.Common.{◌≡◌, ◌∙◌, sym, ap, subst, ℕ, ◌<◌, true, length, arith}
use Rattle.bk_graph.specs.Cleaned.{IsPhiDone, IsBranchDone}
use Rattle.bk_graph.specs.Facts.{Facts, edge_stays}
use Rattle.bk_graph.specs.Known.{Way}
use Rattle.bk_graph.specs.Reads.{facts, tables_in}
use Rattle.bk_graph.specs.Settling.{tables}
use Rattle.bk_graph.specs.Tables.{Tables}
use Rattle.bk_graph.proofs.Ending.{all_sound, all_closed}
use Rattle.bk_graph.proofs.Ruling.{reached_within}
use Rattle.bk_graph.proofs.Sweeping.{neither}
use Rattle.bk_graph.proofs.settled.Settled.sweep.Goals as goal

both : (P : Tables → Facts → Type 0) (t u : Tables) (F G : Facts) → t ≡ u → F ≡ G → P u G → P t F
both P t u F G e d x = (let Q : Facts → Type 0 = λ H. P u H in let R : Tables → Type 0 = λ v. P v F in subst R (sym e) (subst Q (sym d) x))

pub returns-clause-sound : goal.returns-clause-sound
returns-clause-sound c = λ e.
    let a = neither c.in_ok-left.left c.either-changed.result (sym c.either.ensures ∙ e) in
    let b = neither c.sweep_phis-yielded.result c.sweep_branches-decided.result (sym c.either-changed.ensures ∙ a.1) in
    let p = c.in_ok-left.ensures.none a.0 in
    let q = c.sweep_phis-yielded.ensures.none b.0 in
    let r = c.sweep_branches-decided.ensures.none b.1 in
    let s = c.sweep_branches-decided.new.self in
    let g = c.sweep_branches-decided.ensures.step.graph ∙ c.sweep_phis-yielded.ensures.step.graph ∙ c.in_ok-left.ensures.step.graph in
    all_sound (tables_in s) (facts s) c.sweep_branches-decided.ensures.step.right.settling
    (both (λ (t : Tables) (F : Facts). (b : ℕ) → F.reached b ≡ true → Way t (edge_stays F) b) (tables_in s) (tables_in c.args.self.now) (facts s) (facts c.args.self.now)
    (ap tables g) (r.0 ∙ q.0 ∙ p.0) p.1)

pub returns-clause-closed : goal.returns-clause-closed
returns-clause-closed c = λ e.
    let a = neither c.in_ok-left.left c.either-changed.result (sym c.either.ensures ∙ e) in
    let b = neither c.sweep_phis-yielded.result c.sweep_branches-decided.result (sym c.either-changed.ensures ∙ a.1) in
    let q = c.sweep_phis-yielded.ensures.none b.0 in
    let r = c.sweep_branches-decided.ensures.none b.1 in
    let s = c.sweep_branches-decided.new.self in
    let g = c.sweep_branches-decided.ensures.step.graph in
    let right = c.sweep_branches-decided.ensures.step.right in
    all_closed (tables_in s) (facts s) right.settling
    (both (λ (t : Tables) (F : Facts). (p : ℕ) → p < length t.nodes → IsPhiDone t F p) (tables_in s) (tables_in c.prune.new.self) (facts s) (facts c.prune.new.self)
    (ap tables (g ∙ c.sweep_phis-yielded.ensures.step.graph)) (r.0 ∙ q.0) q.1)
    (both (λ (t : Tables) (F : Facts). (b : ℕ) → b < length t.blocks → IsBranchDone t F b) (tables_in s) (tables_in c.sweep_phis-yielded.new.self) (facts s) (facts c.sweep_phis-yielded.new.self)
    (ap tables g) r.0 r.1)
    (λ b m. let l = reached_within s.reached.items b m in let z = right.sized.reached in omega (arith, l, z))
