use Rattle.std.proofs.Common.{◌≡◌, ℕ, ◌<◌, ◌+◌, ◌%◌, refl, sym, ◌∙◌, subst, arith}
use Rattle.bk_share.specs.Passes.{view}
use Rattle.bk_share.proofs.Walk.{Walking, walking_starts, area_of_key, cells_at, walking_inside, walking_round, learnt_all, knows_key, only_cell, walking_ends}
use Rattle.bk_share.proofs.shares.Share.intern.Goals.{then-cell-cells, else-cell-cells}
use Rattle.bk_share.proofs.shares.Share.intern.Goals as goal

pub cells-cells-requires : goal.cells-cells-requires
cells-cells-requires c = area_of_key c.args.self.now c.args.area c.args.key c.requires.key

pub visit-found-requires-clause-area : goal.visit-found-requires-clause-area
visit-found-requires-clause-area c = area_of_key c.args.self.now c.args.area c.args.key c.requires.key

pub visit-found-requires-clause-key : goal.visit-found-requires-clause-key
visit-found-requires-clause-key c = (c.args.self.now.nonzero c.args.area c.args.key c.requires.key, c.requires.key)

pub returns-then-found-key-clause-learns : goal.returns-then-found-key-clause-learns
returns-then-found-key-clause-learns c =
    let e = c.visit-found.ensures in
    let lt : c.loop-step.step < cells_at c.args.self.now c.args.area = let t = c.loop-step-test.true in let n = c.cells-cells.ensures in omega arith in
    learnt_all c.args.self.now (view c.args.pass.now) c.loop-step.pass c.args.area c.args.key c.loop-step.step c.loop-step.cell c.loop-step.invariant c.visit-found.new.pass c.visit-found.result e.pass e.learnt e.sound lt

pub returns-then-found-key-clause-handle : goal.returns-then-found-key-clause-handle
returns-then-found-key-clause-handle c =
    let e = c.visit-found.ensures in
    (refl, knows_key c.args.self.now (view c.args.pass.now) c.loop-step.pass c.args.area c.args.key c.loop-step.step c.loop-step.cell c.loop-step.invariant c.visit-found.new.pass c.visit-found.result e.pass e.learnt e.sound c.if-found-key.true)

pub returns-then-found-key-clause-one_cell : goal.returns-then-found-key-clause-one_cell
returns-then-found-key-clause-one_cell c =
    let e = c.visit-found.ensures in
    only_cell c.args.self.now (view c.args.pass.now) c.loop-step.pass c.args.area c.args.key c.loop-step.step c.loop-step.cell c.loop-step.invariant c.visit-found.new.pass c.visit-found.result e.pass e.learnt e.sound c.if-found-key.true

pub loop-step-init : goal.loop-step-init
loop-step-init c =
    let s = c.args.self.now in let p = c.args.pass.now in
    subst (λ (n : ℕ). Walking s (view p) p c.args.area c.args.key 0 (c.args.key % n)) (sym c.cells-cells.ensures) (walking_starts s p c.args.area c.args.key c.requires.pass)

pub loop-step-preserved : goal.loop-step-preserved
loop-step-preserved c =
    let e = c.visit-found.ensures in let s = c.args.self.now in let v = view c.args.pass.now in let q = c.visit-found.new.pass in let i = c.loop-step.step in let cell = c.loop-step.cell in
    let n = c.cells-cells.ensures in
    elim c.if-cell-cells.branch [
      | then-cell-cells w ↦ subst (λ (x : ℕ). Walking s v q c.args.area c.args.key (i + 1) x) (sym w.cell-is)
          (walking_round s v c.loop-step.pass c.args.area c.args.key i cell c.loop-step.invariant q c.visit-found.result e.pass e.learnt e.sound (w.if-cell-cells.true ∙ n) c.if-found-key.false)
      | else-cell-cells w ↦ subst (λ (x : ℕ). Walking s v q c.args.area c.args.key (i + 1) x) (sym w.cell-is)
          (walking_inside s v c.loop-step.pass c.args.area c.args.key i cell c.loop-step.invariant q c.visit-found.result e.pass e.learnt e.sound (λ z. w.if-cell-cells.false (z ∙ sym n)) c.if-found-key.false)
    ]

pub unreachable-requires : goal.unreachable-requires
unreachable-requires c =
    let s = c.args.self.now in
    let same : c.loop-step.step ≡ cells_at s c.args.area = let n = c.cells-cells.ensures in let a = c.loop-step-test.false in let b = c.loop-step.auto.step-end in omega arith in
    walking_ends s (view c.args.pass.now) c.loop-step.pass c.args.area c.args.key c.loop-step.cell (area_of_key s c.args.area c.args.key c.requires.key)
    (subst (λ (x : ℕ). Walking s (view c.args.pass.now) c.loop-step.pass c.args.area c.args.key x c.loop-step.cell) same c.loop-step.invariant)
