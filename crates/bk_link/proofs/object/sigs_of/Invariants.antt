use Rattle.std.proofs.Common.{◌≡◌, ◌++◌, drop, map}
use Rattle.bk_piece.specs.Filled.{filled}
use Rattle.bk_link.specs.Linked.{sigs_of}
use Rattle.bk_link.specs.Conditions.{AreTyped}
use Rattle.bk_link.proofs.object.sigs_of.Given as goal

abbrev pub invariant-loop-place : goal.invariant-loop-place
invariant-loop-place l = record {
  made : l.sigs.items ++ sigs_of (drop l.place l.funcs) (map (filled (map (λ w. w.items) l.words)) (drop l.place l.pieces)) ≡ sigs_of l.funcs (map (filled (map (λ w. w.items) l.words)) l.pieces);
  typed : AreTyped (map (λ w. w.items) l.words) (drop l.place l.funcs) (drop l.place l.pieces);
}
