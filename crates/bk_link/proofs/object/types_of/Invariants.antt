use Rattle.std.proofs.Common.{◌≡◌, take, map}
use Rattle.bk_piece.specs.Filled.{key_at}
use Rattle.bk_link.specs.Linked.{type_of}
use Rattle.bk_link.proofs.object.types_of.Given as goal

abbrev pub invariant-loop-handle : goal.invariant-loop-handle
invariant-loop-handle l = l.types.items ≡ map (λ h. type_of (key_at (map (λ w. w.items) l.words) h)) (take l.handle-index l.handles)
