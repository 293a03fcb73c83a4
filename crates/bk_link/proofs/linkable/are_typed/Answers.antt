use Rattle.std.proofs.Common.{ℕ, map, Vec, Global}
use Rattle.bk_link.proofs.Typed.{typed_not}
use Rattle.bk_link.proofs.linkable.are_typed.Goals as goal

pub returns-else-funcs-pieces : goal.returns-else-funcs-pieces
returns-else-funcs-pieces c = typed_not (map (λ (w : Vec ℕ Global). w.items) c.args.words.now) c.args.funcs.now c.args.pieces.now c.if-funcs-pieces.false
