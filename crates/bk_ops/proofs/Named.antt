-- An op that a name finds stands in the table.
use Rattle.std.proofs.Common.{◌≡◌, ℕ, true, List, Option, Some, ◌↔◌}
use Rattle.bk_ops.specs.declared.table.Op.{Op}
use Rattle.bk_ops.specs.Table.{is_op}
use Rattle.bk_ops.specs.Names.{HasName}

-- from the clause of `op_of_name`
pub found_is_op : (r : Option Op) (n : List ℕ) → ((o : Op) → (r ≡ Some o) ↔ HasName o n) → (o : Op) → r ≡ Some o → is_op o.family o.a o.b ≡ true
found_is_op r n h o e = ((h o).0 e).0
