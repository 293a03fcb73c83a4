-- Ops by their names.
use Rattle.std.proofs.Common.{◌≡◌, ℕ, List, sym, refl, Option, Some, None}
use Rattle.std.specs.Prelude.{◌↔◌}
use Rattle.bk_ops.specs.declared.table.Op.{Op}
use Rattle.bk_ops.specs.Names.{HasName}
use Rattle.bk_ops.specs.Reading.{read}
use Rattle.bk_ops.proofs.Reading.{name_read, read_name}

none_named : (n : List ℕ) (r : Option Op) → read n ≡ r → ((o : Op) → (None ≡ Some o) ↔ HasName o n) → None ≡ r
none_named n None e h = refl
none_named n (Some o) e h = (h o).1 (name_read n o e)

-- an answer that is right for each op is what the name reads as
pub same_op : (n : List ℕ) (r : Option Op) → ((o : Op) → (r ≡ Some o) ↔ HasName o n) → r ≡ read n
same_op n None h = none_named n (read n) refl h
same_op n (Some o) h = sym (read_name n o ((h o).0 refl))
