-- Lines of code.
use Rattle.std.specs.Prelude.{ℕ, Option, Some, None}
use Rattle.bk_piece.specs.declared.Handle.{Handle}
use Rattle.bk_piece.specs.declared.Patch.{Patch}
use Rattle.bk_emit.specs.declared.lines.Line.{Line}
use Rattle.bk_emit.specs.declared.lines.Line.TheVariants as line

-- the first word of a unit that waits for the address of what the handle stands for
abbrev pub opening : Patch → Option Handle → ℕ → Line
opening p (Some h) w = line.Open p h w
opening p None w = line.Word w
