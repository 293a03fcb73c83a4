-- the first place of the blocks so far
use Rattle.std.proofs.Common.{◌≡◌, ◌≤◌, length, take}
use Rattle.std.specs.List.{position_or_len}
use Rattle.bk_alloc.specs.Blocks.{is_before}
use Rattle.bk_alloc.proofs.parts.Parts.first_place.Given as goal

abbrev pub invariant-loop-number : goal.invariant-loop-number
invariant-loop-number l = (l.first ≡ position_or_len (is_before (take l.number-index l.numbers)) l.self) × (l.first ≤ length l.self)
