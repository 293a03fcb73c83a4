-- Sections that lie in the file.
use Rattle.std.proofs.Common.{◌≡◌, ℕ, ◌+◌, ◌≤◌, true, ◌&&◌, nat_le, List, length, drop, slice_range, arith, length-drop}
use Rattle.std.proofs.lemmas.Bool.{and_parts, leb-true}
use Rattle.std.proofs.lemmas.List.{length-take-le}
use Rattle.bk_elf.specs.declared.tables.Section.{Section}
use Rattle.bk_elf.specs.Lists.{is_zero}
use Rattle.bk_elf.specs.Loading.{begin_read, extent_read, before_read, content, is_described, is_placed}

-- a section that stands as it must ends in the file
pub placed_within : (bytes : List ℕ) (s : Section) → is_placed bytes s ≡ true → begin_read bytes s + extent_read bytes s ≤ length bytes
unfolding is_placed
placed_within bytes s h =
    let a = and_parts (is_described bytes s) (nat_le (begin_read bytes s + extent_read bytes s) (length bytes) && is_zero (slice_range bytes (before_read bytes s) (begin_read bytes s))) h in
    let b = and_parts (nat_le (begin_read bytes s + extent_read bytes s) (length bytes)) (is_zero (slice_range bytes (before_read bytes s) (begin_read bytes s))) a.1 in
    leb-true (begin_read bytes s + extent_read bytes s) (length bytes) b.0

-- so its content is as long as its header tells
pub length-content : (bytes : List ℕ) (s : Section) → is_placed bytes s ≡ true → length (content bytes s) ≡ extent_read bytes s
unfolding content
length-content bytes s h =
    let within = placed_within bytes s h in
    length-take-le (extent_read bytes s) (drop (begin_read bytes s) bytes) (omega (arith, length-drop (begin_read bytes s) bytes))
