use Rattle.std.proofs.Common.{◌≡◌, ℕ, ◌<◌, length, take}
use Rattle.std.specs.Prelude.{slice_index_or, false}
use Rattle.bk_link.specs.Sites.{is_among}
use Rattle.bk_link.proofs.object.marked.Given as goal

abbrev pub invariant-loop-word : goal.invariant-loop-word
invariant-loop-word l = record {
  long : length l.used.items ≡ l.names;
  each : (n : ℕ) → n < l.names → slice_index_or l.used.items n false ≡ is_among (take l.word-index l.words) n;
}
