use Rattle.std.proofs.Common.{◌≡◌, ◌+◌, ◌*◌, ◌++◌, ◌≤◌, length, drop}
use Rattle.std.specs.Prelude.{sum_by}
use Rattle.std.specs.List.{All}
use Rattle.bk_link.specs.Sites.{func_sites}
use Rattle.bk_link.specs.Conditions.{IsLow}
use Rattle.bk_link.proofs.sites.func_sites.Given as goal

abbrev pub invariant-loop-place : goal.invariant-loop-place
invariant-loop-place l = record {
  made : l.sites.items ++ func_sites l.address (drop l.place l.funcs) (drop l.place l.pieces) ≡ func_sites 65536 l.funcs l.pieces;
  room : l.address + 4 * sum_by (λ p. length p.code) (drop l.place l.pieces) ≤ 16842752;
  low : All IsLow l.sites.items;
}
