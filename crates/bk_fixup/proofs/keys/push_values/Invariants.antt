use Rattle.std.proofs.Common.{◌≡◌, ◌++◌, drop}
use Rattle.std.specs.List.{filter_map, All}
use Rattle.bk_fixup.specs.Keys.{IsKey, key_of}
use Rattle.bk_fixup.proofs.keys.push_values.Given as goal

abbrev pub invariant-loop-value : goal.invariant-loop-value
invariant-loop-value l = record {
  value : l.keys.items ++ filter_map key_of (drop l.value-index l.values) ≡ l.initial.keys.items ++ filter_map key_of l.values;
  keys : All IsKey l.initial.keys.items → All IsKey l.keys.items;
}
