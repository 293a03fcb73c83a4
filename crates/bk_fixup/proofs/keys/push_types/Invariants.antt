use Rattle.std.proofs.Common.{◌≡◌, ◌++◌, drop}
use Rattle.std.specs.List.{filter_map, All}
use Rattle.bk_fixup.specs.Keys.{IsKey, type_key}
use Rattle.bk_fixup.proofs.keys.push_types.Given as goal

abbrev pub invariant-loop-ty : goal.invariant-loop-ty
invariant-loop-ty l = record {
  value : l.keys.items ++ filter_map type_key (drop l.ty-index l.types) ≡ l.initial.keys.items ++ filter_map type_key l.types;
  keys : All IsKey l.initial.keys.items → All IsKey l.keys.items;
}
