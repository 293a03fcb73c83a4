use Rattle.std.proofs.Common.{◌≡◌, take}
use Rattle.std.specs.List.{flat_map, All}
use Rattle.bk_fixup.specs.Keys.{IsKey, block_keys}
use Rattle.bk_fixup.proofs.keys.listed.Given as goal

abbrev pub invariant-loop-block : goal.invariant-loop-block
invariant-loop-block l = record { value : l.keys.items ≡ flat_map block_keys (take l.block-index l.func.blocks); keys : All IsKey l.keys.items }
