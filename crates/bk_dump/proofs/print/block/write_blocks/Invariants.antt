use Rattle.std.proofs.Common.{◌≡◌, ◌++◌, drop, string_bytes}
use Rattle.bk_dump.specs.Print.{block_texts}
use Rattle.bk_dump.proofs.print.block.write_blocks.Given as goal

abbrev pub invariant-loop-block : goal.invariant-loop-block
invariant-loop-block l = string_bytes l.out ++ block_texts l.pkg l.sig (drop l.block-index l.blocks) ≡ string_bytes l.initial.out ++ block_texts l.pkg l.sig l.blocks
