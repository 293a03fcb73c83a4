use Rattle.std.proofs.Common.{◌<◌, ◌^◌, ℕ, List, subst}
use Rattle.std.proofs.lemmas.List.{take_all}
use Rattle.std.proofs.lemmas.List.Elements.{All-more}
use Rattle.std.specs.List.{All}
use Rattle.bk_elf.proofs.typed.are_bytes.Goals as goal

abbrev Fits : ℕ → Type 0
Fits n = n < 2 ^ 8

pub loop-byte-preserved : goal.loop-byte-preserved
loop-byte-preserved c =
    All-more Fits c.args.bytes.now c.loop-byte.byte-index 0 c.loop-byte-test.true c.loop-byte.invariant c.is_byte.ensures

pub returns : goal.returns
returns c = subst (λ (xs : List ℕ). All Fits xs) (take_all c.loop-byte.byte-index c.args.bytes.now c.loop-byte-test.false) c.loop-byte.invariant
