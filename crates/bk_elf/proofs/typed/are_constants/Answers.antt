use Rattle.std.proofs.Common.{◌<◌, ◌^◌, ℕ, List, subst}
use Rattle.std.proofs.lemmas.List.{take_all}
use Rattle.std.proofs.lemmas.List.Elements.{All-more}
use Rattle.std.specs.List.{All}
use Rattle.bk_elf.proofs.typed.are_constants.Goals as goal

abbrev Fits : ℕ → Type 0
Fits n = n < 2 ^ 64

pub loop-constant-preserved : goal.loop-constant-preserved
loop-constant-preserved c =
    All-more Fits c.args.constants.now c.loop-constant.constant-index 0 c.loop-constant-test.true c.loop-constant.invariant c.is_constant.ensures

pub returns : goal.returns
returns c = subst (λ (xs : List ℕ). All Fits xs) (take_all c.loop-constant.constant-index c.args.constants.now c.loop-constant-test.false) c.loop-constant.invariant
