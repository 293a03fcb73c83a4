use Rattle.std.proofs.Common.{◌≡◌, ◌∷◌, ℤ, suc, arith}
use Rattle.std.specs.Fmt.{signed_decimal}
use Rattle.bk_top.specs.Commands.{IsArgument}
use Rattle.bk_top.proofs.Calls.{behind_minus, if_none}
use Rattle.bk_top.proofs.Numbers.{same_number}
use Rattle.bk_top.proofs.command.number.below.Goals as goal

pub returns-in_err-magnitude-clause-none : goal.returns-in_err-magnitude-clause-none
returns-in_err-magnitude-clause-none c =
    let none : (z : ℤ) → IsArgument z → 45 ∷ c.args.digits.now ≡ signed_decimal z → ⊥ = λ z h e.
    let b = behind_minus c.args.digits.now z h e in
    c.in_err-magnitude.ensures.none (suc b.0) (omega (arith, b.1)) b.2 in
    if_none _ _ none

pub returns-then-magnitude-eq0-clause-none : goal.returns-then-magnitude-eq0-clause-none
returns-then-magnitude-eq0-clause-none c z h e =
    let b = behind_minus c.args.digits.now z h e in
    let found = c.in_ok-magnitude.ensures.found in
    let same : c.in_ok-magnitude.magnitude ≡ suc b.0 = same_number c.in_ok-magnitude.magnitude (suc b.0) _ found.1 (omega (arith, b.1)) found.0 b.2 in
    omega arith

pub returns-then-magnitude-gt-MOST_BELOW-clause-none : goal.returns-then-magnitude-gt-MOST_BELOW-clause-none
returns-then-magnitude-gt-MOST_BELOW-clause-none c z h e =
    let b = behind_minus c.args.digits.now z h e in
    let found = c.in_ok-magnitude.ensures.found in
    let same : c.in_ok-magnitude.magnitude ≡ suc b.0 = same_number c.in_ok-magnitude.magnitude (suc b.0) _ found.1 (omega (arith, b.1)) found.0 b.2 in
    omega (arith, b.1)
