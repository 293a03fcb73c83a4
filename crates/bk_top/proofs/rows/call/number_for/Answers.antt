use Rattle.std.proofs.Common.{rules, ℕ, FitsSigned, string_bytes}
use Rattle.bk_top.specs.Arguments.{GivesOne}
use Rattle.std.specs.Int.{w128}
use Rattle.std.proofs.lemmas.Int.{to_z-of_z}
use Rattle.bk_top.proofs.Calls.{unspelled, unfit, if_none}
use Rattle.bk_top.proofs.rows.call.number_for.Goals as goal

pub returns-in_err-number-clause-none : goal.returns-in_err-number-clause-none
returns-in_err-number-clause-none c =
    let none : (n : ℕ) → GivesOne c.args.target c.args.ty (string_bytes c.args.word.now) n → ⊥ = λ n g.
    unspelled c.args.target c.args.ty (string_bytes c.args.word.now) n c.in_err-number.ensures.none g in
    if_none _ _ none

pub returns-else-fits-clause-none : goal.returns-else-fits-clause-none
returns-else-fits-clause-none c n g =
    let found = c.in_ok-number.ensures.found in
    let fits : FitsSigned w128 c.in_ok-number.number = search rules in
    unfit c.args.target c.args.ty (string_bytes c.args.word.now) n c.in_ok-number.number found.1 found.0 (λ f. let t = c.fits.ensures.1 (rw (to_z-of_z w128 c.in_ok-number.number fits) f) in absurd (cc)) g
