use Rattle.std.proofs.Common.{◌≡◌, arith, length, ◌∙◌}
use Rattle.std.proofs.lemmas.Bool.Decides.{nat_tests}
use Rattle.std.proofs.lemmas.Grind.{common_steps}
use Rattle.std.proofs.lemmas.Result.{err_from_is_err_and}
use Rattle.bk_dump.specs.Views.{state}
use Rattle.bk_dump.proofs.PackageLines.{line_goes_on, lines_end}
use Rattle.bk_dump.proofs.Whole.{line_refused, end_refused}
use Rattle.bk_dump.proofs.read.package.read_lines.Goals as goal

pub loop-rest-preserved : goal.loop-rest-preserved
loop-rest-preserved c = record {
  same = line_goes_on c.loop-rest.rest.now c.split_line.result.1.now c.split_line.result.0.now c.loop-rest.number (state c.loop-rest.reader) (state c.read_next.new.reader) _ c.split_line.ensures.lines c.in_ok-read_next.ensures c.loop-rest.invariant.same;
  counted = omega arith;
}

pub returns-in_err-read_next : goal.returns-in_err-read_next
returns-in_err-read_next c =
    let p = err_from_is_err_and c.from_residual.result c.from_residual.ensures.1 in
    rw (p.1, p.2) (line_refused c.loop-rest.rest.now c.split_line.result.1.now c.split_line.result.0.now c.loop-rest.number (state c.loop-rest.reader) _ _ c.split_line.ensures.lines c.in_err-read_next.ensures c.loop-rest.invariant.same)

pub returns-in_err-finish : goal.returns-in_err-finish
returns-in_err-finish c =
    let p = err_from_is_err_and c.from_residual-in_err-finish.result c.from_residual-in_err-finish.ensures.1 in
    let none : length c.loop-rest.rest.now ≡ 0 = grind (arith, nat_tests, common_steps) in
    rw (p.1, p.2) (end_refused c.loop-rest.rest.now c.loop-rest.number (state c.loop-rest.reader) _ _ none c.in_err-finish.ensures c.loop-rest.invariant.same)

pub returns : goal.returns
returns c =
    let none : length c.loop-rest.rest.now ≡ 0 = grind (arith, nat_tests, common_steps) in
    lines_end c.loop-rest.rest.now c.loop-rest.number (state c.loop-rest.reader) _ none c.loop-rest.invariant.same ∙ c.in_ok-finish.ensures
