use Rattle.std.proofs.Common.{rules, ◌≡◌, ◌%◌, ◌^◌, ap, sym, ◌∙◌, Some, false}
use Rattle.std.specs.Prelude.{◌==◌}
use Rattle.std.proofs.lemmas.Bool.{ne_eqb}
use Rattle.bk_ops.specs.Types.{word_width}
use Rattle.bk_func.specs.Numbers.{natural}
use Rattle.bk_mean.specs.Machine.{copy_fault}
use Rattle.bk_mean.proofs.Acts.{moved_stops}
use Rattle.bk_mean.proofs.step.copy.Goals as goal

pub returns-in-Some-clause-done : goal.returns-in-Some-clause-done
returns-in-Some-clause-done c = λ a w.
    let n : c.natural-count.result ≡ natural c.args.value.now.int = search rules in
    let z : (natural c.args.value.now.int == 0) ≡ false = ap (λ k. k == 0) (sym n) ∙ ne_eqb c.natural-count.result 0 c.if-count-eq0.false in
    let t : c.trunc.result ≡ c.args.to % 2 ^ word_width c.args.target = search rules in
    let f : c.trunc-2.result ≡ c.args.from % 2 ^ word_width c.args.target = search rules in
    let e : copy_fault c.args.window.now.items (natural c.args.value.now.int) (c.args.to % 2 ^ word_width c.args.target) (c.args.from % 2 ^ word_width c.args.target) ≡ Some c.in-Some.address =
    ap (λ k. copy_fault c.args.window.now.items k (c.args.to % 2 ^ word_width c.args.target) (c.args.from % 2 ^ word_width c.args.target)) (sym n)
    ∙ ap (λ x. copy_fault c.args.window.now.items c.natural-count.result x (c.args.from % 2 ^ word_width c.args.target)) (sym t)
    ∙ ap (λ x. copy_fault c.args.window.now.items c.natural-count.result c.trunc.result x) (sym f)
    ∙ sym c.copy_bytes.ensures.fault ∙ c.in-Some.is in
    let k : c.copy_bytes.new.window.items ≡ c.args.window.now.items = search rules in
    moved_stops c.args.window.now.items c.copy_bytes.new.window.items (natural c.args.value.now.int) (c.args.to % 2 ^ word_width c.args.target) (c.args.from % 2 ^ word_width c.args.target) c.in-Some.address a w z e k
