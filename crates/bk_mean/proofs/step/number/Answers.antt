use Rattle.std.proofs.Common.{rules, ◌≡◌, sym, ◌∙◌, subst, map, ◌%◌, ◌^◌}
use Rattle.std.specs.Prelude.{slice_index}
use Rattle.bk_ops.specs.Values.{pure_value}
use Rattle.bk_func.specs.Numbers.{number_by, place_of_arg}
use Rattle.bk_ops.specs.Types.{width_of}
use Rattle.bk_mean.specs.declared.role.Origin.{Origin}
use Rattle.bk_mean.specs.Machine.{arg_number}
use Rattle.bk_mean.specs.Seen.{seen_origin}
use Rattle.bk_mean.specs.Step.{Follows}
use Rattle.bk_mean.proofs.Inputs.{arg_is, by_argument, by_computed}
use Rattle.bk_mean.proofs.step.number.Goals as goal

pub returns-in-Argument : goal.returns-in-Argument
returns-in-Argument c = λ p f e m s a r h.
    let g : c.at.result ≡ slice_index c.args.given.args.now (place_of_arg c.args.value.now.aux) = search rules in
    let w : c.fitted.result ≡ c.at.result % 2 ^ width_of c.args.value.now.ty c.args.given.target = search rules in
    subst (λ (x : Origin). c.fitted.result ≡ number_by (seen_origin x) p f e m c.args.value.now) (sym c.in-Argument.is)
    (by_argument p f e m c.args.value.now c.args.given.target c.args.given.args.now s c.fitted.result c.at.result g w)

pub returns-in-Same : goal.returns-in-Same
returns-in-Same c = λ p f e m s a r h.
    let k = subst (λ (x : Origin). Follows (seen_origin x) c.args.value.now) c.in-Same.is h in
    let g : c.arg.result ≡ arg_number c.args.numbers.now c.args.ready.now.args.items 0 = search rules in
    subst (λ (x : Origin). c.arg.result ≡ number_by (seen_origin x) p f e m c.args.value.now) (sym c.in-Same.is)
    (g ∙ arg_is c.args.numbers.now c.args.ready.now.args.items m c.args.value.now.args 0 r k)

pub returns-in-Computed : goal.returns-in-Computed
returns-in-Computed c = λ p f e m s a r h.
    let k = subst (λ (x : Origin). Follows (seen_origin x) c.args.value.now) c.in-Computed.is h in
    let g : c.computed.result ≡ pure_value c.args.value.now.op c.args.value.now.int (map (slice_index c.args.numbers.now) c.args.ready.now.args.items) c.args.given.target = search rules in
    subst (λ (x : Origin). c.unwrap_or.result ≡ number_by (seen_origin x) p f e m c.args.value.now) (sym c.in-Computed.is)
    (by_computed p f e m c.args.value.now c.args.given.target c.args.given.args.now c.args.numbers.now c.args.ready.now.args.items s r k c.unwrap_or.result c.computed.result g c.unwrap_or.ensures)
