use Rattle.std.proofs.Common.{◌≡◌, ◌%◌, ◌^◌, sym, ◌∙◌, subst, ap, Some, None}
use Rattle.std.specs.Prelude.{◌==◌, if◌then◌else◌, slice_set}
use Rattle.bk_ops.specs.Types.{word_width}
use Rattle.bk_func.specs.Numbers.{number_by}
use Rattle.bk_func.specs.Meaning.{trapped, fault_by}
use Rattle.bk_mean.specs.declared.role.Origin.{Origin}
use Rattle.bk_mean.specs.Seen.{seen_origin}
use Rattle.bk_mean.specs.Step.{IsSettled, settled, fault_of}
use Rattle.bk_mean.proofs.Inputs.{arg_is}
use Rattle.bk_mean.proofs.step.settle.Goals as goal

pub returns-in-Checked-clause-fault : goal.returns-in-Checked-clause-fault
returns-in-Checked-clause-fault c = λ p f e m s r h.
    let k = subst (λ (x : Origin). IsSettled (seen_origin x) c.args.given.target c.args.value.now) c.in-Checked.is h in
    subst (λ (x : Origin). fault_of c.check.result ≡ fault_by (seen_origin x) c.args.given.target m c.args.window.now c.args.value.now) (sym c.in-Checked.is)
    (c.check.ensures.fault ∙ ap (λ n. if n % 2 ^ word_width c.args.given.target == 0 then Some (trapped 1) else None) (arg_is c.args.numbers.now c.args.ready.now.args.items m c.args.value.now.args 0 r k))

pub returns-in-Checked-clause-number : goal.returns-in-Checked-clause-number
returns-in-Checked-clause-number c = λ p f e m s a r h sees none.
    let k = subst (λ (x : Origin). IsSettled (seen_origin x) c.args.given.target c.args.value.now) c.in-Checked.is h in
    subst (λ (x : Origin). c.check.new.numbers ≡ settled (seen_origin x) c.args.numbers.now c.args.place (number_by (seen_origin x) p f e m c.args.value.now)) (sym c.in-Checked.is)
    (c.check.ensures.number ∙ ap (slice_set c.args.numbers.now c.args.place) (arg_is c.args.numbers.now c.args.ready.now.args.items m c.args.value.now.args 0 r k))
