use Rattle.std.proofs.Common.{rules, ◌≡◌, ℕ, List, refl, sym, ◌∙◌, subst, None}
use Rattle.bk_func.specs.Numbers.{Origin, origin_of, number_by}
use Rattle.bk_func.specs.Effects.{effect_of}
use Rattle.bk_func.specs.Meaning.{fault_by}
use Rattle.bk_mean.specs.Seen.{seen_origin}
use Rattle.bk_mean.specs.Step.{IsSettled, Sees, settled, fault_of}
use Rattle.bk_mean.proofs.step.step.Goals as goal

pub returns-in-None : goal.returns-in-None
returns-in-None c =
    let n : effect_of c.args.value.now.op.family c.args.value.now.ty ≡ None = search rules in
    let o : seen_origin c.origin_of-origin.result ≡ origin_of c.args.value.now.op.family = search rules in
    let d : c.deref.result.now ≡ c.args.window.now.items = c.deref.ensures.value in
    record {
      quiet = λ h. (refl, refl);
      fault = λ h p f e m s r k.
          subst (λ (x : Origin). fault_of c.settle.result ≡ fault_by x c.args.given.target m c.args.window.now.items c.args.value.now) o
          (subst (λ (y : List ℕ). fault_of c.settle.result ≡ fault_by (seen_origin c.origin_of-origin.result) c.args.given.target m y c.args.value.now) d
          (c.settle.ensures.fault p f e m s r (subst (λ (x : Origin). IsSettled x c.args.given.target c.args.value.now) (sym o) k)));
      number = λ h p f e m s a r k sees none.
          subst (λ (x : Origin). c.settle.new.numbers ≡ settled x c.args.numbers.now c.args.place (number_by x p f e m c.args.value.now)) o
          (c.settle.ensures.number p f e m s a r (subst (λ (x : Origin). IsSettled x c.args.given.target c.args.value.now) (sym o) k)
          (subst (λ (y : List ℕ). Sees f e y (seen_origin c.origin_of-origin.result) c.args.value.now) (sym d) (subst (λ (x : Origin). Sees f e c.args.window.now.items x c.args.value.now) (sym o) sees)) none);
      acted = λ y e. absurd (let q = sym n ∙ e in cc);
      effect = λ y e. absurd (let q = sym n ∙ e in cc);
      call = λ y e. absurd (let q = sym n ∙ e in cc);
      on = λ e. c.settle.ensures.on;
      acts_on = λ y e. absurd (let q = sym n ∙ e in cc);
    }
