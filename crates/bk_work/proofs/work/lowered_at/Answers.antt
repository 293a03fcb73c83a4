use Rattle.std.proofs.Common.{◌≡◌, ◌∙◌, ◌<◌, ℕ, List, ap, get_or, length, refl, subst, sym, Result, Ok, Err, Some}
use Rattle.std.specs.Prelude.{IfOk, slice_get}
use Rattle.std.proofs.lemmas.Option.{slice_get_read}
use Rattle.bk_fixup.specs.Keys as fixup
use Rattle.bk_func.specs.Records.{FuncRecord, PackageRecord}
use Rattle.bk_ops.specs.declared.types.Target.{Target}
use Rattle.bk_work.specs.declared.items.Done.{Done}
use Rattle.bk_work.specs.declared.items.Done.TheVariants as done
use Rattle.bk_work.specs.Lowered.{IsLowered}
use Rattle.bk_work.specs.declared.refusals.Cause.{Cause}
use Rattle.bk_work.specs.Refused.{IsRefused, IsUnframed}
use Rattle.bk_work.specs.Rounds.{IsFirst, IsListed}
use Rattle.bk_work.specs.Rules.{RulesRecord}
use Rattle.bk_work.proofs.work.lowered_at.Goals as goal

found : (fs gs : List FuncRecord) (k : ℕ) (f : FuncRecord) → gs ≡ fs → k < length gs → f ≡ get_or gs k f → slice_get fs k ≡ Some f
found fs gs k f same lt is = subst (λ (l : List FuncRecord). slice_get l k ≡ Some f) same (slice_get_read gs (length gs) k f refl lt is)

listed : (pkg : PackageRecord) (t : Target) (rules : RulesRecord) (f g : FuncRecord) (d : Done) → IsLowered pkg t rules f g → IsListed g d → IsFirst pkg t rules f d
listed pkg t rules f g (done.Lowered h keys) low l = record {
  lowered = subst (IsLowered pkg t rules f) (sym l.0) low;
  keys = l.1 ∙ ap fixup.keys_of (sym l.0);
  are = l.2;
}
listed pkg t rules f g (done.Ready piece) low l = absurd l
listed pkg t rules f g (done.Refused cause) low l = absurd l

all_listed : {E : Type 0} (pkg : PackageRecord) (t : Target) (rules : RulesRecord) (place : ℕ) (f g : FuncRecord) (r : Result Done E) → slice_get pkg.funcs place ≡ Some f → IsLowered pkg t rules f g
    → IfOk r (IsListed g) → IfOk r (λ d. (x : FuncRecord) × (slice_get pkg.funcs place ≡ Some x) × IsFirst pkg t rules x d)
all_listed pkg t rules place f g (Ok d) there low h = (f, there, listed pkg t rules f g d low h)
all_listed pkg t rules place f g (Err e) there low h = tt

pub returns-in-Ok : goal.returns-in-Ok
returns-in-Ok c =
    let it = c.in-Some.ensures.lookup in
    all_listed c.args.pkg.now c.args.target c.args.lists.now.rules c.args.func c.in-Some.func.now c.in-Ok.func c.with_keys.result
    (found c.args.pkg.now.funcs c.deref.result.now c.args.func c.in-Some.func.now (c.deref.ensures.value ∙ ap (λ (p : PackageRecord). p.funcs) c.pkg.view_is) it.3.0 it.1) c.in-Ok.ensures.lowered c.with_keys.ensures

pub returns-in-Err-Refused : goal.returns-in-Err-Refused
returns-in-Err-Refused c =
    let it = c.in-Some.ensures.lookup in (
      c.in-Some.func.now,
      found c.args.pkg.now.funcs c.deref.result.now c.args.func c.in-Some.func.now (c.deref.ensures.value ∙ ap (λ (p : PackageRecord). p.funcs) c.pkg.view_is) it.3.0 it.1,
      subst (λ (cause : Cause). IsRefused c.args.pkg.now c.args.target c.args.lists.now.rules c.in-Some.func.now cause × IsUnframed cause) (sym c.in-Err-Refused.cause-is)
          (rw c.in-Err-Refused.field-0-is at c.in-Err-Refused.ensures.cause),
    )
