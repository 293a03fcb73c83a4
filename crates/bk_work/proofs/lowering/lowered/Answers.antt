use Rattle.std.proofs.Common.{◌∙◌, ap, refl}
use Rattle.bk_work.specs.Rules.{RulesRecord}
use Rattle.bk_work.proofs.Steps.{AreBefore, IsEarly, all_steps, generic_fails, halves_fail, lacks_code, machine_fails, narrowed, stopped, words_fail}
use Rattle.bk_work.proofs.lowering.lowered.Goals as goal

pub returns-in_err-live-clause-cause : goal.returns-in_err-live-clause-cause
returns-in_err-live-clause-cause c =
    stopped (IsEarly c.args.pkg.now c.args.target c.args.lists.now.rules c.args.func.now) c.from_residual.result c.in_err-live.field-0.0 c.from_residual.ensures.1
    (lacks_code c.args.pkg.now c.args.target c.args.lists.now.rules c.args.func.now c.in_err-live.field-0.0 c.in_err-live.ensures.cause)

pub returns-in_err-generic-clause-cause : goal.returns-in_err-generic-clause-cause
returns-in_err-generic-clause-cause c =
    let list = c.deref.ensures.value ∙ ap (λ (r : RulesRecord). r.generic) c.rules.view_is in
    stopped (IsEarly c.args.pkg.now c.args.target c.args.lists.now.rules c.args.func.now) c.from_residual-in_err-generic.result c.in_err-generic.field-0.0
    c.from_residual-in_err-generic.ensures.1
    (generic_fails c.args.pkg.now c.args.target c.args.lists.now.rules c.deref.result.now c.args.func.now c.in_ok-live.live c.in_err-generic.field-0.0 list c.in_ok-live.ensures.coded
    c.in_err-generic.ensures.cause)

pub returns-in_err-fit-clause-cause : goal.returns-in_err-fit-clause-cause
returns-in_err-fit-clause-cause c =
    let list = c.deref.ensures.value ∙ ap (λ (r : RulesRecord). r.generic) c.rules.view_is in
    stopped (IsEarly c.args.pkg.now c.args.target c.args.lists.now.rules c.args.func.now) c.from_residual-in_err-fit.result c.in_err-fit.field-0.0
    c.from_residual-in_err-fit.ensures.1
    (halves_fail c.args.pkg.now c.args.target c.args.lists.now.rules c.deref.result.now c.args.lists.now.rules.halves c.args.func.now c.in_ok-live.live c.in_ok-generic.generic c.in_err-fit.field-0.0
    list refl c.in_ok-live.ensures.coded c.in_ok-generic.ensures.settled c.in_err-fit.ensures.cause)

pub returns-in_err-words-clause-cause : goal.returns-in_err-words-clause-cause
returns-in_err-words-clause-cause c =
    let list = c.deref.ensures.value ∙ ap (λ (r : RulesRecord). r.generic) c.rules.view_is in
    stopped (IsEarly c.args.pkg.now c.args.target c.args.lists.now.rules c.args.func.now) c.from_residual-in_err-words.result c.in_err-words.field-0.0
    c.from_residual-in_err-words.ensures.1
    (words_fail c.args.pkg.now c.args.target c.args.lists.now.rules c.args.func.now c.in_ok-fit.fit c.in_err-words.field-0.0
    (narrowed c.args.pkg.now c.args.target c.args.lists.now.rules c.deref.result.now c.args.lists.now.rules.halves c.args.func.now c.in_ok-live.live c.in_ok-generic.generic c.in_ok-fit.fit list refl
    c.in_ok-live.ensures.coded c.in_ok-generic.ensures.settled c.in_ok-fit.ensures.fitted)
    c.in_err-words.ensures.cause)

pub returns : goal.returns
returns c =
    let list = c.deref.ensures.value ∙ ap (λ (r : RulesRecord). r.generic) c.rules.view_is in
    let before : AreBefore c.args.pkg.now c.args.target c.args.lists.now.rules c.deref-2.result.now c.args.func.now c.in_ok-fit.fit c.in_ok-words.words = record {
      machine_is = c.deref-2.ensures.value ∙ ap (λ (r : RulesRecord). r.machine) c.rules.view_is;
      first = narrowed c.args.pkg.now c.args.target c.args.lists.now.rules c.deref.result.now c.args.lists.now.rules.halves c.args.func.now c.in_ok-live.live c.in_ok-generic.generic c.in_ok-fit.fit list refl
          c.in_ok-live.ensures.coded c.in_ok-generic.ensures.settled c.in_ok-fit.ensures.fitted;
      second = c.in_ok-words.ensures.words;
    } in
    record {
      lowered = all_steps _ _ _ _ _ _ _ c.settled-2.result before c.settled-2.ensures.settled;
      cause = machine_fails _ _ _ _ _ _ _ c.settled-2.result before c.settled-2.ensures.cause;
    }
