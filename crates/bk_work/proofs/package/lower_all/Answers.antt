use Rattle.std.proofs.Common.{◌≡◌, ap, ◌∙◌, length}
use Rattle.std.proofs.lemmas.Result.{IfOk-weaker}
use Rattle.bk_core.specs.Events.{words_of}
use Rattle.bk_func.specs.Records.{PackageRecord}
use Rattle.bk_work.specs.declared.placing.Firsts.{Firsts}
use Rattle.bk_work.specs.Placed.{AreFirsts}
use Rattle.bk_work.specs.Results.{AreFirstDone}
use Rattle.bk_work.specs.Rules.{rules_of}
use Rattle.bk_work.specs.Run.{AreAll}
use Rattle.bk_work.proofs.Results.{first_each, same_round}
use Rattle.bk_work.proofs.package.lower_all.Goals as goal

pub returns : goal.returns
returns g c =
    let pkg = c.args.pkg.now in let t = c.args.target in let rules = rules_of t c.args.extra.now in
    let r = c.in_ok-round.round in let made = c.in_ok-round.ensures in
    let words = words_of c.in_ok-items.field-0-1 in let items = c.in_ok-items.items.items in let slots = c.in_ok-slots.slots.items in
    let all : AreAll pkg t r.job r.order.now words items = same_round r.pkg.now pkg r.target t r.job r.order.now words items made.package.0 made.package.1 c.in_ok-items.ensures.items in
    let count : c.len.result ≡ length pkg.funcs = c.len.ensures ∙ c.pkg.inside.funcs.ok.0 ∙ ap (λ (p : PackageRecord). length p.funcs) c.pkg.view_is in
    IfOk-weaker c.new.result (λ (it : Firsts). AreFirsts slots it.lowered.items it.causes.items) (λ (it : Firsts). AreFirstDone pkg t rules it.lowered.items it.causes.items)
    (λ it firsts. record {
      slots = slots;
      long = c.in_ok-slots.ensures.long ∙ (c.in_ok-empty.ensures.long ∙ count);
      firsts = firsts;
      each = first_each pkg t r.job rules r.order.now words items c.in_ok-empty.field-0.items slots made.job.0 all c.in_ok-empty.ensures.empty c.in_ok-slots.ensures.placed;
    })
    c.new.ensures
