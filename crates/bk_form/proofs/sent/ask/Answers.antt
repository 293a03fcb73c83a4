use Rattle.std.proofs.Common.{◌≡◌, ◌∙◌, ◌↔◌, sym, ap, subst, ℕ, List, Option, None, length, get_or, replicate, true, false}
use Rattle.std.specs.List.{Contains}
use Rattle.std.specs.Option.{option_map}
use Rattle.std.proofs.lemmas.List.{length-replicate}
use Rattle.std.proofs.lemmas.Option.{none-some}
use Rattle.bk_func.specs.Records.{SigRecord}
use Rattle.bk_places.proofs.Marking.{none_closed}
use Rattle.bk_places.specs.Search.{Path, IsClosed}
use Rattle.bk_form.specs.Names.{measure, seen_callee}
use Rattle.bk_form.specs.Sent.{Passes, IsFoundFrom}
use Rattle.bk_form.proofs.Noting.{reached_by}
use Rattle.bk_form.proofs.Sending.{asked_none, asked_nowhere, asked_one, found_from, nothing_there}
use Rattle.bk_form.proofs.Tables.{through}
use Rattle.bk_form.proofs.sent.ask.Goals as goal

pub returns-in_default-clause-each : goal.returns-in_default-clause-each
returns-in_default-clause-each c = λ p m e.
    let w = c.args.flow.now.scope in
    let es = c.args.steps.now in
    asked_none (option_map seen_callee c.args.callee) (get_or c.args.answers.now.items p false ≡ true) (IsFoundFrom es c.args.before p)
    (λ (g : SigRecord). Passes (measure w) w.func.now c.args.question g m.value)
    (ap (option_map seen_callee) (nothing_there c.args.callee c.in_default.not-Some))

pub returns-in_default-before-clause-each : goal.returns-in_default-before-clause-each
returns-in_default-before-clause-each c = λ p m e.
    let w = c.args.flow.now.scope in
    let es = c.args.steps.now in
    asked_nowhere (option_map seen_callee c.args.callee) (get_or c.args.answers.now.items p false ≡ true) (IsFoundFrom es c.args.before p)
    (λ (g : SigRecord). Passes (measure w) w.func.now c.args.question g m.value)
    (λ (j, is, path). none-some j (sym (nothing_there c.args.before c.in_default-before.not-Some) ∙ is))

pub extend-requires-clause-closed : goal.extend-requires-clause-closed
extend-requires-clause-closed c =
    subst (λ (ls : List (Option ℕ)). IsClosed c.args.steps.now c.len.result ls) (sym c.requires.clear.labels) (none_closed c.args.steps.now c.len.result (length c.args.steps.now))

pub extend-requires-clause-size : goal.extend-requires-clause-size
extend-requires-clause-size c = ap length c.requires.clear.labels ∙ length-replicate (length c.args.steps.now) None

pub extend-requires-clause-marks : goal.extend-requires-clause-marks
extend-requires-clause-marks c = c.requires.clear.marks

pub returns-clause-each : goal.returns-clause-each
returns-clause-each c = λ p m e.
    let w = c.args.flow.now.scope in
    let es = c.args.steps.now in
    let g = seen_callee c.in-Some.callee in
    let k = c.in-Some-before.start in
    let reached = reached_by es c.len.result k c.args.search.now.labels.items c.args.search.now.reached.items c.extend.new.self.labels.items c.extend.new.self.reached.items (length es)
    c.requires.clear.labels c.in_ok-extend.ensures.marks c.in_ok-extend.ensures.grows c.in_ok-extend.ensures.found p in
    asked_one (option_map seen_callee c.args.callee) g (get_or c.note.new.answers.items p false ≡ true) (get_or c.args.answers.now.items p false ≡ true)
    (Contains c.deref.result.now p) (IsFoundFrom es c.args.before p) (λ (h : SigRecord). Passes (measure w) w.func.now c.args.question h m.value)
    (ap (option_map seen_callee) c.in-Some.is) (c.note.ensures.each p m e)
    (through (subst (λ (xs : List ℕ). Contains xs p ↔ Path es (length es) k p) (sym c.deref.ensures.value)
    (subst (λ (n : ℕ). Contains c.extend.new.self.reached.items p ↔ Path es n k p) c.len.ensures reached))
    (found_from es c.args.before k p c.in-Some-before.is))

pub returns-clause-clear : goal.returns-clause-clear
returns-clause-clear c = record {
  labels = c.clear.ensures.none
      ∙ ap (λ n. replicate n None) (c.in_ok-extend.ensures.grows.size ∙ (ap length c.requires.clear.labels ∙ length-replicate (length c.args.steps.now) None));
  marks = c.clear.ensures.marks;
}
