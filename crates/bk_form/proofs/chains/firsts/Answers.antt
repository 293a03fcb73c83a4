use Rattle.std.proofs.Common.{◌≡◌, ◌∙◌, sym, ap, subst, ℕ, get_or, replicate, Option, None, arith}
use Rattle.bk_places.proofs.Sowing.{Sown, sown_first, sown_more, sown_past}
use Rattle.bk_form.proofs.Homes.{none_is, not_none}
use Rattle.bk_form.proofs.Sowing.{sown_all}
use Rattle.bk_form.proofs.chains.firsts.Goals as goal

pub loop-place-init : goal.loop-place-init
loop-place-init c =
    sown_first c.args.after.now c.len-nowhere.result (λ (p : ℕ). get_or c.args.befores.now p None ≡ None) c.in_ok-search.search.labels.items c.in_ok-search.search.reached.items
    (c.in_ok-search.ensures.none ∙ ap (λ n. replicate {A = Option ℕ} n None) c.len-nowhere.ensures) c.in_ok-search.ensures.marks

pub loop-place-preserved-then-is_later : goal.loop-place-preserved-then-is_later
loop-place-preserved-then-is_later c =
    sown_past c.args.after.now c.len-nowhere.result (λ (p : ℕ). get_or c.args.befores.now p None ≡ None) c.loop-place.place c.loop-place.search.labels.items c.loop-place.search.reached.items
    c.loop-place.invariant (λ e. not_none c.entry-before.result (sym c.is_some-is_later.ensures ∙ c.if-is_later.true) (c.entry-before.ensures ∙ e))

pub loop-place-preserved : goal.loop-place-preserved
loop-place-preserved c =
    sown_more c.args.after.now c.len-nowhere.result (λ (p : ℕ). get_or c.args.befores.now p None ≡ None) c.loop-place.place c.loop-place.search.labels.items c.loop-place.search.reached.items
    c.extend.new.self.labels.items c.extend.new.self.reached.items c.loop-place.invariant
    (sym c.entry-before.ensures ∙ none_is c.entry-before.result (sym c.is_some-is_later.ensures ∙ c.if-is_later.false)) c.in_ok-extend.ensures.marks c.in_ok-extend.ensures.closed
    c.in_ok-extend.ensures.grows c.in_ok-extend.ensures.found

pub returns : goal.returns
returns c =
    sown_all c.args.after.now c.args.befores.now c.loop-place.place c.loop-place.search.labels.items c.loop-place.search.reached.items
    (subst (λ (n : ℕ). Sown c.args.after.now n (λ (p : ℕ). get_or c.args.befores.now p None ≡ None) c.loop-place.place c.loop-place.search.labels.items c.loop-place.search.reached.items)
    c.len-nowhere.ensures c.loop-place.invariant)
    (omega arith)
