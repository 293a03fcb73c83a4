use Rattle.std.proofs.Common.{◌∙◌, sym, subst, ℕ, arith}
use Rattle.std.proofs.lemmas.Bool.{false≢true}
use Rattle.bk_places.proofs.Sowing.{Sown, sown_first, sown_more, sown_past}
use Rattle.bk_sched.proofs.Naming.{IsRoot, roots_are}
use Rattle.bk_sched.proofs.named.sow.Goals as goal

pub loop-place-init : goal.loop-place-init
loop-place-init c = sown_first c.args.copies.now c.len-nowhere.result (IsRoot c.args.block.now) c.args.search.now.labels.items c.args.search.now.reached.items c.requires.none c.requires.marks

pub loop-place-preserved-then-is_copy : goal.loop-place-preserved-then-is_copy
loop-place-preserved-then-is_copy c =
    sown_past c.args.copies.now c.len-nowhere.result (IsRoot c.args.block.now) c.loop-place.place c.loop-place.search.labels.items c.loop-place.search.reached.items c.loop-place.invariant
    (λ root. root (c.is_copy_at-is_copy.ensures.0 c.if-is_copy.true))

pub loop-place-preserved : goal.loop-place-preserved
loop-place-preserved c =
    sown_more c.args.copies.now c.len-nowhere.result (IsRoot c.args.block.now) c.loop-place.place c.loop-place.search.labels.items c.loop-place.search.reached.items
    c.extend.new.self.labels.items c.extend.new.self.reached.items c.loop-place.invariant
    (λ h. false≢true (sym c.if-is_copy.false ∙ c.is_copy_at-is_copy.ensures.1 h))
    c.in_ok-extend.ensures.marks c.in_ok-extend.ensures.closed c.in_ok-extend.ensures.grows c.in_ok-extend.ensures.found

pub returns : goal.returns
returns c =
    roots_are c.args.block.now c.requires.own c.args.places.now.numbers.items c.requires.places.known c.args.copies.now c.requires.copies c.loop-place.search.labels.items c.loop-place.search.reached.items
    c.loop-place.place
    (subst (λ (n : ℕ). Sown c.args.copies.now n (IsRoot c.args.block.now) c.loop-place.place c.loop-place.search.labels.items c.loop-place.search.reached.items) c.len-nowhere.ensures c.loop-place.invariant)
    (omega (arith, c.len-nowhere.ensures))
