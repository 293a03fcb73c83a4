use Rattle.std.proofs.Common.{◌≡◌, ℕ, List, sym, ◌∙◌, subst}
use Rattle.std.specs.List.{Contains}
use Rattle.std.proofs.lemmas.List.Elements.{Contains-append_left, Contains-append_right}
use Rattle.bk_core.specs.Rule.{Sight}
use Rattle.bk_core.specs.Events.{both}
use Rattle.bk_share.specs.Passes.{view, Learns}
use Rattle.bk_share.proofs.tests.cells_in_two_threads.Goals as goal

knows_left : (w a b : Sight) (x : ℕ × ℕ × ℕ) → w ≡ both a b → Contains a.known x → Contains w.known x
knows_left w a b x e has = subst (λ (u : Sight). Contains u.known x) (sym e) (Contains-append_left a.known b.known x has)

knows_right : (w a b : Sight) (x : ℕ × ℕ × ℕ) → w ≡ both a b → Contains b.known x → Contains w.known x
knows_right w a b x e has = subst (λ (u : Sight). Contains u.known x) (sym e) (Contains-append_right a.known b.known x has)

still_knows : (cells area key : ℕ) (v w : Sight) (x : ℕ × ℕ × ℕ) → Learns cells area key v w → Contains v.known x → Contains w.known x
still_knows cells area key v w x l has = subst (λ (known : List (ℕ × ℕ × ℕ)). Contains known x) (sym l.known) (Contains-append_left v.known l.more x has)

pub returns : goal.returns
returns g c =
    let a = c.join-a.result.0 in let b = c.join-a.result.1 in
    let x : ℕ × ℕ × ℕ = (c.args.area, a.handle.cell, c.args.key) in let y : ℕ × ℕ × ℕ = (c.args.area, b.handle.cell, c.args.key) in
    let p = view c.join.new.pass in let q = view c.join-2.new.pass in let r = view c.intern.new.pass in
    let x_known = still_knows _ c.args.area c.args.key q r x c.intern.ensures.learns
    (knows_left q p (view b.pass) x c.join-2.ensures.both (knows_right p (view c.split-b.new.pass) (view a.pass) x c.join.ensures.both c.join-a.ensures.first.1)) in
    let y_known = still_knows _ c.args.area c.args.key q r y c.intern.ensures.learns (knows_right q p (view b.pass) y c.join-2.ensures.both c.join-a.ensures.second.1) in
    record { same = c.intern.ensures.one_cell a.handle.cell x_known ∙ sym (c.intern.ensures.one_cell b.handle.cell y_known) }
