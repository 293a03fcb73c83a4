use Rattle.std.proofs.Common.{◌≡◌, ◌∙◌, ap, subst, sym, [], ◌∷◌, ◌++◌, length, position}
use Rattle.std.specs.Prelude.{◌==◌}
use Rattle.bk_alloc.specs.Blocks.{PartRecord}
use Rattle.bk_alloc.specs.Places.{Notes}
use Rattle.bk_alloc.proofs.Firsts.{first_push}
use Rattle.bk_alloc.proofs.parts.Parts.push.Goals as goal

pub invariant_of-self-2 : goal.invariant_of-self-2
invariant_of-self-2 c =
    let xs = c.self.inside.parts.items in
    let all : c.push_reserved.new.self.items ≡ xs ++ c.args.part ∷ [] = c.push_reserved.ensures.items ∙ ap (λ ys. ys ++ c.args.part ∷ []) c.reserve.ensures.items in
    let size : c.count-place.result ≡ length xs = c.count-place.ensures ∙ ap length (sym c.self.view_is) in
    λ n.
    first_push (λ (p : PartRecord). p.plan.id) xs c.args.part c.id.result c.self.inside.places c.note.new.places c.id.ensures c.self.invariant
    (subst (λ k. Notes c.self.inside.places c.note.new.places c.id.result k) size c.in_ok-note.ensures.ok) n
    ∙ ap (position (λ (p : PartRecord). p.plan.id == n)) (sym all)
