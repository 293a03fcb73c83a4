use Rattle.std.proofs.Common.{◌≡◌, ◌<◌, ◌++◌, ℕ, List, [], ◌∷◌, map, get_or, ◌+◌, length, sym, ap, ◌∙◌, subst, arith}
use Rattle.std.specs.declared.vec.Vec.{Vec}
use Rattle.std.specs.declared.alloc.Global.{Global}
use Rattle.std.specs.Slots.{slots_items}
use Rattle.bk_core.specs.Rule.{cells_of}
use Rattle.bk_core.specs.Events.{CoreState, words_of}
use Rattle.bk_share.specs.Plan.{base}
use Rattle.bk_share.specs.Passes.{view, announced_in, parts_in, IsLast}
use Rattle.bk_share.proofs.Moves.{Copied, ends, ends_alone}
use Rattle.bk_share.proofs.shares.Share.close.Goals as goal

copied : (row ws : List ℕ) (from at : ℕ) → at ≡ from → ((k : ℕ) → k < length row → get_or row k 0 ≡ get_or ws (at + k) 0) → (k : ℕ) → k < length row → get_or row k 0 ≡ get_or ws (from + k) 0
copied row ws from at e h k lt = h k lt ∙ ap (λ (i : ℕ). get_or ws (i + k) 0) e

-- the core at the end
last : (c : goal.After-push_reserved-3) → (m : CoreState) × IsLast (announced_in c.args.self) (parts_in c.args.self) (words_of c.push_reserved-3.new.self) (view c.args.pass) m
last c =
    let V : Type 0 = Vec ℕ Global in
    let p = c.args.self.table.shared.key in
    let ws = slots_items c.close_with-closed.result.words in
    let a = c.fill.new.row in let b = c.fill-2.new.row in let d = c.fill-3.new.row in
    let items : c.push_reserved-3.new.self.items ≡ a ∷ b ∷ d ∷ [] =
    c.push_reserved-3.ensures.items ∙ ap (λ (l : List V). l ++ d ∷ []) (c.push_reserved-2.ensures.items ∙ ap (λ (l : List V). l ++ b ∷ []) (c.push_reserved.ensures.items ∙ ap (λ (l : List V). l ++ a ∷ []) c.args.self.rows_are.0)) in
    let one : Copied ws (base p.announced 0) (cells_of p.announced 0) a.items = record { size = sym a.ok.0 ∙ c.fill.ensures.len ∙ c.args.self.room_is.0; same = copied a.items ws (base p.announced 0) (get_or c.args.self.bases 0 0) (ap (λ (l : List ℕ). get_or l 0 0) c.args.self.bases_are) (λ k lt. c.fill.ensures.words k (let o = a.ok.0 in omega arith)) } in
    let two : Copied ws (base p.announced 1) (cells_of p.announced 1) b.items = record { size = sym b.ok.0 ∙ c.fill-2.ensures.len ∙ c.args.self.room_is.1; same = copied b.items ws (base p.announced 1) (get_or c.args.self.bases 1 0) (ap (λ (l : List ℕ). get_or l 1 0) c.args.self.bases_are) (λ k lt. c.fill-2.ensures.words k (let o = b.ok.0 in omega arith)) } in
    let three : Copied ws (base p.announced 2) (cells_of p.announced 2) d.items = record { size = sym d.ok.0 ∙ c.fill-3.ensures.len ∙ c.args.self.room_is.2; same = copied d.items ws (base p.announced 2) (get_or c.args.self.bases 2 0) (ap (λ (l : List ℕ). get_or l 2 0) c.args.self.bases_are) (λ k lt. c.fill-3.ensures.words k (let o = d.ok.0 in omega arith)) } in
    subst (λ (rows : List (List ℕ)). (m : CoreState) × IsLast p.announced p.parts rows (view c.args.pass) m) (sym (ap (map (λ (v : V). v.items)) items))
    (ends p c.args.pass.seat.id c.args.pass.seat.me.0 ws (slots_items c.close_with-closed.result.slots) a.items b.items d.items c.requires.all c.close_with-closed.ensures.values.2 one two three)

pub returns-clause-last : goal.returns-clause-last
returns-clause-last c = last c

pub returns-clause-rule : goal.returns-clause-rule
returns-clause-rule c = ends_alone (announced_in c.args.self) (parts_in c.args.self) (words_of c.push_reserved-3.new.self) (view c.args.pass) c.args.self.some_parts c.requires.all (last c)
