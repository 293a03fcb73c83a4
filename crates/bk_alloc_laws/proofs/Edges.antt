-- The moves of an edge bring each value of the successor's start to where its map says, phis with the numbers of their arguments.
use Rattle.std.proofs.Common.{◌≡◌, ℕ, zero, suc, ◌+◌, ◌<◌, ◌≤◌, refl, ap, sym, ◌∙◌, subst, arith, ◌⊎◌, inl, inr, List, [], ◌∷◌, ◌++◌, length, Option, Some, None, Bool, true, false, cond, ◌==◌, eq-eqb, ne_eqb, map, get_or, eqb-true}
use Rattle.std.specs.List.{AllByRecursion, Contains, find}
use Rattle.std.proofs.lemmas.Bool.{cases_eq, not-false}
use Rattle.std.proofs.lemmas.Map.Keys.{IsDistinct-head, IsDistinct-tail}
use Rattle.std.proofs.lemmas.List.Elements.{Contains-append_right}
use Rattle.bk_func.specs.declared.parts.Loc.{Loc}
use Rattle.bk_func.specs.declared.parts.Loc.TheVariants.{Reg, Slot, Swap}
use Rattle.bk_shuffle.specs.AtOnce.{after_all, after_each, destinations, goes_to, held_by, DoAll}
use Rattle.bk_shuffle.proofs.Doing.{AreDistinct, none_goes}
use Rattle.bk_shuffle.specs.Sequence.{Move, place_of}
use Rattle.bk_alloc.specs.Registers.{Registers, register_of, holds}
use Rattle.bk_alloc.specs.Tasks.{where_is}
use Rattle.bk_alloc.specs.Blocks.{PartRecord, edge_from, register_moves, slot_phis, source_at, source_of, moves_into}
use Rattle.bk_alloc_laws.specs.Holding.{World, State, Holds}
use Rattle.bk_alloc.specs.Placing.{goes_elsewhere, is_same, needed_moves}
use Rattle.bk_alloc_laws.specs.Edge.{IsPlace, AtHand, Arrives, world_after}
use Rattle.bk_alloc_laws.proofs.Holding.{register_has, within_some}

-- the first of moves that goes to a place

left_by : (ok : Move → Bool) (x m : Move) (xs ys : List Move) → (find ok xs ≡ Some m → find ok (xs ++ ys) ≡ Some m) → (b : Bool)
    → cond b (Some x) (find ok xs) ≡ Some m → cond b (Some x) (find ok (xs ++ ys)) ≡ Some m
left_by ok x m xs ys r true g = g
left_by ok x m xs ys r false g = r g

pub found_left : (ok : Move → Bool) (m : Move) (xs ys : List Move) → find ok xs ≡ Some m → find ok (xs ++ ys) ≡ Some m
found_left ok m [] ys e = absurd cc
found_left ok m (x ∷ xs) ys e = left_by ok x m xs ys (found_left ok m xs ys) (ok x) e

right_by : (ok : Move → Bool) (x : Move) (xs ys : List Move) → (find ok xs ≡ None → find ok (xs ++ ys) ≡ find ok ys) → (b : Bool)
    → cond b (Some x) (find ok xs) ≡ None → cond b (Some x) (find ok (xs ++ ys)) ≡ find ok ys
right_by ok x xs ys r true g = absurd cc
right_by ok x xs ys r false g = r g

pub found_right : (ok : Move → Bool) (xs ys : List Move) → find ok xs ≡ None → find ok (xs ++ ys) ≡ find ok ys
found_right ok [] ys e = refl
found_right ok (x ∷ xs) ys e = right_by ok x xs ys (found_right ok xs ys) (ok x) e

pub found_register : (from : ℕ → Loc) (j : ℕ) (rs : Registers) (r v q : ℕ) → q ≡ j + r → get_or rs r None ≡ Some v → find (goes_to q) (register_moves from j rs) ≡ Some (from v, Reg q)
found_register from j [] r v q e g = absurd cc
found_register from j (None ∷ rs) zero v q e g = absurd cc
found_register from j (None ∷ rs) (suc r) v q e g = found_register from (suc j) rs r v q (omega arith) g
found_register from j (Some u ∷ rs) zero v q e g =
    let a : j ≡ q = omega arith in
    let b : u ≡ v = cc in
    let c : ◌≡◌ {A = Option Move} (Some (from u, Reg j)) (Some (from v, Reg q)) = cc in
    ap (λ t. cond t (Some (from u, Reg j)) (find (goes_to q) (register_moves from (suc j) rs))) (eq-eqb j q a) ∙ c
found_register from j (Some u ∷ rs) (suc r) v q e g =
    ap (λ t. cond t (Some (from u, Reg j)) (find (goes_to q) (register_moves from (suc j) rs))) (ne_eqb j q (λ p. omega arith)) ∙ found_register from (suc j) rs r v q (omega arith) g

pub past_registers : (from : ℕ → Loc) (j : ℕ) (rs : Registers) (q : ℕ) → j + length rs ≤ q → find (goes_to q) (register_moves from j rs) ≡ None
past_registers from j [] q l = refl
past_registers from j (None ∷ rs) q l = past_registers from (suc j) rs q (omega arith)
past_registers from j (Some u ∷ rs) q l =
    ap (λ t. cond t (Some (from u, Reg j)) (find (goes_to q) (register_moves from (suc j) rs))) (ne_eqb j q (λ p. omega arith)) ∙ past_registers from (suc j) rs q (omega arith)

tail_of : (x v : ℕ) (vs : List ℕ) → (x ≡ v → ⊥) → Contains (x ∷ vs) v → Contains vs v
tail_of x v vs n (zero, l, e) = absurd (n e)
tail_of x v vs n (suc k, l, e) = (k, omega arith, e)

slot_by : (from : ℕ → Loc) (x v : ℕ) (vs : List ℕ) → (Contains vs v → find (goes_to (256 + v)) (map (λ u. (from u, Slot u)) vs) ≡ Some (from v, Slot v))
    → Contains (x ∷ vs) v → (x ≡ v) ⊎ (x ≡ v → ⊥) → find (goes_to (256 + v)) (map (λ u. (from u, Slot u)) (x ∷ vs)) ≡ Some (from v, Slot v)
slot_by from x v vs r c (inl a) =
    let d : ◌≡◌ {A = Option Move} (Some (from x, Slot x)) (Some (from v, Slot v)) = cc in
    ap (λ t. cond t (Some (from x, Slot x)) (find (goes_to (256 + v)) (map (λ u. (from u, Slot u)) vs))) (eq-eqb (256 + x) (256 + v) (ap (λ n. 256 + n) a)) ∙ d
slot_by from x v vs r c (inr n) =
    ap (λ t. cond t (Some (from x, Slot x)) (find (goes_to (256 + v)) (map (λ u. (from u, Slot u)) vs))) (ne_eqb (256 + x) (256 + v) (λ p. n (omega arith))) ∙ r (tail_of x v vs n c)

pub found_slot : (from : ℕ → Loc) (vs : List ℕ) (v : ℕ) → Contains vs v → find (goes_to (256 + v)) (map (λ u. (from u, Slot u)) vs) ≡ Some (from v, Slot v)
found_slot from [] v (k, l, e) = absurd (omega arith)
found_slot from (x ∷ vs) v c = slot_by from x v vs (found_slot from vs v) c (cases_eq x v)

pub no_slot_move : (from : ℕ → Loc) (vs : List ℕ) (v : ℕ) → (Contains vs v → ⊥) → find (goes_to (256 + v)) (map (λ u. (from u, Slot u)) vs) ≡ None
no_slot_move from [] v n = refl
no_slot_move from (x ∷ vs) v n =
    let other : x ≡ v → ⊥ = λ e. n (0, omega arith, e) in
    ap (λ t. cond t (Some (from x, Slot x)) (find (goes_to (256 + v)) (map (λ u. (from u, Slot u)) vs))) (ne_eqb (256 + x) (256 + v) (λ p. other (omega arith)))
    ∙ no_slot_move from vs v (λ c. n (Contains-append_right (x ∷ []) vs v c))

-- where a value is that is at hand

pub at_hand : (w : World) (rs : Registers) (known : List ℕ) (s : State) (v : ℕ) → Holds w rs known s → AtHand w rs known v → s (where_is rs v) ≡ w.number v
unfolding where_is
at_hand w rs known s v h a = go (holds rs v) refl a
  where
    go : (b : Bool) → holds rs v ≡ b → (holds rs v ≡ true) ⊎ (Contains known v × (w.home v ≡ true)) → s (cond b (Reg (register_of rs v)) (Slot v)) ≡ w.number v
    go true e c = h.registers (register_of rs v) v (register_has rs v e)
    go false e (inl c) = absurd cc
    go false e (inr c) = h.slots v c.0 c.1

-- an edge

pub edge_holds : (w : World) (p q : PartRecord) (known : List ℕ) (s : State) → Holds w p.last known s → length q.first ≤ 32 → Arrives w p q known
    → (news : List ℕ) → ((u : ℕ) → Contains news u → w.home u ≡ true → (Contains (slot_phis q) u → ⊥) → Contains known u × (source_of q.plan.phis (edge_from p.plan.id q) u ≡ u))
    → ((u : ℕ) → Contains (slot_phis q) u ⊎ (Contains (slot_phis q) u → ⊥))
    → Holds (world_after w p q) q.first news (after_all (moves_into p q) s)
edge_holds w p q known s h few a news old either = record {
  registers = λ r v e.
      let l : r < length q.first = within_some q.first r v e in
      ap (held_by s (Reg r)) (found_left (goes_to r) (source_at p q v, Reg r) (register_moves (source_at p q) 0 q.first) (map (λ u. (source_at p q u, Slot u)) (slot_phis q)) (found_register (source_at p q) 0 q.first r v r (omega arith) e))
      ∙ at_hand w p.last known s (source_of q.plan.phis (edge_from p.plan.id q) v) h (a.registers r v e);
  slots = λ u k g. go u k g (either u);
}
  where
    right : (u : ℕ) → find (goes_to (256 + u)) (moves_into p q) ≡ find (goes_to (256 + u)) (map (λ u. (source_at p q u, Slot u)) (slot_phis q))
    right u = found_right (goes_to (256 + u)) (register_moves (source_at p q) 0 q.first) (map (λ u. (source_at p q u, Slot u)) (slot_phis q)) (past_registers (source_at p q) 0 q.first (256 + u) (omega arith))

    go : (u : ℕ) → Contains news u → w.home u ≡ true → Contains (slot_phis q) u ⊎ (Contains (slot_phis q) u → ⊥) → after_all (moves_into p q) s (Slot u) ≡ w.number (source_of q.plan.phis (edge_from p.plan.id q) u)
    go u k g (inl c) =
        ap (held_by s (Slot u)) (right u ∙ found_slot (source_at p q) (slot_phis q) u c) ∙ at_hand w p.last known s (source_of q.plan.phis (edge_from p.plan.id q) u) h (a.slots u c)
    go u k g (inr n) =
        let o = old u k g n in
        ap (held_by s (Slot u)) (right u ∙ no_slot_move (source_at p q) (slot_phis q) u n) ∙ (h.slots u o.0 g ∙ ap w.number (sym o.1))

-- moves of a place to itself do nothing

same_place : (a b : Loc) → IsPlace a → IsPlace b → place_of a ≡ place_of b → a ≡ b
same_place (Reg m) (Reg n) p q e = ap Reg e
same_place (Reg m) (Slot n) p q e = absurd (omega arith)
same_place (Reg m) Swap p q e = absurd q
same_place (Slot m) (Reg n) p q e = absurd (omega arith)
same_place (Slot m) (Slot n) p q e = let f : m ≡ n = omega arith in ap Slot f
same_place (Slot m) Swap p q e = absurd q
same_place Swap b p q e = absurd p

fewer_by : (d : ℕ) (m : Move) (xs ms : List Move) → (b : Bool) → AllByRecursion (λ y. (d == y) ≡ false) (place_of m.1 ∷ destinations ms) → AllByRecursion (λ y. (d == y) ≡ false) (destinations xs)
    → AllByRecursion (λ y. (d == y) ≡ false) (destinations (cond b (m ∷ xs) xs))
fewer_by d m xs ms true a r = (a.0, r)
fewer_by d m xs ms false a r = r

fewer : (d : ℕ) (ms : List Move) → AllByRecursion (λ y. (d == y) ≡ false) (destinations ms) → AllByRecursion (λ y. (d == y) ≡ false) (destinations (needed_moves ms))
fewer d [] a = tt
fewer d (m ∷ ms) a = fewer_by d m (needed_moves ms) ms (goes_elsewhere m) a (fewer d ms a.1)

head_by : (s : State) (l : Loc) (m : Move) (x y : Option Move) → held_by s l x ≡ held_by s l y → (b : Bool) → held_by s l (cond b (Some m) x) ≡ held_by s l (cond b (Some m) y)
head_by s l m x y r true = refl
head_by s l m x y r false = r

idle_by : (s : State) (l : Loc) (m : Move) (ms : List Move) → IsPlace l → IsPlace m.0 → place_of m.0 ≡ place_of m.1 → AllByRecursion (λ y. (place_of m.1 == y) ≡ false) (destinations ms)
    → held_by s l (find (goes_to (place_of l)) (needed_moves ms)) ≡ held_by s l (find (goes_to (place_of l)) ms) → (b : Bool) → (place_of m.1 == place_of l) ≡ b
    → held_by s l (find (goes_to (place_of l)) (needed_moves ms)) ≡ held_by s l (cond b (Some m) (find (goes_to (place_of l)) ms))
idle_by s l m ms pl pm e a r true u =
    let f : place_of m.1 ≡ place_of l = eqb-true (place_of m.1) (place_of l) u in
    let same : m.0 ≡ l = same_place m.0 l pm pl (e ∙ f) in
    let P : ℕ → Type 0 = λ n. AllByRecursion (λ y. (n == y) ≡ false) (destinations (needed_moves ms)) in
    ap (held_by s l) (none_goes (place_of l) (needed_moves ms) (subst P f (fewer (place_of m.1) ms a))) ∙ ap s (sym same)
idle_by s l m ms pl pm e a r false u = r

is_same_one : (a b : Loc) → is_same a b ≡ true → a ≡ b
is_same_one (Reg m) (Reg n) e = ap Reg (eqb-true m n e)
is_same_one (Reg m) (Slot n) e = absurd cc
is_same_one (Reg m) Swap e = absurd cc
is_same_one (Slot m) (Reg n) e = absurd cc
is_same_one (Slot m) (Slot n) e = ap Slot (eqb-true m n e)
is_same_one (Slot m) Swap e = absurd cc
is_same_one Swap (Reg n) e = absurd cc
is_same_one Swap (Slot n) e = absurd cc
is_same_one Swap Swap e = refl

needed_by : (s : State) (l : Loc) (m : Move) (ms : List Move) → IsPlace l → IsPlace m.0 → AllByRecursion (λ y. (place_of m.1 == y) ≡ false) (destinations ms)
    → held_by s l (find (goes_to (place_of l)) (needed_moves ms)) ≡ held_by s l (find (goes_to (place_of l)) ms) → (b : Bool) → goes_elsewhere m ≡ b
    → held_by s l (find (goes_to (place_of l)) (cond b (m ∷ needed_moves ms) (needed_moves ms))) ≡ held_by s l (find (goes_to (place_of l)) (m ∷ ms))
needed_by s l m ms pl pm a r true u = head_by s l m (find (goes_to (place_of l)) (needed_moves ms)) (find (goes_to (place_of l)) ms) r (place_of m.1 == place_of l)
needed_by s l m ms pl pm a r false u =
    idle_by s l m ms pl pm (ap place_of (is_same_one m.0 m.1 (not-false (is_same m.0 m.1) u))) a r (place_of m.1 == place_of l) refl

pub needed_all : (s : State) (l : Loc) (ms : List Move) → IsPlace l → AllByRecursion (λ m. IsPlace m.0) ms → AreDistinct (destinations ms) → after_all (needed_moves ms) s l ≡ after_all ms s l
needed_all s l [] pl ps d = refl
needed_all s l (m ∷ ms) pl ps d =
    needed_by s l m ms pl ps.0 (IsDistinct-head (λ x y. x == y) (place_of m.1) (destinations ms) d)
    (needed_all s l ms pl ps.1 (IsDistinct-tail (λ x y. x == y) (place_of m.1) (destinations ms) d)) (goes_elsewhere m) refl

not_swap : (l : Loc) → IsPlace l → place_of l ≡ place_of Swap → ⊥
not_swap (Reg n) p e = omega arith
not_swap (Slot n) p e = omega arith
not_swap Swap p e = p

-- the pairs of a sequence, one after the other, do the moves at once
pub pairs_do : (s : State) (l : Loc) (ms pairs : List Move) → IsPlace l → AllByRecursion (λ m. IsPlace m.0) ms → AreDistinct (destinations ms) → DoAll (needed_moves ms) pairs → after_each pairs s l ≡ after_all ms s l
pairs_do s l ms pairs pl ps d o = o s l (not_swap l pl) ∙ needed_all s l ms pl ps d

contained : (xs : List ℕ) (u : ℕ) → Contains xs u ⊎ (Contains xs u → ⊥)
contained [] u = inr (λ c. omega (arith, c.1))
contained (x ∷ xs) u = by x xs u (cases_eq x u) (contained xs u)
  where
    by : (x : ℕ) (xs : List ℕ) (u : ℕ) → (x ≡ u) ⊎ (x ≡ u → ⊥) → Contains xs u ⊎ (Contains xs u → ⊥) → Contains (x ∷ xs) u ⊎ (Contains (x ∷ xs) u → ⊥)
    by x xs u (inl e) r = inl (0, omega arith, e)
    by x xs u (inr n) (inl c) = inl (Contains-append_right (x ∷ []) xs u c)
    by x xs u (inr n) (inr d) = inr (λ c. d (tail_of x u xs n c))

pub edge_brings : (w : World) (p q : PartRecord) (known : List ℕ) (s : State) → Holds w p.last known s → length q.first ≤ 32 → Arrives w p q known
    → (news : List ℕ) → ((u : ℕ) → Contains news u → w.home u ≡ true → (Contains (slot_phis q) u → ⊥) → Contains known u × (source_of q.plan.phis (edge_from p.plan.id q) u ≡ u))
    → Holds (world_after w p q) q.first news (after_all (moves_into p q) s)
edge_brings w p q known s h few a news old = edge_holds w p q known s h few a news old (contained (slot_phis q))
