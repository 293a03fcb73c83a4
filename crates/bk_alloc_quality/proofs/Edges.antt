-- Over an edge registers go to registers.
use Rattle.std.proofs.Common.{◌≡◌, ℕ, zero, suc, refl, ap, sym, ◌∙◌, subst, arith, ◌⊎◌, inl, inr, List, [], ◌∷◌, ◌++◌, Option, Some, None, Bool, true, cond, ◌==◌, map, get_or, ne_eqb}
use Rattle.std.specs.Prelude.{flat_map}
use Rattle.std.specs.List.{Contains, AllByRecursion, find}
use Rattle.std.proofs.lemmas.List.Elements.{Contains-append_right}
use Rattle.bk_func.specs.declared.parts.Loc.{Loc}
use Rattle.bk_shuffle.specs.Sequence.{Move}
use Rattle.bk_alloc.specs.Registers.{Registers, holds}
use Rattle.bk_alloc.specs.Blocks.{Next, PartRecord, PhiRecord, PlanRecord, edge_from, in_slot, moves_into, phis_of, register_moves, slot_move, slot_phis, source_at, source_by, source_of}
use Rattle.bk_alloc.specs.Placing.{slot_at, slot_sources}
use Rattle.bk_alloc_quality.specs.Pressure.{IsUsed, IsFlow, HoldsLive, HoldsStart}
use Rattle.bk_alloc_quality.specs.Flows.{IsBrought, brought}
use Rattle.bk_alloc_quality.proofs.Steps.{in_register, no_sources}

-- phis that are in registers begin in no slot

none_in_slots : (first : Registers) (xs : List PhiRecord) → ((v : ℕ) → Contains (map (λ p. p.value) xs) v → holds first v ≡ true) → flat_map (λ (x : PhiRecord). in_slot first x.value) xs ≡ []
none_in_slots first [] h = refl
none_in_slots first (x ∷ xs) h =
    let here : in_slot first x.value ≡ [] = ap (λ (b : Bool). cond b [] (x.value ∷ [])) (h x.value (0, omega arith, refl)) in
    ap (λ l. l ++ flat_map (λ (y : PhiRecord). in_slot first y.value) xs) here
    ∙ none_in_slots first xs (λ v c. h v (Contains-append_right (x.value ∷ []) (map (λ (p : PhiRecord). p.value) xs) v c))

pub no_slot_phis : (words : List ℕ) (next : Next) (s : PartRecord) → HoldsStart words (next s.plan.id) s.plan s.first → slot_phis s ≡ []
no_slot_phis words next s h = none_in_slots s.first s.plan.phis h.phis

-- a value that is no phi is itself

no_phi_by : (x : PhiRecord) (v : ℕ) (o : Option PhiRecord) → (x.value ≡ v → ⊥) → o ≡ None → cond (x.value == v) (Some x) o ≡ None
no_phi_by x v o n e = ap (λ (b : Bool). cond b (Some x) o) (ne_eqb x.value v n) ∙ e

no_phi : (xs : List PhiRecord) (v : ℕ) → (Contains (map (λ p. p.value) xs) v → ⊥) → find (λ (p : PhiRecord). p.value == v) xs ≡ None
no_phi [] v n = refl
no_phi (x ∷ xs) v n =
    no_phi_by x v (find (λ (p : PhiRecord). p.value == v) xs) (λ e. n (0, omega arith, e))
    (no_phi xs v (λ c. n (Contains-append_right (x.value ∷ []) (map (λ (p : PhiRecord). p.value) xs) v c)))

itself : (b : PlanRecord) (k v : ℕ) → (Contains (phis_of b) v → ⊥) → source_of b.phis k v ≡ v
itself b k v n = ap (λ o. source_by o k v) (no_phi b.phis v n)

-- where it comes from

pub brings : (words : List ℕ) (next : Next) (p s : PartRecord) → IsFlow words (next s.plan.id) s.plan → HoldsLive words (next p.plan.id p.plan.size) [] p.last
    → HoldsStart words (next s.plan.id) s.plan s.first → IsBrought words next p.plan s.plan → (q v : ℕ) → get_or s.first q None ≡ Some v
    → holds p.last (source_of s.plan.phis (edge_from p.plan.id s) v) ≡ true
brings words next p s f end start e q v g = go (start.only q v g)
  where
    go : Contains (phis_of s.plan) v ⊎ IsUsed (next s.plan.id 0) v → holds p.last (source_of s.plan.phis (edge_from p.plan.id s) v) ≡ true
    go (inl c) = let a = e.phis v c in end.all (brought p.plan s.plan v) a.0 a.1
    go (inr u) =
        let w : Contains words v = (start.live.every q v g).0 in
        subst (λ (x : ℕ). holds p.last x ≡ true) (sym (itself s.plan (edge_from p.plan.id s) v (λ c. (f.begun.phis v c).1 u)))
        (end.all v w (e.live v w u))

-- the moves

later : (r : ℕ) (o : Option ℕ) (rs : Registers) (from : ℕ → Loc) → ((q v : ℕ) → get_or (o ∷ rs) q None ≡ Some v → slot_at (from v) ≡ []) → (q v : ℕ) → get_or rs q None ≡ Some v → slot_at (from v) ≡ []
later r o rs from h q v g = h (suc q) v g

registers_only : (from : ℕ → Loc) (r : ℕ) (rs : Registers) → ((q v : ℕ) → get_or rs q None ≡ Some v → slot_at (from v) ≡ []) → AllByRecursion (λ (m : Move). slot_at m.0 ≡ []) (register_moves from r rs)
registers_only from r [] h = tt
registers_only from r (None ∷ rs) h = registers_only from (suc r) rs (later r None rs from h)
registers_only from r (Some v ∷ rs) h = (h zero v refl, registers_only from (suc r) rs (later r (Some v) rs from h))

nothing_more : (ms : List Move) → ms ++ [] ≡ ms
nothing_more [] = refl
nothing_more (m ∷ ms) = ap (λ l. m ∷ l) (nothing_more ms)

pub edge_moves : (words : List ℕ) (next : Next) (p s : PartRecord) → IsFlow words (next s.plan.id) s.plan → HoldsLive words (next p.plan.id p.plan.size) [] p.last
    → HoldsStart words (next s.plan.id) s.plan s.first → IsBrought words next p.plan s.plan → slot_sources (moves_into p s) ≡ []
edge_moves words next p s f end start e =
    let ms = register_moves (source_at p s) 0 s.first in
    let same : moves_into p s ≡ ms = ap (λ (l : List ℕ). ms ++ map (slot_move p s) l) (no_slot_phis words next s start) ∙ nothing_more ms in
    ap slot_sources same
    ∙ no_sources ms (registers_only (source_at p s) 0 s.first (λ q v g. in_register p.last (source_of s.plan.phis (edge_from p.plan.id s) v) (brings words next p s f end start e q v g)))
