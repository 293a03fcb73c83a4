-- A function takes nothing from slots, and its steps use none.
use Rattle.std.proofs.Common.{◌≡◌, ℕ, zero, suc, refl, ap, sym, ◌∙◌, subst, arith, List, [], ◌∷◌, ◌++◌, Option, Some, None, Bool, true, false, cond, ◌==◌, map, eqb-true}
use Rattle.std.specs.Prelude.{flat_map}
use Rattle.std.specs.List.{Contains, AllByRecursion, find}
use Rattle.std.proofs.lemmas.List.Elements.{Contains-append_right}
use Rattle.bk_ops.specs.declared.types.Target.{Target}
use Rattle.bk_func.specs.Records.{PlacedBlockRecord, StepRecord, do_value}
use Rattle.bk_func.specs.Records as step
use Rattle.bk_shuffle.specs.Sequence.{Move, sequence_of}
use Rattle.bk_alloc.specs.Registers.{Registers, register_of, holds}
use Rattle.bk_alloc.specs.Tasks.{ActRecord, load, compute, take, call, leave, move_all}
use Rattle.bk_alloc.specs.Blocks.{Next, PartRecord, PhiRecord, PlanRecord, allot, end_moves, into_one, moves_to, part_named, slot_phis}
use Rattle.bk_alloc.specs.Placement.{IsPlacing, number_of}
use Rattle.bk_alloc.specs.Placing.{moves_in_turn, named, needed_moves, phi_store, phi_stores, placed_part, slot_sources, slots_behind, slots_in, steps_of, steps_with, store_of, values_in_slots, values_loaded}
use Rattle.bk_alloc_quality.specs.Pressure.{LoadsNothing}
use Rattle.bk_alloc_quality.specs.Flows.{AreFlows, IsLow, UsesNoSlot}
use Rattle.bk_alloc_quality.proofs.Allotting.{Settles, all_in, all_settle, found}
use Rattle.bk_alloc_quality.proofs.Edges.{edge_moves, no_slot_phis}
use Rattle.bk_alloc_quality.proofs.Homeless.{nowhere}
use Rattle.bk_alloc_quality.proofs.Steps.{all_append}

-- nothing is taken from slots

none_of : {X : Type 0} (h : X → List ℕ) (xs : List X) → ((x : X) → Contains xs x → h x ≡ []) → flat_map h xs ≡ []
none_of h [] e = refl
none_of h (x ∷ xs) e = ap (λ l. l ++ flat_map h xs) (e x (0, omega arith, refl)) ∙ none_of h xs (λ y c. e y (Contains-append_right (x ∷ []) xs y c))

acts_none : (acts : List ActRecord) → AllByRecursion LoadsNothing acts → flat_map values_loaded acts ≡ []
acts_none acts h = none_of values_loaded acts (λ a c. all_in LoadsNothing acts a h c)

part_none : (words : List ℕ) (next : Next) (count : ℕ) (all : List PlanRecord) (p : PartRecord) → Settles words next count all p → slots_in p ≡ []
part_none words next count all p s = ap (λ l. l ++ slot_phis p) (acts_none p.acts s.acts) ∙ no_slot_phis words next p s.start

behind_none : (words : List ℕ) (next : Next) (count : ℕ) (all : List PlanRecord) (ps : List PartRecord) (p : PartRecord) → AreFlows count words next all
    → AllByRecursion (Settles words next count all) ps → Contains ps p → (ns : List ℕ) → p.plan.succs ≡ ns → slot_sources (moves_to ps p ns) ≡ []
behind_none words next count all ps p fs h c [] e = refl
behind_none words next count all ps p fs h c (n ∷ m ∷ ns) e = refl
behind_none words next count all ps p fs h c (n ∷ []) e = go (part_named ps n) refl
  where
    go : (o : Option PartRecord) → find (λ (s : PartRecord). s.plan.id == n) ps ≡ o → slot_sources (into_one p o) ≡ []
    go None f = refl
    go (Some s) f =
        let g = found (Settles words next count all) (λ (x : PartRecord). x.plan.id == n) ps s h f in
        let a = all_in (Settles words next count all) ps p h c in
        let same : s.plan.id ≡ n = eqb-true s.plan.id n g.1 in
        let there : Contains p.plan.succs s.plan.id = subst (λ (l : List ℕ). Contains l s.plan.id) (sym e) (0, omega arith, sym same) in
        edge_moves words next p s (fs.flow s.plan g.0.inside) a.end g.0.start (fs.edge p.plan s.plan a.inside g.0.inside there)

pub no_values_in_slots : (words : List ℕ) (next : Next) (count : ℕ) (bs : List PlanRecord) → AreFlows count words next bs → ((b : PlanRecord) → Contains bs b → IsLow count words (next b.id) b)
    → values_in_slots (allot next count bs) ≡ []
no_values_in_slots words next count bs fs low =
    let ps = allot next count bs in
    let h = all_settle words next count bs fs low in
    let one : flat_map slots_in ps ≡ [] = none_of slots_in ps (λ p c. part_none words next count bs p (all_in (Settles words next count bs) ps p h c)) in
    let two : flat_map (slots_behind ps) ps ≡ [] = none_of (slots_behind ps) ps (λ p c. behind_none words next count bs ps p fs h c p.plan.succs refl) in
    ap (λ l. l ++ flat_map (slots_behind ps) ps) one ∙ two

-- no step uses one

homeless : (hs : List ℕ) → ((v : ℕ) → Contains hs v → ⊥) → hs ≡ []
homeless [] h = refl
homeless (x ∷ xs) h = absurd (h x (0, omega arith, refl))

some_all : {X : Type 0} (P : X → Type 0) (xs : List X) → ((x : X) → Contains xs x → P x) → AllByRecursion P xs
some_all P [] h = tt
some_all P (x ∷ xs) h = (h x (0, omega arith, refl), some_all P xs (λ y c. h y (Contains-append_right (x ∷ []) xs y c)))

all_flat : {X Y : Type 0} (P : Y → Type 0) (h : X → List Y) (xs : List X) → ((x : X) → Contains xs x → AllByRecursion P (h x)) → AllByRecursion P (flat_map h xs)
all_flat P h [] e = tt
all_flat P h (x ∷ xs) e = all_append P (h x) (flat_map h xs) (e x (0, omega arith, refl)) (all_flat P h xs (λ y c. e y (Contains-append_right (x ∷ []) xs y c)))

moves_use_none : (ms : List Move) → AllByRecursion UsesNoSlot (map (λ (m : Move). step.move m.0 m.1) ms)
moves_use_none [] = tt
moves_use_none (m ∷ ms) = (tt, moves_use_none ms)

no_store : (number : ℕ → ℕ) (v : ℕ) (o : Option ℕ) → store_of number [] v o ≡ []
no_store number v None = refl
no_store number v (Some r) = refl

act_uses_none : (number : ℕ → ℕ) (a : ActRecord) → LoadsNothing a → AllByRecursion UsesNoSlot (steps_of number [] a)
act_uses_none number (load r v) h = absurd cc
act_uses_none number (compute v rs to) h = (tt, subst (λ (l : List StepRecord). AllByRecursion UsesNoSlot l) (sym (no_store number v to)) tt)
act_uses_none number (take v r) h = (tt, tt)
act_uses_none number (call v n) h = (tt, tt)
act_uses_none number (leave v n) h = (tt, tt)
act_uses_none number (move_all ms) h = moves_use_none (sequence_of (map (named number []) (needed_moves ms)))

phi_stores_none : (number : ℕ → ℕ) (rs : Registers) (v : ℕ) (b : Bool) → AllByRecursion UsesNoSlot (cond b (store_of number [] v (Some (register_of rs v))) [])
phi_stores_none number rs v true = tt
phi_stores_none number rs v false = tt

part_uses_none : (number : ℕ → ℕ) (p : PartRecord) (ms : List Move) → AllByRecursion LoadsNothing p.acts → AllByRecursion UsesNoSlot (steps_with number [] p ms)
part_uses_none number p ms h =
    all_append UsesNoSlot (phi_stores number [] p) (flat_map (steps_of number []) p.acts ++ moves_in_turn number [] ms)
    (all_flat UsesNoSlot (λ (x : PhiRecord). phi_store number [] p.first x.value) p.plan.phis (λ x c. phi_stores_none number p.first x.value (holds p.first x.value)))
    (all_append UsesNoSlot (flat_map (steps_of number []) p.acts) (moves_in_turn number [] ms)
    (all_flat UsesNoSlot (steps_of number []) p.acts (λ a c. act_uses_none number a (all_in LoadsNothing p.acts a h c)))
    (moves_use_none (sequence_of (map (named number []) (needed_moves ms)))))

-- parts that take no value from a slot

empty_left : (xs ys : List ℕ) → xs ++ ys ≡ [] → xs ≡ []
empty_left [] ys e = refl
empty_left (x ∷ xs) ys e = absurd cc

empty_each : {X : Type 0} (h : X → List ℕ) (xs : List X) → flat_map h xs ≡ [] → (x : X) → Contains xs x → h x ≡ []
empty_each h [] e x (k, l, f) = absurd (omega arith)
empty_each h (y ∷ ys) e x (zero, l, f) = ap h (sym f) ∙ empty_left (h y) (flat_map h ys) e
empty_each h (y ∷ ys) e x (suc k, l, f) =
    empty_each h ys (sym (ap (λ l. l ++ flat_map h ys) (empty_left (h y) (flat_map h ys) e)) ∙ e) x (k, omega arith, f)

loads_none : (ps : List PartRecord) → values_in_slots ps ≡ [] → (p : PartRecord) → Contains ps p → AllByRecursion LoadsNothing p.acts
loads_none ps e p c =
    let a : slots_in p ≡ [] = empty_each slots_in ps (empty_left (flat_map slots_in ps) (flat_map (slots_behind ps) ps) e) p c in
    let b : flat_map values_loaded p.acts ≡ [] = empty_left (flat_map values_loaded p.acts) (slot_phis p) a in
    some_all LoadsNothing p.acts (λ x i. empty_each values_loaded p.acts b x i)

abbrev pub BlockUsesNone : PlacedBlockRecord → Type 0
BlockUsesNone b = AllByRecursion UsesNoSlot b.steps

placed_use_none : (number : ℕ → ℕ) (all ps : List PartRecord) → ((p : PartRecord) → Contains ps p → AllByRecursion LoadsNothing p.acts)
    → AllByRecursion BlockUsesNone (map (placed_part number [] all) ps)
placed_use_none number all [] h = tt
placed_use_none number all (p ∷ ps) h =
    (part_uses_none number p (end_moves all p) (h p (0, omega arith, refl)), placed_use_none number all ps (λ q c. h q (Contains-append_right (p ∷ []) ps q c)))

pub steps_use_none : (t : Target) (ps : List PartRecord) (bs : List PlacedBlockRecord) (slots : ℕ) → IsPlacing t ps bs slots → values_in_slots ps ≡ [] → AllByRecursion BlockUsesNone bs
steps_use_none t ps bs slots h e =
    let none : h.homes ≡ [] = homeless h.homes (λ v c. nowhere v (subst (λ (l : List ℕ). Contains l v) e ((h.are.each v).0 c))) in
    let same : bs ≡ map (placed_part (number_of t) [] ps) ps = h.blocks ∙ ap (λ (l : List ℕ). map (placed_part (number_of t) l ps) ps) none in
    subst (λ (l : List PlacedBlockRecord). AllByRecursion BlockUsesNone l) (sym same) (placed_use_none (number_of t) ps ps (loads_none ps e))
