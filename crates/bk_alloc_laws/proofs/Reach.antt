-- The arguments of each value are in the registers that it is computed from.
use Rattle.std.proofs.Common.{◌≡◌, ℕ, zero, suc, ◌<◌, ◌≤◌, refl, ap, sym, ◌∙◌, subst, arith, ◌⊎◌, inl, inr, List, [], ◌∷◌, ◌++◌, length, Option, Some, None, Bool, true, false, cond, ◌==◌, eq-eqb, ne_eqb, eqb-true, map, get_or, set, append_assoc, get_or-set_same, get_or-set_other}
use Rattle.std.specs.Prelude.{nat_lt}
use Rattle.std.specs.List.{Contains, AllByRecursion, IsDistinct, fold}
use Rattle.std.specs.Set.{is_member}
use Rattle.std.proofs.lemmas.Bool.{cases_eq, cases_lt, cases_Bool, ltb-true, ltb-false, or_cases, or_right}
use Rattle.std.proofs.lemmas.Cmp.{nat_eq_equiv}
use Rattle.std.proofs.lemmas.List.{length-set, get_or_past, set_past}
use Rattle.std.proofs.lemmas.List.Folds.{list_any_at}
use Rattle.std.proofs.lemmas.List.Sums.{passes_at_first, fails_before_first}
use Rattle.std.proofs.lemmas.Map.Made.{length-le_from_is_member}
use Rattle.bk_func.specs.declared.parts.Loc.TheVariants.{Reg}
use Rattle.bk_alloc.specs.declared.acts.Role.TheVariants.{Plain}
use Rattle.bk_alloc.specs.Registers.{Registers, Uses, register_of, holds, is_open, is_value, is_kept, least_open, first_to_leave, is_farther, weighed, farthest, register_or_none, seat, put, freed}
use Rattle.bk_alloc.specs.Tasks.{ActRecord, TaskRecord, acts_of_role, before_result, compute, fetch, fetched, load, loads, result_in, with_loads}
use Rattle.bk_alloc_laws.specs.Holding.{World, State, after_act, after_acts, AreHomed, Holds, finds, found}
use Rattle.bk_alloc_laws.proofs.Holding.{register_has, within_some, freed_at, homed_left, loads_hold}

-- no value is in two registers
abbrev pub OneEach : Registers → Type 0
OneEach rs = (q r v : ℕ) → get_or rs q None ≡ Some v → get_or rs r None ≡ Some v → q ≡ r

-- what a register holds after a value was put into one

put_cases : (rs : Registers) (r v q u : ℕ) → get_or (set rs r (Some v)) q None ≡ Some u → (q ≡ r) ⊎ (q ≡ r → ⊥) → (r < length rs) ⊎ (length rs ≤ r)
    → ((q ≡ r) × (v ≡ u)) ⊎ ((q ≡ r → ⊥) × (get_or rs q None ≡ Some u))
put_cases rs r v q u g (inl a) (inl b) =
    let P : ℕ → Type 0 = λ k. get_or (set rs r (Some v)) k None ≡ Some u in
    let p : Some v ≡ Some u = sym (get_or-set_same rs r (Some v) None b) ∙ subst P a g in
    let same : v ≡ u = cc in
    inl (a, same)
put_cases rs r v q u g (inl a) (inr b) =
    let P : List (Option ℕ) → Type 0 = λ l. get_or l q None ≡ Some u in
    let p : get_or rs q None ≡ Some u = subst P (set_past rs r (Some v) b) g in
    let none : get_or rs q None ≡ None = get_or_past rs q None (omega arith) in
    absurd cc
put_cases rs r v q u g (inr a) c = inr (a, sym (get_or-set_other rs r q (Some v) None a) ∙ g)

pub put_at : (rs : Registers) (r v q u : ℕ) → get_or (put rs r v) q None ≡ Some u → ((q ≡ r) × (v ≡ u)) ⊎ ((q ≡ r → ⊥) × (get_or rs q None ≡ Some u))
put_at rs r v q u g = put_cases rs r v q u g (cases_eq q r) (cases_lt r (length rs))

one_by : (rs : Registers) (r v p q u : ℕ) → OneEach rs → ((k : ℕ) → get_or rs k None ≡ Some v → ⊥)
    → ((p ≡ r) × (v ≡ u)) ⊎ ((p ≡ r → ⊥) × (get_or rs p None ≡ Some u)) → ((q ≡ r) × (v ≡ u)) ⊎ ((q ≡ r → ⊥) × (get_or rs q None ≡ Some u)) → p ≡ q
one_by rs r v p q u o n (inl a) (inl b) = a.0 ∙ sym b.0
one_by rs r v p q u o n (inl a) (inr b) = absurd (n q (b.1 ∙ ap Some (sym a.1)))
one_by rs r v p q u o n (inr a) (inl b) = absurd (n p (a.1 ∙ ap Some (sym b.1)))
one_by rs r v p q u o n (inr a) (inr b) = o p q u a.1 b.1

pub put_one : (rs : Registers) (r v : ℕ) → OneEach rs → ((k : ℕ) → get_or rs k None ≡ Some v → ⊥) → OneEach (put rs r v)
put_one rs r v o n p q u a b = one_by rs r v p q u o n (put_at rs r v p u a) (put_at rs r v q u b)

pub freed_one : (n : Uses) (rs : Registers) → OneEach rs → OneEach (freed n rs)
freed_one n rs o p q u a b = o p q u (freed_at n rs p u a) (freed_at n rs q u b)

-- whether a value is held

pub not_held : (rs : Registers) (v q : ℕ) → holds rs v ≡ false → get_or rs q None ≡ Some v → ⊥
not_held rs v q h g =
    let l : q < length rs = within_some rs q v g in
    let m : length rs ≤ register_of rs v = ltb-false (register_of rs v) (length rs) h in
    let f : is_value v (get_or rs q None) ≡ false = fails_before_first (is_value v) rs q None (omega arith) in
    let e : is_value v (get_or rs q None) ≡ true = ap (is_value v) g ∙ eq-eqb v v refl in
    absurd cc

held_by_cases : (rs : Registers) (v q : ℕ) → get_or rs q None ≡ Some v → (holds rs v ≡ true) ⊎ (holds rs v ≡ false) → holds rs v ≡ true
held_by_cases rs v q g (inl a) = a
held_by_cases rs v q g (inr a) = absurd (not_held rs v q a g)

pub held : (rs : Registers) (v q : ℕ) → get_or rs q None ≡ Some v → holds rs v ≡ true
held rs v q g = held_by_cases rs v q g (cases_Bool (holds rs v))

-- the value that leaves is in a register, and none that is kept

leaves_by : (b : Bool) (v : ℕ) (o : Option ℕ) → (cond b (Some v) o ≡ Some v) ⊎ (cond b (Some v) o ≡ o)
leaves_by true v o = inl refl
leaves_by false v o = inr refl

leaves_one : (n : Uses) (o : Option ℕ) (v : ℕ) → (first_to_leave n o v ≡ Some v) ⊎ (first_to_leave n o v ≡ o)
leaves_one n None v = inl refl
leaves_one n (Some u) v = leaves_by (is_farther (n v) (n u) v u) v (Some u)

leaves_some : (n : Uses) (o : Option ℕ) (v : ℕ) → first_to_leave n o v ≡ None → ⊥
leaves_some n None v e = absurd cc
leaves_some n (Some u) v e = go (leaves_by (is_farther (n v) (n u) v u) v (Some u))
  where
    go : (first_to_leave n (Some u) v ≡ Some v) ⊎ (first_to_leave n (Some u) v ≡ Some u) → ⊥
    go (inl a) = absurd cc
    go (inr a) = absurd cc

-- a value of the list, or what was found before
pub record Comes (keep : List ℕ) (rs : Registers) (best found : Option ℕ) : Type 0 where
  pub none : found ≡ None → (best ≡ None) × ((q v : ℕ) → get_or rs q None ≡ Some v → is_kept keep v ≡ true)
  pub some : (u : ℕ) → found ≡ Some u → (best ≡ Some u) ⊎ ((q : ℕ) × (get_or rs q None ≡ Some u) × (is_kept keep u ≡ false))

deeper : (keep : List ℕ) (x : Option ℕ) (rs : Registers) (best : Option ℕ) (u : ℕ)
    → (best ≡ Some u) ⊎ ((q : ℕ) × (get_or rs q None ≡ Some u) × (is_kept keep u ≡ false)) → (best ≡ Some u) ⊎ ((q : ℕ) × (get_or (x ∷ rs) q None ≡ Some u) × (is_kept keep u ≡ false))
deeper keep x rs best u (inl a) = inl a
deeper keep x rs best u (inr (q, g, k)) = inr (suc q, g, k)

none_at_all : (keep : List ℕ) (rs : Registers) → ((q v : ℕ) → get_or rs q None ≡ Some v → is_kept keep v ≡ true) → (q v : ℕ) → get_or (None ∷ rs) q None ≡ Some v → is_kept keep v ≡ true
none_at_all keep rs h zero v e = absurd cc
none_at_all keep rs h (suc q) v e = h q v e

all_kept : (keep : List ℕ) (x : ℕ) (rs : Registers) → is_kept keep x ≡ true → ((q v : ℕ) → get_or rs q None ≡ Some v → is_kept keep v ≡ true)
    → (q v : ℕ) → get_or (Some x ∷ rs) q None ≡ Some v → is_kept keep v ≡ true
all_kept keep x rs k h zero v e = let p : x ≡ v = cc in subst (λ (u : ℕ). is_kept keep u ≡ true) p k
all_kept keep x rs k h (suc q) v e = h q v e

new_or_old : (keep : List ℕ) (x : ℕ) (rs : Registers) (best next : Option ℕ) (u : ℕ) → is_kept keep x ≡ false → (next ≡ Some x) ⊎ (next ≡ best)
    → (next ≡ Some u) ⊎ ((q : ℕ) × (get_or rs q None ≡ Some u) × (is_kept keep u ≡ false)) → (best ≡ Some u) ⊎ ((q : ℕ) × (get_or (Some x ∷ rs) q None ≡ Some u) × (is_kept keep u ≡ false))
new_or_old keep x rs best next u k (inl a) (inl b) =
    let p : x ≡ u = cc in inr (0, ap Some p, subst (λ (v : ℕ). is_kept keep v ≡ false) p k)
new_or_old keep x rs best next u k (inr a) (inl b) = inl (sym a ∙ b)
new_or_old keep x rs best next u k c (inr (q, g, e)) = inr (suc q, g, e)

comes_by : (n : Uses) (keep : List ℕ) (x : ℕ) (rs : Registers) (best : Option ℕ) → ((b : Option ℕ) → Comes keep rs b (fold (weighed n keep) b rs))
    → (b : Bool) → is_kept keep x ≡ b → Comes keep (Some x ∷ rs) best (fold (weighed n keep) (cond b best (first_to_leave n best x)) rs)
comes_by n keep x rs best r true k = record {
  none = λ e. let c = (r best).none e in (c.0, all_kept keep x rs k c.1);
  some = λ u e. deeper keep (Some x) rs best u ((r best).some u e);
}
comes_by n keep x rs best r false k = record {
  none = λ e. absurd (leaves_some n best x ((r (first_to_leave n best x)).none e).0);
  some = λ u e. new_or_old keep x rs best (first_to_leave n best x) u k (leaves_one n best x) ((r (first_to_leave n best x)).some u e);
}

pub comes : (n : Uses) (keep : List ℕ) (rs : Registers) (best : Option ℕ) → Comes keep rs best (fold (weighed n keep) best rs)
comes n keep [] best = record { none = λ e. (e, λ q v g. absurd cc); some = λ u e. inl e }
comes n keep (None ∷ rs) best = record {
  none = λ e. let c = (comes n keep rs best).none e in (c.0, none_at_all keep rs c.1);
  some = λ u e. deeper keep None rs best u ((comes n keep rs best).some u e);
}
comes n keep (Some x ∷ rs) best = comes_by n keep x rs best (λ b. comes n keep rs b) (is_kept keep x) refl

-- more registers than values that are kept: one of them holds another

abbrev value_or : Option ℕ → ℕ
value_or None = 0
value_or (Some v) = v

tail_one : (x : Option ℕ) (rs : Registers) → OneEach (x ∷ rs) → OneEach rs
tail_one x rs o p q v a b = let e : suc p ≡ suc q = o (suc p) (suc q) v a b in omega arith

abbrev AllHold : List ℕ → Registers → Type 0
AllHold keep rs = (q : ℕ) → q < length rs → (v : ℕ) × (get_or rs q None ≡ Some v) × (is_kept keep v ≡ true)

abbrev values : Registers → List ℕ
values [] = []
values (x ∷ rs) = value_or x ∷ values rs

no_other : (keep : List ℕ) (v : ℕ) (rs : Registers) → AllHold keep rs → ((q : ℕ) → get_or rs q None ≡ Some v → ⊥) → AllByRecursion (λ y. (v == y) ≡ false) (values rs)
no_other keep v [] h n = tt
no_other keep v (None ∷ rs) h n = let a = (h 0 (omega arith)).1 in absurd cc
no_other keep v (Some u ∷ rs) h n = (ne_eqb v u (λ e. n 0 (ap Some (sym e))), no_other keep v rs (λ q l. h (suc q) (omega arith)) (λ q g. n (suc q) g))

distinct : (keep : List ℕ) (rs : Registers) → AllHold keep rs → OneEach rs → IsDistinct (λ x y. x == y) (values rs)
unfolding IsDistinct
distinct keep [] h o = tt
distinct keep (None ∷ rs) h o = let a = (h 0 (omega arith)).1 in absurd cc
distinct keep (Some u ∷ rs) h o = (
  no_other keep u rs (λ q l. h (suc q) (omega arith)) (λ q g. let e : 0 ≡ suc q = o 0 (suc q) u refl g in absurd (omega arith)),
  distinct keep rs (λ q l. h (suc q) (omega arith)) (tail_one (Some u) rs o),
)

members_by : (keep : List ℕ) (u q : ℕ) → (b : Bool) → (q == u) ≡ b → is_kept keep u ≡ true → (is_kept keep q ≡ true) ⊎ (b ≡ false)
members_by keep u q true e k = inl (subst (λ (v : ℕ). is_kept keep v ≡ true) (sym (eqb-true q u e)) k)
members_by keep u q false e k = inr refl

members : (keep : List ℕ) (rs : Registers) → AllHold keep rs → (q : ℕ) → is_member (λ x y. x == y) (values rs) q ≡ true → is_member (λ x y. x == y) keep q ≡ true
members keep [] h q e = absurd cc
members keep (None ∷ rs) h q e = let a = (h 0 (omega arith)).1 in absurd cc
members keep (Some u ∷ rs) h q e = go (or_cases (q == u) (is_member (λ x y. x == y) (values rs) q) e) (members keep rs (λ k l. h (suc k) (omega arith)) q)
  where
    go : ((q == u) ≡ true) ⊎ (is_member (λ x y. x == y) (values rs) q ≡ true) → (is_member (λ x y. x == y) (values rs) q ≡ true → is_member (λ x y. x == y) keep q ≡ true) → is_member (λ x y. x == y) keep q ≡ true
    go (inl a) r =
        let z = h 0 (omega arith) in
        let p : u ≡ z.0 = let w = z.1 in cc in
        subst (λ (v : ℕ). is_kept keep v ≡ true) (sym p ∙ sym (eqb-true q u a)) z.2
    go (inr a) r = r a

length-values : (rs : Registers) → length (values rs) ≡ length rs
length-values [] = refl
length-values (x ∷ rs) = ap suc (length-values rs)

pub too_few : (keep : List ℕ) (rs : Registers) → AllHold keep rs → OneEach rs → length rs ≤ length keep
too_few keep rs h o = omega (arith, length-values rs, length-le_from_is_member nat_eq_equiv (values rs) keep (distinct keep rs h o) (members keep rs h))

-- there is a seat, and what is kept does not leave it
pub record Seats (keep : List ℕ) (rs : Registers) (r : ℕ) : Type 0 where
  pub within : r < length rs
  pub leaves : (u : ℕ) → get_or rs r None ≡ Some u → is_kept keep u ≡ false

open_none : (o : Option ℕ) (u : ℕ) → is_open o ≡ true → o ≡ Some u → ⊥
open_none None u e f = absurd cc
open_none (Some v) u e f = absurd cc

not_open : (o : Option ℕ) → is_open o ≡ false → (v : ℕ) × (o ≡ Some v)
not_open None e = absurd cc
not_open (Some v) e = (v, refl)

full_seat : (n : Uses) (keep : List ℕ) (rs : Registers) → OneEach rs → length keep < length rs → length rs ≤ least_open rs → (o : Option ℕ) → fold (weighed n keep) None rs ≡ o → Seats keep rs (register_or_none rs o)
full_seat n keep rs one few full None e =
    let c = (comes n keep rs None).none e in
    let all : AllHold keep rs = λ q l. (let x = not_open (get_or rs q None) (fails_before_first is_open rs q None (omega arith)) in (x.0, x.1, c.1 q x.0 x.1)) in
    absurd (let t = too_few keep rs all one in omega arith)
full_seat n keep rs one few full (Some u) e = go ((comes n keep rs None).some u e)
  where
    go : (None ≡ Some u) ⊎ ((q : ℕ) × (get_or rs q None ≡ Some u) × (is_kept keep u ≡ false)) → Seats keep rs (register_of rs u)
    go (inl a) = absurd cc
    go (inr (q, g, k)) =
        let h : holds rs u ≡ true = held rs u q g in
        record {
          within = ltb-true (register_of rs u) (length rs) h;
          leaves = λ v f. (let p : u ≡ v = (let a = register_has rs u h in cc) in subst (λ (w : ℕ). is_kept keep w ≡ false) p k);
        }

seat_cases : (n : Uses) (keep : List ℕ) (rs : Registers) → OneEach rs → length keep < length rs → (b : Bool) → nat_lt (least_open rs) (length rs) ≡ b
    → Seats keep rs (cond b (least_open rs) (register_or_none rs (fold (weighed n keep) None rs)))
seat_cases n keep rs one few true e =
    let l : least_open rs < length rs = ltb-true (least_open rs) (length rs) e in
    record { within = l; leaves = λ u g. absurd (open_none (get_or rs (least_open rs) None) u (passes_at_first is_open rs None l) g) }
seat_cases n keep rs one few false e = full_seat n keep rs one few (ltb-false (least_open rs) (length rs) e) (fold (weighed n keep) None rs) refl

pub seats : (n : Uses) (keep : List ℕ) (rs : Registers) → OneEach rs → length keep < length rs → Seats keep rs (seat n keep rs)
unfolding seat farthest
seats n keep rs one few = seat_cases n keep rs one few (nat_lt (least_open rs) (length rs)) refl

-- arguments are loaded and stay

keeps_by : (rs : Registers) (keep : List ℕ) (r a b : ℕ) → Seats keep rs r → holds rs b ≡ true → is_kept keep b ≡ true → (register_of rs b ≡ r) ⊎ (register_of rs b ≡ r → ⊥) → holds (put rs r a) b ≡ true
keeps_by rs keep r a b s h k (inl e) =
    let f : get_or rs r None ≡ Some b = subst (λ (q : ℕ). get_or rs q None ≡ Some b) e (register_has rs b h) in
    let g = s.leaves b f in
    absurd cc
keeps_by rs keep r a b s h k (inr n) = held (put rs r a) b (register_of rs b) (get_or-set_other rs r (register_of rs b) (Some a) None n ∙ register_has rs b h)

pub put_held : (rs : Registers) (r a : ℕ) → r < length rs → holds (put rs r a) a ≡ true
put_held rs r a l = held (put rs r a) a r (get_or-set_same rs r (Some a) None l)

-- what a load keeps: no value twice, those that are kept, and the argument is there
pub record Loaded (keep : List ℕ) (a : ℕ) (rs after : Registers) : Type 0 where
  pub one : OneEach after
  pub there : holds after a ≡ true
  pub stays : (b : ℕ) → is_kept keep b ≡ true → holds rs b ≡ true → holds after b ≡ true
  pub size : length after ≡ length rs

loaded_by : (keep : List ℕ) (a : ℕ) (rs : Registers) (r : ℕ) → OneEach rs → Seats keep rs r → (b : Bool) → holds rs a ≡ b → Loaded keep a rs (cond b rs (put rs r a))
loaded_by keep a rs r o s true h = record { one = o; there = h; stays = λ b k g. g; size = refl }
loaded_by keep a rs r o s false h = record {
  one = put_one rs r a o (λ q g. not_held rs a q h g);
  there = put_held rs r a s.within;
  stays = λ b k g. keeps_by rs keep r a b s g k (cases_eq (register_of rs b) r);
  size = length-set rs r (Some a);
}

pub loaded : (n : Uses) (keep : List ℕ) (a : ℕ) (rs : Registers) → OneEach rs → length keep < length rs → Loaded keep a rs (fetched n keep rs a)
loaded n keep a rs o few = loaded_by keep a rs (seat n keep rs) o (seats n keep rs o few) (holds rs a) refl

-- all arguments
pub record AllLoaded (keep xs : List ℕ) (rs after : Registers) : Type 0 where
  pub one : OneEach after
  pub there : AllByRecursion (λ a. holds after a ≡ true) xs
  pub stays : (b : ℕ) → is_kept keep b ≡ true → holds rs b ≡ true → holds after b ≡ true

pub all_loaded : (n : Uses) (keep xs : List ℕ) (rs : Registers) → OneEach rs → length keep < length rs → AllByRecursion (λ a. is_kept keep a ≡ true) xs → AllLoaded keep xs rs (with_loads n keep xs rs)
unfolding with_loads
all_loaded n keep [] rs o few k = record { one = o; there = tt; stays = λ b h g. g }
all_loaded n keep (a ∷ xs) rs o few k =
    let f = loaded n keep a rs o few in
    let l : length keep < length (fetched n keep rs a) = let e = f.size in omega arith in
    let r = all_loaded n keep xs (fetched n keep rs a) f.one l k.1 in
    record { one = r.one; there = (r.stays a k.0 f.there, r.there); stays = λ b h g. r.stays b h (f.stays b h g) }

kept_cons : (x b : ℕ) (xs : List ℕ) → is_kept xs b ≡ true → is_kept (x ∷ xs) b ≡ true
kept_cons x b xs h = or_right (b == x) (is_kept xs b) h

weaken : (x : ℕ) (keep xs : List ℕ) → AllByRecursion (λ a. is_kept keep a ≡ true) xs → AllByRecursion (λ a. is_kept (x ∷ keep) a ≡ true) xs
weaken x keep [] h = tt
weaken x keep (a ∷ xs) h = (kept_cons x a keep h.0, weaken x keep xs h.1)

kept_here : (x : ℕ) (xs : List ℕ) → is_kept (x ∷ xs) x ≡ true
kept_here x xs = list_any_at (λ y. x == y) (x ∷ xs) 0 0 (omega arith) (eq-eqb x x refl)

pub all_kept_itself : (xs : List ℕ) → AllByRecursion (λ a. is_kept xs a ≡ true) xs
all_kept_itself [] = tt
all_kept_itself (x ∷ xs) = (kept_here x xs, weaken x xs xs (all_kept_itself xs))

-- the numbers in the registers of values that are held
pub numbers_there : (w : World) (rs : Registers) (known : List ℕ) (s : State) (xs : List ℕ) → Holds w rs known s → AllByRecursion (λ a. holds rs a ≡ true) xs
    → map (λ r. s (Reg r)) (map (register_of rs) xs) ≡ map w.number xs
numbers_there w rs known s [] h a = refl
numbers_there w rs known s (x ∷ xs) h a =
    let e : s (Reg (register_of rs x)) ≡ w.number x = h.registers (register_of rs x) x (register_has rs x a.0) in
    let f = numbers_there w rs known s xs h a.1 in
    cc

-- a plain value is computed from the numbers of its arguments
pub arguments_there : (w : World) (n : Uses) (known : List ℕ) (rs : Registers) (s : State) (xs : List ℕ) → OneEach rs → length xs < length rs
    → Holds w (with_loads n xs xs rs) known s → map (λ r. s (Reg r)) (map (register_of (with_loads n xs xs rs)) xs) ≡ map w.number xs
arguments_there w n known rs s xs o few h = numbers_there w (with_loads n xs xs rs) known s xs h (all_loaded n xs xs rs o few (all_kept_itself xs)).there

-- what computations find, one after the other

pub found_more : (w : World) (xs ys : List ActRecord) (s : State) → found w (xs ++ ys) s ≡ found w xs s ++ found w ys (after_acts w xs s)
unfolding found after_acts
found_more w [] ys s = refl
found_more w (a ∷ xs) ys s = ap (λ l. finds a s ++ l) (found_more w xs ys (after_act w a s)) ∙ sym (append_assoc (finds a s) (found w xs (after_act w a s)) (found w ys (after_acts w xs (after_act w a s))))

nothing_by : (w : World) (r a : ℕ) (s : State) (b : Bool) → found w (cond b [] (load r a ∷ [])) s ≡ []
unfolding found
nothing_by w r a s true = refl
nothing_by w r a s false = refl

-- loads compute nothing
pub loads_find : (w : World) (n : Uses) (keep xs : List ℕ) (rs : Registers) (s : State) → found w (loads n keep xs rs) s ≡ []
unfolding loads found
loads_find w n keep [] rs s = refl
loads_find w n keep (a ∷ xs) rs s =
    let e = found_more w (fetch n keep rs a) (loads n keep xs (fetched n keep rs a)) s in
    let f = nothing_by w (seat n keep rs) a s (holds rs a) in
    let g = loads_find w n keep xs (fetched n keep rs a) (after_acts w (fetch n keep rs a) s) in
    e ∙ (ap (λ l. l ++ found w (loads n keep xs (fetched n keep rs a)) (after_acts w (fetch n keep rs a) s)) f ∙ g)

-- a plain value finds the numbers of its arguments
pub compute_finds : (w : World) (n : Uses) (t : TaskRecord) (rs : Registers) (known : List ℕ) (s : State) → Holds w rs known s → length rs ≤ 32 → OneEach rs → length t.args < length rs
    → ((a : ℕ) → Contains t.args a → Contains known a) → AreHomed w (acts_of_role Plain n t rs) → found w (acts_of_role Plain n t rs) s ≡ (t.value, map w.number t.args) ∷ []
unfolding found
compute_finds w n t rs known s h few o less k d =
    let ls = loads n t.args t.args rs in
    let c = compute t.value (map (register_of (with_loads n t.args t.args rs)) t.args) (result_in n t (before_result n t rs)) in
    let f = loads_hold w n t.args t.args rs known s h few k (homed_left w ls (c ∷ []) d) in
    let x = arguments_there w n known rs (after_acts w ls s) t.args o less f in
    found_more w ls (c ∷ []) s ∙ (ap (λ l. l ++ found w (c ∷ []) (after_acts w ls s)) (loads_find w n t.args t.args rs s) ∙ ap (λ l. (t.value, l) ∷ []) x)
