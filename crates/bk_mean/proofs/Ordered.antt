-- The order of a block's values, as it was made, does what the block does.
use Rattle.std.proofs.Common.{◌≡◌, ℕ, zero, suc, ◌+◌, ◌<◌, ◌≤◌, refl, ap, sym, ◌∙◌, subst, arith, ◌⊎◌, inl, inr, List, [], ◌∷◌, ◌++◌, length, map, take, append_assoc, Option, Some, None, Bool, true, false, get_or}
use Rattle.std.specs.Prelude.{if◌then◌else◌, slice_get, option_and_then}
use Rattle.std.specs.List.{All, Contains, filter_map, cons_option, range_with_len}
use Rattle.std.specs.Ordering.{nat_cmp}
use Rattle.std.specs.BTreeMap.{get}
use Rattle.std.proofs.lemmas.Bool.{cases_lt}
use Rattle.std.proofs.lemmas.Option.{slice_get_within}
use Rattle.std.proofs.lemmas.List.{take_more}
use Rattle.bk_func.specs.Records.{ValueRecord, BlockRecord, FuncRecord}
use Rattle.bk_func.specs.Numbers.{origin_of}
use Rattle.bk_func.specs.Effects.{is_phi, chain_from}
use Rattle.bk_func.specs.Meaning.{first_state}
use Rattle.bk_func.specs.Form.{IsFormed}
use Rattle.bk_func.specs.Form.Text.{IsPhi}
use Rattle.bk_func.specs.Form.Walks.{IsReached}
use Rattle.bk_func.specs.Form.Signatures.{Setting}
use Rattle.bk_func.proofs.Faults.{In}
use Rattle.bk_func.proofs.Flat.{Laid}
use Rattle.bk_mean.specs.declared.arrange.Due.{Due as Coded}
use Rattle.bk_mean.specs.declared.numbering.Numbering.{Numbering}
use Rattle.bk_mean.specs.Numbering.{IsNumbering, local_in}
use Rattle.bk_mean.specs.Arranged.{Due, anytime, class_of, level_in, due_by, due_of, due_at, TakesAt, IsOrdered, Filled, none, put}
use Rattle.bk_mean.specs.Dues.{due_in, seen_at, AllDue, DuesOfPlaces, StaysWithin, FallsBy, taken_in}
use Rattle.bk_mean.specs.Memories.{state_place, states_of, place_due, taken_place, taken_places, all_taken, dues_at, IsArranged}
use Rattle.bk_mean.specs.Ready.{StandsAt}
use Rattle.bk_places.proofs.Elements.{to_in, to_contains}
use Rattle.bk_places.proofs.Positions.{got, get_or_got}
use Rattle.bk_mean.proofs.Named.{got_in}
use Rattle.bk_mean.proofs.Roles.{no_phi, not_phi}
use Rattle.bk_mean.proofs.Formed.{sound}
use Rattle.bk_mean.proofs.Ranks.{rank, argument_falls}
use Rattle.bk_mean.proofs.Course.{Meets}
use Rattle.bk_mean.proofs.Laying.{Filled as ByValues, Placed}
use Rattle.bk_mean.proofs.Arranged.{Reads, due_here, due_level, due_class, values_at, arranged_filled, arranged_laid, arranged_placed}
use Rattle.bk_mean.proofs.Releasing.{taken_of}
use Rattle.bk_mean.proofs.Arranging.{filled_as}
use Rattle.bk_mean.proofs.Standing.{StandsFrom, stands_from, one_number}
use Rattle.bk_mean.proofs.Passing.{in_filter_map, filter_map_in, local_at, local_some, due_is}

-- what is filled by dues is filled by the same dues
filled_due : (due now : ℕ → Option Due) (T : ℕ → ℕ → Type 0) → ((k : ℕ) → due k ≡ now k) → (xs zs : List ℕ) → Filled due T xs zs → Filled now T xs zs
filled_due due now T h _ _ none = none
filled_due due now T h _ _ (put xs ys zs v d e free later g) =
    put xs ys zs v d (sym (h v) ∙ e) free (λ y q c r. later y q c (h y ∙ r)) (filled_due due now T h (xs ++ ys) zs g)

-- dues of places

get_past : {A : Type 0} (xs : List A) (k : ℕ) → length xs ≤ k → slice_get xs k ≡ None
get_past {A} xs k l = go (slice_get xs k) refl
  where
    go : (o : Option A) → slice_get xs k ≡ o → slice_get xs k ≡ None
    go None e = e
    go (Some x) e = let m = slice_get_within xs k x e in absurd (omega (arith, l, m))

own_place : (c l : Option ℕ) (k : ℕ) (d : Due) → due_by c l k ≡ Some d → d.place ≡ k
own_place None l k d e = let q : ◌≡◌ {A = Due} (record { level = anytime; class = 0; place = k }) d = cc in sym (ap (λ (x : Due). x.place) q)
own_place (Some c) None k d e = absurd cc
own_place (Some c) (Some l) k d e = let q : ◌≡◌ {A = Due} (record { level = l; class = c; place = k }) d = cc in sym (ap (λ (x : Due). x.place) q)

module _ (n : Numbering) (first : ℕ) (vs : List ValueRecord) (dues : List (Option Coded)) (size : length dues ≡ length vs) (each : (k : ℕ) (v : ValueRecord) → slice_get vs k ≡ Some v → due_in dues k ≡ place_due n first vs k v) where
  pub due_is_at : (k : ℕ) → due_in dues k ≡ dues_at n first vs k
  due_is_at k = go (cases_lt k (length vs))
    where
      go : (k < length vs) ⊎ (length vs ≤ k) → due_in dues k ≡ dues_at n first vs k
      go (inl l) = let q = got vs k l in each k q.0 q.1 ∙ sym (ap (option_and_then (place_due n first vs k)) q.1)
      go (inr l) = ap seen_at (get_past dues k (omega (arith, l, size))) ∙ sym (ap (option_and_then (place_due n first vs k)) (get_past vs k l))

  pub of_places : DuesOfPlaces dues
  of_places = record { own = λ k d e. go k d (slice_get vs k) refl (sym (due_is_at k) ∙ e) }
    where
      go : (k : ℕ) (d : Due) (o : Option ValueRecord) → slice_get vs k ≡ o → dues_at n first vs k ≡ Some d → d.place ≡ k
      go k d None q e = let w = sym (ap (option_and_then (place_due n first vs k)) q) ∙ e in absurd cc
      go k d (Some v) q e = own_place (class_of v) (level_in (states_of n first vs) (state_place n v)) k d (sym (ap (option_and_then (place_due n first vs k)) q) ∙ e)

  pub arranged_is : (takes : List (List ℕ)) (zs : List ℕ) → takes ≡ all_taken n first vs →
      (AllDue dues → (r : ℕ → ℕ) → FallsBy r takes → Filled (due_in dues) (λ x y. Contains (taken_in takes x) y) (range_with_len 0 (length dues)) zs) → IsArranged n first vs zs
  arranged_is takes zs e h = record {
    filled = λ all r falls.
        let P : List (List ℕ) → Type 0 = λ ts. (AllDue dues → (r : ℕ → ℕ) → FallsBy r ts → Filled (due_in dues) (λ x y. Contains (taken_in ts x) y) (range_with_len 0 (length dues)) zs) in
        let Q : ℕ → Type 0 = λ k. Filled (dues_at n first vs) (λ x y. Contains (taken_in (all_taken n first vs) x) y) (range_with_len 0 k) zs in
        subst Q size
        (filled_due (due_in dues) (dues_at n first vs) (λ x y. Contains (taken_in (all_taken n first vs) x) y) due_is_at (range_with_len 0 (length dues)) zs
        (subst P e h (λ k l.
        let q = got vs k (omega (arith, l, size)) in
        let d = all k q.0 q.1 in
        (d.0, each k q.0 q.1 ∙ d.1)) r falls));
  }

-- what a place takes

pub taken_split : (n : Numbering) (first : ℕ) (vs : List ValueRecord) (x y : ℕ) → Contains (taken_in (all_taken n first vs) x) y → (v : ValueRecord) × (slice_get vs x ≡ Some v) × In y (taken_places n first vs v)
taken_split n first vs x y c = go (cases_lt x (length vs))
  where
    go : (x < length vs) ⊎ (length vs ≤ x) → (v : ValueRecord) × (slice_get vs x ≡ Some v) × In y (taken_places n first vs v)
    go (inl l) =
        let q = got vs x l in
        let P : List ℕ → Type 0 = λ ts. Contains ts y in
        (q.0, q.1, to_in y (taken_places n first vs q.0) (subst P (taken_of (taken_places n first vs) vs x q.0 l (sym (get_or_got vs x q.0 q.0 q.1))) c))
    go (inr l) =
        let e : taken_in (all_taken n first vs) x ≡ [] = none (taken_places n first vs) vs x l in
        let P : List ℕ → Type 0 = λ ts. Contains ts y in
        elim (to_in y [] (subst P e c)) [ ]
      where
        none : (g : ValueRecord → List ℕ) (us : List ValueRecord) (k : ℕ) → length us ≤ k → get_or (map g us) k [] ≡ []
        none g [] k l = refl
        none g (u ∷ us) zero l = absurd (omega (arith, l))
        none g (u ∷ us) (suc k) l = none g us k (omega (arith, l))

pub split_taken : (n : Numbering) (first : ℕ) (vs : List ValueRecord) (x y : ℕ) (v : ValueRecord) → slice_get vs x ≡ Some v → In y (taken_places n first vs v) → Contains (taken_in (all_taken n first vs) x) y
split_taken n first vs x y v e i =
    let P : List ℕ → Type 0 = λ ts. Contains ts y in
    subst P (sym (taken_of (taken_places n first vs) vs x v (slice_get_within vs x v e) (sym (get_or_got vs x v v e)))) (to_contains y (taken_places n first vs v) i)

place_low : (n : Numbering) (first : ℕ) (vs : List ValueRecord) (a y : ℕ) → taken_place n first vs a ≡ Some y → (p : ℕ) × (get nat_cmp n.values a ≡ Some p) × (p ≡ first + y) × (y < length vs)
place_low n first vs a y e = go (get nat_cmp n.values a) refl
  where
    go : (o : Option ℕ) → get nat_cmp n.values a ≡ o → (p : ℕ) × (get nat_cmp n.values a ≡ Some p) × (p ≡ first + y) × (y < length vs)
    go None q = let w = sym (ap (option_and_then (local_in first (length vs))) q) ∙ e in absurd cc
    go (Some p) q = let l = local_some first (length vs) p y (sym (ap (option_and_then (local_in first (length vs))) q) ∙ e) in (p, q, l.0, l.1)

-- the argument by which a value takes another
taken_arg : (n : Numbering) (first : ℕ) (vs : List ValueRecord) (v : ValueRecord) (y : ℕ) → In y (taken_places n first vs v) → ¬ IsPhi v × ((a : ℕ) × In a v.args × (taken_place n first vs a ≡ Some y))
taken_arg n first vs v y i = go (is_phi (origin_of v.op.family)) refl (filter_map_in (taken_place n first vs) v.args y)
  where
    go : (t : Bool) → is_phi (origin_of v.op.family) ≡ t → (In y (filter_map (taken_place n first vs) v.args) → (a : ℕ) × In a v.args × (taken_place n first vs a ≡ Some y)) →
        ¬ IsPhi v × ((a : ℕ) × In a v.args × (taken_place n first vs a ≡ Some y))
    go true q h =
        let P : Bool → Type 0 = λ b. In y (if b then [] else filter_map (taken_place n first vs) v.args) in
        elim (subst P q i) [ ]
    go false q h =
        let P : Bool → Type 0 = λ b. In y (if b then [] else filter_map (taken_place n first vs) v.args) in
        (no_phi v q, h (subst P q i))

pub taken_within : (n : Numbering) (first : ℕ) (vs : List ValueRecord) → StaysWithin (length vs) (all_taken n first vs)
taken_within n first vs = record {
  within = λ x y c.
      let s = taken_split n first vs x y c in
      let a = taken_arg n first vs s.0 y s.2 in
      (place_low n first vs a.1.0 y a.1.2).3;
}

-- the rank of the value at a place
abbrev rank_of : FuncRecord → Option ValueRecord → ℕ
rank_of f None = 0
rank_of f (Some v) = rank f v.id

-- an order that was made for a block of a function in form

module _ (s : Setting) (f : FuncRecord) (form : IsFormed s f) (n : Numbering) (q : IsNumbering f n) (b : BlockRecord) (first : ℕ) (at : StandsFrom f first b) where
  takes_at : (x y : ℕ) → Contains (taken_in (all_taken n first b.values) x) y → TakesAt b x y
  takes_at x y c =
      let (u, e, i) = taken_split n first b.values x y c in
      let (p, (a, j, t)) = taken_arg n first b.values u y i in
      let (k, g, d, l) = place_low n first b.values a y t in
      let w = got b.values y l in
      let o = one_number f a w.0.id k (sym (q.values a) ∙ g) (at.found y w.0 w.1 ∙ ap Some (sym d)) in
      let P : ℕ → Type 0 = λ z. Contains u.args z in
      (u, w.0, e, w.1, (to_contains w.0 b.values (got_in b.values y w.0 w.1), to_contains u b.values (got_in b.values x u e), p, subst P o (to_contains a u.args j)))

  at_takes : (x y : ℕ) → TakesAt b x y → Contains (taken_in (all_taken n first b.values) x) y
  at_takes x y (u, v, e, g, (cv, cu, p, c)) =
      let l = slice_get_within b.values y v g in
      let t : taken_place n first b.values v.id ≡ Some y = ap (option_and_then (local_in first (length b.values))) (q.values v.id ∙ at.found y v g) ∙ local_at first y (length b.values) l in
      let i = in_filter_map (taken_place n first b.values) u.args v.id y (to_in v.id u.args c) t in
      let P : Bool → Type 0 = λ z. In y (if z then [] else filter_map (taken_place n first b.values) u.args) in
      split_taken n first b.values x y u e (subst P (sym (not_phi u p)) i)

  module _ (r : IsReached f b) (m : ℕ) (meets : Meets f b m) where
    all_due : (k : ℕ) (v : ValueRecord) → slice_get b.values k ≡ Some v → (d : Due) × (place_due n first b.values k v ≡ Some d)
    all_due k v e = (
      record { level = due_level f b (first_state b m) v; class = due_class v; place = k },
      due_is s f form n q b r first at m meets k v e ∙ due_here s f (sound s f form) b r m meets v (at.block, to_contains v b.values (got_in b.values k v e)) k,
    )

    same_due : (k : ℕ) → dues_at n first b.values k ≡ due_at f b (first_state b m) k
    same_due k = go (slice_get b.values k) refl
      where
        go : (o : Option ValueRecord) → slice_get b.values k ≡ o → dues_at n first b.values k ≡ due_at f b (first_state b m) k
        go None e = ap (option_and_then (place_due n first b.values k)) e ∙ sym (ap (option_and_then (due_of f b (first_state b m) k)) e)
        go (Some v) e = ap (option_and_then (place_due n first b.values k)) e ∙ due_is s f form n q b r first at m meets k v e ∙ sym (ap (option_and_then (due_of f b (first_state b m) k)) e)

    falls : FallsBy (λ k. rank_of f (slice_get b.values k)) (all_taken n first b.values)
    falls x y c =
        let (u, v, e, g, (cv, cu, p, i)) = takes_at x y c in
        let l = (argument_falls s f (sound s f form) b u (at.block, cu) r p v.id (to_in v.id u.args i)).1 in
        let o : rank_of f (slice_get b.values x) ≡ rank f u.id = ap (rank_of f) e in
        let q : rank_of f (slice_get b.values y) ≡ rank f v.id = ap (rank_of f) g in
        omega (arith, l, o, q)

    order_filled : (zs : List ℕ) → IsArranged n first b.values zs → Filled (due_at f b (first_state b m)) (TakesAt b) (range_with_len 0 (length b.values)) zs
    order_filled zs h =
        filled_as (due_at f b (first_state b m)) (λ x y. Contains (taken_in (all_taken n first b.values) x) y) (TakesAt b) takes_at at_takes (range_with_len 0 (length b.values)) zs
        (filled_due (dues_at n first b.values) (due_at f b (first_state b m)) (λ x y. Contains (taken_in (all_taken n first b.values) x) y) same_due (range_with_len 0 (length b.values)) zs
        (h.filled all_due (λ k. rank_of f (slice_get b.values k)) falls))

pub ordered_is : (f : FuncRecord) (n : Numbering) → IsNumbering f n → (b : BlockRecord) (first : ℕ) → StandsAt f first b → (zs : List ℕ) → length b.values < anytime → All (λ k. k < length b.values) zs → IsArranged n first b.values zs →
    IsOrdered f b zs
ordered_is f n q b first at zs short within h = record {
  short = short;
  within = within;
  filled = λ s form r m meets. order_filled s f form n q b first (stands_from s f form at.index b at.block first at.count_is) r m meets zs h;
}

-- so it does what the block does

reads : (f : FuncRecord) (b : BlockRecord) (m : ℕ) → Reads f b m (due_at f b m) (TakesAt b)
reads f b m = record { due = λ k v e. ap (option_and_then (due_of f b m k)) e; taken = λ x y t. t; takes = λ x y t. t }

pub ordered_filled : (s : Setting) (f : FuncRecord) → IsFormed s f → (b : BlockRecord) → IsReached f b → (m : ℕ) → Meets f b m → (zs : List ℕ) → IsOrdered f b zs →
    ByValues b (due_level f b (first_state b m)) due_class b.values (values_at b.values zs)
ordered_filled s f form b r m meets zs o = arranged_filled s f (sound s f form) b r m meets (due_at f b (first_state b m)) (TakesAt b) (reads f b (first_state b m)) zs (o.filled s form r m meets)

pub ordered_laid : (s : Setting) (f : FuncRecord) → IsFormed s f → (b : BlockRecord) → IsReached f b → (m : ℕ) → Meets f b m → (zs : List ℕ) → IsOrdered f b zs →
    Laid f b (first_state b m) (chain_from f b (first_state b m)) (values_at b.values zs)
ordered_laid s f form b r m meets zs o = arranged_laid s f (sound s f form) b r m meets o.short (due_at f b (first_state b m)) (TakesAt b) (reads f b (first_state b m)) zs (o.filled s form r m meets)

pub ordered_placed : (s : Setting) (f : FuncRecord) → IsFormed s f → (b : BlockRecord) → IsReached f b → (m : ℕ) → Meets f b m → (zs : List ℕ) → IsOrdered f b zs → Placed f (first_state b m) (values_at b.values zs)
ordered_placed s f form b r m meets zs o = arranged_placed s f (sound s f form) b r m meets o.short (due_at f b (first_state b m)) (TakesAt b) (reads f b (first_state b m)) zs (o.filled s form r m meets)

-- what arguments name in a block, one after the other

pub filter_map_more : (g : ℕ → Option ℕ) (xs : List ℕ) (i : ℕ) → i < length xs → filter_map g (take (i + 1) xs) ≡ filter_map g (take i xs) ++ filter_map g (get_or xs i 0 ∷ [])
filter_map_more g xs i l = ap (filter_map g) (take_more xs i 0 l) ∙ append g (take i xs) (get_or xs i 0 ∷ [])
  where
    append : (g : ℕ → Option ℕ) (xs ys : List ℕ) → filter_map g (xs ++ ys) ≡ filter_map g xs ++ filter_map g ys
    append g [] ys = refl
    append g (x ∷ xs) ys = go (g x) (append g xs ys)
      where
        go : (o : Option ℕ) → filter_map g (xs ++ ys) ≡ filter_map g xs ++ filter_map g ys → cons_option o (filter_map g (xs ++ ys)) ≡ cons_option o (filter_map g xs) ++ filter_map g ys
        go None e = e
        go (Some y) e = ap (λ zs. y ∷ zs) e

pub taken_more : (g : ℕ → Option ℕ) (xs : List ℕ) (i : ℕ) (o : Option ℕ) (old list new : List ℕ) → i < length xs → o ≡ g (get_or xs i 0) → list ≡ old ++ filter_map g (take i xs) → new ≡ list ++ cons_option o [] →
    new ≡ old ++ filter_map g (take (i + 1) xs)
taken_more g xs i o old list new l e a b =
    b ∙ ap (λ ys. ys ++ cons_option o []) a ∙ append_assoc old (filter_map g (take i xs)) (cons_option o [])
    ∙ ap (λ (z : Option ℕ). old ++ (filter_map g (take i xs) ++ cons_option z [])) e ∙ ap (λ ys. old ++ ys) (sym (filter_map_more g xs i l))
