-- The places of numbers.
use Rattle.std.proofs.Common.{◌≡◌, ℕ, zero, suc, ◌+◌, ◌<◌, ◌≤◌, refl, ap, sym, ◌∙◌, subst, arith, ◌⊎◌, ◌↔◌, inl, inr, ⊎_elim, List, [], ◌∷◌, ◌++◌, length, map, take, Option, Some, None, get_or}
use Rattle.std.specs.Prelude.{slice_get}
use Rattle.std.specs.List.{Contains}
use Rattle.std.proofs.lemmas.Bool.{cases_lt}
use Rattle.std.proofs.lemmas.List.{length-append, length-map, take_all}
use Rattle.std.proofs.lemmas.List.Elements.{Contains-append_left, Contains-push}
use Rattle.std.proofs.lemmas.Option.{none-some, same_Some, slice_get-map, slice_get_within}
use Rattle.std.specs.Option.{option_map}
use Rattle.bk_func.specs.Records.{ValueRecord, BlockRecord}
use Rattle.bk_func.specs.Form.Text.{Defines, IsPhi}
use Rattle.bk_places.proofs.Adding.{first_members}
use Rattle.bk_places.proofs.Elements.{at_contains, at_some, contains_at, none_in}
use Rattle.bk_places.proofs.Filling.{Filled}
use Rattle.bk_places.specs.Named.{NamesBy, NamesIf, place_in}
use Rattle.bk_places.proofs.Positions.{place_first, place_found, place_gets}
use Rattle.bk_sched.specs.Arranged.{AreTakes}
use Rattle.bk_sched.specs.Named.{AreKnown, pushed}
use Rattle.bk_sched.specs.Order.{HasOwnNumbers}

-- a value's number has the value's place
pub own_place : (b : BlockRecord) → HasOwnNumbers b → (ns : List ℕ) → AreKnown b.values ns → (p : ℕ) (v : ValueRecord) → slice_get b.values p ≡ Some v → place_in ns v.id ≡ Some p
own_place b own ns known p v ev =
    let at = known.own p v ev in
    let (q, eq) = place_found ns v.id (contains_at ns p v.id at) in
    let low = place_first ns v.id q p eq at in
    let inside = slice_get_within b.values p v ev in
    let (u, eu) = at_some b.values q (omega (arith, low, inside)) in
    let same : u.id ≡ v.id = same_Some u.id v.id (sym (known.own q u eu) ∙ place_gets ns v.id q eq) in
    eq ∙ ap Some (own q p u v eu ev same)

-- and a place of a value is that of its number alone
pub place_below : (b : BlockRecord) (ns : List ℕ) → AreKnown b.values ns → (n p : ℕ) → place_in ns n ≡ Some p → p < length b.values → (v : ValueRecord) × (slice_get b.values p ≡ Some v) × (v.id ≡ n)
place_below b ns known n p e low =
    let (v, ev) = at_some b.values p low in
    (v, ev, same_Some v.id n (sym (known.own p v ev) ∙ place_gets ns n p e))

pub place_above : (b : BlockRecord) → HasOwnNumbers b → (ns : List ℕ) → AreKnown b.values ns → (n p : ℕ) → place_in ns n ≡ Some p → length b.values ≤ p → ¬ Defines b n
place_above b own ns known n p e high (v, c, is) =
    let (q, eq) = at_contains b.values v c in
    let at = own_place b own ns known q v eq in
    let same : q ≡ p = same_Some q p (sym at ∙ (ap (place_in ns) is ∙ e)) in
    absurd (omega (arith, high, same, slice_get_within b.values q v eq))

-- the first i values have numbers of their own where each has the first place of its number
pub record OwnUpTo (vs : List ValueRecord) (ns : List ℕ) (i : ℕ) : Type 0 where
  pub each : (p : ℕ) (v : ValueRecord) → p < i → slice_get vs p ≡ Some v → place_in ns v.id ≡ Some p

pub own_none : (vs : List ValueRecord) (ns : List ℕ) → OwnUpTo vs ns 0
own_none vs ns = record { each = λ p v l. absurd (omega (arith, l)) }

pub own_more : (vs : List ValueRecord) (ns : List ℕ) (i : ℕ) (v : ValueRecord) → OwnUpTo vs ns i → slice_get vs i ≡ Some v → place_in ns v.id ≡ Some i → OwnUpTo vs ns (i + 1)
own_more vs ns i v own at here = record {
  each = λ p u l e. ⊎_elim
      (λ (low : p < i). own.each p u low e)
      (λ (high : i ≤ p).
      let last : p ≡ i = omega (arith, l, high) in
      let is : u ≡ v = same_Some u v (sym e ∙ (ap (slice_get vs) last ∙ at)) in
      ap (λ (w : ValueRecord). place_in ns w.id) is ∙ (here ∙ ap Some (sym last)))
      (cases_lt p i);
}

pub own_all : (b : BlockRecord) (ns : List ℕ) (i : ℕ) → OwnUpTo b.values ns i → length b.values ≤ i → HasOwnNumbers b
own_all b ns i own over j k u v eu ev same =
    let lj = slice_get_within b.values j u eu in
    let lk = slice_get_within b.values k v ev in
    same_Some j k (sym (own.each j u (omega (arith, lj, over)) eu) ∙ (ap (place_in ns) same ∙ own.each k v (omega (arith, lk, over)) ev))

pub not_own : (b : BlockRecord) (ns : List ℕ) → AreKnown b.values ns → (p : ℕ) (v : ValueRecord) → slice_get b.values p ≡ Some v → ¬ (place_in ns v.id ≡ Some p) → ¬ HasOwnNumbers b
not_own b ns known p v e other own = other (own_place b own ns known p v e)

-- the numbers of values, and one more behind them
ids_at : (vs : List ValueRecord) (p : ℕ) (v : ValueRecord) → slice_get vs p ≡ Some v → slice_get (map (λ v. v.id) vs) p ≡ Some v.id
ids_at vs p v e = slice_get-map (λ (v : ValueRecord). v.id) vs p ∙ ap (option_map (λ (v : ValueRecord). v.id)) e

get_left : (xs ys : List ℕ) (p x : ℕ) → slice_get xs p ≡ Some x → slice_get (xs ++ ys) p ≡ Some x
get_left [] ys p x e = absurd (none-some x e)
get_left (z ∷ xs) ys zero x e = e
get_left (z ∷ xs) ys (suc p) x e = get_left xs ys p x e

-- the numbers are known as far as the first i values name them
pub record KnownUpTo (vs : List ValueRecord) (i : ℕ) (ns : List ℕ) : Type 0 where
  pub long : length vs ≤ length ns
  pub own : (p : ℕ) (v : ValueRecord) → slice_get vs p ≡ Some v → slice_get ns p ≡ Some v.id
  pub named : (p n : ℕ) (v : ValueRecord) → p < i → slice_get vs p ≡ Some v → NamesBy v n → Contains ns n

pub known_none : (vs : List ValueRecord) (ns : List ℕ) → ns ≡ map (λ v. v.id) vs → KnownUpTo vs 0 ns
known_none vs ns same = record {
  long = omega (arith, ap length same, length-map vs (λ (v : ValueRecord). v.id));
  own = λ p v e. ap (λ xs. slice_get xs p) same ∙ ids_at vs p v e;
  named = λ p n v l. absurd (omega (arith, l));
}

pub known_more : (vs : List ValueRecord) (i : ℕ) (ns ms : List ℕ) (v : ValueRecord) (o : Option ℕ) → KnownUpTo vs i ns → slice_get vs i ≡ Some v → NamesIf v o → ms ≡ pushed ns o → KnownUpTo vs (i + 1) ms
known_more vs i ns ms v None k at none same = record {
  long = omega (arith, k.long, ap length same);
  own = λ p u e. ap (λ xs. slice_get xs p) same ∙ k.own p u e;
  named = λ p n u l e h. subst (λ (xs : List ℕ). Contains xs n) (sym same) (⊎_elim
      (λ (low : p < i). k.named p n u low e h)
      (λ (high : i ≤ p).
      let last : p ≡ i = omega (arith, l, high) in
      let is : u ≡ v = same_Some u v (sym e ∙ (ap (slice_get vs) last ∙ at)) in
      absurd (none n (subst (λ (w : ValueRecord). NamesBy w n) is h)))
      (cases_lt p i));
}
known_more vs i ns ms v (Some x) k at one same = record {
  long = omega (arith, k.long, ap length same, length-append ns (x ∷ []));
  own = λ p u e. ap (λ xs. slice_get xs p) same ∙ get_left ns (x ∷ []) p u.id (k.own p u e);
  named = λ p n u l e h. subst (λ (xs : List ℕ). Contains xs n) (sym same) (⊎_elim
      (λ (low : p < i). Contains-append_left ns (x ∷ []) n (k.named p n u low e h))
      (λ (high : i ≤ p).
      let last : p ≡ i = omega (arith, l, high) in
      let is : u ≡ v = same_Some u v (sym e ∙ (ap (slice_get vs) last ∙ at)) in
      let number : n ≡ x = (one n).0 (subst (λ (w : ValueRecord). NamesBy w n) is h) in
      subst (λ (m : ℕ). Contains (ns ++ x ∷ []) m) (sym number) (Contains-push ns x))
      (cases_lt p i));
}

pub known_all : (vs : List ValueRecord) (i : ℕ) (ns : List ℕ) → KnownUpTo vs i ns → length vs ≤ i → AreKnown vs ns
known_all vs i ns k over = record {
  long = k.long;
  own = k.own;
  named = λ p n v e h. k.named p n v (omega (arith, over, slice_get_within vs p v e)) e h;
}

-- the places below a count of the first i numbers of a list
abbrev pub IsBelow : List ℕ → List ℕ → ℕ → ℕ → Type 0
IsBelow ns ids count q = q < count × ((n : ℕ) × Contains ids n × (place_in ns n ≡ Some q))

pub record BelowUpTo (ns ids : List ℕ) (count i : ℕ) (ps : List ℕ) : Type 0 where
  pub each : (q : ℕ) → Contains ps q ↔ IsBelow ns (take i ids) count q

pub below_none : (ns ids : List ℕ) (count : ℕ) (ps : List ℕ) → ps ≡ [] → BelowUpTo ns ids count 0 ps
below_none ns ids count ps none = record {
  each = λ q. ((λ c. absurd (none_in q (subst (λ (us : List ℕ). Contains us q) none c))), (λ (l, (n, c, e)). absurd (none_in n c)));
}

pub below_more : (ns ids : List ℕ) (count i : ℕ) (ps rs : List ℕ) (place : Option ℕ) → i < length ids → BelowUpTo ns ids count i ps → place ≡ place_in ns (get_or ids i 0)
    → ((q : ℕ) → Contains rs q ↔ (Contains ps q ⊎ (q < count × (place ≡ Some q)))) → BelowUpTo ns ids count (i + 1) rs
below_more ns ids count i ps rs place l below same more = record { each = λ q. (to q, from q) }
  where
    to : (q : ℕ) → Contains rs q → IsBelow ns (take (i + 1) ids) count q
    to q c = ⊎_elim
        (λ old. let (low, (n, m, e)) = (below.each q).0 old in (low, (n, (first_members ids i n l).1 (inl m), e)))
        (λ (low, e). (low, (get_or ids i 0, (first_members ids i (get_or ids i 0) l).1 (inr refl), sym same ∙ e)))
        ((more q).0 c)

    from : (q : ℕ) → IsBelow ns (take (i + 1) ids) count q → Contains rs q
    from q (low, (n, c, e)) = (more q).1 (⊎_elim
        (λ m. inl ((below.each q).1 (low, (n, m, e))))
        (λ is. inr (low, same ∙ (ap (place_in ns) (sym is) ∙ e)))
        ((first_members ids i n l).0 c))

pub below_all : (ns ids : List ℕ) (count i : ℕ) (ps : List ℕ) → length ids ≤ i → BelowUpTo ns ids count i ps → (q : ℕ) → Contains ps q ↔ IsBelow ns ids count q
below_all ns ids count i ps over below q = subst (λ (us : List ℕ). Contains ps q ↔ IsBelow ns us count q) (take_all i ids over) (below.each q)

-- what a value takes, by the places of its arguments
abbrev pub Takes : List ℕ → ℕ → ValueRecord → ℕ → Type 0
Takes ns count v q = q < count × ¬ IsPhi v × ((n : ℕ) × Contains v.args n × (place_in ns n ≡ Some q))

pub taken_args : (ns : List ℕ) (v : ValueRecord) (count : ℕ) (ids ps : List ℕ) → ids ≡ v.args → ¬ IsPhi v → ((q : ℕ) → Contains ps q ↔ IsBelow ns ids count q) → (q : ℕ) → Contains ps q ↔ Takes ns count v q
taken_args ns v count ids ps same other h q = (
  (λ c. let (l, (n, m, e)) = (h q).0 c in (l, other, (n, subst (λ (us : List ℕ). Contains us n) same m, e))),
  (λ (l, o, (n, m, e)). (h q).1 (l, (n, subst (λ (us : List ℕ). Contains us n) (sym same) m, e))),
)

pub takes_all : (b : BlockRecord) → HasOwnNumbers b → (ns : List ℕ) → AreKnown b.values ns → (es : List (List ℕ)) (i : ℕ) → i ≡ length b.values
    → Filled (λ (p : ℕ) (ps : List ℕ). (v : ValueRecord) → slice_get b.values p ≡ Some v → (q : ℕ) → Contains ps q ↔ Takes ns (length b.values) v q) [] es i → AreTakes b.values es
takes_all b own ns known es i all filled = record {
  size = filled.size ∙ all;
  edge = λ p v e q. (
    (λ c.
        let (low, other, (n, m, at)) = (filled.each p (omega (arith, all, slice_get_within b.values p v e)) v e q).0 c in
        let (u, eu, is) = place_below b ns known n q at low in
        (u, eu, other, subst (λ (x : ℕ). Contains v.args x) (sym is) m)),
    (λ (u, eu, other, m).
        (filled.each p (omega (arith, all, slice_get_within b.values p v e)) v e q).1 (slice_get_within b.values q u eu, other, (u.id, m, own_place b own ns known q u eu))),
  );
}
