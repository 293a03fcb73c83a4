-- What a left tree names below its root ranks below the value at which it stands.
use Rattle.std.proofs.Common.{◌≡◌, ℕ, ◌<◌, refl, ap, subst, sym, ◌∙◌, arith, List, [], ◌∷◌, drop, Option, Some, Bool, true, false, inl, inr}
use Rattle.std.specs.Prelude.{slice_get, if◌then◌else◌}
use Rattle.bk_ops.specs.declared.table.Op.{Op}
use Rattle.bk_func.specs.Records.{ValueRecord, FuncRecord}
use Rattle.bk_func.specs.Numbers.{Origin, computed, origin_of, value_of}
use Rattle.bk_func.proofs.Faults.{In}
use Rattle.bk_func.proofs.Unique.{inputs_by, inputs_of, Ranked}
use Rattle.bk_rule.specs.declared.trees.Bound.{Bound}
use Rattle.bk_rule.specs.declared.trees.Bound.TheVariants as bound
use Rattle.bk_rule.specs.declared.trees.Pattern.{Pattern, Row_of-Pattern, end_of-Pattern, more_of-Pattern}
use Rattle.bk_rule.specs.declared.trees.Pattern as pattern
use Rattle.bk_rule.specs.Bindings.{value_in}
use Rattle.bk_rule.specs.Match.{NameMatches, Matches, MatchesEach, ordered, swapped, is_commutative, first_is, order_of, orders}
use Rattle.bk_refine_laws.specs.Trees.{Computes, HasValues, HaveValues, Names, NamesAmong, NamesBelow}

-- what is bound to the variable is live and ranks below n
abbrev pub IsUnder : (ℕ → Type 0) → (ℕ → ℕ) → ℕ → ℕ → Type 0
IsUnder live rank n x = live x × (rank x < n)

in_swapped : (x : ℕ) (ids : List ℕ) → In x (swapped ids) → In x ids
in_swapped x [] i = i
in_swapped x (y ∷ []) i = i
in_swapped x (y ∷ z ∷ []) (inl e) = inr (inl e)
in_swapped x (y ∷ z ∷ []) (inr (inl e)) = inl e
in_swapped x (y ∷ z ∷ []) (inr (inr i)) = elim i [ ]
in_swapped x (y ∷ z ∷ w ∷ ws) i = i

pub in_ordered : (o : Op) (cs : List Bool) (ids : List ℕ) (x : ℕ) → In x (ordered o cs ids) → In x ids
in_ordered o cs ids x = go (is_commutative o) (first_is cs)
  where
    go : (c d : Bool) → In x (if c then (if d then swapped ids else ids) else ids) → In x ids
    go true true i = in_swapped x ids i
    go true false i = i
    go false d i = i

bound_value : (bs : List Bound) (j i id : ℕ) → j ≡ i → slice_get bs j ≡ Some (bound.Value id) → value_in (slice_get bs i) ≡ id
bound_value bs j i id e h = ap (λ k. value_in (slice_get bs k)) (sym e) ∙ ap value_in h

-- the inputs of a value at which a node stands
pub inputs_under : (f : FuncRecord) (live : ℕ → Type 0) (rank : ℕ → ℕ) → Ranked f live rank → (id : ℕ) (v : ValueRecord) (o : Op) (cs : List Bool) → live id → value_of f id ≡ Some v → v.op ≡ o → Computes o →
    (x : ℕ) → In x (ordered o cs v.args) → IsUnder live rank (rank id) x
inputs_under f live rank k id v o cs l e d c x i =
    let q : origin_of v.op.family ≡ computed = ap (λ (y : Op). origin_of y.family) d ∙ c.origin in
    let P : Origin → Type 0 = λ u. In x (inputs_by u v) in
    let Q : Option ValueRecord → Type 0 = λ u. In x (inputs_of u) in
    k.falls id l x (subst Q (sym e) (subst P (sym q) (in_ordered o cs v.args x i)))

mutual
  named_under : (p : Pattern) (f : FuncRecord) (live : ℕ → Type 0) (rank : ℕ → ℕ) → Ranked f live rank → (bs : List Bound) → HasValues p → (id : ℕ) (cs : List Bool) → live id → Matches f bs p id cs →
      (i n : ℕ) → rank id < n → Names i p → IsUnder live rank n (value_in (slice_get bs i))
  named_under pattern.Any f live rank k bs q id cs l h i n r y = elim y [ ]
  named_under (pattern.Var j) f live rank k bs q id cs l h i n r y =
      let P : ℕ → Type 0 = λ x. IsUnder live rank n x in subst P (sym (bound_value bs j i id y h)) (l, r)
  named_under (pattern.Node' name o ty int x shape ps) f live rank k bs (q, qs) id cs l (h, (v, e, d, hy, hi, ha, hs)) i n r (inl y) =
      let P : ℕ → Type 0 = λ x. IsUnder live rank n x in
      let Q : Option ℕ → Type 0 = λ o. NameMatches bs o id in
      subst P (sym (bound_value bs i i id refl (subst Q y h))) (l, r)
  named_under (pattern.Node' name o ty int x shape ps) f live rank k bs (q, qs) id cs l (h, (v, e, d, hy, hi, ha, hs)) i n r (inr y) =
      among_under ps f live rank k bs qs (ordered o cs v.args) (drop (order_of o) cs) n
      (λ z j. (let u = inputs_under f live rank k id v o cs l e d q z j in (u.0, omega (arith, u.1, r))))
      hs i y

  among_under : {c : _} (ps : Row_of-Pattern c) (f : FuncRecord) (live : ℕ → Type 0) (rank : ℕ → ℕ) → Ranked f live rank → (bs : List Bound) → HaveValues ps → (ids : List ℕ) (cs : List Bool) (n : ℕ) →
      ((x : ℕ) → In x ids → IsUnder live rank n x) → MatchesEach f bs ps ids cs → (i : ℕ) → NamesAmong i ps → IsUnder live rank n (value_in (slice_get bs i))
  among_under end_of-Pattern f live rank k bs q ids cs n u h i y = elim y [ ]
  among_under (more_of-Pattern p ps) f live rank k bs q [] cs n u h i y = elim h [ ]
  among_under (more_of-Pattern p ps) f live rank k bs (q, qs) (id ∷ ids) cs n u (h, hs) i (inl y) =
      named_under p f live rank k bs q id cs (u id (inl refl)).0 h i n (u id (inl refl)).1 y
  among_under (more_of-Pattern p ps) f live rank k bs (q, qs) (id ∷ ids) cs n u (h, hs) i (inr y) =
      among_under ps f live rank k bs qs ids (drop (orders p) cs) n (λ x j. u x (inr j)) hs i y

-- what the tree names below its root ranks below the root
pub below_root : (p : Pattern) (f : FuncRecord) (live : ℕ → Type 0) (rank : ℕ → ℕ) → Ranked f live rank → (bs : List Bound) → HasValues p → (id : ℕ) (cs : List Bool) → live id → Matches f bs p id cs →
    (i : ℕ) → NamesBelow i p → IsUnder live rank (rank id) (value_in (slice_get bs i))
below_root pattern.Any f live rank k bs q id cs l h i y = elim y [ ]
below_root (pattern.Var j) f live rank k bs q id cs l h i y = elim y [ ]
below_root (pattern.Node' name o ty int x shape ps) f live rank k bs (q, qs) id cs l (h, (v, e, d, hy, hi, ha, hs)) i y =
    among_under ps f live rank k bs qs (ordered o cs v.args) (drop (order_of o) cs) (rank id)
    (λ z j. inputs_under f live rank k id v o cs l e d q z j) hs i y
