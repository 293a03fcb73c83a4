-- A left tree that stands at a value of a function has the number of that value.
use Rattle.std.proofs.Common.{◌≡◌, ℕ, suc, ◌<◌, ◌^◌, refl, ap, subst, sym, arith, List, [], ◌∷◌, map, drop, Option, Some, None, Bool, true, false, inl, inr, ◌⊎◌, ℤ}
use Rattle.std.specs.Prelude.{if◌then◌else◌, IsTrue}
use Rattle.bk_ops.specs.declared.types.Target.{Target}
use Rattle.bk_ops.specs.declared.types.Ty.{Ty}
use Rattle.bk_ops.specs.declared.table.Op.{Op}
use Rattle.bk_ops.specs.Types.{width_of}
use Rattle.bk_ops.specs.Values.{places, value_row}
use Rattle.bk_func.specs.Records.{ValueRecord, FuncRecord}
use Rattle.bk_func.proofs.Faults.{In}
use Rattle.bk_func.proofs.Unique.{Ranked}
use Rattle.bk_rule.specs.declared.trees.Bound.{Bound}
use Rattle.bk_rule.specs.declared.trees.IntPart.{IntPart}
use Rattle.bk_rule.specs.declared.trees.IntPart.TheVariants as part
use Rattle.bk_rule.specs.declared.trees.Pattern.{Pattern, Row_of-Pattern, end_of-Pattern, more_of-Pattern}
use Rattle.bk_rule.specs.declared.trees.Pattern as pattern
use Rattle.bk_rule.specs.Bindings.{value_in, type_in, int_in}
use Rattle.bk_rule.specs.Match.{NameMatches, TypeMatches, IntMatches, Matches, MatchesEach, ordered, swapped, is_commutative, first_is, order_of, orders}
use Rattle.bk_rule.specs.Sound.{Stands, StandEach, IsNamed, IsTyped, WithInt, IsKept, IsOfWidth, Gives, FitsPlace, class_of, takes_any}
use Rattle.bk_refine_laws.specs.Trees.{Computes, HasValues, HaveValues, env_by}
use Rattle.bk_refine_laws.specs.Known.{FitsAt, FitEach, Has, KnowsBelow}
use Rattle.bk_refine_laws.proofs.Below.{inputs_under}
use Rattle.bk_refine_laws.proofs.Commuting.{swapped_fits, swapped_gives}

named : (f : FuncRecord) (m : ℕ → ℕ) (bs : List Bound) (name : Option ℕ) (id : ℕ) → NameMatches bs name id → IsNamed (env_by f m bs) name (m id)
named f m bs None id h = tt
named f m bs (Some i) id h = ap (λ o. m (value_in o)) h

typed : (t : Target) (f : FuncRecord) (m : ℕ → ℕ) (bs : List Bound) (ty : Option ℕ) (o : Op) (v : ValueRecord) (id : ℕ) → TypeMatches bs ty v.ty → Has t f m id v o →
    IsTyped t (env_by f m bs) ty (class_of o) (m id)
typed t f m bs None o v id h k = tt
typed t f m bs (Some i) o v id h k =
    let P : Ty → Type 0 = λ y. IsOfWidth (class_of o) t (width_of y t) × (m id < 2 ^ width_of y t) in
    subst P (sym (ap type_in h)) (k.width, k.below)

with_int : (f : FuncRecord) (m : ℕ → ℕ) (bs : List Bound) (o : Op) (int : Option IntPart) (k : ℤ) (P : ℤ → Type 0) → IntMatches bs int k → IsKept o k → P k → WithInt (env_by f m bs) o int P
with_int f m bs o None k P h q p = (k, q, p)
with_int f m bs o (Some (part.Number n)) k P h q p = (subst (IsKept o) h q, subst P h p)
with_int f m bs o (Some (part.Var i)) k P h q p = (subst (IsKept o) (sym (ap int_in h)) q, subst P (sym (ap int_in h)) p)

fits_place : (t : Target) (f : FuncRecord) (m : ℕ → ℕ) (bs : List Bound) (o : Op) (w id : ℕ) (p : Pattern) (cs : List Bool) → FitsAt t f m o w id → Matches f bs p id cs → FitsPlace t o w p
fits_place t f m bs o w id pattern.Any cs h x = tt
fits_place t f m bs o w id (pattern.Var i) cs h x = tt
fits_place t f m bs o w id (pattern.Node' name q ty int a shape ps) cs h (n, (v, e, d, y, i, b, hs)) =
    subst (λ (c : Op). IsTrue (takes_any o.family w) ⊎ IsOfWidth (class_of c) t w) d (h.class v e)

in_order_fits : (t : Target) (f : FuncRecord) (m : ℕ → ℕ) (o : Op) (cs : List Bool) (ids : List ℕ) → FitEach t f m o (places o.family o.a o.b t) ids →
    FitEach t f m o (places o.family o.a o.b t) (ordered o cs ids)
in_order_fits t f m o cs ids h = go (is_commutative o) refl (first_is cs)
  where
    go : (c : Bool) → is_commutative o ≡ c → (d : Bool) → FitEach t f m o (places o.family o.a o.b t) (if c then (if d then swapped ids else ids) else ids)
    go true e true = swapped_fits t f m o e ids h
    go true e false = h
    go false e d = h

in_order_gives : (t : Target) (m : ℕ → ℕ) (o : Op) (k : ℤ) (cs : List Bool) (ids : List ℕ) (n : ℕ) → Gives (value_row o.family o.a o.b k t (map m ids)) n →
    Gives (value_row o.family o.a o.b k t (map m (ordered o cs ids))) n
in_order_gives t m o k cs ids n h = go (is_commutative o) refl (first_is cs)
  where
    go : (c : Bool) → is_commutative o ≡ c → (d : Bool) → Gives (value_row o.family o.a o.b k t (map m (if c then (if d then swapped ids else ids) else ids))) n
    go true e true = swapped_gives t m o k e ids n h
    go true e false = h
    go false e d = h

mutual
  stands : (p : Pattern) (t : Target) (f : FuncRecord) (m : ℕ → ℕ) (live : ℕ → Type 0) (rank : ℕ → ℕ) (top : ℕ) (bs : List Bound) → Ranked f live rank → KnowsBelow t f m live rank top → HasValues p →
      (id : ℕ) (cs : List Bool) → live id × (rank id < top) → Matches f bs p id cs → (same_universe : Type 0) → Stands t p (env_by f m bs) (m id)
  stands pattern.Any t f m live rank top bs r k q id cs l h z = tt
  stands (pattern.Var i) t f m live rank top bs r k q id cs l h z = ap (λ o. m (value_in o)) h
  stands (pattern.Node' name o ty int x shape ps) t f m live rank top bs r k (q, qs) id cs l (n, (v, e, d, y, i, a, hs)) z =
      let has : Has t f m id v o = subst (Has t f m id v) d (k id v e (subst (λ (c : Op). Computes c) (sym d) q) l.0 l.1) in (
        named f m bs name id n,
        typed t f m bs ty o v id y has,
        stand_each ps t f m live rank top bs r k qs o (places o.family o.a o.b t) (ordered o cs v.args) (drop (order_of o) cs)
            (λ x j. (let u = inputs_under f live rank r id v o cs l.0 e d q x j in (u.0, omega (arith, u.1, l.1))))
            (in_order_fits t f m o cs v.args has.fits) hs
            (λ vs. WithInt (env_by f m bs) o int (λ n. Gives (value_row o.family o.a o.b n t vs) (m id)))
            (with_int f m bs o int v.int (λ n. Gives (value_row o.family o.a o.b n t (map m (ordered o cs v.args))) (m id)) i has.kept
            (in_order_gives t m o v.int cs v.args (m id) has.gives)),
      )

  stand_each : {a : _} (ps : Row_of-Pattern a) (t : Target) (f : FuncRecord) (m : ℕ → ℕ) (live : ℕ → Type 0) (rank : ℕ → ℕ) (top : ℕ) (bs : List Bound) → Ranked f live rank → KnowsBelow t f m live rank top → HaveValues ps →
      (o : Op) (ws ids : List ℕ) (cs : List Bool) → ((x : ℕ) → In x ids → live x × (rank x < top)) →
      FitEach t f m o ws ids → MatchesEach f bs ps ids cs → (go : List ℕ → Type 0) → go (map m ids) → StandEach t o ps ws (env_by f m bs) go
  stand_each end_of-Pattern t f m live rank top bs r k q o [] [] cs l h x go g = g
  stand_each end_of-Pattern t f m live rank top bs r k q o [] (i ∷ is) cs l h x go g = elim h [ ]
  stand_each end_of-Pattern t f m live rank top bs r k q o (w ∷ ws) [] cs l h x go g = elim h [ ]
  stand_each end_of-Pattern t f m live rank top bs r k q o (w ∷ ws) (i ∷ is) cs l h x go g = elim x [ ]
  stand_each (more_of-Pattern p ps) t f m live rank top bs r k q o ws [] cs l h x go g = elim x [ ]
  stand_each (more_of-Pattern p ps) t f m live rank top bs r k q o [] (i ∷ is) cs l h x go g = elim h [ ]
  stand_each (more_of-Pattern p ps) t f m live rank top bs r k (q, qs) o (w ∷ ws) (i ∷ is) cs l (h, hs) (x, xs) go g = (
    m i,
    h.below,
    fits_place t f m bs o w i p cs h x,
    stands p t f m live rank top bs r k q i cs (l i (inl refl)) x (Unit {0}),
    stand_each ps t f m live rank top bs r k qs o ws is (drop (orders p) cs) (λ y j. l y (inr j)) hs xs (λ vs. go (m i ∷ vs)) g,
  )

-- the left tree has the number of the value where it stands, where m has the numbers of the values up to there
pub stands_at : (p : Pattern) (t : Target) (f : FuncRecord) (m : ℕ → ℕ) (live : ℕ → Type 0) (rank : ℕ → ℕ) (bs : List Bound) → Ranked f live rank → HasValues p →
    (id : ℕ) (cs : List Bool) → live id → KnowsBelow t f m live rank (suc (rank id)) → Matches f bs p id cs → Stands t p (env_by f m bs) (m id)
stands_at p t f m live rank bs r q id cs l k h = stands p t f m live rank (suc (rank id)) bs r k q id cs (l, omega arith) h (Unit {0})
