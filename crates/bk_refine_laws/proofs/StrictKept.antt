-- A sound rule, applied at one value of a function in strict form: numbers that the values of the new function may have are numbers
-- that those of the old one may have.
use Rattle.std.proofs.Common.{◌≡◌, ℕ, suc, ◌<◌, ◌^◌, ◌%◌, ◌==◌, refl, ap, subst, sym, ◌∙◌, arith, List, [], ◌∷◌, map, Option, Some, None, Bool, true, false, inl, inr, eq-eqb}
use Rattle.std.specs.Prelude.{slice_get, slice_index, if◌then◌else◌, unwrap_or}
use Rattle.std.proofs.lemmas.Bool.{cases_eq, eqb-true}
use Rattle.std.proofs.lemmas.Nat.{mod_below, pow_pos}
use Rattle.std.proofs.Math.Nat.{mod-eq_of_lt}
use Rattle.bk_ops.specs.declared.types.Target.{Target}
use Rattle.bk_ops.specs.Types.{width_of}
use Rattle.bk_ops.specs.Values.{places, value_row, op_value}
use Rattle.bk_func.specs.Records.{ValueRecord, FuncRecord}
use Rattle.bk_func.specs.Numbers.{Program, Env, Origin, computed, value_of, number_by, origin_of}
use Rattle.bk_func.proofs.Faults.{In}
use Rattle.bk_func.proofs.Unique.{Ranked, inputs_by, inputs_of}
use Rattle.bk_rule.specs.declared.trees.Bound.{Bound}
use Rattle.bk_rule.specs.declared.trees.Rule.{Rule}
use Rattle.bk_rule.specs.Bindings.{value_in}
use Rattle.bk_rule.specs.Sound.{SoundRule, Gives, IsKept, IsOfWidth, class_of, built}
use Rattle.bk_ops.specs.declared.table.Op.{Op}
use Rattle.bk_refine_laws.specs.Visits.{RootIs, StrictAfter}
use Rattle.bk_rule.specs.WordSound.{bits}
use Rattle.bk_rewrite.specs.Making.{source, root_made, next_number}
use Rattle.bk_rewrite.proofs.Standings.{named}
use Rattle.bk_refine_laws.specs.Possible.{HasLow, MayBe, Possible}
use Rattle.bk_refine_laws.specs.Trees.{Computes, IsSimple, IsBuilt, NamesBelow, env_by}
use Rattle.bk_refine_laws.specs.Known.{FitEach, Has, KnowsBelow}
use Rattle.bk_refine_laws.specs.Applied.{Application, SameNames}
use Rattle.bk_refine_laws.specs.Strict.{low, IsStrict, AreStrict}
use Rattle.bk_refine_laws.proofs.NumbersKept.{right_value}
use Rattle.bk_refine_laws.proofs.Made.{Agrees, root_value, each_built}
use Rattle.bk_refine_laws.proofs.Placed.{root_named, made_named, other_named}
use Rattle.bk_refine_laws.proofs.Below.{IsUnder, below_root}
use Rattle.bk_refine_laws.proofs.Names.{may_alike}
use Rattle.bk_refine_laws.proofs.PossibleKept.{may_computed}

-- a number that the value may have has the low bits that the op gives at low bits
low_is : (t : Target) (f : FuncRecord) (width m : ℕ → ℕ) (id : ℕ) (v : ValueRecord) (s : IsStrict t f width id v) → HasLow (op_value v.op v.int (map m v.args) t) (bits t v) (m id) →
    low width m id ≡ (s.gives m).cut
low_is t f width m id v s h =
    let g = s.gives m in
    let a : HasLow (Some g.whole) (width id) (m id) = subst (λ w. HasLow (Some g.whole) w (m id)) s.bits (subst (λ o. HasLow o (bits t v) (m id)) g.op h) in
    a ∙ (g.agree ∙ mod-eq_of_lt g.below)

-- so what rules ask of it holds of low bits
low_has : (t : Target) (f : FuncRecord) (width m : ℕ → ℕ) (id : ℕ) (v : ValueRecord) → IsStrict t f width id v → HasLow (op_value v.op v.int (map m v.args) t) (bits t v) (m id) → Has t f (low width m) id v v.op
low_has t f width m id v s h = record {
  kept = s.kept;
  width = s.class;
  below = subst (λ w. m id % 2 ^ width id < 2 ^ w) s.own (mod_below (m id) (2 ^ width id) (pow_pos (width id)));
  fits = s.fits m;
  gives = subst (λ o. Gives o (low width m id)) (sym (s.gives m).row) (sym (low_is t f width m id v s h));
}

-- ---- numbers that are the low bits but at one value
abbrev but : ℕ → ℕ → (ℕ → ℕ) → ℕ → ℕ
but root x m y = if y == root then x else m y

but_here : (root x : ℕ) (m : ℕ → ℕ) → but root x m root ≡ x
but_here root x m = ap (λ b. if b then x else m root) (eq-eqb root root refl)

but_other : (root x : ℕ) (m : ℕ → ℕ) (y : ℕ) → (y ≡ root → ⊥) → but root x m y ≡ m y
but_other root x m y n = go (y == root) refl
  where
    go : (b : Bool) → (y == root) ≡ b → (if b then x else m y) ≡ m y
    go true e = absurd (n (eqb-true y root e))
    go false e = refl

map_but : (m n : ℕ → ℕ) (xs : List ℕ) → ((y : ℕ) → In y xs → n y ≡ m y) → map n xs ≡ map m xs
map_but m n [] h = refl
map_but m n (x ∷ xs) h = ap (λ a. a ∷ map n xs) (h x (inl refl)) ∙ ap (λ zs. m x ∷ zs) (map_but m n xs (λ y i. h y (inr i)))

fits_but : (t : Target) (f : FuncRecord) (m n : ℕ → ℕ) (o : Op) (ws xs : List ℕ) → ((y : ℕ) → In y xs → n y ≡ m y) → FitEach t f m o ws xs → FitEach t f n o ws xs
fits_but t f m n o [] [] h k = tt
fits_but t f m n o [] (x ∷ xs) h k = elim k [ ]
fits_but t f m n o (w ∷ ws) [] h k = elim k [ ]
fits_but t f m n o (w ∷ ws) (x ∷ xs) h (k, ks) =
    (record { below = subst (λ a. a < 2 ^ w) (sym (h x (inl refl))) k.below; class = k.class }, fits_but t f m n o ws xs (λ y i. h y (inr i)) ks)

has_but : (t : Target) (f : FuncRecord) (m n : ℕ → ℕ) (id : ℕ) (v : ValueRecord) → ((y : ℕ) → In y v.args → n y ≡ m y) → (x : ℕ) → n id ≡ x → IsOfWidth (class_of v.op) t (width_of v.ty t) → FitEach t f m v.op (places v.op.family v.op.a v.op.b t) v.args →
    x < 2 ^ width_of v.ty t → value_row v.op.family v.op.a v.op.b v.int t (map m v.args) ≡ Some x → IsKept v.op v.int → Has t f n id v v.op
has_but t f m n id v h x e w k l g i = record {
  kept = i;
  width = w;
  below = subst (λ a. a < 2 ^ width_of v.ty t) (sym e) l;
  fits = fits_but t f m n v.op (places v.op.family v.op.a v.op.b t) v.args h k;
  gives = subst (λ o. Gives o (n id)) (sym (ap (value_row v.op.family v.op.a v.op.b v.int t) (map_but m n v.args h) ∙ g)) (sym e);
}

may_low : (c : Origin) → c ≡ computed → (p : Program) (g : FuncRecord) (e : Env) (m : ℕ → ℕ) (w : ValueRecord) (n : ℕ) → MayBe c p g e m w n → HasLow (op_value w.op w.int (map m w.args) p.target) (bits p.target w) n
may_low c q p g e m w n h = subst (λ (o : Origin). MayBe o p g e m w n) q h

-- a pure value that the rule made has, in its low bits, exactly its op's number at low bits
low_exact : (p : Program) (g : FuncRecord) (e : Env) (width m : ℕ → ℕ) (id : ℕ) (w : ValueRecord) → origin_of w.op.family ≡ computed → IsStrict p.target g width id w → MayBe (origin_of w.op.family) p g e m w (m id) →
    low width m id ≡ number_by (origin_of w.op.family) p g e (low width m) w
low_exact p g e width m id w c s h =
    low_is p.target g width m id w s (may_low (origin_of w.op.family) c p g e m w (m id) h)
    ∙ (sym (ap (λ o. unwrap_or o 0) (s.gives m).again) ∙ sym (ap (λ (o : Origin). number_by o p g e (low width m) w) c))

root_exact : (p : Program) (g : FuncRecord) (e : Env) (width m : ℕ → ℕ) (id : ℕ) (w : ValueRecord) → RootIs p.target g width id w → MayBe (origin_of w.op.family) p g e m w (m id) →
    low width m id ≡ number_by (origin_of w.op.family) p g e (low width m) w
root_exact p g e width m id w (inr (c, s)) h = low_exact p g e width m id w c s h
root_exact p g e width m id w (inl (c, s)) h =
    let d : m id ≡ m (slice_index w.args 0) = (let P : Origin → Type 0 = λ o. MayBe o p g e m w (m id) in subst P c h) in
    ap (λ a. a % 2 ^ width id) d ∙ ap (λ b. m (slice_index w.args 0) % 2 ^ b) (sym s) ∙ sym (ap (λ (o : Origin). number_by o p g e (low width m) w) c)

pub strict_kept : (p : Program) (r : Rule) (f g : FuncRecord) (b k : ℕ) (v : ValueRecord) (bs : List Bound) (cs : List Bool) → Application p r f g b k v bs cs →
    IsSimple r → SoundRule p.target r → Computes v.op → SameNames f g →
    (live : ℕ → Type 0) (rank : ℕ → ℕ) → Ranked f live rank → live v.id → (width : ℕ → ℕ) → AreStrict p.target f width → StrictAfter p r f g v bs width →
    (e : Env) (m : ℕ → ℕ) → Possible p g e m → Possible p f e m
strict_kept p r f g b k v bs cs a simple sound pure names live rank ranked lv width strict after e m possible = all
  where
    here : value_of f v.id ≡ Some v
    here = named f v.id b k v a.numbers a.stands refl

    other : (id : ℕ) (u : ValueRecord) → value_of f id ≡ Some u → (id ≡ v.id → ⊥) → MayBe (origin_of u.op.family) p f e m u (m id)
    other id u d n =
        may_alike (origin_of u.op.family) p f g e m u (m id) (names id u d).state (names id u d).callee
        (possible id u (ap (λ z. value_of z id) a.gives ∙ other_named f bs p.target r.right b k v a.numbers a.stands id u d n))

    own : IsStrict p.target f width v.id v
    own = strict v.id v here pure

    x : ℕ
    x = (own.gives m).cut

    n : ℕ → ℕ
    n = but v.id x (low width m)

    -- what is taken ranks below, so it is not the root
    under : (id : ℕ) (u : ValueRecord) → live id → value_of f id ≡ Some u → origin_of u.op.family ≡ computed → rank id < suc (rank v.id) → (y : ℕ) → In y u.args → n y ≡ low width m y
    under id u l d c h y i =
        let P : Origin → Type 0 = λ o. In y (inputs_by o u) in
        let Q : Option ValueRecord → Type 0 = λ o. In y (inputs_of o) in
        let q = ranked.falls id l y (subst Q (sym d) (subst P (sym c) i)) in
        but_other v.id x (low width m) y (λ z. omega (arith, q.1, h, ap rank z))

    knows_other : (id : ℕ) (u : ValueRecord) → value_of f id ≡ Some u → Computes u.op → live id → rank id < suc (rank v.id) → (id ≡ v.id → ⊥) → Has p.target f n id u u.op
    knows_other id u d c l h z =
        let s : IsStrict p.target f width id u = strict id u d c in
        let q = low_has p.target f width m id u s (may_low (origin_of u.op.family) c.origin p f e m u (m id) (other id u d z)) in
        has_but p.target f (low width m) n id u (under id u l d c.origin h) (low width m id) (but_other v.id x (low width m) id z) q.width q.fits q.below
        (gives_some (value_row u.op.family u.op.a u.op.b u.int p.target (map (low width m) u.args)) (low width m id) q.gives) q.kept
      where
        gives_some : (o : Option ℕ) (v : ℕ) → Gives o v → o ≡ Some v
        gives_some None v h = elim h [ ]
        gives_some (Some u) v h = ap Some h

    knows_root : Has p.target f n v.id v v.op
    knows_root =
        has_but p.target f (low width m) n v.id v (under v.id v lv here pure.origin (omega arith)) x (but_here v.id x (low width m)) own.class (own.fits m)
        (subst (λ w. x < 2 ^ w) own.own (own.gives m).below) (own.gives m).row own.kept

    knows : KnowsBelow p.target f n live rank (suc (rank v.id))
    knows id u d c l h = elim (cases_eq id v.id) [
      | inl z ↦
          (let q : v ≡ u = (let y : Some v ≡ Some u = sym here ∙ (ap (value_of f) (sym z) ∙ d) in cc) in
          let P : ValueRecord → Type 0 = λ u. Has p.target f n id u u.op in
          let R : ℕ → Type 0 = λ i. Has p.target f n i v v.op in
          subst P q (subst R (sym z) knows_root))
      | inr z ↦ knows_other id u d c l h z
    ]

    right : built p.target (env_by f n bs) r.right ≡ Some x
    right = right_value p r f g b k v bs cs a simple sound live rank ranked lv n knows ∙ ap Some (but_here v.id x (low width m))

    agrees : IsBuilt (Agrees n (low width m) bs) r.right
    agrees = each_built r.right (λ i. NamesBelow i r.left) (Agrees n (low width m) bs)
        (λ i z. (let u : IsUnder live rank (rank v.id) (value_in (slice_get bs i)) = below_root r.left f live rank ranked bs simple.left v.id cs lv a.matches.stands i z in
        sym (but_other v.id x (low width m) (value_in (slice_get bs i)) (λ q. omega (arith, u.1, ap rank q))))) simple.right

    root_low : low width m v.id ≡ x
    root_low =
        root_value r.right p f g e n (low width m) bs v.id v.ty (next_number f) agrees
        (λ w i. low_exact p g e width m w.id w (after.made w i).0 (after.made w i).1
        (possible w.id w (ap (λ z. value_of z w.id) a.gives ∙ made_named f bs p.target r.right b k v a.numbers a.stands w i)))
        (root_exact p g e width m v.id (root_made (source f bs p.target) v.id v.ty r.right (next_number f)) after.root
        (possible v.id (root_made (source f bs p.target) v.id v.ty r.right (next_number f)) (ap (λ z. value_of z v.id) a.gives ∙ root_named f bs p.target r.right b k v a.numbers a.stands)))
        x right

    value : HasLow (op_value v.op v.int (map m v.args) p.target) (bits p.target v) (m v.id)
    value =
        subst (λ o. HasLow o (bits p.target v) (m v.id)) (sym (own.gives m).op)
        (subst (λ w. HasLow (Some (own.gives m).whole) w (m v.id)) (sym own.bits)
        (root_low ∙ sym ((own.gives m).agree ∙ mod-eq_of_lt (own.gives m).below)))

    all : Possible p f e m
    all id u d = elim (cases_eq id v.id) [
      | inr z ↦ other id u d z
      | inl z ↦
          (let q : v ≡ u = (let y : Some v ≡ Some u = sym here ∙ (ap (value_of f) (sym z) ∙ d) in cc) in
          let P : ValueRecord → Type 0 = λ u. MayBe (origin_of u.op.family) p f e m u (m id) in
          let R : ℕ → Type 0 = λ i. HasLow (op_value v.op v.int (map m v.args) p.target) (bits p.target v) (m i) in
          subst P q (may_computed (origin_of v.op.family) pure.origin p f e m v (m id) (subst R (sym z) value)))
    ]
