-- What a value needs in its block.
use Rattle.std.proofs.Common.{◌≡◌, ℕ, zero, suc, ◌<◌, refl, ap, sym, ◌∙◌, subst, arith, ◌⊎◌, inl, inr, List, [], ◌∷◌, Option, Some, None, Bool, true, false, cond, ◌&&◌, ◌||◌, not, ◌==◌, eq-eqb}
use Rattle.std.proofs.lemmas.Bool.{eqb-true}
use Rattle.std.specs.List.{list_any}
use Rattle.bk_func.specs.Records.{ValueRecord, BlockRecord, FuncRecord}
use Rattle.bk_func.specs.Numbers.{origin_of, value_in, room, state_of}
use Rattle.bk_func.specs.Effects.{needs, is_phi, loads_at, is_load, is_at}
use Rattle.bk_func.proofs.Faults.{In, in-filter, IsClosed}

pub any_in : (t : ℕ → Bool) (xs : List ℕ) → list_any t xs ≡ true → (x : ℕ) × In x xs × (t x ≡ true)
any_in t [] e = absurd cc
any_in t (x ∷ xs) e = go (t x) refl (λ q. any_in t xs q) e
  where
    go : (b : Bool) → t x ≡ b → (list_any t xs ≡ true → (x : ℕ) × In x xs × (t x ≡ true)) → (b || list_any t xs) ≡ true → (y : ℕ) × In y (x ∷ xs) × (t y ≡ true)
    go true h k q = (x, inl refl, h)
    go false h k q = let r = k q in (r.0, inr r.1, r.2)

pub in_any : (t : ℕ → Bool) (xs : List ℕ) (x : ℕ) → In x xs → t x ≡ true → list_any t xs ≡ true
in_any t [] x i e = elim i [ ]
in_any t (y ∷ xs) x (inl q) e = rw (ap t q ∙ e) refl
in_any t (y ∷ xs) x (inr i) e = go (t y) (in_any t xs x i e)
  where
    go : (b : Bool) → list_any t xs ≡ true → (b || list_any t xs) ≡ true
    go true h = refl
    go false h = h

either : (a b : Bool) → (a || b) ≡ true → (a ≡ true) ⊎ (b ≡ true)
either true b e = inl refl
either false b e = inr e

or_right : (a b : Bool) → b ≡ true → (a || b) ≡ true
or_right true b e = refl
or_right false b e = e

or_left : (a b : Bool) → a ≡ true → (a || b) ≡ true
or_left true b e = refl
or_left false b e = absurd cc

both : (a b : Bool) → (a && b) ≡ true → (a ≡ true) × (b ≡ true)
both true b e = (refl, e)
both false b e = absurd cc

-- what is found in a list of values
pub found_in : (vs : List ValueRecord) (id : ℕ) (u : ValueRecord) → value_in vs id ≡ Some u → In u vs × (u.id ≡ id)
found_in [] id u e = absurd cc
found_in (v ∷ vs) id u e = go (v.id == id) refl (λ q. found_in vs id u q) e
  where
    go : (b : Bool) → (v.id == id) ≡ b → (value_in vs id ≡ Some u → In u vs × (u.id ≡ id)) → cond b (Some v) (value_in vs id) ≡ Some u → In u (v ∷ vs) × (u.id ≡ id)
    go true h k q = let w : v ≡ u = cc in (inl w, ap (λ (x : ValueRecord). x.id) (sym w) ∙ eqb-true v.id id h)
    go false h k q = let r = k q in (inr r.0, r.1)

-- the values of the block have numbers of their own, and ranks: an argument in the block ranks below a value that is no phi
pub record BlockRanked (f : FuncRecord) (b : BlockRecord) (r : ℕ → ℕ) : Type 0 where
  pub ids : (v : ValueRecord) → In v b.values → value_in b.values v.id ≡ Some v
  pub falls : (v u : ValueRecord) → In v b.values → In u b.values → is_phi (origin_of v.op.family) ≡ false → In u.id v.args → r u.id < r v.id
  pub few : (v : ValueRecord) → In v b.values → r v.id < room f

-- a value needs a number, by an argument that is the number, or by one in the block that needs it
pub needs_by : (k : ℕ) (b : BlockRecord) (v : ValueRecord) (n : ℕ) → needs (suc k) b (Some v) n ≡ true →
    (is_phi (origin_of v.op.family) ≡ false) × ((a : ℕ) × In a v.args × ((a ≡ n) ⊎ ((u : ValueRecord) × (value_in b.values a ≡ Some u) × (needs k b (Some u) n ≡ true))))
unfolding needs
needs_by k b v n e =
    let q = both (not (is_phi (origin_of v.op.family))) (list_any (λ a. a == n || needs k b (value_in b.values a) n) v.args) e in
    let s = any_in (λ a. a == n || needs k b (value_in b.values a) n) v.args q.1 in
    (no_phi (is_phi (origin_of v.op.family)) q.0, (s.0, s.1, way s.0 (either (s.0 == n) (needs k b (value_in b.values s.0) n) s.2)))
  where
    no_phi : (t : Bool) → not t ≡ true → t ≡ false
    no_phi true h = sym h
    no_phi false h = refl

    nothing : (k : ℕ) → needs k b None n ≡ true → ⊥
    nothing zero h = cc
    nothing (suc k) h = cc

    inner : (a : ℕ) (o : Option ValueRecord) → value_in b.values a ≡ o → needs k b o n ≡ true → (a ≡ n) ⊎ ((u : ValueRecord) × (value_in b.values a ≡ Some u) × (needs k b (Some u) n ≡ true))
    inner a None h w = absurd (nothing k w)
    inner a (Some u) h w = inr (u, h, w)

    way : (a : ℕ) → ((a == n) ≡ true) ⊎ (needs k b (value_in b.values a) n ≡ true) → (a ≡ n) ⊎ ((u : ValueRecord) × (value_in b.values a ≡ Some u) × (needs k b (Some u) n ≡ true))
    way a (inl h) = inl (eqb-true a n h)
    way a (inr h) = inner a (value_in b.values a) refl h

pub by_argument : (k : ℕ) (b : BlockRecord) (v : ValueRecord) (n a : ℕ) → is_phi (origin_of v.op.family) ≡ false → In a v.args → a ≡ n → needs (suc k) b (Some v) n ≡ true
unfolding needs
by_argument k b v n a h i e =
    rw h (in_any (λ a. a == n || needs k b (value_in b.values a) n) v.args a i (or_left (a == n) (needs k b (value_in b.values a) n) (eq-eqb a n e)))

pub by_need : (k : ℕ) (b : BlockRecord) (v u : ValueRecord) (n a : ℕ) → is_phi (origin_of v.op.family) ≡ false → In a v.args → value_in b.values a ≡ Some u → needs k b (Some u) n ≡ true →
    needs (suc k) b (Some v) n ≡ true
unfolding needs
by_need k b v u n a h i e w =
    rw h (in_any (λ a. a == n || needs k b (value_in b.values a) n) v.args a i (or_right (a == n) (needs k b (value_in b.values a) n) (rw e w)))

-- any room above the value's rank is enough
pub needs_deep : (f : FuncRecord) (b : BlockRecord) (r : ℕ → ℕ) → BlockRanked f b r → (j k : ℕ) (v : ValueRecord) (n : ℕ) → In v b.values → r v.id < k →
    needs j b (Some v) n ≡ true → needs k b (Some v) n ≡ true
unfolding needs
needs_deep f b r ranked zero k v n i h e = absurd cc
needs_deep f b r ranked (suc j) zero v n i h e = absurd (omega arith)
needs_deep f b r ranked (suc j) (suc k) v n i h e =
    let q = needs_by j b v n e in
    elim q.1.2 as (λ _. needs (suc k) b (Some v) n ≡ true) [
      | inl x ↦ by_argument k b v n q.1.0 q.0 q.1.1 x
      | inr x ↦
          let y = found_in b.values q.1.0 x.0 x.1 in
          let less = ranked.falls v x.0 i y.0 q.0 (let P : ℕ → Type 0 = λ a. In a v.args in subst P (sym y.1) q.1.1) in
          by_need k b v x.0 n q.1.0 q.0 q.1.1 x.1 (needs_deep f b r ranked j k x.0 n y.0 (omega (arith, less)) x.2)
    ]

-- what is needed by what a value needs, the value needs
pub needs_more : (f : FuncRecord) (b : BlockRecord) (r : ℕ → ℕ) → BlockRanked f b r → (j l k : ℕ) (v x : ValueRecord) (n : ℕ) → In v b.values → r v.id < k → In x b.values →
    needs j b (Some v) x.id ≡ true → needs l b (Some x) n ≡ true → needs k b (Some v) n ≡ true
unfolding needs
needs_more f b r ranked zero l k v x n i h ix e w = absurd cc
needs_more f b r ranked (suc j) l zero v x n i h ix e w = absurd (omega arith)
needs_more f b r ranked (suc j) l (suc k) v x n i h ix e w =
    let q = needs_by j b v x.id e in
    elim q.1.2 as (λ _. needs (suc k) b (Some v) n ≡ true) [
      | inl t ↦
          let s = ap (value_in b.values) t ∙ ranked.ids x ix in
          let less = ranked.falls v x i ix q.0 (let P : ℕ → Type 0 = λ a. In a v.args in subst P t q.1.1) in
          by_need k b v x n q.1.0 q.0 q.1.1 s (needs_deep f b r ranked l k x n ix (omega (arith, less)) w)
      | inr t ↦
          let y = found_in b.values q.1.0 t.0 t.1 in
          let less = ranked.falls v t.0 i y.0 q.0 (let P : ℕ → Type 0 = λ a. In a v.args in subst P (sym y.1) q.1.1) in
          by_need k b v t.0 n q.1.0 q.0 q.1.1 t.1 (needs_more f b r ranked j l k t.0 x n y.0 (omega (arith, less)) ix t.2 w)
    ]

pub needs_closed : (f : FuncRecord) (b : BlockRecord) (r : ℕ → ℕ) → BlockRanked f b r → (s : ℕ) (v : ValueRecord) → In v b.values → IsClosed f b (loads_at f b s) v
needs_closed f b r ranked s v i x y ix iy e w =
    needs_more f b r ranked (room f) (room f) (room f) v x y.id i (ranked.few v i)
    (in-filter (λ v. is_load (origin_of v.op.family) && is_at (state_of f v) s) x b.values ix).0 e w
