-- The edge by which a path first comes to a phi: what the phi takes there does not stand for it.
use Rattle.std.proofs.Common.{◌≡◌, ℕ, zero, suc, ◌<◌, ◌≤◌, refl, subst, arith, ◌⊎◌, inl, inr, List, [], ◌∷◌, length, Some, Bool, true, false}
use Rattle.std.specs.Prelude.{slice_get, if◌then◌else◌}
use Rattle.std.proofs.lemmas.Bool.{cases_eq}
use Rattle.bk_func.proofs.Faults.{In}
use Rattle.bk_graph_laws.proofs.Edges.{Edge}
use Rattle.bk_graph.specs.Clean.{is_phi}
use Rattle.bk_graph.specs.Kinds.{is_passed}
use Rattle.bk_graph.specs.Known.{TakesOver, Stands, itself, passed, phi}
use Rattle.bk_graph.specs.Nodes.{NodeRecord}
use Rattle.bk_graph.specs.Tables.{Tables, edges_to, args_of}
use Rattle.bk_graph_laws.proofs.Paths.{Path, start, step, path_every, Orderly, some_same, back_to, Meets, met_block, there_is, one_of, passed_no_phi, argument_met, argument_of, no_argument, source_met, over}

in_or_not : (b : ℕ) (w : List ℕ) → In b w ⊎ (In b w → ⊥)
in_or_not b [] = inr (λ j. elim j [ ])
in_or_not b (c ∷ w) = go (cases_eq c b) (in_or_not b w)
  where
    go : (c ≡ b) ⊎ (c ≡ b → ⊥) → In b w ⊎ (In b w → ⊥) → In b (c ∷ w) ⊎ (In b (c ∷ w) → ⊥)
    go (inl e) q = inl (inl e)
    go (inr n) (inl j) = inl (inr j)
    go (inr n) (inr m) = inr (λ j. elim j as (λ _. ⊥) [ inl e ↦ n e | inr k ↦ m k ])

-- the first time that a path comes to a block
pub record Enters (t : Tables) (stays : Edge → Bool) (b : ℕ) : Type 0 where
  pub edge : Edge
  pub place : ℕ
  pub before : List ℕ
  pub path : Path t stays (edge.from ∷ before)
  pub at : slice_get (edges_to t b) place ≡ Some edge
  pub on : stays edge ≡ true
  pub new : In b (edge.from ∷ before) → ⊥

pub enters : (j : ℕ) (t : Tables) (stays : Edge → Bool) (b : ℕ) (w : List ℕ) → length w < j → Path t stays (b ∷ w) → (b ≡ 0) ⊎ Enters t stays b
enters zero t stays b w l path = absurd (omega (arith, l))
enters (suc j) t stays _ _ l (start c e) = inl refl
enters (suc j) t stays _ _ l (step b k e w path at on) = go (λ v x y. enters j t stays b v x y) (in_or_not b (e.from ∷ w))
  where
    go : ((v : List ℕ) → length v < j → Path t stays (b ∷ v) → (b ≡ 0) ⊎ Enters t stays b) → In b (e.from ∷ w) ⊎ (In b (e.from ∷ w) → ⊥) → (b ≡ 0) ⊎ Enters t stays b
    go again (inl i) = (let v = back_to t stays b (e.from ∷ w) path i in again v.before (omega (arith, l, v.shorter)) v.path)
    go again (inr n) = inr (record { edge = e; place = k; before = w; path = path; at = at; on = on; new = n })

-- an argument of a phi that a path meets before the phi
pub record Source (t : Tables) (stays : Edge → Bool) (p b : ℕ) : Type 0 where
  pub enters : Enters t stays b
  pub arg : ℕ
  pub takes : TakesOver t stays p b enters.place arg
  pub met : Meets t (enters.edge.from ∷ enters.before) arg
  pub new : Meets t (enters.edge.from ∷ enters.before) p → ⊥

module _ (t : Tables) (h : Orderly t) (stays : Edge → Bool) where
  pub source : (p k q : ℕ) (n : NodeRecord) (w : List ℕ) → slice_get t.nodes p ≡ Some n → is_phi n.value.op.family ≡ true → slice_get (args_of t p) k ≡ Some q → Path t stays (n.block ∷ w) →
      Source t stays p n.block
  source p k q n w i f e path = go (enters (suc (length w)) t stays n.block w (omega arith) path)
    where
      go : (n.block ≡ 0) ⊎ Enters t stays n.block → Source t stays p n.block
      go (inl z) = absurd (no_argument t h stays p k q n i z f e)
      go (inr s) =
          let a = argument_of t h stays p n.block s.place n s.edge i refl f s.at in
          record {
            enters = s;
            arg = a.0;
            takes = record { arg = a.1; edge = there_is t stays n.block s.place s.edge s.at s.on };
            met = source_met t h stays p s.place a.0 n.block n s.edge s.before i refl f a.1 s.at s.path;
            new = λ m. s.new (met_block t p n (s.edge.from ∷ s.before) i m);
          }

  -- it does not stand for the phi
  pub at_source : (p m : ℕ) (n : NodeRecord) (own : ℕ → Bool) (s : Source t stays p n.block) → Stands t stays s.arg (if own s.enters.place then p else m) →
      (own s.enters.place ≡ false) × Stands t stays s.arg m
  at_source p m n own s d = go (one_of (own s.enters.place) p m (λ x. Stands t stays s.arg x) d)
    where
      go : (own s.enters.place ≡ true × Stands t stays s.arg p) ⊎ (own s.enters.place ≡ false × Stands t stays s.arg m) → (own s.enters.place ≡ false) × Stands t stays s.arg m
      go (inr q) = q
      go (inl (z, q)) = absurd (s.new (over t h stays s.arg p q (s.enters.edge.from ∷ s.enters.before) s.enters.path s.met))

  -- a value of a block that a path leads to
  pub record Led (p : ℕ) : Type 0 where
    pub node : NodeRecord
    pub before : List ℕ
    pub is : slice_get t.nodes p ≡ Some node
    pub path : Path t stays (node.block ∷ before)

  pub led_there : (w : List ℕ) (p : ℕ) → Path t stays w → Meets t w p → Led p
  led_there w p path (n, i, j) = (let r = back_to t stays n.block w path j in record { node = n; before = r.before; is = i; path = r.path })

  pub meets_itself : (p : ℕ) (l : Led p) → Meets t (l.node.block ∷ l.before) p
  meets_itself p l = (l.node, l.is, inl refl)

  pub led_on : (p m : ℕ) → Led p → Stands t stays p m → Led m
  led_on p m l s = led_there (l.node.block ∷ l.before) m l.path (over t h stays p m s (l.node.block ∷ l.before) l.path (meets_itself p l))

  pub led_at : (p : ℕ) (n : NodeRecord) → slice_get t.nodes p ≡ Some n → Led p → (w : List ℕ) × Path t stays (n.block ∷ w)
  led_at p n i l = (l.before, (let P : NodeRecord → Type 0 = λ x. Path t stays (x.block ∷ l.before) in subst P (some_same (slice_get t.nodes p) l.node n l.is i) l.path))

  pub led_argument : (p q : ℕ) (n : NodeRecord) → slice_get t.nodes p ≡ Some n → is_passed n.value.op.family ≡ true → slice_get (args_of t p) 0 ≡ Some q → Led p → Led q
  led_argument p q n i c e l =
      led_there (l.node.block ∷ l.before) q l.path (argument_met t h stays p 0 q n (l.node.block ∷ l.before) i (passed_no_phi n c) e l.path (meets_itself p l))

  -- ---- values that stand for each other are one
  pub standing_on : (p m o : ℕ) → Stands t stays p m → Stands t stays m o → Stands t stays p o
  standing_on _ _ o (itself p) s = s
  standing_on _ _ o (passed p q m n i c e l d) s = passed p q o n i c e l (standing_on q m o d s)
  standing_on _ _ o (phi p k q m n own i c e l d all) s =
      phi p k q o n own i c e l (standing_on q m o d s) (λ j x a. go (own j) x (all j x a) (standing_on x (if own j then p else m) o (all j x a)))
    where
      go : (z : Bool) (x : ℕ) → Stands t stays x (if z then p else m) → (Stands t stays (if z then p else m) o → Stands t stays x o) → Stands t stays x (if z then p else o)
      go true x d next = d
      go false x d next = next s

  phi_apart : (p k q m : ℕ) (n : NodeRecord) (own : ℕ → Bool) (w : List ℕ) → slice_get t.nodes p ≡ Some n → is_phi n.value.op.family ≡ true → slice_get (args_of t p) k ≡ Some q →
      ((j x : ℕ) → TakesOver t stays p n.block j x → Stands t stays x (if own j then p else m)) → Path t stays (n.block ∷ w) → Stands t stays m p → ⊥
  phi_apart p k q m n own w i f e all path back =
      let s = source p k q n w i f e path in
      let d = at_source p m n own s (all s.enters.place s.arg s.takes) in
      s.new (over t h stays m p back (s.enters.edge.from ∷ s.enters.before) s.enters.path
      (over t h stays s.arg m d.1 (s.enters.edge.from ∷ s.enters.before) s.enters.path s.met))

  low : (p m : ℕ) → Stands t stays p m → Led p → Stands t stays m p → h.rank m ≤ h.rank p
  low _ _ (itself p) q s = omega arith
  low _ _ (passed p q m n i c e l d) y s =
      let z = led_at p n i y in
      let less = h.falls p q n.block n z.0 i refl (path_every t stays (n.block ∷ z.0) z.1) c e in
      let r = low q m d (led_argument p q n i c e y) (standing_on m p q s (passed p q q n i c e l (itself q))) in
      omega (arith, less, r)
  low _ _ (phi p k q m n own i c e l d all) y s = (let z = led_at p n i y in absurd (phi_apart p k q m n own z.0 i c e all z.1 s))

  pub one_way : (p m : ℕ) → Stands t stays p m → Led p → Stands t stays m p → m ≡ p
  one_way _ _ (itself p) y s = refl
  one_way _ _ (passed p q m n i c e l d) y s =
      let z = led_at p n i y in
      let less = h.falls p q n.block n z.0 i refl (path_every t stays (n.block ∷ z.0) z.1) c e in
      let r = low q p (standing_on q m p d s) (led_argument p q n i c e y) (passed p q q n i c e l (itself q)) in
      absurd (omega (arith, less, r))
  one_way _ _ (phi p k q m n own i c e l d all) y s = (let z = led_at p n i y in absurd (phi_apart p k q m n own z.0 i c e all z.1 s))
