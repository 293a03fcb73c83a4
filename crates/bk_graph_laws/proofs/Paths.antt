-- Paths: blocks by their places, over edges that stay. What a value stands for is met on each path that meets the value.
use Rattle.std.proofs.Common.{◌≡◌, ℕ, zero, suc, ◌<◌, refl, ap, sym, ◌∙◌, subst, arith, ◌⊎◌, inl, inr, List, [], ◌∷◌, length, Option, Some, None, Bool, true, false}
use Rattle.std.specs.Prelude.{slice_get, if◌then◌else◌}
use Rattle.std.proofs.lemmas.Option.{slice_get_within}
use Rattle.bk_ops.specs.declared.family.Family.{Family}
use Rattle.bk_ops.specs.declared.family.Family.TheVariants as op
use Rattle.bk_func.specs.Records.{BlockRecord, ValueRecord}
use Rattle.bk_func.proofs.Faults.{In}
use Rattle.bk_graph_laws.proofs.Edges.{Edge}
use Rattle.bk_graph.specs.Clean.{is_phi}
use Rattle.bk_graph.specs.Kinds.{is_passed}
use Rattle.bk_graph.specs.Known.{stays_there, TakesOver, Stands, itself, passed, phi, Way, begin, onward}
use Rattle.bk_graph.specs.Nodes.{NodeRecord, node_at, or_past}
use Rattle.bk_graph.specs.Rebuilt.{behind, offset_of}
use Rattle.bk_graph.specs.Tables.{Tables, edges_to, args_of, control_of}

-- blocks from the entry on over edges that stay, the last first
pub data Path (t : Tables) (stays : Edge → Bool) : List ℕ → Type 0 where
  start : (c : BlockRecord) → slice_get t.blocks 0 ≡ Some c → Path t stays (0 ∷ [])
  step : (b k : ℕ) (e : Edge) (w : List ℕ) → Path t stays (e.from ∷ w) → slice_get (edges_to t b) k ≡ Some e → stays e ≡ true → Path t stays (b ∷ e.from ∷ w)

abbrev pub every : Edge → Bool
every e = true

pub path_every : (t : Tables) (stays : Edge → Bool) (w : List ℕ) → Path t stays w → Path t every w
path_every t stays _ (start c e) = start c e
path_every t stays _ (step b k e w p i s) = step b k e w (path_every t stays (e.from ∷ w) p) i refl

pub way_path : (t : Tables) (stays : Edge → Bool) (b : ℕ) → Way t stays b → (w : List ℕ) × Path t stays (b ∷ w)
way_path t stays _ (begin c e) = ([], start c e)
way_path t stays _ (onward b k e way i s) = (let p = way_path t stays e.from way in (e.from ∷ p.0, step b k e p.0 p.1 i s))

-- the value stands in a block of the path
abbrev pub Meets : Tables → List ℕ → ℕ → Type 0
Meets t w p = (n : NodeRecord) × (slice_get t.nodes p ≡ Some n) × In n.block w

-- what the tables of a function in form have
pub record Orderly (t : Tables) : Type 0 where
  pub uses : (p k q b : ℕ) (n : NodeRecord) (w : List ℕ) → slice_get t.nodes p ≡ Some n → n.block ≡ b → is_phi n.value.op.family ≡ false → slice_get (args_of t p) k ≡ Some q
      → Path t every (b ∷ w) → Meets t (b ∷ w) q
  pub sources : (p k q b : ℕ) (n : NodeRecord) (e : Edge) (w : List ℕ) → slice_get t.nodes p ≡ Some n → n.block ≡ b → is_phi n.value.op.family ≡ true → slice_get (args_of t p) k ≡ Some q
      → slice_get (edges_to t b) k ≡ Some e → Path t every (e.from ∷ w) → Meets t (e.from ∷ w) q
  pub control : (b p : ℕ) (w : List ℕ) → control_of t b ≡ Some p → Path t every (b ∷ w) → Meets t (b ∷ w) p
  pub arity : (p b : ℕ) (n : NodeRecord) → slice_get t.nodes p ≡ Some n → n.block ≡ b → is_phi n.value.op.family ≡ true → length (args_of t p) ≡ length (edges_to t b)
  pub entry : length (edges_to t 0) ≡ 0
  pub ends : (b k : ℕ) (e : Edge) → slice_get (edges_to t b) k ≡ Some e → slice_get t.blocks b ≡ None → ⊥
  pub rank : ℕ → ℕ
  pub falls : (p q b : ℕ) (n : NodeRecord) (w : List ℕ) → slice_get t.nodes p ≡ Some n → n.block ≡ b → Path t every (b ∷ w) → is_passed n.value.op.family ≡ true
      → slice_get (args_of t p) 0 ≡ Some q → rank q < rank p
  pub nodes : (b k : ℕ) (c : BlockRecord) (v : ValueRecord) → slice_get t.blocks b ≡ Some c → slice_get c.values k ≡ Some v → slice_get t.nodes (behind (offset_of t b) k) ≡ Some (node_at b v)
  pub args : (p : ℕ) (n : NodeRecord) → slice_get t.nodes p ≡ Some n → length (args_of t p) ≡ length n.value.args

pub some_same : {A : Type 0} (o : Option A) (x y : A) → o ≡ Some x → o ≡ Some y → x ≡ y
some_same o x y e h = (let q : Some x ≡ Some y = sym e ∙ h in cc)

-- the place that a number names, where it names one
pub past_some : (o : Option ℕ) (q : ℕ) → o ≡ Some q → or_past o ≡ q
unfolding or_past
past_some None q z = absurd (let y : None ≡ Some q = z in cc)
past_some (Some y) q z = (let w : Some y ≡ Some q = z in cc)

pub got_there : {A : Type 0} (xs : List A) (k : ℕ) → k < length xs → (x : A) × (slice_get xs k ≡ Some x)
got_there [] k l = absurd (omega (arith, l))
got_there (y ∷ ys) zero l = (y, refl)
got_there (y ∷ ys) (suc k) l = got_there ys k (omega (arith, l))

-- a path up to a block that it meets
pub record Back (t : Tables) (stays : Edge → Bool) (c : ℕ) (w : List ℕ) : Type 0 where
  pub before : List ℕ
  pub path : Path t stays (c ∷ before)
  pub shorter : length before < length w
  pub within : (b : ℕ) → In b (c ∷ before) → In b w

there : (t : Tables) (stays : Edge → Bool) (b c : ℕ) (w : List ℕ) → Path t stays (b ∷ w) → b ≡ c → Back t stays c (b ∷ w)
there t stays b c w path e = (let P : ℕ → Type 0 = λ x. Back t stays x (b ∷ w) in subst P e (record { before = w; path = path; shorter = omega arith; within = λ x i. i }))

longer : (t : Tables) (stays : Edge → Bool) (b c : ℕ) (w : List ℕ) → Back t stays c w → Back t stays c (b ∷ w)
longer t stays b c w r = record { before = r.before; path = r.path; shorter = omega (arith, r.shorter); within = λ x i. inr (r.within x i) }

pub back_to : (t : Tables) (stays : Edge → Bool) (c : ℕ) (w : List ℕ) → Path t stays w → In c w → Back t stays c w
back_to t stays c _ (start d e) (inl q) = there t stays 0 c [] (start d e) q
back_to t stays c _ (start d e) (inr i) = elim i [ ]
back_to t stays c _ (step b k e w p i s) (inl q) = there t stays b c (e.from ∷ w) (step b k e w p i s) q
back_to t stays c _ (step b k e w p i s) (inr j) = longer t stays b c (e.from ∷ w) (back_to t stays c (e.from ∷ w) p j)

-- the block of the value is on each path that meets it
pub met_block : (t : Tables) (p : ℕ) (n : NodeRecord) (w : List ℕ) → slice_get t.nodes p ≡ Some n → Meets t w p → In n.block w
met_block t p n w i (m, j, k) = (let P : NodeRecord → Type 0 = λ x. In x.block w in subst P (some_same (slice_get t.nodes p) m n j i) k)

pub meets_within : (t : Tables) (stays : Edge → Bool) (c : ℕ) (w : List ℕ) (r : Back t stays c w) (p : ℕ) → Meets t (c ∷ r.before) p → Meets t w p
meets_within t stays c w r p (n, i, j) = (n, i, r.within n.block j)

pub there_is : (t : Tables) (stays : Edge → Bool) (b k : ℕ) (e : Edge) → slice_get (edges_to t b) k ≡ Some e → stays e ≡ true → stays_there stays (slice_get (edges_to t b) k) ≡ true
there_is t stays b k e i s = ap (stays_there stays) i ∙ s

-- an argument of a phi is one of two values
pub one_of : (own : Bool) (n m : ℕ) (P : ℕ → Type 0) → P (if own then n else m) → (own ≡ true × P n) ⊎ (own ≡ false × P m)
one_of true n m P p = inl (refl, p)
one_of false n m P p = inr (refl, p)

pub passed_no_phi : (n : NodeRecord) → is_passed n.value.op.family ≡ true → is_phi n.value.op.family ≡ false
passed_no_phi n e = go n.value.op.family e
  where
    go : (x : Family) → is_passed x ≡ true → is_phi x ≡ false
    go op.Phi d = (let z : false ≡ true = d in absurd cc)
    go _ d = refl

module _ (t : Tables) (h : Orderly t) (stays : Edge → Bool) where
  -- what a value that is no phi takes is met where the value is
  pub argument_met : (p k q : ℕ) (n : NodeRecord) (w : List ℕ) → slice_get t.nodes p ≡ Some n → is_phi n.value.op.family ≡ false → slice_get (args_of t p) k ≡ Some q →
      Path t stays w → Meets t w p → Meets t w q
  argument_met p k q n w i f e path m =
      let r = back_to t stays n.block w path (met_block t p n w i m) in
      meets_within t stays n.block w r q (h.uses p k q n.block n r.before i refl f e (path_every t stays (n.block ∷ r.before) r.path))

  -- a phi has an argument for each edge
  pub argument_of : (p b k : ℕ) (n : NodeRecord) (e : Edge) → slice_get t.nodes p ≡ Some n → n.block ≡ b → is_phi n.value.op.family ≡ true → slice_get (edges_to t b) k ≡ Some e →
      (q : ℕ) × (slice_get (args_of t p) k ≡ Some q)
  argument_of p b k n e i d f at =
      let l = slice_get_within (edges_to t b) k e at in
      let a = h.arity p b n i d f in
      got_there (args_of t p) k (omega (arith, l, a))

  -- and a phi of the entry has none
  pub no_argument : (p k q : ℕ) (n : NodeRecord) → slice_get t.nodes p ≡ Some n → n.block ≡ 0 → is_phi n.value.op.family ≡ true → slice_get (args_of t p) k ≡ Some q → ⊥
  no_argument p k q n i d f e =
      let l = slice_get_within (args_of t p) k q e in
      let a = h.arity p 0 n i d f in
      let z = h.entry in
      omega (arith, l, a, z)

  pub source_met : (p k q b : ℕ) (n : NodeRecord) (e : Edge) (w : List ℕ) → slice_get t.nodes p ≡ Some n → n.block ≡ b → is_phi n.value.op.family ≡ true → slice_get (args_of t p) k ≡ Some q →
      slice_get (edges_to t b) k ≡ Some e → Path t stays (e.from ∷ w) → Meets t (e.from ∷ w) q
  source_met p k q b n e w i d f a at path = h.sources p k q b n e w i d f a at (path_every t stays (e.from ∷ w) path)

  -- what a value stands for is met where the value is
  abbrev pub Over : ℕ → ℕ → Type 0
  Over p m = (w : List ℕ) → Path t stays w → Meets t w p → Meets t w m

  through : (s p k q m : ℕ) (n : NodeRecord) (own : ℕ → Bool) → slice_get t.nodes p ≡ Some n → is_phi n.value.op.family ≡ true → slice_get (args_of t p) k ≡ Some q →
      (b : ℕ) → n.block ≡ b → ((j x : ℕ) → TakesOver t stays p b j x → Over x (if own j then p else m)) → (w : List ℕ) → length w < s → Path t stays (b ∷ w) → Meets t (b ∷ w) m
  through zero p k q m n own i f e b d all w l path = absurd (omega (arith, l))
  through (suc s) p k q m n own i f e _ d all _ l (start c z) = absurd (no_argument p k q n i d f e)
  through (suc s) p k q m n own i f e _ d all _ l (step b r x w path at on) =
      let a = argument_of p b r n x i d f at in
      go (λ v y z. through s p k q m n own i f e b d all v y z)
      (one_of (own r) p m (λ z. Meets t (x.from ∷ w) z)
      (all r a.0 (record { arg = a.1; edge = there_is t stays b r x at on }) (x.from ∷ w) path (source_met p r a.0 b n x w i d f a.1 at path)))
    where
      go : ((v : List ℕ) → length v < s → Path t stays (b ∷ v) → Meets t (b ∷ v) m) → (own r ≡ true × Meets t (x.from ∷ w) p) ⊎ (own r ≡ false × Meets t (x.from ∷ w) m) → Meets t (b ∷ x.from ∷ w) m
      go again (inr (z, y)) = (y.0, y.1, inr y.2)
      go again (inl (z, y)) =
          let j : In b (x.from ∷ w) = subst (λ c. In c (x.from ∷ w)) d (met_block t p n (x.from ∷ w) i y) in
          let v = back_to t stays b (x.from ∷ w) path j in
          let u = again v.before (omega (arith, l, v.shorter)) v.path in
          (u.0, u.1, inr (v.within u.0.block u.2))

  pub over : (p m : ℕ) → Stands t stays p m → Over p m
  over _ _ (itself p) = λ w path y. y
  over _ _ (passed p q m n i c e l s) = λ w path y. over q m s w path (argument_met p 0 q n w i (passed_no_phi n c) e path y)
  over _ _ (phi p k q m n own i c e l s all) = λ w path y.
      let v = back_to t stays n.block w path (met_block t p n w i y) in
      meets_within t stays n.block w v m
      (through (suc (length v.before)) p k q m n own i c e n.block refl (λ j x d. over x (if own j then p else m) (all j x d)) v.before (omega arith) v.path)
