-- Facts that are sound and closed: they have what the rules give, and values that stand for one value have its root.
use Rattle.std.proofs.Common.{◌≡◌, ℕ, ◌==◌, refl, ap, sym, ◌∙◌, subst, ◌⊎◌, inl, inr, List, ◌∷◌, Option, Some, None, Bool, true, false, ℤ}
use Rattle.std.specs.Prelude.{slice_get, if◌then◌else◌, ◌&&◌, option_map}
use Rattle.std.proofs.lemmas.Bool.{eqb-true}
use Rattle.std.proofs.lemmas.Option.{slice_get_within}
use Rattle.bk_ops.specs.declared.family.Family.{Family}
use Rattle.bk_ops.specs.declared.family.Family.TheVariants as op
use Rattle.bk_func.specs.declared.parts.Kind.{Kind}
use Rattle.bk_func.specs.declared.parts.Kind.TheVariants as kind
use Rattle.bk_func.specs.Records.{BlockRecord}
use Rattle.bk_graph.specs.Clean.{is_phi, place_taken}
use Rattle.bk_graph.specs.Cleaned.{truth_at, goes_if, goes_by, goes_at, IsSound, IsClosed}
use Rattle.bk_graph.specs.Facts.{Facts, goes_to, edge_stays}
use Rattle.bk_graph.specs.Kinds.{is_passed, truth_of}
use Rattle.bk_graph.specs.Known.{stays_there, TakesOver, Stands, itself, passed, phi, Fact, goes, cut, unreached, Known, first, decided, other, left, none, apart, Way, begin, onward}
use Rattle.bk_graph.specs.Nodes.{NodeRecord}
use Rattle.bk_graph.specs.Tables.{Tables, edges_to, control_of}
use Rattle.bk_graph_laws.proofs.Edges.{Edge}
use Rattle.bk_graph_laws.proofs.Paths.{Path, start, step, Orderly, some_same, source_met, one_of, way_path, path_every}
use Rattle.bk_graph_laws.proofs.Sources.{Source, source, at_source, Led, led_there, led_at, led_argument}

pub is_false : (t : Bool) → (t ≡ true → ⊥) → t ≡ false
is_false true h = absurd (h refl)
is_false false h = refl

pub both_true : (s t : Bool) → (s && t) ≡ true → (s ≡ true) × (t ≡ true)
both_true true t e = (refl, e)
both_true false t e = let x : false ≡ true = e in absurd cc

pub there_more : (stays more : Edge → Bool) → ((e : Edge) → stays e ≡ true → more e ≡ true) → (o : Option Edge) → stays_there stays o ≡ true → stays_there more o ≡ true
there_more stays more h None e = e
there_more stays more h (Some x) e = h x e

-- where fewer edges stay, values stand for the same
pub fewer_stand : (t : Tables) (more stays : Edge → Bool) → ((e : Edge) → stays e ≡ true → more e ≡ true) → (p m : ℕ) → Stands t more p m → Stands t stays p m
fewer_stand t more stays h _ _ (itself p) = itself p
fewer_stand t more stays h _ _ (passed p q m n i c e l d) = passed p q m n i c e l (fewer_stand t more stays h q m d)
fewer_stand t more stays h _ _ (phi p k q m n own i c e l d all) =
    phi p k q m n own i c e l (fewer_stand t more stays h q m d)
    (λ j x a. fewer_stand t more stays h x (if own j then p else m) (all j x (record { arg = a.arg; edge = there_more stays more h (slice_get (edges_to t n.block) j) a.edge })))

-- the edge at a place, where one stays there
pub staying : (t : Tables) (stays : Edge → Bool) (b k : ℕ) → stays_there stays (slice_get (edges_to t b) k) ≡ true → (e : Edge) × (slice_get (edges_to t b) k ≡ Some e) × (stays e ≡ true)
staying t stays b k s = go (slice_get (edges_to t b) k) refl s
  where
    go : (o : Option Edge) → slice_get (edges_to t b) k ≡ o → stays_there stays o ≡ true → (e : Edge) × (slice_get (edges_to t b) k ≡ Some e) × (stays e ≡ true)
    go None i d = let x : false ≡ true = d in absurd cc
    go (Some e) i d = (e, i, d)

-- no edge that stays leads into a set without the entry
pub outside : (t : Tables) (stays : Edge → Bool) (within : ℕ → Bool) → within 0 ≡ false →
    ((c k : ℕ) (e : Edge) → slice_get (edges_to t c) k ≡ Some e → within c ≡ true → within e.from ≡ false → stays e ≡ false) → (b : ℕ) → Way t stays b → within b ≡ true → ⊥
outside t stays within zero_out shut _ (begin c e) d = absurd cc
outside t stays within zero_out shut _ (onward b k e way i s) d = go (within e.from) refl (outside t stays within zero_out shut e.from way)
  where
    go : (r : Bool) → within e.from ≡ r → (within e.from ≡ true → ⊥) → ⊥
    go true x next = next x
    go false x next = let y = shut b k e i d x in absurd cc

module _ (t : Tables) (h : Orderly t) (F : Facts) (so : IsSound t F) (cl : IsClosed t F) where
  -- a block that is reached is one
  reached_block : (b : ℕ) → Way t (edge_stays F) b → slice_get t.blocks b ≡ None → ⊥
  reached_block _ (begin c e) z = absurd (let q : None ≡ Some c = sym z ∙ e in cc)
  reached_block _ (onward b k e way i s) z = h.ends b k e i z

  pub led_block : (b : ℕ) (w : List ℕ) → Path t (edge_stays F) (b ∷ w) → F.reached b ≡ true
  led_block _ _ (start c e) = cl.entry c e
  led_block _ _ (step b k e w path i s) = cl.onward b k e i s

  pub led_value : (p : ℕ) → (l : Led t h (edge_stays F) p) → F.reached l.node.block ≡ true
  led_value p l = led_block l.node.block l.before l.path

  pub path_to : (b : ℕ) → F.reached b ≡ true → (w : List ℕ) × Path t (edge_stays F) (b ∷ w)
  path_to b r = way_path t (edge_stays F) b (so.reached b r)

  pub in_reached : (p : ℕ) (n : NodeRecord) → slice_get t.nodes p ≡ Some n → F.reached n.block ≡ true → Led t h (edge_stays F) p
  in_reached p n i r = let y = path_to n.block r in record { node = n; before = y.0; is = i; path = y.1 }

  -- what a phi takes over an edge that stays
  pub led_source : (p j x : ℕ) (n : NodeRecord) → slice_get t.nodes p ≡ Some n → is_phi n.value.op.family ≡ true → TakesOver t (edge_stays F) p n.block j x → Led t h (edge_stays F) x
  led_source p j x n i c a =
      let e = staying t (edge_stays F) n.block j a.edge in
      let y = path_to e.0.from (both_true (F.reached e.0.from) (goes_to (F.taken e.0.from) e.0.index) e.2).0 in
      led_there t h (edge_stays F) (e.0.from ∷ y.0) x y.1 (source_met t h (edge_stays F) p j x n.block n e.0 y.0 i refl c a.arg e.1 y.1)

  -- ---- roots
  pub roots : (p m : ℕ) → Stands t (edge_stays F) p m → Led t h (edge_stays F) p → F.root p ≡ F.root m
  roots _ _ (itself p) l = refl
  roots _ _ (passed p q m n i c e k d) l = cl.passed p q n i c e k ∙ roots q m d (led_argument t h (edge_stays F) p q n i c e l)
  roots _ _ (phi p k q m n own i c e g d all) l =
      let y = led_at t h (edge_stays F) p n i l in
      go (led_block n.block y.0 y.1) (source t h (edge_stays F) p k q n y.0 i c e y.1)
      (λ j x a. one_of (own j) p m (λ z. F.root x ≡ F.root z) (roots x (if own j then p else m) (all j x a) (led_source p j x n i c a)))
    where
      go : F.reached n.block ≡ true → Source t (edge_stays F) p n.block →
          ((j x : ℕ) → TakesOver t (edge_stays F) p n.block j x → (own j ≡ true × (F.root x ≡ F.root p)) ⊎ (own j ≡ false × (F.root x ≡ F.root m))) → F.root p ≡ F.root m
      go reached s each =
          let z = at_source t h (edge_stays F) p m n own s (all s.enters.place s.arg s.takes) in
          let r = at (each s.enters.place s.arg s.takes) z.0 in
          let u = led_source p s.enters.place s.arg n i c s.takes in
          sym (cl.phi p n s.enters.place s.arg i reached c s.takes (slice_get_within t.nodes s.arg u.node u.is) (λ j x a. other_root r (each j x a))) ∙ r
        where
          at : (own s.enters.place ≡ true × (F.root s.arg ≡ F.root p)) ⊎ (own s.enters.place ≡ false × (F.root s.arg ≡ F.root m)) → own s.enters.place ≡ false → F.root s.arg ≡ F.root m
          at (inl (a, b)) z = absurd cc
          at (inr (a, b)) z = b

          other_root : F.root s.arg ≡ F.root m → {j x : ℕ} → (own j ≡ true × (F.root x ≡ F.root p)) ⊎ (own j ≡ false × (F.root x ≡ F.root m)) → (F.root x ≡ F.root p) ⊎ (F.root x ≡ F.root s.arg)
          other_root r (inl (a, b)) = inl b
          other_root r (inr (a, b)) = inr (b ∙ sym r)

  -- a constant stands for itself alone
  constant_root : (p m : ℕ) → Stands t (edge_stays F) p m → (n : NodeRecord) → slice_get t.nodes p ≡ Some n → n.value.op.family ≡ op.ConstBool → m ≡ p
  constant_root _ _ (itself p) n i e = refl
  constant_root _ _ (passed p q m u i c a l d) n j e =
      let P : NodeRecord → Type 0 = λ x. is_passed x.value.op.family ≡ true in
      let y : is_passed n.value.op.family ≡ true = subst P (some_same (slice_get t.nodes p) u n i j) c in
      absurd (let z : is_passed op.ConstBool ≡ true = sym (ap is_passed e) ∙ y in let x : false ≡ true = z in cc)
  constant_root _ _ (phi p k q m u own i c a l d all) n j e =
      let P : NodeRecord → Type 0 = λ x. is_phi x.value.op.family ≡ true in
      let y : is_phi n.value.op.family ≡ true = subst P (some_same (slice_get t.nodes p) u n i j) c in
      absurd (let z : is_phi op.ConstBool ≡ true = sym (ap is_phi e) ∙ y in let x : false ≡ true = z in cc)

  is_constant : (x : Family) (n int : ℤ) → truth_of x n ≡ Some int → x ≡ op.ConstBool
  is_constant op.ConstBool n int e = refl
  is_constant _ n int e = absurd (let q : None ≡ Some int = e in cc)

  -- ---- what the rules give of blocks is among the facts
  abbrev pub Among : Fact → Type 0
  Among (goes b j) = F.reached b ≡ true → F.taken b ≡ Some j
  Among (cut e) = edge_stays F e ≡ false
  Among (unreached b) = F.reached b ≡ false

  by_kind : (b k : ℕ) (c : BlockRecord) (x : Kind) → slice_get t.blocks b ≡ Some c → c.kind ≡ x → goes_by t F.root (control_of t b) x ≡ Some k → F.reached b ≡ true → F.taken b ≡ Some k
  by_kind b k c x i d e r =
      cl.goes b r ∙ (ap (goes_at t F.root b) i ∙ (ap (goes_by t F.root (control_of t b)) d ∙ e))

  by_constant : (p q : ℕ) (n : NodeRecord) (int : ℤ) (o : Option ℕ) → o ≡ Some p → F.root p ≡ q → slice_get t.nodes q ≡ Some n → truth_of n.value.op.family n.value.int ≡ Some int →
      goes_if t F.root o ≡ Some (place_taken int)
  by_constant p q n int o c r i e =
      ap (goes_if t F.root) c ∙ (ap (λ x. option_map place_taken (truth_at (slice_get t.nodes x))) r ∙ (ap (λ y. option_map place_taken (truth_at y)) i ∙ ap (option_map place_taken) e))

  open_edge : (e : Edge) (k : ℕ) → (e.index ≡ k → ⊥) → (F.reached e.from ≡ true → F.taken e.from ≡ Some k) → (z : Bool) → F.reached e.from ≡ z → (z && goes_to (F.taken e.from) e.index) ≡ false
  open_edge e k n g false r = refl
  open_edge e k n g true r =
      let w : (k == e.index) ≡ false = is_false (k == e.index) (λ d. n (sym (eqb-true k e.index d))) in
      (let P : Option ℕ → Type 0 = λ o. goes_to o e.index ≡ false in subst P (sym (g r)) w)

  pub among : (x : Fact) → Known t x → Among x
  among _ (first b c i d) = λ r. by_kind b 0 c kind.First i d refl r
  among _ (decided b p q c n int stays i d control s at truth all) = λ r.
      let y = path_to b r in
      let led = led_there t h (edge_stays F) (b ∷ y.0) p y.1 (h.control b p y.0 control (path_every t (edge_stays F) (b ∷ y.0) y.1)) in
      let wide = fewer_stand t stays (edge_stays F) (λ e on. kept e on (λ z. among (cut e) (all e z))) p q s in
      let root : F.root p ≡ q = roots p q wide led ∙ constant_root q (F.root q) (so.root q) n at (is_constant n.value.op.family n.value.int int truth) in
      by_kind b (place_taken int) c kind.If i d (by_constant p q n int (control_of t b) control root at truth) r
    where
      kept : (e : Edge) → edge_stays F e ≡ true → (stays e ≡ false → edge_stays F e ≡ false) → stays e ≡ true
      kept e on out = go (stays e) refl
        where
          go : (z : Bool) → stays e ≡ z → z ≡ true
          go true x = refl
          go false x = (let y = out x in absurd cc)
  among _ (other e k n g) = open_edge e k n (among (goes e.from k) g) (F.reached e.from) refl
  among _ (left e g) = (let P : Bool → Type 0 = λ z. (z && goes_to (F.taken e.from) e.index) ≡ false in subst P (sym (among (unreached e.from) g)) refl)
  among _ (none b z) = is_false (F.reached b) (λ r. reached_block b (so.reached b r) z)
  among _ (apart within b e out shut) =
      is_false (F.reached b) (λ r. outside t (edge_stays F) within out (λ c k x i s d. among (cut x) (shut c k x i s d)) b (so.reached b r) e)
