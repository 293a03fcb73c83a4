-- Two lots of facts that are sound and closed agree, where blocks are reached.
use Rattle.std.proofs.Common.{◌≡◌, ℕ, suc, ◌<◌, ◌+◌, refl, ap, sym, ◌∙◌, subst, arith, List, [], ◌∷◌, length, Option, Some, None, Bool, true, false, not, ◌↔◌}
use Rattle.std.specs.Prelude.{slice_get, if◌then◌else◌, ◌&&◌, ◌||◌, option_map}
use Rattle.std.specs.Option.{unwrap_or}
use Rattle.std.proofs.lemmas.Option.{slice_get_within}
use Rattle.bk_func.specs.Records.{ValueRecord, BlockRecord, FuncRecord}
use Rattle.bk_graph.specs.Clean.{is_phi}
use Rattle.bk_graph.specs.Cleaned.{takes, IsNeeded, control, itself, argument, IsSound, IsClosed}
use Rattle.bk_graph.specs.Facts.{Facts, goes_to, edge_stays}
use Rattle.bk_graph.specs.Known.{stays_there, Stands, goes, unreached}
use Rattle.bk_graph.specs.Nodes.{NodeRecord, node_at, or_past}
use Rattle.bk_graph.specs.Rebuilt.{number_at, standing, behind, kept_preds, kept_args, kept_value, kept_values, kept_control, ended, offset_of, kept_block, rebuilt}
use Rattle.bk_graph.specs.Lists.{picked}
use Rattle.bk_graph.specs.Tables.{Tables, edges_to, args_of, control_of}
use Rattle.bk_graph_laws.proofs.Edges.{Edge}
use Rattle.bk_graph_laws.proofs.Paths.{Orderly, got_there, argument_met, path_every, past_some}
use Rattle.bk_graph_laws.proofs.Sources.{Led, led_there, led_on, meets_itself, one_way}
use Rattle.bk_graph_laws.proofs.Settled.{fewer_stand, led_value, path_to, in_reached, led_source, roots, among}

bool_same : (s t : Bool) → (s ≡ true → t ≡ true) → (t ≡ true → s ≡ true) → s ≡ t
bool_same true t to from = sym (to refl)
bool_same false true to from = from refl
bool_same false false to from = refl

option_same : (o u : Option ℕ) → ((k : ℕ) → o ≡ Some k → u ≡ Some k) → ((k : ℕ) → u ≡ Some k → o ≡ Some k) → o ≡ u
option_same None None to from = refl
option_same None (Some k) to from = from k refl
option_same (Some k) u to from = sym (to k refl)

module _ (t : Tables) (h : Orderly t) (F G : Facts) (so : IsSound t F) (cl : IsClosed t F) (sp : IsSound t G) (cm : IsClosed t G) where
  also_reached : (b : ℕ) → F.reached b ≡ true → G.reached b ≡ true
  also_reached b r = go (G.reached b) refl
    where
      go : (z : Bool) → G.reached b ≡ z → z ≡ true
      go true e = refl
      go false e = (let x = among t h F so cl (unreached b) (sp.unreached b e) in absurd cc)

  also_taken : (b k : ℕ) → G.reached b ≡ true → F.taken b ≡ Some k → G.taken b ≡ Some k
  also_taken b k r e = among t h G sp cm (goes b k) (so.taken b k e) r

module _ (t : Tables) (h : Orderly t) (F G : Facts) (so : IsSound t F) (cl : IsClosed t F) (sp : IsSound t G) (cm : IsClosed t G) where
  pub same_reached : (b : ℕ) → F.reached b ≡ G.reached b
  same_reached b = bool_same (F.reached b) (G.reached b) (also_reached t h F G so cl sp cm b) (also_reached t h G F sp cm so cl b)

  pub same_taken : (b : ℕ) → F.reached b ≡ true → F.taken b ≡ G.taken b
  same_taken b r =
      option_same (F.taken b) (G.taken b) (λ k e. also_taken t h F G so cl sp cm b k (sym (same_reached b) ∙ r) e) (λ k e. also_taken t h G F sp cm so cl b k r e)

  pub same_edge : (e : Edge) → edge_stays F e ≡ edge_stays G e
  same_edge e = go (F.reached e.from) refl
    where
      go : (z : Bool) → F.reached e.from ≡ z → (F.reached e.from && goes_to (F.taken e.from) e.index) ≡ (G.reached e.from && goes_to (G.taken e.from) e.index)
      go true r = ap (λ z. z && goes_to (F.taken e.from) e.index) (same_reached e.from) ∙ ap (λ o. G.reached e.from && goes_to o e.index) (same_taken e.from r)
      go false r =
          let x : (F.reached e.from && goes_to (F.taken e.from) e.index) ≡ false = ap (λ z. z && goes_to (F.taken e.from) e.index) r in
          let y : (G.reached e.from && goes_to (G.taken e.from) e.index) ≡ false = ap (λ z. z && goes_to (G.taken e.from) e.index) (sym (same_reached e.from) ∙ r) in
          x ∙ sym y

  pub same_there : (o : Option Edge) → stays_there (edge_stays F) o ≡ stays_there (edge_stays G) o
  same_there None = refl
  same_there (Some e) = same_edge e

  also_stands : (p m : ℕ) → Stands t (edge_stays G) p m → Stands t (edge_stays F) p m
  also_stands p m s = fewer_stand t (edge_stays G) (edge_stays F) (λ e d. sym (same_edge e) ∙ d) p m s

module _ (t : Tables) (h : Orderly t) (F G : Facts) (so : IsSound t F) (cl : IsClosed t F) (sp : IsSound t G) (cm : IsClosed t G) where
  also_led : (p : ℕ) → Led t h (edge_stays F) p → Led t h (edge_stays G) p
  also_led p l = in_reached t h G sp cm p l.node l.is (sym (same_reached t h F G so cl sp cm l.node.block) ∙ led_value t h F so cl p l)

  pub same_root : (p : ℕ) → Led t h (edge_stays F) p → F.root p ≡ G.root p
  same_root p l =
      let m : ℕ = F.root p in
      let o : ℕ = G.root p in
      let s : Stands t (edge_stays F) p m = so.root p in
      let u : Stands t (edge_stays F) p o = also_stands t h F G so cl sp cm p o (sp.root p) in
      let led = led_on t h (edge_stays F) p m l s in
      let back : m ≡ F.root o = roots t h F so cl p o u l in
      let P : ℕ → Type 0 = λ x. Stands t (edge_stays F) o x in
      let from : Stands t (edge_stays F) o m = subst P (sym back) (so.root o) in
      let on : o ≡ G.root m = roots t h G sp cm p m (also_stands t h G F sp cm so cl p m s) (also_led p l) in
      let Q : ℕ → Type 0 = λ x. Stands t (edge_stays F) m x in
      let to : Stands t (edge_stays F) m o = subst Q (sym on) (also_stands t h F G so cl sp cm m (G.root m) (sp.root m)) in
      sym (one_way t h (edge_stays F) m o to led from)

  -- ---- what is taken and needed
  pub led_control : (b p : ℕ) → F.reached b ≡ true → control_of t b ≡ Some p → Led t h (edge_stays F) p
  led_control b p r c =
      let y = path_to t h F so cl b r in
      led_there t h (edge_stays F) (b ∷ y.0) p y.1 (h.control b p y.0 c (path_every t (edge_stays F) (b ∷ y.0) y.1))

  pub led_taken : (p k q : ℕ) (n : NodeRecord) → Led t h (edge_stays F) p → slice_get t.nodes p ≡ Some n → slice_get (args_of t p) k ≡ Some q → takes t F n k ≡ true → Led t h (edge_stays F) q
  led_taken p k q n l i a e = go (is_phi n.value.op.family) refl e
    where
      go : (z : Bool) → is_phi n.value.op.family ≡ z → (not z || stays_there (edge_stays F) (slice_get (edges_to t n.block) k)) ≡ true → Led t h (edge_stays F) q
      go true f s = led_source t h F so cl p k q n i f (record { arg = a; edge = s })
      go false f s =
          led_there t h (edge_stays F) (l.node.block ∷ l.before) q l.path (argument_met t h (edge_stays F) p k q n (l.node.block ∷ l.before) i f a l.path (meets_itself t h (edge_stays F) p l))

  pub same_takes : (n : NodeRecord) (k : ℕ) → takes t F n k ≡ takes t G n k
  same_takes n k = ap (λ z. not (is_phi n.value.op.family) || z) (same_there t h F G so cl sp cm (slice_get (edges_to t n.block) k))

  also_needed : (p : ℕ) → IsNeeded t F p → Led t h (edge_stays F) p × IsNeeded t G p
  also_needed _ (control b p r d c) =
      let l = led_control b p r c in
      let P : ℕ → Type 0 = λ x. IsNeeded t G x in (
        led_on t h (edge_stays F) p (F.root p) l (so.root p),
        subst P (sym (same_root p l)) (control b p (sym (same_reached t h F G so cl sp cm b) ∙ r) (sym (same_taken t h F G so cl sp cm b r) ∙ d) c),
      )
  also_needed _ (itself p n i r s) = (in_reached t h F so cl p n i r, itself p n i (sym (same_reached t h F G so cl sp cm n.block) ∙ r) s)
  also_needed _ (argument p k q n d i a e) = go (also_needed p d)
    where
      go : Led t h (edge_stays F) p × IsNeeded t G p → Led t h (edge_stays F) (F.root q) × IsNeeded t G (F.root q)
      go (l, g) =
          let u = led_taken p k q n l i a e in
          let P : ℕ → Type 0 = λ x. IsNeeded t G x in (
            led_on t h (edge_stays F) q (F.root q) u (so.root q),
            subst P (sym (same_root q u)) (argument p k q n g i a (sym (same_takes n k) ∙ e)),
          )

-- ---- lists by places
pub picked_same : {A B : Type 0} (s u : ℕ → Bool) (f g : ℕ → A → B) (k : ℕ) (xs : List A) → ((i j : ℕ) (x : A) → i ≡ k + j → slice_get xs j ≡ Some x → s i ≡ u i) →
    ((i j : ℕ) (x : A) → i ≡ k + j → slice_get xs j ≡ Some x → s i ≡ true → f i x ≡ g i x) → picked s f k xs ≡ picked u g k xs
unfolding picked
picked_same s u f g k [] e d = refl
picked_same {A} {B} s u f g k (x ∷ xs) e d =
    go (s k) (u k) (e k 0 x (omega arith) refl) (d k 0 x (omega arith) refl) (picked s f (k + 1) xs) (picked u g (k + 1) xs)
    (picked_same s u f g (k + 1) xs (λ i j y h at. e i (suc j) y (omega (arith, h)) at) (λ i j y h at. d i (suc j) y (omega (arith, h)) at))
  where
    go : (y z : Bool) → y ≡ z → (y ≡ true → f k x ≡ g k x) → (vs ws : List B) → vs ≡ ws → (if y then f k x ∷ vs else vs) ≡ (if z then g k x ∷ ws else ws)
    go true true r o vs ws q = (let w = o refl in cc)
    go false false r o vs ws q = q
    go true false r o vs ws q = absurd cc
    go false true r o vs ws q = absurd cc

at_zero : (i j : ℕ) → i ≡ 0 + j → i ≡ j
at_zero i j e = omega (arith, e)

module _ (t : Tables) (h : Orderly t) (F G : Facts) (so : IsSound t F) (cl : IsClosed t F) (sp : IsSound t G) (cm : IsClosed t G)
    (nf ng : ℕ → Bool) (xf : (p : ℕ) → p < length t.nodes → (nf p ≡ true) ↔ IsNeeded t F p) (xg : (p : ℕ) → p < length t.nodes → (ng p ≡ true) ↔ IsNeeded t G p) where
  same_needed : (p : ℕ) → p < length t.nodes → nf p ≡ ng p
  same_needed p l =
      bool_same (nf p) (ng p) (λ e. (xg p l).1 (also_needed t h F G so cl sp cm p ((xf p l).0 e)).1) (λ e. (xf p l).1 (also_needed t h G F sp cm so cl p ((xg p l).0 e)).1)

  same_standing : (p n : ℕ) → Led t h (edge_stays F) p → standing t F p n ≡ standing t G p n
  same_standing p n l = ap (λ r. unwrap_or (number_at t r) n) (same_root t h F G so cl sp cm p l)

  same_args : (p : ℕ) (n : NodeRecord) → slice_get t.nodes p ≡ Some n → F.reached n.block ≡ true →
      kept_args t F (is_phi n.value.op.family) (edges_to t n.block) (args_of t p) n.value.args ≡ kept_args t G (is_phi n.value.op.family) (edges_to t n.block) (args_of t p) n.value.args
  same_args p n i r =
      picked_same (λ k. takes t F n k) (λ k. takes t G n k)
      (λ k x. standing t F (or_past (slice_get (args_of t p) k)) x) (λ k x. standing t G (or_past (slice_get (args_of t p) k)) x) 0 n.value.args
      (λ k j x e at. same_takes t h F G so cl sp cm n k)
      (λ k j x e at d. go k x (got_there (args_of t p) k (within k j x e at)) d)
    where
      within : (k j x : ℕ) → k ≡ 0 + j → slice_get n.value.args j ≡ Some x → k < length (args_of t p)
      within k j x e at =
          let l = slice_get_within n.value.args j x at in
          let a = h.args p n i in
          omega (arith, l, a, e)

      go : (k x : ℕ) → (q : ℕ) × (slice_get (args_of t p) k ≡ Some q) → takes t F n k ≡ true →
          standing t F (or_past (slice_get (args_of t p) k)) x ≡ standing t G (or_past (slice_get (args_of t p) k)) x
      go k x (q, e) d =
          let l = led_taken t h F G so cl sp cm p k q n (in_reached t h F so cl p n i r) i e d in
          let a : or_past (slice_get (args_of t p) k) ≡ q = past_some (slice_get (args_of t p) k) q e in
          ap (λ y. standing t F y x) a ∙ (same_standing q x l ∙ sym (ap (λ y. standing t G y x) a))

  same_value : (p : ℕ) (b : ℕ) (v : ValueRecord) → slice_get t.nodes p ≡ Some (node_at b v) → F.reached b ≡ true → kept_value t F (edges_to t b) p v ≡ kept_value t G (edges_to t b) p v
  same_value p b v i r = ap (λ xs. record v { args = xs }) (same_args p (node_at b v) i r)

  same_values : (b : ℕ) (c : BlockRecord) → slice_get t.blocks b ≡ Some c → F.reached b ≡ true →
      kept_values t F nf (edges_to t b) (offset_of t b) c.values ≡ kept_values t G ng (edges_to t b) (offset_of t b) c.values
  same_values b c i r =
      picked_same (λ k. nf (behind (offset_of t b) k)) (λ k. ng (behind (offset_of t b) k))
      (λ k v. kept_value t F (edges_to t b) (behind (offset_of t b) k) v) (λ k v. kept_value t G (edges_to t b) (behind (offset_of t b) k) v) 0 c.values
      (λ k j v e at. same_needed (behind (offset_of t b) k) (slice_get_within t.nodes (behind (offset_of t b) k) (node_at b v) (node k j v e at)))
      (λ k j v e at d. same_value (behind (offset_of t b) k) b v (node k j v e at) r)
    where
      node : (k j : ℕ) (v : ValueRecord) → k ≡ 0 + j → slice_get c.values j ≡ Some v → slice_get t.nodes (behind (offset_of t b) k) ≡ Some (node_at b v)
      node k j v e at = h.nodes b k c v i (ap (slice_get c.values) (at_zero k j e) ∙ at)

  same_preds : (b : ℕ) (ns : List ℕ) → kept_preds F (edges_to t b) ns ≡ kept_preds G (edges_to t b) ns
  same_preds b ns =
      picked_same (λ k. stays_there (edge_stays F) (slice_get (edges_to t b) k)) (λ k. stays_there (edge_stays G) (slice_get (edges_to t b) k)) (λ k n. n) (λ k n. n) 0 ns
      (λ k j x e at. same_there t h F G so cl sp cm (slice_get (edges_to t b) k)) (λ k j x e at d. refl)

  same_control : (b : ℕ) → F.reached b ≡ true → (o : Option ℕ) → control_of t b ≡ o → (c : Option ℕ) → kept_control t F o c ≡ kept_control t G o c
  same_control b r None e c = refl
  same_control b r (Some p) e c =
      ap (λ x. option_map (λ n. unwrap_or (number_at t x) n) c) (same_root t h F G so cl sp cm p (led_control t h F G so cl sp cm b p r e))

  same_end : (b : ℕ) (x : BlockRecord) → F.reached b ≡ true → ended t F (F.taken b) (control_of t b) x ≡ ended t G (G.taken b) (control_of t b) x
  same_end b x r = go (F.taken b) refl ∙ ap (λ o. ended t G o (control_of t b) x) (same_taken t h F G so cl sp cm b r)
    where
      go : (o : Option ℕ) → F.taken b ≡ o → ended t F (F.taken b) (control_of t b) x ≡ ended t G (F.taken b) (control_of t b) x
      go None e =
          ap (λ o. ended t F o (control_of t b) x) e ∙ (ap (λ c. record x { control = c }) (same_control b r (control_of t b) refl x.control) ∙ sym (ap (λ o. ended t G o (control_of t b) x) e))
      go (Some k) e = ap (λ o. ended t F o (control_of t b) x) e ∙ sym (ap (λ o. ended t G o (control_of t b) x) e)

  same_block : (b : ℕ) (c : BlockRecord) → slice_get t.blocks b ≡ Some c → F.reached b ≡ true → kept_block t F nf b c ≡ kept_block t G ng b c
  same_block b c i r =
      ap (λ ps. ended t F (F.taken b) (control_of t b) record c { preds = ps; values = kept_values t F nf (edges_to t b) (offset_of t b) c.values }) (same_preds b c.preds)
      ∙ (ap (λ vs. ended t F (F.taken b) (control_of t b) record c { preds = kept_preds G (edges_to t b) c.preds; values = vs }) (same_values b c i r)
      ∙ same_end b (record c { preds = kept_preds G (edges_to t b) c.preds; values = kept_values t G ng (edges_to t b) (offset_of t b) c.values }) r)

  pub same_rebuilt : (f : FuncRecord) → t.blocks ≡ f.blocks → rebuilt t F nf f ≡ rebuilt t G ng f
  same_rebuilt f e = ap (λ bs. record f { blocks = bs })
      (picked_same F.reached G.reached (kept_block t F nf) (kept_block t G ng) 0 f.blocks (λ i j c d at. same_reached t h F G so cl sp cm i)
      (λ i j c d at r. same_block i c (ap (λ bs. slice_get bs i) e ∙ (ap (slice_get f.blocks) (at_zero i j d) ∙ at)) r))
