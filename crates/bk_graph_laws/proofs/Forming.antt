-- The tables of a function in form have what the laws of clean ask.
use Rattle.std.proofs.Common.{◌≡◌, ℕ, zero, suc, ◌+◌, ◌<◌, ◌≤◌, ◌==◌, min, refl, ap, sym, ◌∙◌, subst, arith, ◌⊎◌, inl, inr, List, [], ◌∷◌, length, map, get_or, Option, Some, None, true, false, position}
use Rattle.std.specs.Prelude.{slice_get, sum_by, count_by}
use Rattle.std.specs.List.{Contains, position_or_len}
use Rattle.std.proofs.lemmas.Bool.{eq-eqb, eqb-true}
use Rattle.std.proofs.lemmas.List.Sums.{passes_at_first}
use Rattle.std.proofs.lemmas.List.{length-map}
use Rattle.std.proofs.lemmas.Option.{slice_get_within, get_or_from_slice_get, slice_get-get_or}
use Rattle.bk_ops.specs.declared.family.Family.{Family}
use Rattle.bk_ops.specs.declared.family.Family.TheVariants as op
use Rattle.bk_func.specs.Records.{ValueRecord, BlockRecord, FuncRecord}
use Rattle.bk_func.specs.declared.form.FormKind.TheVariants.{Control, Missing, Arity, Use}
use Rattle.bk_func.specs.Edits.{greatest_value}
use Rattle.bk_func.specs.Form.{IsFormed}
use Rattle.bk_func.specs.Form.Parts.{IsBlockNumber, IsValueNumber, HasArity}
use Rattle.bk_func.specs.Form.Signatures.{Setting}
use Rattle.bk_func.specs.Form.Text.{HasBlock, HasValue, IsPhi}
use Rattle.bk_func.specs.Form.Walks.{Walk, begin as entered, onward as walked, IsDefinedAt}
use Rattle.bk_func.proofs.Faults.{In}
use Rattle.bk_graph.specs.Clean.{is_phi}
use Rattle.bk_graph.specs.Given.{IsGiven}
use Rattle.bk_graph.specs.Kinds.{is_passed}
use Rattle.bk_graph.specs.Named.{block_ids}
use Rattle.bk_graph.specs.Nodes.{NodeRecord, node_at, nodes_from, offsets_from, value_ids, place_in, control_in, edges_of, edge_lists, arg_places, control_places}
use Rattle.bk_graph.specs.Rebuilt.{behind, offset_of}
use Rattle.bk_graph.specs.Tables.{Tables, tables_of, edges_to, args_of, control_of}
use Rattle.bk_graph.proofs.Listed.{one_counted, counted_at}
use Rattle.bk_places.proofs.Elements.{to_in, to_contains}
use Rattle.bk_mean.proofs.Formed.{Sound, sound}
use Rattle.bk_mean.proofs.Ranks.{rank as depth, argument_falls}
use Rattle.bk_mean.proofs.Edges.{edges_meet}
use Rattle.bk_graph_laws.proofs.Edges.{Edge}
use Rattle.bk_graph_laws.proofs.Few.{few_below, count_nodes, within_greatest}
use Rattle.bk_graph_laws.proofs.Paths.{Path, start, step, every, Meets, Orderly, some_same, passed_no_phi, past_some}
use Rattle.bk_graph_laws.proofs.Tabled.{got_map, map_got, mapped_or, index_map, contains_at, at_contains, first_there, named_block, one_place, node_there, at_offset, edges_length, edge_source}

-- the tables, written out
abbrev pub laid : FuncRecord → Tables
laid f = record {
  blocks = f.blocks;
  nodes = nodes_from 0 f.blocks;
  offsets = offsets_from 0 f.blocks;
  edges = edge_lists (place_in (block_ids f.blocks)) f.blocks;
  args = arg_places (place_in (value_ids (nodes_from 0 f.blocks))) (nodes_from 0 f.blocks);
  controls = control_places (control_in (value_ids (nodes_from 0 f.blocks))) f.blocks;
}

phi_is : (v : ValueRecord) → is_phi v.op.family ≡ true → IsPhi v
phi_is v e = go v.op.family refl e
  where
    go : (x : Family) → v.op.family ≡ x → is_phi x ≡ true → v.op.family ≡ op.Phi
    go op.Phi d t = d
    go _ d t = (let z : false ≡ true = t in absurd cc)

no_phi : (v : ValueRecord) → is_phi v.op.family ≡ false → IsPhi v → ⊥
no_phi v e p = (let z = ap is_phi p in let y : is_phi op.Phi ≡ false = sym z ∙ e in let x : true ≡ false = y in absurd cc)

phi_arity : (s : Setting) (f : FuncRecord) (b : BlockRecord) (v : ValueRecord) → HasArity s f b v v.op.family → IsPhi v → length v.args ≡ length b.preds
unfolding HasArity
phi_arity s f b v h p = (let P : Family → Type 0 = λ x. HasArity s f b v x in let q = subst P p h in q.0)

value_counted : (f : FuncRecord) (n : ℕ) → IsValueNumber f n → sum_by (λ b. count_by (λ v. v.id == n) b.values) f.blocks ≡ 1
unfolding IsValueNumber
value_counted f n h = h

module _ (s : Setting) (f : FuncRecord) (h : IsFormed s f) where
  so : Sound s f
  so = sound s f h

  own : (b : ℕ) (c : BlockRecord) → slice_get f.blocks b ≡ Some c → IsBlockNumber f c.id
  own b c e = (h.kinds Missing c (contains_at f.blocks b c e)).block.own

  -- the block and the value of a node
  node_value : (p b : ℕ) (n : NodeRecord) (c : BlockRecord) → slice_get (nodes_from 0 f.blocks) p ≡ Some n → n.block ≡ b → slice_get f.blocks b ≡ Some c → HasValue f c n.value
  node_value p b n c i d e =
      let r = node_there 0 f.blocks p n i in
      let z : b ≡ r.place = (let y = r.is in omega (arith, y, d)) in
      let q : c ≡ r.block = some_same (slice_get f.blocks r.place) c r.block (subst (λ k. slice_get f.blocks k ≡ Some c) z e) r.there in
      (contains_at f.blocks b c e, subst (λ (x : BlockRecord). Contains x.values n.value) (sym q) r.value)

  -- a number that a value of a block bears names a node of that block
  record Named (x p : ℕ) : Type 0 where
    place : ℕ
    node : NodeRecord
    first : position (λ y. y == x) (value_ids (nodes_from 0 f.blocks)) ≡ Some place
    is : slice_get (nodes_from 0 f.blocks) place ≡ Some node
    block : node.block ≡ p
    number : node.value.id ≡ x

  named_at : (d : BlockRecord) (u : ValueRecord) (x p : ℕ) → slice_get f.blocks p ≡ Some d → Contains d.values u → u.id ≡ x → Named x p
  named_at d u x p e i q =
      let (k, g) = at_contains d.values u i in
      let (o, z, n) = at_offset 0 0 f.blocks p k d u 0 e g in
      let ids : List ℕ = value_ids (nodes_from 0 f.blocks) in
      let there : slice_get ids (o + k) ≡ Some x = map_got (λ (m : NodeRecord). m.value.id) (nodes_from 0 f.blocks) (o + k) (node_at (0 + p) u) n ∙ ap Some q in
      let (r, first, at) = first_there ids x (o + k) there in
      let (m, is, number) = got_map (λ (m : NodeRecord). m.value.id) (nodes_from 0 f.blocks) r x at in
      let b = node_there 0 f.blocks r m is in
      let same : b.block ≡ d =
      so.named.same_block b.block d m.value u (contains_at f.blocks b.place b.block b.there, b.value) (contains_at f.blocks p d e, i) (number ∙ sym q) in
      let place : b.place ≡ p = one_place f d b.place p (own p d e) (subst (λ c. slice_get f.blocks b.place ≡ Some c) same b.there) e in
      record { place = r; node = m; first = first; is = is; block = (let y = b.is in omega (arith, y, place)); number = number }

  -- ---- edges
  record Arrives (b k : ℕ) (e : Edge) : Type 0 where
    block : BlockRecord
    from : BlockRecord
    is : slice_get f.blocks b ≡ Some block
    source : slice_get f.blocks e.from ≡ Some from
    pred : slice_get block.preds k ≡ Some from.id

  block_place : (n r : ℕ) → position (λ x. x == n) (block_ids f.blocks) ≡ Some r → place_in (block_ids f.blocks) n ≡ r
  block_place n r e = past_some (position (λ x. x == n) (block_ids f.blocks)) r e

  edge_in : (b k : ℕ) (e : Edge) (c : BlockRecord) → slice_get f.blocks b ≡ Some c → slice_get (edges_of (place_in (block_ids f.blocks)) f.blocks c) k ≡ Some e → Arrives b k e
  edge_in b k e c i at =
      let place : ℕ → ℕ = place_in (block_ids f.blocks) in
      let p = edge_source f.blocks c.id [] (map place c.preds) k e at in
      let (n, q, z) = got_map place c.preds k e.from p in
      let j = (h.kinds Missing c (contains_at f.blocks b c i)).block.preds k n (slice_get_within c.preds k n q) in
      let number : IsBlockNumber f n = subst (λ m. IsBlockNumber f m) (get_or_from_slice_get c.preds k n n q) j in
      let (r, a, there, id, first) = named_block f n number in
      let w : r ≡ e.from = sym (block_place n r first) ∙ z in
      record { block = c; from = a; is = i; source = subst (λ m. slice_get f.blocks m ≡ Some a) w there; pred = q ∙ ap Some (sym id) }

  arrives : (b k : ℕ) (e : Edge) → slice_get (edges_to (laid f) b) k ≡ Some e → Arrives b k e
  arrives b k e at = go (index_map (edges_of (place_in (block_ids f.blocks)) f.blocks) [] f.blocks b)
    where
      go : ((c : BlockRecord) × (slice_get f.blocks b ≡ Some c) × (edges_to (laid f) b ≡ edges_of (place_in (block_ids f.blocks)) f.blocks c)) ⊎
          ((slice_get f.blocks b ≡ None) × (edges_to (laid f) b ≡ [])) → Arrives b k e
      go (inl (c, i, is)) = edge_in b k e c i (sym (ap (λ es. slice_get es k) is) ∙ at)
      go (inr (i, is)) = absurd (let q : None ≡ Some e = sym (ap (λ es. slice_get es k) is) ∙ at in cc)

  -- ---- paths are walks
  record Follows (b : ℕ) (w : List ℕ) : Type 0 where
    block : BlockRecord
    before : List BlockRecord
    at : slice_get f.blocks b ≡ Some block
    walk : Walk f (block ∷ before)
    along : (c : BlockRecord) → In c (block ∷ before) → (p : ℕ) × In p (b ∷ w) × (slice_get f.blocks p ≡ Some c)

  leads : (a c : BlockRecord) (k : ℕ) → HasBlock f a → HasBlock f c → slice_get c.preds k ≡ Some a.id → Contains a.succs c.id
  leads a c k i j e =
      let m = edges_meet s f (h.kinds Control) (h.kinds Missing) a c i j in
      let l = slice_get_within c.preds k a.id e in
      let one = one_counted (λ x. x == a.id) c.preds k a.id l (eq-eqb (get_or c.preds k a.id) a.id (get_or_from_slice_get c.preds k a.id a.id e)) in
      found a.succs (omega (arith, m, one))
    where
      found : (ss : List ℕ) → 0 < count_by (λ x. x == c.id) ss → Contains ss c.id
      found ss l =
          let within = counted_at (λ x. x == c.id) ss l in
          (position_or_len (λ x. x == c.id) ss, within, eqb-true (get_or ss (position_or_len (λ x. x == c.id) ss) c.id) c.id (passes_at_first (λ x. x == c.id) ss c.id within))

  stepped : (b k : ℕ) (e : Edge) (w : List ℕ) → Follows e.from w → Arrives b k e → Follows b (e.from ∷ w)
  stepped b k e w r a =
      let same : r.block ≡ a.from = some_same (slice_get f.blocks e.from) r.block a.from r.at a.source in
      let i = contains_at f.blocks b a.block a.is in
      let j = contains_at f.blocks e.from r.block r.at in
      let pred : slice_get a.block.preds k ≡ Some r.block.id = a.pred ∙ ap (λ (x : BlockRecord). Some x.id) (sym same) in
      record { block = a.block; before = r.block ∷ r.before; at = a.is; walk = walked r.block a.block r.before r.walk i (leads r.block a.block k j i pred); along = go }
    where
      go : (c : BlockRecord) → In c (a.block ∷ r.block ∷ r.before) → (p : ℕ) × In p (b ∷ e.from ∷ w) × (slice_get f.blocks p ≡ Some c)
      go c (inl q) = (b, inl refl, a.is ∙ ap Some q)
      go c (inr q) = (let (p, o, u) = r.along c q in (p, inr o, u))

  follows : (b : ℕ) (w : List ℕ) → Path (laid f) every (b ∷ w) → Follows b w
  follows _ _ (start c e) = record { block = c; before = []; at = e; walk = entered c e; along = go }
    where
      go : (d : BlockRecord) → In d (c ∷ []) → (p : ℕ) × In p (0 ∷ []) × (slice_get f.blocks p ≡ Some d)
      go d (inl q) = (0, inl refl, e ∙ ap Some q)
      go d (inr i) = elim i [ ]
  follows _ _ (step b k e w path at on) = stepped b k e w (follows e.from w path) (arrives b k e at)

  -- what is defined at the end of a block is met on each path to it
  met_number : (b x : ℕ) (w : List ℕ) (r : Follows b w) → IsDefinedAt f r.block x → (p : ℕ) × In p (b ∷ w) × Named x p
  met_number b x w r d =
      let (c, i, (u, j, q)) = d r.before r.walk in
      let (p, o, e) = r.along c (to_in c (r.block ∷ r.before) i) in
      (p, o, named_at c u x p e j q)

  met_at : (b x q : ℕ) (w : List ℕ) (r : Follows b w) → IsDefinedAt f r.block x → ((z : ℕ) → position (λ y. y == x) (value_ids (nodes_from 0 f.blocks)) ≡ Some z → z ≡ q) → Meets (laid f) (b ∷ w) q
  met_at b x q w r d is =
      let (p, o, n) = met_number b x w r d in
      let z : n.place ≡ q = is n.place n.first in
      (n.node, subst (λ k. slice_get (nodes_from 0 f.blocks) k ≡ Some n.node) z n.is, subst (λ k. In k (b ∷ w)) (sym n.block) o)

  -- ---- arguments
  args_are : (p : ℕ) (n : NodeRecord) → slice_get (nodes_from 0 f.blocks) p ≡ Some n → args_of (laid f) p ≡ map (place_in (value_ids (nodes_from 0 f.blocks))) n.value.args
  args_are p n i = mapped_or (λ (m : NodeRecord). map (place_in (value_ids (nodes_from 0 f.blocks))) m.value.args) [] (nodes_from 0 f.blocks) p n i

  arg_number : (p k q : ℕ) (n : NodeRecord) → slice_get (nodes_from 0 f.blocks) p ≡ Some n → slice_get (args_of (laid f) p) k ≡ Some q →
      (x : ℕ) × (slice_get n.value.args k ≡ Some x) × (place_in (value_ids (nodes_from 0 f.blocks)) x ≡ q)
  arg_number p k q n i e = got_map (place_in (value_ids (nodes_from 0 f.blocks))) n.value.args k q (sym (ap (λ xs. slice_get xs k) (args_are p n i)) ∙ e)

  uses : (p k q b : ℕ) (n : NodeRecord) (w : List ℕ) → slice_get (nodes_from 0 f.blocks) p ≡ Some n → n.block ≡ b → is_phi n.value.op.family ≡ false → slice_get (args_of (laid f) p) k ≡ Some q →
      Path (laid f) every (b ∷ w) → Meets (laid f) (b ∷ w) q
  uses p k q b n w i d e a path =
      let r = follows b w path in
      let (x, g, z) = arg_number p k q n i a in
      let v = node_value p b n r.block i d r.at in
      let defined = ((h.kinds Use r.block v.0).value n.value v.1).here (no_phi n.value e) x (contains_at n.value.args k x g) in
      met_at b x q w r defined (λ y u. sym (past_some (position (λ y. y == x) (value_ids (nodes_from 0 f.blocks))) y u) ∙ z)

  sources : (p k q b : ℕ) (n : NodeRecord) (e : Edge) (w : List ℕ) → slice_get (nodes_from 0 f.blocks) p ≡ Some n → n.block ≡ b → is_phi n.value.op.family ≡ true →
      slice_get (args_of (laid f) p) k ≡ Some q → slice_get (edges_to (laid f) b) k ≡ Some e → Path (laid f) every (e.from ∷ w) → Meets (laid f) (e.from ∷ w) q
  sources p k q b n e w i d t a at path =
      let r = follows e.from w path in
      let y = arrives b k e at in
      let (x, g, z) = arg_number p k q n i a in
      let v = node_value p b n y.block i d y.is in
      let same : y.from ≡ r.block = some_same (slice_get f.blocks e.from) y.from r.block y.source r.at in
      let pred : slice_get y.block.preds k ≡ Some r.block.id = y.pred ∙ ap (λ (x : BlockRecord). Some x.id) same in
      let defined = ((h.kinds Use y.block v.0).value n.value v.1).before (phi_is n.value t) k x r.block g pred (contains_at f.blocks e.from r.block r.at) in
      met_at e.from x q w r defined (λ y u. sym (past_some (position (λ y. y == x) (value_ids (nodes_from 0 f.blocks))) y u) ∙ z)

  controls : (b p : ℕ) (w : List ℕ) → control_of (laid f) b ≡ Some p → Path (laid f) every (b ∷ w) → Meets (laid f) (b ∷ w) p
  controls b p w e path = go r.block.control refl (sym (mapped_or (λ (c : BlockRecord). control_in (value_ids (nodes_from 0 f.blocks)) c.control) None f.blocks b r.block r.at) ∙ e)
    where
      r : Follows b w
      r = follows b w path

      go : (o : Option ℕ) → r.block.control ≡ o → control_in (value_ids (nodes_from 0 f.blocks)) r.block.control ≡ Some p → Meets (laid f) (b ∷ w) p
      go None d z = absurd (let q : None ≡ Some p = sym (ap (control_in (value_ids (nodes_from 0 f.blocks))) d) ∙ z in cc)
      go (Some x) d z =
          let u : position (λ y. y == x) (value_ids (nodes_from 0 f.blocks)) ≡ Some p = sym (ap (control_in (value_ids (nodes_from 0 f.blocks))) d) ∙ z in
          let defined = (h.kinds Use r.block (contains_at f.blocks b r.block r.at)).block x d in
          met_at b x p w r defined (λ y v. some_same (position (λ y. y == x) (value_ids (nodes_from 0 f.blocks))) y p v u)

  -- ---- lengths
  edges_are : (b : ℕ) (c : BlockRecord) → slice_get f.blocks b ≡ Some c → length (edges_to (laid f) b) ≡ length c.preds
  edges_are b c i =
      ap length (mapped_or (edges_of (place_in (block_ids f.blocks)) f.blocks) [] f.blocks b c i)
      ∙ (edges_length f.blocks c.id [] (map (place_in (block_ids f.blocks)) c.preds) ∙ length-map c.preds (place_in (block_ids f.blocks)))

  args_length : (p : ℕ) (n : NodeRecord) → slice_get (nodes_from 0 f.blocks) p ≡ Some n → length (args_of (laid f) p) ≡ length n.value.args
  args_length p n i = ap length (args_are p n i) ∙ length-map n.value.args (place_in (value_ids (nodes_from 0 f.blocks)))

  arity : (p b : ℕ) (n : NodeRecord) → slice_get (nodes_from 0 f.blocks) p ≡ Some n → n.block ≡ b → is_phi n.value.op.family ≡ true → length (args_of (laid f) p) ≡ length (edges_to (laid f) b)
  arity p b n i d t =
      let r = node_there 0 f.blocks p n i in
      let z : r.place ≡ b = (let y = r.is in omega (arith, y, d)) in
      let e : slice_get f.blocks b ≡ Some r.block = subst (λ k. slice_get f.blocks k ≡ Some r.block) z r.there in
      let j = contains_at f.blocks b r.block e in
      args_length p n i ∙ (phi_arity s f r.block n.value ((h.kinds Arity r.block j).value n.value r.value) (phi_is n.value t) ∙ sym (edges_are b r.block e))

  entry : length (edges_to (laid f) 0) ≡ 0
  entry = go (index_map (edges_of (place_in (block_ids f.blocks)) f.blocks) [] f.blocks 0)
    where
      go : ((c : BlockRecord) × (slice_get f.blocks 0 ≡ Some c) × (edges_to (laid f) 0 ≡ edges_of (place_in (block_ids f.blocks)) f.blocks c)) ⊎
          ((slice_get f.blocks 0 ≡ None) × (edges_to (laid f) 0 ≡ [])) → length (edges_to (laid f) 0) ≡ 0
      go (inl (c, i, is)) = edges_are 0 c i ∙ ap length ((h.kinds Control c (contains_at f.blocks 0 c i)).block.entry i)
      go (inr (i, is)) = ap length is

  ends : (b k : ℕ) (e : Edge) → slice_get (edges_to (laid f) b) k ≡ Some e → slice_get f.blocks b ≡ None → ⊥
  ends b k e at none = (let a = arrives b k e at in absurd (let q : None ≡ Some a.block = sym none ∙ a.is in cc))

  -- ---- ranks
  rank_of : Option NodeRecord → ℕ
  rank_of None = 0
  rank_of (Some n) = depth f n.value.id

  rank_at : ℕ → ℕ
  rank_at p = rank_of (slice_get (nodes_from 0 f.blocks) p)

  rank_is : (p : ℕ) (n : NodeRecord) → slice_get (nodes_from 0 f.blocks) p ≡ Some n → rank_at p ≡ depth f n.value.id
  unfolding rank_at rank_of
  rank_is p n i = ap rank_of i

  falls : (p q b : ℕ) (n : NodeRecord) (w : List ℕ) → slice_get (nodes_from 0 f.blocks) p ≡ Some n → n.block ≡ b → Path (laid f) every (b ∷ w) → is_passed n.value.op.family ≡ true →
      slice_get (args_of (laid f) p) 0 ≡ Some q → rank_at q < rank_at p
  falls p q b n w i d path c a =
      let r = follows b w path in
      let (x, g, z) = arg_number p 0 q n i a in
      let v = node_value p b n r.block i d r.at in
      let out = no_phi n.value (passed_no_phi n c) in
      let less = (argument_falls s f so r.block n.value v (r.before, r.walk) out x (to_in x n.value.args (contains_at n.value.args 0 x g))).1 in
      let defined = ((h.kinds Use r.block v.0).value n.value v.1).here out x (contains_at n.value.args 0 x g) in
      let (y, o, m) = met_number b x w r defined in
      let at : m.place ≡ q = sym (past_some (position (λ y. y == x) (value_ids (nodes_from 0 f.blocks))) m.place m.first) ∙ z in
      let one = rank_is p n i in
      let two : rank_at q ≡ depth f m.node.value.id = rank_is q m.node (subst (λ k. slice_get (nodes_from 0 f.blocks) k ≡ Some m.node) at m.is) in
      let three : depth f m.node.value.id ≡ depth f x = ap (depth f) m.number in
      omega (arith, less, one, two, three)

  -- ---- the places of values
  once : (n : ℕ) → count_by (λ x. x == n) (value_ids (nodes_from 0 f.blocks)) ≤ 1
  once n = go (count_by (λ x. x == n) (value_ids (nodes_from 0 f.blocks))) refl
    where
      bears : (k : ℕ) → slice_get (value_ids (nodes_from 0 f.blocks)) k ≡ Some n → count_by (λ x. x == n) (value_ids (nodes_from 0 f.blocks)) ≡ 1
      bears k e =
          let (m, i, z) = got_map (λ (m : NodeRecord). m.value.id) (nodes_from 0 f.blocks) k n e in
          let b = node_there 0 f.blocks k m i in
          let j = (h.kinds Missing b.block (contains_at f.blocks b.place b.block b.there)).value m.value b.value in
          count_nodes 0 n f.blocks ∙ value_counted f n (subst (λ y. IsValueNumber f y) z j.own)

      go : (c : ℕ) → count_by (λ x. x == n) (value_ids (nodes_from 0 f.blocks)) ≡ c → count_by (λ x. x == n) (value_ids (nodes_from 0 f.blocks)) ≤ 1
      go zero e = omega (arith, e)
      go (suc c) e =
          let l = counted_at (λ x. x == n) (value_ids (nodes_from 0 f.blocks)) (omega (arith, e)) in
          let k : ℕ = position_or_len (λ x. x == n) (value_ids (nodes_from 0 f.blocks)) in
          let is : get_or (value_ids (nodes_from 0 f.blocks)) k n ≡ n = eqb-true (get_or (value_ids (nodes_from 0 f.blocks)) k n) n (passes_at_first (λ x. x == n) (value_ids (nodes_from 0 f.blocks)) n l) in
          let one = bears k (slice_get-get_or (value_ids (nodes_from 0 f.blocks)) k n l ∙ ap Some is) in
          omega (arith, one)

  below : (limit : ℕ) → greatest_value f < limit → (n : ℕ) → In n (value_ids (nodes_from 0 f.blocks)) → n < limit
  below limit l n i =
      let (k, g) = at_contains (value_ids (nodes_from 0 f.blocks)) n (to_contains n (value_ids (nodes_from 0 f.blocks)) i) in
      let (m, j, z) = got_map (λ (m : NodeRecord). m.value.id) (nodes_from 0 f.blocks) k n g in
      let b = node_there 0 f.blocks k m j in
      let w = within_greatest f b.block m.value (to_in b.block f.blocks (contains_at f.blocks b.place b.block b.there)) (to_in m.value b.block.values b.value) in
      omega (arith, w, z, l)

  few : (limit : ℕ) → greatest_value f < limit → length (nodes_from 0 f.blocks) ≤ limit
  few limit l =
      let a = few_below limit (value_ids (nodes_from 0 f.blocks)) once (below limit l) in
      let z = length-map (nodes_from 0 f.blocks) (λ (m : NodeRecord). m.value.id) in
      omega (arith, a, z)

  nodes : greatest_value f < 4000000000 → (b k : ℕ) (c : BlockRecord) (v : ValueRecord) → slice_get f.blocks b ≡ Some c → slice_get c.values k ≡ Some v →
      slice_get (nodes_from 0 f.blocks) (behind (offset_of (laid f) b) k) ≡ Some (node_at b v)
  unfolding behind
  nodes l b k c v i e =
      let (q, z, g) = at_offset 0 0 f.blocks b k c v (length (nodes_from 0 f.blocks)) i e in
      let w = slice_get_within (nodes_from 0 f.blocks) (q + k) (node_at (0 + b) v) g in
      let m = few 4000000000 l in
      let y : min (offset_of (laid f) b + k) 18446744073709551615 ≡ q + k = omega (arith, w, m, z) in
      let x : 0 + b ≡ b = omega arith in
      ap (slice_get (nodes_from 0 f.blocks)) y ∙ (g ∙ ap (λ j. Some (node_at j v)) x)

  pub orderly_laid : greatest_value f < 4000000000 → Orderly (laid f)
  orderly_laid l = record {
    uses = uses;
    sources = sources;
    control = controls;
    arity = arity;
    entry = entry;
    ends = ends;
    rank = rank_at;
    falls = falls;
    nodes = nodes l;
    args = args_length;
  }

pub orderly : (f : FuncRecord) → IsGiven f → Orderly (tables_of f)
unfolding tables_of
orderly f g = orderly_laid g.setting f g.formed g.values
