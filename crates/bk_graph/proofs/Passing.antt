-- Copies and nil checks yield, and the facts begin.
use Rattle.std.proofs.Common.{◌≡◌, ◌≢◌, ◌∙◌, sym, refl, ap, subst, ℕ, ◌+◌, ◌<◌, ◌≤◌, Bool, true, false, List, [], length, Option, Some, None, ◌⊎◌, inl, inr, arith, replicate, nat_lt}
use Rattle.std.specs.Prelude.{slice_get, slice_index_or, if◌then◌else◌}
use Rattle.std.proofs.lemmas.Bool.{cases_eq, cases_lt, lt-ltb}
use Rattle.std.proofs.lemmas.List.{get_or_past, get_or-replicate, length-replicate}
use Rattle.std.proofs.lemmas.Option.{slice_get_within, slice_get_past}
use Rattle.bk_ops.specs.declared.family.Family.{Family}
use Rattle.bk_ops.specs.declared.family.Family.TheVariants as op
use Rattle.bk_graph.specs.declared.graph.Edge.{Edge}
use Rattle.bk_graph.specs.Clean.{is_phi}
use Rattle.bk_graph.specs.Facts.{edge_stays}
use Rattle.bk_graph.specs.Kinds.{is_passed}
use Rattle.bk_graph.specs.Known.{Stands, itself, passed, Known, unreached, none}
use Rattle.bk_graph.specs.Nodes.{NodeRecord}
use Rattle.bk_graph.specs.Roots.{root_of, relabelled}
use Rattle.bk_graph.specs.Settling.{facts_in, IsSettling, is_passed_at, if_below, first_of, ArePassed, Yields}
use Rattle.bk_graph.specs.Tables.{Tables, edges_to, args_of}
use Rattle.bk_graph.proofs.Ruling.{is_false, standing_on}
use Rattle.bk_graph.proofs.Yielding.{renamed_same, renamed_other, all_now}

pub passed_none : (t : Tables) (rs : List ℕ) → length rs ≡ length t.nodes → ((p : ℕ) → root_of rs p ≡ p) → ArePassed t rs 0
passed_none t rs size own = record {
  size = size;
  stands = λ stays p. (let P : ℕ → Type 0 = λ z. Stands t stays p z in subst P (sym (own p)) (itself p));
  passed = λ p q l e. absurd (omega (arith, l));
  own = λ p l. own p;
  others = λ p e. own p;
  flat = λ p. own (root_of rs p);
  within = λ p l. (let P : ℕ → Type 0 = λ z. z < length t.nodes in subst P (sym (own p)) l);
}

-- a value that is no copy stays
pub passed_past : (t : Tables) (rs : List ℕ) (p : ℕ) → ArePassed t rs p → first_of t p ≡ None → ArePassed t rs (p + 1)
passed_past t rs p a e = record {
  size = a.size;
  stands = a.stands;
  passed = λ q r l d. go q r d (cases_eq q p) l;
  own = λ q l. a.own q (omega (arith, l));
  others = a.others;
  flat = a.flat;
  within = a.within;
}
  where
    go : (q r : ℕ) → first_of t q ≡ Some r → (q ≡ p) ⊎ (q ≢ p) → q < p + 1 → root_of rs q ≡ root_of rs r
    go q r d (inl z) l = (let x : ◌≡◌ {A = Option ℕ} None (Some r) = sym (ap (first_of t) z ∙ e) ∙ d in absurd cc)
    go q r d (inr n) l = a.passed q r (omega (arith, l, n)) d

-- what is first of a copy

module _ (t : Tables) (p q : ℕ) where
  in_count : (n : ℕ) (o : Option ℕ) → if_below n o ≡ Some q → (o ≡ Some q) × (q < n)
  in_count n None e = let x : ◌≡◌ {A = Option ℕ} None (Some q) = e in absurd cc
  in_count n (Some r) e = go (cases_lt r n)
    where
      go : (r < n) ⊎ (n ≤ r) → (Some r ≡ Some q) × (q < n)
      go (inl l) =
          let x : Some r ≡ Some q = rw (lt-ltb r n l) at e in
          let y : r ≡ q = cc in
          (x, let P : ℕ → Type 0 = λ z. z < n in subst P y l)
      go (inr l) =
          let f : nat_lt r n ≡ false = is_false (nat_lt r n) (λ z. over r n z l) in
          let x : ◌≡◌ {A = Option ℕ} None (Some q) = rw f at e in
          absurd cc
        where
          over : (r n : ℕ) → nat_lt r n ≡ true → n ≤ r → ⊥
          over r n z l = absurd (grind (arith, z, l))

  by_node : (o : Option NodeRecord) → (if is_passed_at o then if_below (length t.nodes) (slice_get (args_of t p) 0) else None) ≡ Some q
      → (n : NodeRecord) × (o ≡ Some n) × (is_passed n.value.op.family ≡ true) × (slice_get (args_of t p) 0 ≡ Some q) × (q < length t.nodes)
  by_node None e = let x : ◌≡◌ {A = Option ℕ} None (Some q) = e in absurd cc
  by_node (Some n) e = go (is_passed n.value.op.family) refl e
    where
      go : (z : Bool) → is_passed n.value.op.family ≡ z → (if z then if_below (length t.nodes) (slice_get (args_of t p) 0) else None) ≡ Some q
          → (m : NodeRecord) × (Some n ≡ Some m) × (is_passed m.value.op.family ≡ true) × (slice_get (args_of t p) 0 ≡ Some q) × (q < length t.nodes)
      go true d e = let x = in_count (length t.nodes) (slice_get (args_of t p) 0) e in (n, refl, d, x.0, x.1)
      go false d e = let x : ◌≡◌ {A = Option ℕ} None (Some q) = e in absurd cc

  pub first_is : first_of t p ≡ Some q → (n : NodeRecord) × (slice_get t.nodes p ≡ Some n) × (is_passed n.value.op.family ≡ true) × (slice_get (args_of t p) 0 ≡ Some q) × (q < length t.nodes)
  first_is e = by_node (slice_get t.nodes p) e

  pub is_first : (n : NodeRecord) → slice_get t.nodes p ≡ Some n → is_passed n.value.op.family ≡ true → slice_get (args_of t p) 0 ≡ Some q → q < length t.nodes → first_of t p ≡ Some q
  is_first n i c e l =
      ap (λ (o : Option NodeRecord). if is_passed_at o then if_below (length t.nodes) (slice_get (args_of t p) 0) else None) i
      ∙ ap (λ (z : Bool). if z then if_below (length t.nodes) (slice_get (args_of t p) 0) else None) c
      ∙ ap (if_below (length t.nodes)) e ∙ ap (λ (z : Bool). if z then Some q else None) (lt-ltb q (length t.nodes) l)

-- a copy yields to what stands for its first argument
module _ (t : Tables) (rs ns : List ℕ) (p q : ℕ) (a : ArePassed t rs p) (l : p < length t.nodes) (e : first_of t p ≡ Some q) (y : Yields rs ns p (root_of rs q)) where
  abbrev o : ℕ
  o = root_of rs q

  now : (r : ℕ) → root_of ns r ≡ relabelled p o (root_of rs r)
  now = all_now rs ns p o (let s = a.size in omega (arith, l, s)) y

  own_p : root_of rs p ≡ p
  own_p = a.own p (omega arith)

  o_now : root_of ns o ≡ o
  o_now = go (cases_eq o p)
    where
      go : (o ≡ p) ⊎ (o ≢ p) → root_of ns o ≡ o
      go (inl z) = now o ∙ renamed_same p o (root_of rs o) (a.flat q ∙ z)
      go (inr n) = now o ∙ renamed_other p o (root_of rs o) (λ z. n (sym (a.flat q) ∙ z)) ∙ a.flat q

  to_first : (stays : Edge → Bool) → Stands t stays p o
  to_first stays = (let f = first_is t p q e in passed p q o f.0 f.1 f.2 f.3 f.4 (a.stands stays q))

  moved : (P : ℕ → ℕ → Type 0) (r : ℕ) → (root_of rs r ≡ p → P r o) → (root_of rs r ≢ p → P r (root_of rs r)) → P r (root_of ns r)
  moved P r here away = go (cases_eq (root_of rs r) p)
    where
      go : (root_of rs r ≡ p) ⊎ (root_of rs r ≢ p) → P r (root_of ns r)
      go (inl z) = subst (λ (x : ℕ). P r x) (sym (now r ∙ renamed_same p o (root_of rs r) z)) (here z)
      go (inr n) = subst (λ (x : ℕ). P r x) (sym (now r ∙ renamed_other p o (root_of rs r) n)) (away n)

  pub passed_on : ArePassed t ns (p + 1)
  passed_on = record {
    size = y.size ∙ a.size;
    stands = λ stays r. moved (λ m x. Stands t stays m x) r
        (λ z. standing_on t stays r p o (let P : ℕ → Type 0 = λ x. Stands t stays r x in subst P z (a.stands stays r)) (to_first stays)) (λ n. a.stands stays r);
    passed = λ r s g d. each r s d (cases_eq r p) g;
    own = λ r g. now r ∙ renamed_other p o (root_of rs r) (λ z. (let w = a.own r (omega (arith, g)) in absurd (omega (arith, w, z, g)))) ∙ a.own r (omega (arith, g));
    others = λ r d. now r ∙ renamed_other p o (root_of rs r) (λ z. other_apart r d (sym (a.others r d) ∙ z)) ∙ a.others r d;
    flat = λ r. moved (λ m x. root_of ns x ≡ x) r (λ z. o_now) (λ n. now (root_of rs r) ∙ ap (relabelled p o) (a.flat r) ∙ renamed_other p o (root_of rs r) n);
    within = λ r g. moved (λ m x. x < length t.nodes) r (λ z. let f = first_is t p q e in a.within q f.4) (λ n. a.within r g);
  }
    where
      other_apart : (r : ℕ) → first_of t r ≡ None → r ≡ p → ⊥
      other_apart r d z = (let x : ◌≡◌ {A = Option ℕ} None (Some q) = sym d ∙ ap (first_of t) z ∙ e in absurd cc)

      each : (r s : ℕ) → first_of t r ≡ Some s → (r ≡ p) ⊎ (r ≢ p) → r < p + 1 → root_of ns r ≡ root_of ns s
      each r s d (inl z) g =
          let x : Some q ≡ Some s = sym e ∙ ap (first_of t) (sym z) ∙ d in
          let w : q ≡ s = cc in
          now r ∙ renamed_same p o (root_of rs r) (ap (root_of rs) z ∙ own_p) ∙ sym (ap (root_of ns) (sym w) ∙ now q ∙ last (cases_eq o p))
        where
          last : (o ≡ p) ⊎ (o ≢ p) → relabelled p o o ≡ o
          last (inl z) = renamed_same p o o z
          last (inr n) = renamed_other p o o n
      each r s d (inr n) g = now r ∙ ap (relabelled p o) (a.passed r s (omega (arith, g, n)) d) ∙ sym (now s)

-- the first facts

phi_family : (x : Family) → is_phi x ≡ true → is_passed x ≡ false
phi_family op.Phi e = refl
phi_family _ e = let z : false ≡ true = e in absurd cc

abbrev nothing : Option ℕ
nothing = None

read_none : (n b : ℕ) → slice_index_or (replicate n nothing) b None ≡ None
read_none n b = go (cases_lt b n)
  where
    go : (b < n) ⊎ (n ≤ b) → slice_index_or (replicate n nothing) b None ≡ None
    go (inl l) = get_or-replicate n b None None l
    go (inr l) = (let z = length-replicate n nothing in get_or_past (replicate n nothing) b None (omega (arith, l, z)))

edge_within : (t : Tables) (b k : ℕ) (e : Edge) → slice_get (edges_to t b) k ≡ Some e → b < length t.edges
edge_within t b k e i = go (cases_lt b (length t.edges))
  where
    go : (b < length t.edges) ⊎ (length t.edges ≤ b) → b < length t.edges
    go (inl l) = l
    go (inr l) =
        let x : edges_to t b ≡ [] = get_or_past t.edges b [] l in
        let y : ◌≡◌ {A = Option Edge} None (Some e) = ap (λ (es : List Edge). slice_get es k) (sym x) ∙ i in
        absurd cc

pub beginning : (t : Tables) (rs : List ℕ) → length t.edges ≡ length t.blocks → ArePassed t rs (length t.nodes)
    → IsSettling t (facts_in (replicate (length t.blocks) None) (replicate (length t.blocks) true) rs)
beginning t rs shape a = record {
  unreached = λ b e. lost b e (cases_lt b (length t.blocks));
  taken = λ b k e. (let z = read_none (length t.blocks) b in let x : ◌≡◌ {A = Option ℕ} None (Some k) = sym z ∙ e in absurd cc);
  root = λ p. a.stands (edge_stays (facts_in (replicate (length t.blocks) None) (replicate (length t.blocks) true) rs)) p;
  entry = λ c i. get_or-replicate (length t.blocks) 0 true false (slice_get_within t.blocks 0 c i);
  onward = λ b k e i s. (let l = edge_within t b k e i in get_or-replicate (length t.blocks) b true false (omega (arith, l, shape)));
  goes = λ b k e. (let z = read_none (length t.blocks) b in let x : ◌≡◌ {A = Option ℕ} None (Some k) = sym z ∙ e in absurd cc);
  passed = λ p q n i c e l. a.passed p q (slice_get_within t.nodes p n i) (is_first t p q n i c e l);
  flat = a.flat;
  within = a.within;
  yielded = λ p k x n i c m w. absurd (m (a.others p (no_first p n i c)));
}
  where
    lost : (b : ℕ) → slice_index_or (replicate (length t.blocks) true) b false ≡ false → (b < length t.blocks) ⊎ (length t.blocks ≤ b) → Known t (unreached b)
    lost b e (inl l) = (let z = get_or-replicate (length t.blocks) b true false l in absurd cc)
    lost b e (inr l) = none b (slice_get_past t.blocks b l)

    no_first : (p : ℕ) (n : NodeRecord) → slice_get t.nodes p ≡ Some n → is_phi n.value.op.family ≡ true → first_of t p ≡ None
    no_first p n i c =
        ap (λ (o : Option NodeRecord). if is_passed_at o then if_below (length t.nodes) (slice_get (args_of t p) 0) else None) i
        ∙ ap (λ (z : Bool). if z then if_below (length t.nodes) (slice_get (args_of t p) 0) else None) (phi_family n.value.op.family c)
