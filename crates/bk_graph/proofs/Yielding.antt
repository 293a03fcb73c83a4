-- What is kept where a phi yields.
use Rattle.std.proofs.Common.{◌≡◌, ◌≢◌, ◌∙◌, sym, refl, ap, subst, ℕ, ◌<◌, ◌≤◌, ◌==◌, Bool, true, false, List, length, Option, Some, None, ◌⊎◌, inl, inr, arith, eq-eqb, get_or, ℤ}
use Rattle.std.specs.Prelude.{slice_get, if◌then◌else◌, option_map}
use Rattle.std.proofs.lemmas.Bool.{cases_eq, cases_lt, eqb-true}
use Rattle.std.proofs.lemmas.List.{get_or_past}
use Rattle.std.proofs.lemmas.Option.{slice_get_within, get_or_from_slice_get}
use Rattle.bk_ops.specs.declared.family.Family.{Family}
use Rattle.bk_ops.specs.declared.family.Family.TheVariants as op
use Rattle.bk_func.specs.declared.parts.Kind.{Kind}
use Rattle.bk_func.specs.declared.parts.Kind.TheVariants as kind
use Rattle.bk_func.specs.Records.{BlockRecord}
use Rattle.bk_graph.specs.declared.graph.Edge.{Edge}
use Rattle.bk_graph.specs.Clean.{is_phi, place_taken}
use Rattle.bk_graph.specs.Cleaned.{truth_at, goes_if, goes_by, goes_at}
use Rattle.bk_graph.specs.Facts.{edge_stays}
use Rattle.bk_graph.specs.Kinds.{truth_of}
use Rattle.bk_graph.specs.Known.{stays_there, TakesOver, Stands, phi}
use Rattle.bk_graph.specs.Nodes.{NodeRecord}
use Rattle.bk_graph.specs.Roots.{root_of, relabelled}
use Rattle.bk_graph.specs.Settling.{facts_in, IsSettling, TakesOne, Yields}
use Rattle.bk_graph.specs.Tables.{Tables, edges_to, args_of, control_of}
use Rattle.bk_graph.proofs.Ruling.{is_false, standing_on}

pub renamed_same : (p o r : ℕ) → r ≡ p → relabelled p o r ≡ o
renamed_same p o r e = rw (eq-eqb r p e) refl

pub renamed_other : (p o r : ℕ) → ¬ (r ≡ p) → relabelled p o r ≡ r
renamed_other p o r n = rw (is_false (r == p) (λ t. n (eqb-true r p t))) refl

-- the value that a number is of two
chosen : (P : ℕ → Type 0) (r p o : ℕ) → ¬ (o ≡ p) → (r ≡ p) ⊎ (r ≡ o) → P r → P (if r == p then p else o)
chosen P r p o n (inl e) x = (let s : (if r == p then p else o) ≡ p = rw (eq-eqb r p e) refl in subst P (e ∙ sym s) x)
chosen P r p o n (inr e) x = (let s : (if r == p then p else o) ≡ o = rw (is_false (r == p) (λ t. n (sym e ∙ eqb-true r p t))) refl in subst P (e ∙ sym s) x)

phi_family : (x : Family) → is_phi x ≡ true → x ≡ op.Phi
phi_family op.Phi e = refl
phi_family _ e = let z : false ≡ true = e in absurd cc

phi_truth : (x : Family) (int : ℤ) → is_phi x ≡ true → truth_of x int ≡ None
phi_truth x int e = ap (λ (y : Family). truth_of y int) (phi_family x e)

-- roots after a value has come to stand for another
pub all_now : (rs ns : List ℕ) (p o : ℕ) → p < length rs → Yields rs ns p o → (q : ℕ) → root_of ns q ≡ relabelled p o (root_of rs q)
all_now rs ns p o l y q = go (cases_lt q (length rs))
  where
    go : (q < length rs) ⊎ (length rs ≤ q) → root_of ns q ≡ relabelled p o (root_of rs q)
    go (inl g) = y.each q g
    go (inr g) =
        let a : root_of rs q ≡ q = get_or_past rs q q g in
        let s = y.size in
        let b : root_of ns q ≡ q = get_or_past ns q q (omega (arith, g, s)) in
        b ∙ sym a ∙ sym (renamed_other p o (root_of rs q) (λ e. absurd (omega (arith, a, e, g, l))))

module _ (t : Tables) (ts : List (Option ℕ)) (bs : List Bool) (rs ns : List ℕ) (h : IsSettling t (facts_in ts bs rs)) (size : length rs ≡ length t.nodes) (p o : ℕ)
    (one : TakesOne t (facts_in ts bs rs) p o) (y : Yields rs ns p o) where
  abbrev S : Edge → Bool
  S = edge_stays (facts_in ts bs rs)

  there : p < length rs
  there = let l = slice_get_within t.nodes p one.node one.is in omega (arith, l, size)

  now : (q : ℕ) → root_of ns q ≡ relabelled p o (root_of rs q)
  now = all_now rs ns p o there y

  arg_there : one.one.arg < length t.nodes
  arg_there = go (cases_lt one.one.arg (length rs))
    where
      go : (one.one.arg < length rs) ⊎ (length rs ≤ one.one.arg) → one.one.arg < length t.nodes
      go (inl l) = omega (arith, l, size)
      go (inr g) =
          let a : root_of rs one.one.arg ≡ one.one.arg = get_or_past rs one.one.arg one.one.arg g in
          let b : root_of rs one.one.arg ≡ o = one.one.root in
          let w = one.within in
          absurd (omega (arith, a, b, w, g, size))

  to_other : Stands t S p o
  to_other =
      phi p one.one.place one.one.arg o one.node (λ j. root_of rs (get_or (args_of t p) j 0) == p) one.is one.phi one.one.there arg_there
      (let P : ℕ → Type 0 = λ z. Stands t S one.one.arg z in subst P one.one.root (h.root one.one.arg))
      (λ j x a.
      let P : ℕ → Type 0 = λ z. Stands t S x (if root_of rs z == p then p else o) in
      subst P (sym (get_or_from_slice_get (args_of t p) j x 0 a.arg)) (chosen (λ z. Stands t S x z) (root_of rs x) p o one.one.apart (one.one.all j x a.arg a.edge) (h.root x)))

  pub other_root : root_of rs o ≡ o
  other_root = (let P : ℕ → Type 0 = λ z. root_of rs z ≡ z in subst P one.one.root (h.flat one.one.arg))

  sound_now : (q : ℕ) → Stands t S q (root_of ns q)
  sound_now q = go (cases_eq (root_of rs q) p)
    where
      P : ℕ → Type 0
      P z = Stands t S q z

      go : (root_of rs q ≡ p) ⊎ (root_of rs q ≢ p) → Stands t S q (root_of ns q)
      go (inl e) = subst P (sym (now q ∙ renamed_same p o (root_of rs q) e)) (standing_on t S q p o (subst P e (h.root q)) to_other)
      go (inr n) = subst P (sym (now q ∙ renamed_other p o (root_of rs q) n)) (h.root q)

  flat_now : (q : ℕ) → root_of ns (root_of ns q) ≡ root_of ns q
  flat_now q = go (cases_eq (root_of rs q) p)
    where
      Q : ℕ → Type 0
      Q z = root_of ns z ≡ z

      go : (root_of rs q ≡ p) ⊎ (root_of rs q ≢ p) → root_of ns (root_of ns q) ≡ root_of ns q
      go (inl e) = subst Q (sym (now q ∙ renamed_same p o (root_of rs q) e)) (now o ∙ ap (relabelled p o) other_root ∙ renamed_other p o o one.one.apart)
      go (inr n) = subst Q (sym (now q ∙ renamed_other p o (root_of rs q) n)) (now (root_of rs q) ∙ ap (relabelled p o) (h.flat q) ∙ renamed_other p o (root_of rs q) n)

  within_now : (q : ℕ) → q < length t.nodes → root_of ns q < length t.nodes
  within_now q l = go (cases_eq (root_of rs q) p)
    where
      Q : ℕ → Type 0
      Q z = z < length t.nodes

      go : (root_of rs q ≡ p) ⊎ (root_of rs q ≢ p) → root_of ns q < length t.nodes
      go (inl e) = subst Q (sym (now q ∙ renamed_same p o (root_of rs q) e)) one.within
      go (inr n) = subst Q (sym (now q ∙ renamed_other p o (root_of rs q) n)) (h.within q l)

  goes_if_now : (k : ℕ) (c : Option ℕ) → goes_if t (root_of rs) c ≡ Some k → goes_if t (root_of ns) c ≡ Some k
  goes_if_now k None e = e
  goes_if_now k (Some c) e = go (cases_eq (root_of rs c) p)
    where
      go : (root_of rs c ≡ p) ⊎ (root_of rs c ≢ p) → goes_if t (root_of ns) (Some c) ≡ Some k
      go (inl q) =
          let a : option_map place_taken (truth_at (slice_get t.nodes (root_of rs c))) ≡ None =
          ap (λ (z : ℕ). option_map place_taken (truth_at (slice_get t.nodes z))) q ∙ ap (λ (z : Option NodeRecord). option_map place_taken (truth_at z)) one.is
          ∙ ap (option_map place_taken) (phi_truth one.node.value.op.family one.node.value.int one.phi) in
          let b : ◌≡◌ {A = Option ℕ} None (Some k) = sym a ∙ e in
          absurd cc
      go (inr n) = ap (λ (z : ℕ). option_map place_taken (truth_at (slice_get t.nodes z))) (now c ∙ renamed_other p o (root_of rs c) n) ∙ e

  goes_by_now : (k b : ℕ) (x : Kind) → goes_by t (root_of rs) (control_of t b) x ≡ Some k → goes_by t (root_of ns) (control_of t b) x ≡ Some k
  goes_by_now k b kind.If e = goes_if_now k (control_of t b) e
  goes_by_now k b kind.First e = e
  goes_by_now k b kind.Plain e = e
  goes_by_now k b kind.Ret e = e
  goes_by_now k b kind.Exit e = e

  goes_at_now : (k b : ℕ) (c : Option BlockRecord) → goes_at t (root_of rs) b c ≡ Some k → goes_at t (root_of ns) b c ≡ Some k
  goes_at_now k b None e = e
  goes_at_now k b (Some c) e = goes_by_now k b c.kind e

  yielded_now : (q k x : ℕ) (n : NodeRecord) → slice_get t.nodes q ≡ Some n → is_phi n.value.op.family ≡ true → root_of ns q ≢ q → TakesOver t S q n.block k x → root_of ns x ≡ root_of ns q
  yielded_now q k x n i c m a = go (cases_eq q p)
    where
      both : (root_of rs x ≡ p) ⊎ (root_of rs x ≡ o) → relabelled p o (root_of rs x) ≡ o
      both (inl e) = renamed_same p o (root_of rs x) e
      both (inr e) = renamed_other p o (root_of rs x) (λ b. one.one.apart (sym e ∙ b)) ∙ e

      before : q ≢ p → root_of rs q ≢ q
      before d e = m (now q ∙ renamed_other p o (root_of rs q) (λ b. d (sym e ∙ b)) ∙ e)

      go : (q ≡ p) ⊎ (q ≢ p) → root_of ns x ≡ root_of ns q
      go (inl e) =
          let z : Some n ≡ Some one.node = sym i ∙ ap (slice_get t.nodes) e ∙ one.is in
          let w : n ≡ one.node = cc in
          let A : slice_get (args_of t p) k ≡ Some x = ap (λ (d : ℕ). slice_get (args_of t d) k) (sym e) ∙ a.arg in
          let B : stays_there S (slice_get (edges_to t one.node.block) k) ≡ true = ap (λ (d : NodeRecord). stays_there S (slice_get (edges_to t d.block) k)) (sym w) ∙ a.edge in
          now x ∙ both (one.one.all k x A B) ∙ sym (now q ∙ renamed_same p o (root_of rs q) (ap (root_of rs) e ∙ one.own))
      go (inr d) = now x ∙ ap (relabelled p o) (h.yielded q k x n i c (before d) a) ∙ sym (now q)

  pub yielding : IsSettling t (facts_in ts bs ns)
  yielding = record {
    unreached = h.unreached;
    taken = h.taken;
    root = sound_now;
    entry = h.entry;
    onward = h.onward;
    goes = λ b k e. goes_at_now k b (slice_get t.blocks b) (h.goes b k e);
    passed = λ q r n i c e l. now q ∙ ap (relabelled p o) (h.passed q r n i c e l) ∙ sym (now r);
    flat = flat_now;
    within = within_now;
    yielded = yielded_now;
  }
