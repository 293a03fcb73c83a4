-- The blocks of a function go together with those after a rule was applied, where the numbers that were there are kept.
use Rattle.std.proofs.Common.{◌≡◌, ℕ, zero, suc, refl, ap, sym, ◌∙◌, subst, ◌⊎◌, inl, inr, List, [], ◌∷◌, ◌++◌, Option, Some, None, Bool, true, false, cond, ◌==◌}
use Rattle.std.specs.Prelude.{slice_get, find}
use Rattle.bk_func.specs.Records.{ValueRecord}
use Rattle.bk_func.specs.Numbers.{Origin, phi, argument, argument_word, result, address, loaded, checked, same, computed, origin_of, value_in}
use Rattle.bk_func.specs.Effects.{is_phi}
use Rattle.bk_func.specs.Meaning.{phi_by, number_named}
use Rattle.bk_func.proofs.Faults.{In}
use Rattle.bk_func.proofs.Kept.{IsQuiet, AllQuiet, Follow}
use Rattle.bk_refine_laws.specs.Visits.{after}

-- ---- lists of values, one of which is changed, and others come last
follow_more : (V : ValueRecord → ValueRecord → Type 0) (xs made : List ValueRecord) → ((u : ValueRecord) → In u xs → V u u) → AllQuiet made → Follow V xs (xs ++ made)
follow_more V [] made h q = q
follow_more V (x ∷ xs) made h q = (inl (h x (inl refl)), follow_more V xs made (λ u i. h u (inr i)) q)

pub follow_edit : (V : ValueRecord → ValueRecord → Type 0) (xs made : List ValueRecord) (k : ℕ) (v root : ValueRecord) → slice_get xs k ≡ Some v → IsQuiet v → IsQuiet root → AllQuiet made →
    ((u : ValueRecord) → In u xs → V u u) → Follow V xs (after xs made k root)
follow_edit V [] made k v root e qv qr qm h = absurd cc
follow_edit V (x ∷ xs) made zero v root e qv qr qm h =
    let d : x ≡ v = cc in (inr (subst IsQuiet (sym d) qv, qr), follow_more V xs made (λ u i. h u (inr i)) qm)
follow_edit V (x ∷ xs) made (suc k) v root e qv qr qm h = (inl (h x (inl refl)), follow_edit V xs made k v root e qv qr qm (λ u i. h u (inr i)))

-- a test that sees neither the value nor what stands for it nor what comes last
find_more : (t : ValueRecord → Bool) (xs made : List ValueRecord) → ((w : ValueRecord) → In w made → t w ≡ false) → find t (xs ++ made) ≡ find t xs
find_more t [] [] h = refl
find_more t [] (w ∷ ws) h = rw (h w (inl refl)) (find_more t [] ws (λ u i. h u (inr i)))
find_more t (x ∷ xs) made h = ap (λ o. cond (t x) (Some x) o) (find_more t xs made h)

pub find_edit : (t : ValueRecord → Bool) (xs made : List ValueRecord) (k : ℕ) (v root : ValueRecord) → slice_get xs k ≡ Some v → t v ≡ false → t root ≡ false → ((w : ValueRecord) → In w made → t w ≡ false) →
    find t xs ≡ find t (after xs made k root)
find_edit t [] made k v root e a b c = absurd cc
find_edit t (x ∷ xs) made zero v root e a b c =
    let d : t x ≡ false = ap t (let z : x ≡ v = cc in z) ∙ a in
    ap (λ q. cond q (Some x) (find t xs)) d ∙ (sym (find_more t xs made c) ∙ sym (ap (λ q. cond q (Some root) (find t (xs ++ made))) b))
find_edit t (x ∷ xs) made (suc k) v root e a b c = ap (λ o. cond (t x) (Some x) o) (find_edit t xs made k v root e a b c)

-- the value with a number, in the list and after the edit: the same, or no phi in both
abbrev NoPhi : Option ValueRecord → Type 0
NoPhi None = Unit {0}
NoPhi (Some u) = is_phi (origin_of u.op.family) ≡ false

abbrev pub Either : Option ValueRecord → Option ValueRecord → Type 0
Either o u = (o ≡ u) ⊎ (NoPhi o × NoPhi u)

found_no_phi : (ws : List ValueRecord) (id : ℕ) → ((w : ValueRecord) → In w ws → is_phi (origin_of w.op.family) ≡ false) → NoPhi (value_in ws id)
found_no_phi [] id h = tt
found_no_phi (w ∷ ws) id h = go (w.id == id) (found_no_phi ws id (λ u i. h u (inr i)))
  where
    go : (t : Bool) → NoPhi (value_in ws id) → NoPhi (cond t (Some w) (value_in ws id))
    go true n = h w (inl refl)
    go false n = n

either_cond : (t : Bool) (x : ValueRecord) (o u : Option ValueRecord) → Either o u → Either (cond t (Some x) o) (cond t (Some x) u)
either_cond true x o u h = inl refl
either_cond false x o u h = h

either_more : (xs made : List ValueRecord) (id : ℕ) → ((w : ValueRecord) → In w made → is_phi (origin_of w.op.family) ≡ false) → Either (value_in xs id) (value_in (xs ++ made) id)
either_more [] made id h = inr (tt, found_no_phi made id h)
either_more (x ∷ xs) made id h = either_cond (x.id == id) x (value_in xs id) (value_in (xs ++ made) id) (either_more xs made id h)

pub either_edit : (xs made : List ValueRecord) (k id : ℕ) (v root : ValueRecord) → slice_get xs k ≡ Some v → root.id ≡ v.id → is_phi (origin_of v.op.family) ≡ false → is_phi (origin_of root.op.family) ≡ false →
    ((w : ValueRecord) → In w made → is_phi (origin_of w.op.family) ≡ false) → Either (value_in xs id) (value_in (after xs made k root) id)
either_edit [] made k id v root e s a b c = absurd cc
either_edit (x ∷ xs) made zero id v root e s a b c =
    let d : x ≡ v = cc in
    go (x.id == id) (root.id == id) (ap (λ n. n == id) (ap (λ (y : ValueRecord). y.id) d ∙ sym s)) (ap (λ (y : ValueRecord). is_phi (origin_of y.op.family)) d ∙ a) (either_more xs made id c)
  where
    go : (t u : Bool) → t ≡ u → is_phi (origin_of x.op.family) ≡ false → Either (value_in xs id) (value_in (xs ++ made) id) → Either (cond t (Some x) (value_in xs id)) (cond u (Some root) (value_in (xs ++ made) id))
    go true true q n h = inr (n, b)
    go true false q n h = absurd cc
    go false true q n h = absurd cc
    go false false q n h = h
either_edit (x ∷ xs) made (suc k) id v root e s a b c = either_cond (x.id == id) x (value_in xs id) (value_in (after xs made k root) id) (either_edit xs made k id v root e s a b c)

-- a phi takes the same number, where the numbers of its arguments are the same
phi_old : (o : Option ValueRecord) (place : ℕ) (m : ℕ → ℕ) (old : ℕ) → NoPhi o → phi_by o place m old ≡ old
phi_old None place m old h = refl
phi_old (Some u) place m old h = go (origin_of u.op.family) refl h
  where
    go : (c : Origin) → origin_of u.op.family ≡ c → is_phi c ≡ false → phi_by (Some u) place m old ≡ old
    go phi e n = absurd cc
    go argument e n = rw e refl
    go argument_word e n = rw e refl
    go result e n = rw e refl
    go address e n = rw e refl
    go loaded e n = rw e refl
    go checked e n = rw e refl
    go same e n = rw e refl
    go computed e n = rw e refl

named_same : (m n : ℕ → ℕ) (o : Option ℕ) → ((x : ℕ) → o ≡ Some x → m x ≡ n x) → number_named m o ≡ number_named n o
named_same m n None h = refl
named_same m n (Some x) h = h x refl

phi_same : (o : Option ValueRecord) (place : ℕ) (m n : ℕ → ℕ) (old : ℕ) → ((u : ValueRecord) (x : ℕ) → o ≡ Some u → slice_get u.args place ≡ Some x → m x ≡ n x) → phi_by o place m old ≡ phi_by o place n old
phi_same None place m n old h = refl
phi_same (Some u) place m n old h = go (origin_of u.op.family) refl
  where
    equal : number_named m (slice_get u.args place) ≡ number_named n (slice_get u.args place)
    equal = named_same m n (slice_get u.args place) (λ x e. h u x refl e)

    go : (c : Origin) → origin_of u.op.family ≡ c → phi_by (Some u) place m old ≡ phi_by (Some u) place n old
    go phi e = rw (e, equal) refl
    go argument e = rw e refl
    go argument_word e = rw e refl
    go result e = rw e refl
    go address e = rw e refl
    go loaded e = rw e refl
    go checked e = rw e refl
    go same e = rw e refl
    go computed e = rw e refl

pub phis_kept : (o u : Option ValueRecord) → Either o u → (place : ℕ) (m n : ℕ → ℕ) (old : ℕ) → ((v : ValueRecord) (x : ℕ) → o ≡ Some v → slice_get v.args place ≡ Some x → m x ≡ n x) →
    phi_by o place m old ≡ phi_by u place n old
phis_kept o u (inl e) place m n old h = phi_same o place m n old h ∙ ap (λ z. phi_by z place n old) e
phis_kept o u (inr (a, b)) place m n old h = phi_old o place m old a ∙ sym (phi_old u place n old b)
