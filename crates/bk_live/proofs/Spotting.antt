-- The set of uses.
use Rattle.std.proofs.Common.{◌≡◌, ◌∙◌, sym, refl, ap, subst, ℕ, ◌≤◌, ◌⊎◌, ◌↔◌, ◌==◌, ◌&&◌, ◌||◌, Bool, true, false, cond, List, [], ◌∷◌, zero, suc, length, Some, inl, inr, ⊎_elim, arith}
use Rattle.std.specs.BTreeMap.{is_at}
use Rattle.std.specs.BTreeSet.{BTreeSet, contains}
use Rattle.std.specs.List.{Contains, list_any}
use Rattle.std.specs.Ordering.{nat_cmp, ordering_then, is_eq}
use Rattle.std.specs.declared.cmp.Ordering.{Ordering}
use Rattle.std.specs.declared.cmp.Ordering.TheVariants.{Less, Equal, Greater}
use Rattle.std.proofs.lemmas.Bool.{cases_Bool, eq-eqb, eqb-true, and_parts, false≢true}
use Rattle.std.proofs.lemmas.Map.Views.{Contains-from_any}
use Rattle.bk_live.specs.declared.uses.Use.{Use}
use Rattle.bk_live.specs.Adds.{Adds, Some_of, Some_before}
use Rattle.bk_live.specs.Table.{use_cmp, use_key}
use Rattle.bk_live.specs.Uses.{use_at}
use Rattle.bk_live.proofs.Adding.{before_all}
use Rattle.bk_live.proofs.Alone.{at_contains, contains_at}
use Rattle.bk_live.proofs.Homing.{is_at_number}

-- a use as the set has it
abbrev pub Key : Type 0
Key = ℕ × ℕ × ℕ

abbrev pub key_of : Use → Key
key_of u = use_key u.value u.spot.block u.spot.entry

abbrev pub IsKeyOf : ℕ → Use → Key → Type 0
IsKeyOf k u e = key_of u ≡ e

same_then : (a b : Ordering) → is_eq (ordering_then a b) ≡ (is_eq a && is_eq b)
same_then Less b = refl
same_then Equal b = refl
same_then Greater b = refl

same_key : (s t : Key) → is_at (use_cmp s) t ≡ (((s.0 == t.0) && (s.1 == t.1)) && (s.2 == t.2))
same_key s t =
    same_then (ordering_then (nat_cmp s.0 t.0) (nat_cmp s.1 t.1)) (nat_cmp s.2 t.2)
    ∙ (rw (same_then (nat_cmp s.0 t.0) (nat_cmp s.1 t.1), is_at_number s.0 t.0, is_at_number s.1 t.1, is_at_number s.2 t.2) refl)

built : (s t : Key) → s.0 ≡ t.0 → s.1 ≡ t.1 → s.2 ≡ t.2 → s ≡ t
built s t p q r = rw (p, q, r) refl

is_key : (s t : Key) → is_at (use_cmp s) t ≡ true → s ≡ t
is_key s t e =
    let outer = and_parts ((s.0 == t.0) && (s.1 == t.1)) (s.2 == t.2) (sym (same_key s t) ∙ e) in
    let inner = and_parts (s.0 == t.0) (s.1 == t.1) outer.0 in
    built s t (eqb-true s.0 t.0 inner.0) (eqb-true s.1 t.1 inner.1) (eqb-true s.2 t.2 outer.1)

key_is : (s t : Key) → s ≡ t → is_at (use_cmp s) t ≡ true
key_is s t e = subst (λ (u : Key). is_at (use_cmp s) u ≡ true) e (same_key s s ∙ (rw (eq-eqb s.0 s.0 refl, eq-eqb s.1 s.1 refl, eq-eqb s.2 s.2 refl) refl))

-- no uses at first
pub keys_none : (us : List Use) (c : Key → Bool) → ((e : Key) → c e ≡ false) → Adds (λ (e : Key). ⊥) (Some_before us IsKeyOf 0) (λ (e : Key). c e ≡ true)
keys_none us c none = record {
  each = λ e. ((λ t. absurd (false≢true (sym (none e) ∙ t))), (λ h. ⊎_elim (λ no. absurd no) (λ (k, u, l, at, s). absurd (omega arith)) h));
}

-- one more
pub key_more : (old new : Key → Bool) (k : ℕ) (u : Use) → ((e : Key) → new e ≡ cond (is_at (use_cmp (key_of u)) e) true (old e))
    → Adds (λ (e : Key). old e ≡ true) (IsKeyOf k u) (λ (e : Key). new e ≡ true)
key_more old new k u put = record { each = λ e. (to e, back e) }
  where
    to : (e : Key) → new e ≡ true → (old e ≡ true) ⊎ IsKeyOf k u e
    to e t = ⊎_elim
        (λ (same : is_at (use_cmp (key_of u)) e ≡ true). inr (is_key (key_of u) e same))
        (λ (apart : is_at (use_cmp (key_of u)) e ≡ false). inl (sym (ap (λ (b : Bool). cond b true (old e)) apart) ∙ (sym (put e) ∙ t)))
        (cases_Bool (is_at (use_cmp (key_of u)) e))

    back : (e : Key) → (old e ≡ true) ⊎ IsKeyOf k u e → new e ≡ true
    back e h = ⊎_elim
        (λ (same : is_at (use_cmp (key_of u)) e ≡ true). put e ∙ ap (λ (b : Bool). cond b true (old e)) same)
        (λ (apart : is_at (use_cmp (key_of u)) e ≡ false). ⊎_elim
        (λ kept. put e ∙ (ap (λ (b : Bool). cond b true (old e)) apart ∙ kept))
        (λ is. absurd (false≢true (sym apart ∙ key_is (key_of u) e is)))
        h)
        (cases_Bool (is_at (use_cmp (key_of u)) e))

-- the keys of a set are those that it contains
any_of : (q : Key) (ks : List Key) → Contains ks q → list_any (is_at (use_cmp q)) ks ≡ true
any_of q [] (k, l, e) = absurd (omega arith)
any_of q (x ∷ ks) (zero, l, e) = rw (key_is q x (sym e)) refl
any_of q (x ∷ ks) (suc k, l, e) = rw (any_of q ks (k, omega arith, e)) (or_true (is_at (use_cmp q) x))
  where
    or_true : (b : Bool) → (b || true) ≡ true
    or_true true = refl
    or_true false = refl

-- all uses once all are seen
pub keys_are : (us : List Use) (i : ℕ) (s : BTreeSet Key) → length us ≤ i → Adds (λ (e : Key). ⊥) (Some_before us IsKeyOf i) (λ (e : Key). contains use_cmp s e ≡ true)
    → (n b k : ℕ) → Contains s.keys (use_key n b k) ↔ Contains us (use_at n b k)
keys_are us i s over a n b k = (
  (λ c. ⊎_elim
      (λ no. absurd no)
      (λ (j, u, at, is). contains_at us j (use_at n b k) (at ∙ ap Some (use_is u is)))
      ((all.each (use_key n b k)).0 (any_of (use_key n b k) s.keys c))),
  (λ m.
      let (j, at) = at_contains us (use_at n b k) m in
      Contains-from_any is_key (use_key n b k) s.keys ((all.each (use_key n b k)).1 (inr (j, use_at n b k, at, refl)))),
)
  where
    all : Adds (λ (e : Key). ⊥) (Some_of us IsKeyOf) (λ (e : Key). contains use_cmp s e ≡ true)
    all = before_all (λ (e : Key). ⊥) (λ (e : Key). contains use_cmp s e ≡ true) us IsKeyOf i over a

    use_is : (u : Use) → key_of u ≡ use_key n b k → u ≡ use_at n b k
    use_is u is =
        let value : u.value ≡ n = ap (λ (e : Key). e.0) is in
        let block : u.spot.block ≡ b = ap (λ (e : Key). e.1) is in
        let entry : u.spot.entry ≡ k = ap (λ (e : Key). e.2) is in
        subst (λ (m : ℕ). u ≡ record { value = m; spot = record { block = b; entry = k } }) value
        (subst (λ (x : ℕ). u ≡ record { value = u.value; spot = record { block = x; entry = k } }) block
        (subst (λ (y : ℕ). u ≡ record { value = u.value; spot = record { block = u.spot.block; entry = y } }) entry refl))
