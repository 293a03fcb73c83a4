-- What bears a number in a list.
use Rattle.std.proofs.Common.{◌≡◌, ◌∙◌, sym, refl, ap, ℕ, ◌+◌, ◌<◌, ◌==◌, Bool, true, false, cond, List, [], ◌∷◌, ◌++◌, length, get_or, take, Option, Some, None, ⊎_elim, arith, add-zero}
use Rattle.std.specs.List.{count_by, position_or_len}
use Rattle.std.proofs.lemmas.Bool.{cases_eq, cases_order, eq-eqb, ne_eqb, eqb-true}
use Rattle.std.proofs.lemmas.Bool.Decides.{nat_tests}
use Rattle.std.proofs.lemmas.List.{take_more, length-take-le}
use Rattle.std.proofs.lemmas.List.Folds.{position_or_len_push}
use Rattle.std.proofs.lemmas.List.Sums.{sum_by_push, passes_at_first}
use Rattle.std.proofs.lemmas.Option.{none-some, same_Some}
use Rattle.std.specs.BTreeMap.{is_at}
use Rattle.std.specs.Ordering.{nat_cmp}
use Rattle.bk_form.specs.declared.numbers.Bearer.{Bearer}
use Rattle.bk_form.specs.declared.numbers.Bearer.TheVariants.{One, Several}
use Rattle.bk_form.specs.Numbers.{bearer, one_of, one_more, sole}
use Rattle.bk_form.proofs.Lists.{none_counted, two_counted, counted_at}

-- by how many bear the number, and where the first stands
borne : ℕ → ℕ → Option Bearer
borne c p = cond (c == 0) None (cond (c == 1) (Some (One p)) (Some Several))

bearer_is : (ns : List ℕ) (n : ℕ) → bearer ns n ≡ borne (count_by (λ x. x == n) ns) (position_or_len (λ x. x == n) ns)
unfolding bearer borne
bearer_is ns n = refl

more_than_one : (c p q : ℕ) → 0 < c → borne (c + 1) q ≡ Some (one_more (borne c p) q)
unfolding borne
more_than_one c p q l =
    rw (ne_eqb (c + 1) 0 (λ e. omega arith), ne_eqb (c + 1) 1 (λ e. omega arith), ne_eqb c 0 (λ e. omega arith))
    (elim (c == 1) as (λ b. ◌≡◌ {A = Option Bearer} (Some Several) (Some (one_more (cond b (Some (One p)) (Some Several)) q))) [ true ↦ refl | false ↦ refl ])

same_more : (c p q m : ℕ) → 0 < c → one_more (borne c p) q ≡ one_more (borne c p) m
unfolding borne
same_more c p q m l =
    rw (ne_eqb c 0 (λ e. omega arith))
    (elim (c == 1) as (λ b. one_more (cond b (Some (One p)) (Some Several)) q ≡ one_more (cond b (Some (One p)) (Some Several)) m) [ true ↦ refl | false ↦ refl ])

none_more_borne : (m : ℕ) → borne (0 + 1) m ≡ Some (one_more (borne 0 m) m)
unfolding borne
none_more_borne m = refl

none_borne : (q m : ℕ) → borne 0 q ≡ borne 0 m
unfolding borne
none_borne q m = refl

pub bearer_push_same : (ns : List ℕ) (x n : ℕ) → x ≡ n → bearer (ns ++ x ∷ []) n ≡ Some (one_more (bearer ns n) (length ns))
bearer_push_same ns x n e =
    let p : ℕ → Bool = λ y. y == n in
    let one : (x == n) ≡ true = eq-eqb x n e in
    let counted : count_by p (ns ++ x ∷ []) ≡ count_by p ns + 1 = sum_by_push (λ y. cond (p y) 1 0) ns x ∙ (rw one refl) in
    bearer_is (ns ++ x ∷ []) n ∙ (rw counted (⊎_elim
    (λ (none : count_by p ns ≡ 0).
    let at = none_counted p ns none in
    rw (bearer_is ns n, none, position_or_len_push p ns x, at, eq-eqb (length ns) (length ns) refl, one, add-zero) (none_more_borne (length ns)))
    (λ (some : count_by p ns ≡ 0 → ⊥).
    let l : 0 < count_by p ns = omega arith in
    rw (bearer_is ns n) (more_than_one (count_by p ns) (position_or_len p ns) (position_or_len p (ns ++ x ∷ [])) l
    ∙ ap Some (same_more (count_by p ns) (position_or_len p ns) (position_or_len p (ns ++ x ∷ [])) (length ns) l)))
    (cases_eq (count_by p ns) 0)))

pub bearer_push_other : (ns : List ℕ) (x n : ℕ) → (x ≡ n → ⊥) → bearer (ns ++ x ∷ []) n ≡ bearer ns n
bearer_push_other ns x n apart =
    let p : ℕ → Bool = λ y. y == n in
    let other : (x == n) ≡ false = ne_eqb x n apart in
    let counted : count_by p (ns ++ x ∷ []) ≡ count_by p ns = sum_by_push (λ y. cond (p y) 1 0) ns x ∙ (rw (other, add-zero) refl) in
    bearer_is (ns ++ x ∷ []) n ∙ (rw (counted, bearer_is ns n) (⊎_elim
    (λ (none : count_by p ns ≡ 0). rw none (none_borne (position_or_len p (ns ++ x ∷ [])) (position_or_len p ns)))
    (λ (some : count_by p ns ≡ 0 → ⊥).
    let within = counted_at p ns (omega arith) in
    rw (position_or_len_push p ns x, ne_eqb (position_or_len p ns) (length ns) (λ e. omega arith)) refl)
    (cases_eq (count_by p ns) 0)))

-- the place of the one element with the number, and that there is no other
pub record IsSole (ns : List ℕ) (n p : ℕ) : Type 0 where
  pub within : p < length ns
  pub here : get_or ns p 0 ≡ n
  pub alone : (q : ℕ) → q < length ns → get_or ns q 0 ≡ n → q ≡ p

one_borne : (c p q : ℕ) → one_of (borne c p) ≡ Some q → (c ≡ 1) × (p ≡ q)
unfolding borne
one_borne c p q e = ⊎_elim
    (λ (none : c ≡ 0). absurd (none-some q (rw (eq-eqb c 0 none) at e)))
    (λ (some : c ≡ 0 → ⊥). ⊎_elim
    (λ (one : c ≡ 1). (one, same_Some p q (rw (ne_eqb c 0 some, eq-eqb c 1 one) at e)))
    (λ (several : c ≡ 1 → ⊥). absurd (none-some q (rw (ne_eqb c 0 some, ne_eqb c 1 several) at e)))
    (cases_eq c 1))
    (cases_eq c 0)

borne_one : (p : ℕ) → one_of (borne 1 p) ≡ Some p
unfolding borne
borne_one p = refl

pub sole_is : (ns : List ℕ) (n p : ℕ) → sole ns n ≡ Some p → (count_by (λ x. x == n) ns ≡ 1) × IsSole ns n p
sole_is ns n p e =
    let test : ℕ → Bool = λ x. x == n in
    let (one, at) = one_borne (count_by test ns) (position_or_len test ns) p (sym (ap one_of (bearer_is ns n)) ∙ e) in
    let within = counted_at test ns (omega arith) in
    let found = passes_at_first test ns 0 within in (
      one,
      record {
        within = rw at at within;
        here = eqb-true (get_or ns p 0) n (rw at at found);
        alone = λ q l f. alone q l (eq-eqb (get_or ns q 0) n f) one at within found;
      },
    )
  where
    alone : (q : ℕ) → q < length ns → (get_or ns q 0 == n) ≡ true → count_by (λ x. x == n) ns ≡ 1 → position_or_len (λ x. x == n) ns ≡ p
        → position_or_len (λ x. x == n) ns < length ns → (get_or ns (position_or_len (λ x. x == n) ns) 0 == n) ≡ true → q ≡ p
    alone q l f one at within found =
        let k : ℕ = position_or_len (λ x. x == n) ns in
        ⊎_elim (λ (same : q ≡ k). same ∙ at) (λ apart. ⊎_elim
        (λ (below : q < k). let t = two_counted (λ x. x == n) ns q k 0 below within f found in absurd (omega (arith, t)))
        (λ (above : k < q). let t = two_counted (λ x. x == n) ns k q 0 above l found f in absurd (omega (arith, t)))
        apart)
        (cases_order q k)

pub sole_from : (ns : List ℕ) (n : ℕ) → count_by (λ x. x == n) ns ≡ 1 → (p : ℕ) × (sole ns n ≡ Some p)
sole_from ns n e = (position_or_len (λ x. x == n) ns, ap one_of (bearer_is ns n) ∙ (rw e (borne_one (position_or_len (λ x. x == n) ns))))

-- a look-up by numbers finds the same number
pub is_at_number : (x n : ℕ) → is_at (nat_cmp x) n ≡ (x == n)
is_at_number x n = grind (arith, nat_tests)

-- what bears the numbers, one more element being looked at
pub bearer_more : (ns : List ℕ) (i : ℕ) (f g : ℕ → Option Bearer) (b : Bearer) → i < length ns → ((n : ℕ) → f n ≡ bearer (take i ns) n)
    → b ≡ one_more (f (get_or ns i 0)) i → ((n : ℕ) → g n ≡ cond (is_at (nat_cmp (get_or ns i 0)) n) (Some b) (f n))
    → (n : ℕ) → g n ≡ bearer (take (i + 1) ns) n
bearer_more ns i f g b l before is after n =
    let x : ℕ = get_or ns i 0 in
    let at : length (take i ns) ≡ i = length-take-le i ns (omega arith) in
    after n ∙ (rw (is_at_number x n, take_more ns i 0 l) (⊎_elim
    (λ (same : x ≡ n). rw (eq-eqb x n same, bearer_push_same (take i ns) x n same, at, is, before x, same) refl)
    (λ (apart : x ≡ n → ⊥). rw (ne_eqb x n apart, bearer_push_other (take i ns) x n apart) (before n))
    (cases_eq x n)))
