-- Maps in which the first number under each key stays.
use Rattle.std.proofs.Common.{◌≡◌, ◌∙◌, sym, ap, refl, ℕ, ◌==◌, ◌&&◌, Bool, true, false, cond, Option, Some, None, ⊎_elim, arith}
use Rattle.std.specs.BTreeMap.{is_at}
use Rattle.std.specs.Cmp.{tied_then}
use Rattle.std.specs.Option.{option_or, unwrap_or}
use Rattle.std.specs.Ordering.{nat_cmp, is_eq}
use Rattle.std.specs.declared.cmp.Ordering.{Ordering}
use Rattle.std.specs.declared.cmp.Ordering.TheVariants.{Less, Equal, Greater}
use Rattle.std.proofs.lemmas.Bool.{cases_eq, eq-eqb, ne_eqb}
use Rattle.std.proofs.lemmas.Bool.Decides.{nat_tests}
use Rattle.std.proofs.lemmas.Map.Lookups.{exact_pairs, exact_unsigned}
use Rattle.bk_calls.specs.Areas.{is_key}
use Rattle.bk_calls.specs.Plans.{pair_cmp}

-- a look-up by numbers finds the same number
is_at_number : (x n : ℕ) → is_at (nat_cmp x) n ≡ (x == n)
is_at_number x n = grind (arith, nat_tests)

or_some : (o : Option ℕ) (i : ℕ) → Some (unwrap_or o i) ≡ option_or o (Some i)
or_some None i = refl
or_some (Some x) i = refl

pub or_none : (o : Option ℕ) → o ≡ option_or o None
or_none None = refl
or_none (Some x) = refl

pub noted : (old new : ℕ → Option ℕ) (k v first : ℕ) → first ≡ unwrap_or (old k) v → ((n : ℕ) → new n ≡ cond (is_at (nat_cmp k) n) (Some first) (old n))
    → (n : ℕ) → new n ≡ option_or (old n) (cond (k == n) (Some v) None)
noted old new k v first is after n =
    after n ∙ (rw (is_at_number k n) (⊎_elim
    (λ (same : k ≡ n). rw (eq-eqb k n same) (ap Some is ∙ or_some (old k) v ∙ ap (λ m. option_or (old m) (Some v)) same))
    (λ (apart : k ≡ n → ⊥). rw (ne_eqb k n apart) (or_none (old n)))
    (cases_eq k n)))

-- the same where the keys are pairs

is_at_pair : (x k : ℕ × ℕ) → is_at (pair_cmp x) k ≡ is_key (Some x) k
is_at_pair x k =
    sym (tied_then (nat_cmp x.0 k.0) (nat_cmp x.1 k.1))
    ∙ (ap (λ b. b && is_eq (nat_cmp x.1 k.1)) (is_at_number x.0 k.0) ∙ ap (λ b. x.0 == k.0 && b) (is_at_number x.1 k.1))

tied : (o : Ordering) → is_eq o ≡ true → o ≡ Equal
tied Less e = absurd (cc)
tied Equal e = refl
tied Greater e = absurd (cc)

pub pair_noted : (old new : ℕ × ℕ → Option ℕ) (k : ℕ × ℕ) (v first : ℕ) → first ≡ unwrap_or (old k) v
    → ((n : ℕ × ℕ) → new n ≡ cond (is_at (pair_cmp k) n) (Some first) (old n)) → (n : ℕ × ℕ) → new n ≡ option_or (old n) (cond (is_key (Some k) n) (Some v) None)
pair_noted old new k v first is after n =
    after n ∙ (one (is_at (pair_cmp k) n) refl ∙ ap (λ b. option_or (old n) (cond b (Some v) None)) (is_at_pair k n))
  where
    one : (b : Bool) → is_at (pair_cmp k) n ≡ b → cond b (Some first) (old n) ≡ option_or (old n) (cond b (Some v) None)
    one true e =
        let same : k ≡ n = exact_pairs nat_cmp nat_cmp exact_unsigned exact_unsigned k n (tied (pair_cmp k n) e) in
        ap Some is ∙ (or_some (old k) v ∙ ap (λ m. option_or (old m) (Some v)) same)
    one false e = or_none (old n)
