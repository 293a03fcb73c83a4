-- Loops over the rules that a line stands for.
use Rattle.std.proofs.Common.{◌≡◌, ℕ, suc, ◌+◌, ◌-◌, ◌<◌, ◌≤◌, List, [], ◌∷◌, ◌++◌, ap, ◌∙◌, sym, refl, arith, append_assoc, append-nil, Option, Some, None}
use Rattle.bk_rule.specs.declared.trees.Rule.{Rule}
use Rattle.bk_rule_text.specs.Front.{◌>>=◌}
use Rattle.bk_rule_text.specs.Groups.{BitTree, expanded}
use Rattle.bk_rule_text.specs.Rules.{rule_at, numbers_from}
use Rattle.bk_rule_text.specs.Texts.{in_front, rules_at}

less : (n i : ℕ) → i < n → n - i ≡ suc (n - (i + 1))
less n i h = omega arith

done : (n i : ℕ) → n ≤ i → n - i ≡ 0
done n i h = omega arith

-- those read so far in front of the others
abbrev pub behind : List Rule → Option (List Rule) → Option (List Rule)
behind front None = None
behind front (Some more) = Some (front ++ more)

behind_in_front : (front more : List Rule) (r : Rule) (o : Option (List Rule)) → more ≡ front ++ r ∷ [] → behind front (in_front r o) ≡ behind more o
behind_in_front front more r None e = refl
behind_in_front front more r (Some y) e = ap Some (sym (append_assoc front (r ∷ []) y) ∙ ap (λ xs. xs ++ y) (sym e))

-- the numbers from a place on, and the first of them
numbers : (n i : ℕ) → i < n → numbers_from i (n - i) ≡ i ∷ numbers_from (i + 1) (n - (i + 1))
unfolding numbers_from
numbers n i h = ap (numbers_from i) (less n i h) ∙ (let d : suc i ≡ i + 1 = omega arith in ap (λ k. i ∷ numbers_from k (n - (i + 1))) d)

no_numbers : (n i : ℕ) → n ≤ i → numbers_from i (n - i) ≡ []
unfolding numbers_from
no_numbers n i h = ap (numbers_from i) (done n i h)

abbrev with_rule : List BitTree → List ℕ → Option Rule → Option (List Rule)
with_rule bs ks o = o >>= λ r. in_front r (rules_at bs ks)

one_rule : (bs : List BitTree) (n i : ℕ) (o : Option Rule) → i < n → rule_at (expanded i bs) ≡ o → rules_at bs (numbers_from i (n - i)) ≡ with_rule bs (numbers_from (i + 1) (n - (i + 1))) o
unfolding rules_at
one_rule bs n i o h e = ap (rules_at bs) (numbers n i h) ∙ ap (with_rule bs (numbers_from (i + 1) (n - (i + 1)))) e

pub rule_fails : (bs : List BitTree) (n i : ℕ) (front : List Rule) (o : Option (List Rule)) → behind front (rules_at bs (numbers_from i (n - i))) ≡ o → i < n → rule_at (expanded i bs) ≡ None → o ≡ None
rule_fails bs n i front o h l e = sym h ∙ ap (behind front) (one_rule bs n i None l e)

pub rules_go_on : (bs : List BitTree) (n i : ℕ) (front more : List Rule) (r : Rule) (o : Option (List Rule)) → behind front (rules_at bs (numbers_from i (n - i))) ≡ o → i < n → rule_at (expanded i bs) ≡ Some r → more ≡ front ++ r ∷ []
    → behind more (rules_at bs (numbers_from (i + 1) (n - (i + 1)))) ≡ o
rules_go_on bs n i front more r o h l e m =
    sym (ap (behind front) (one_rule bs n i (Some r) l e) ∙ behind_in_front front more r (rules_at bs (numbers_from (i + 1) (n - (i + 1)))) m) ∙ h

pub rules_end : (bs : List BitTree) (n i : ℕ) (front : List Rule) (o : Option (List Rule)) → behind front (rules_at bs (numbers_from i (n - i))) ≡ o → n ≤ i → o ≡ Some front
unfolding rules_at
rules_end bs n i front o h l = sym h ∙ ap (λ ks. behind front (rules_at bs ks)) (no_numbers n i l) ∙ ap Some (append-nil front)

pub no_rule_read : (o : Option (List Rule)) → behind [] o ≡ o
no_rule_read None = refl
no_rule_read (Some x) = refl
