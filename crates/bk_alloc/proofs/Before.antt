-- The first of the blocks with these numbers.
use Rattle.std.proofs.Common.{◌≡◌, ◌∙◌, sym, ap, refl, ℕ, ◌+◌, ◌<◌, ◌||◌, Bool, true, false, cond, List, [], ◌∷◌, ◌++◌, length, take, get_or, min, not, arith}
use Rattle.std.specs.Prelude.{◌==◌}
use Rattle.std.specs.List.{position_or_len}
use Rattle.std.proofs.lemmas.Bool.Decides.{nat_tests}
use Rattle.std.proofs.lemmas.List.{take_more}
use Rattle.std.proofs.lemmas.List.Folds.{list_any-append}
use Rattle.bk_alloc.specs.Blocks.{PartRecord, is_before}

-- none of no numbers
pub none_before : (ps : List PartRecord) → position_or_len (is_before []) ps ≡ length ps
none_before [] = refl
none_before (p ∷ ps) = ap (λ k. 1 + k) (none_before ps) ∙ omega arith

lesser : (a b : Bool) (m n : ℕ) → cond (not (a || b)) (1 + min m n) 0 ≡ min (cond (not a) (1 + m) 0) (cond (not b) (1 + n) 0)
lesser true true m n = grind (arith, nat_tests)
lesser true false m n = grind (arith, nat_tests)
lesser false true m n = grind (arith, nat_tests)
lesser false false m n = grind (arith, nat_tests)

-- the first place that passes one of two tests is the lesser of their first places
either_first : {X : Type 0} (p q : X → Bool) (xs : List X) → position_or_len (λ x. p x || q x) xs ≡ min (position_or_len p xs) (position_or_len q xs)
either_first p q [] = refl
either_first p q (x ∷ xs) = ap (λ k. cond (not (p x || q x)) (1 + k) 0) (either_first p q xs) ∙ lesser (p x) (q x) (position_or_len p xs) (position_or_len q xs)

last_named : (a b : Bool) → (a || (b || false)) ≡ (a || b)
last_named a true = refl
last_named a false = refl

one_more : (ns : List ℕ) (n : ℕ) (p : PartRecord) → is_before (ns ++ n ∷ []) p ≡ (is_before ns p || (p.plan.id == n))
one_more ns n p = list_any-append (λ m. p.plan.id == m) ns (n ∷ []) ∙ last_named (is_before ns p) (p.plan.id == n)

-- one number more
pub before_more : (ns : List ℕ) (i : ℕ) (ps : List PartRecord) (first : ℕ) → i < length ns → first ≡ position_or_len (is_before (take i ns)) ps
    → min first (position_or_len (λ p. p.plan.id == get_or ns i 0) ps) ≡ position_or_len (is_before (take (i + 1) ns)) ps
before_more ns i ps first l e =
    let n = get_or ns i 0 in
    let same : (p : PartRecord) → is_before (take (i + 1) ns) p ≡ (is_before (take i ns) p || (p.plan.id == n)) =
    λ p. ap (λ (ms : List ℕ). is_before ms p) (take_more ns i 0 l) ∙ one_more (take i ns) n p in
    ap (λ k. min k (position_or_len (λ (p : PartRecord). p.plan.id == n) ps)) e
    ∙ (sym (either_first (is_before (take i ns)) (λ (p : PartRecord). p.plan.id == n) ps) ∙ sym (λ j. position_or_len (λ (p : PartRecord). same p j) ps))
