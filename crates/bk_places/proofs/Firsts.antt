-- The first place of a number in a list, as far as the list was read.
use Rattle.std.proofs.Common.{◌≡◌, ℕ, zero, suc, ◌+◌, ◌<◌, ◌≤◌, refl, ap, sym, ◌∙◌, arith, List, [], ◌∷◌, length, drop, get_or, Option, Some, None, Bool, true, false, cond}
use Rattle.std.specs.Prelude.{◌==◌, position, if◌then◌else◌}
use Rattle.std.specs.List.{position_from}
use Rattle.std.proofs.lemmas.Bool.{eqb-true}
use Rattle.std.proofs.lemmas.List.{drop_more}
use Rattle.std.proofs.lemmas.Iterator.Adapters.{position_from-zero}
use Rattle.std.specs.Ordering.{nat_cmp, is_eq}
use Rattle.std.proofs.lemmas.Grind.{common_steps}
use Rattle.bk_func.specs.Meaning.{or_else}

-- one more number has its place, if none of the same number had one before
pub place_more : (q k i : ℕ) (xs : List ℕ) (old new all : Option ℕ) → i < length xs → k ≡ get_or xs i 0 →
    new ≡ or_else old (if k == q then Some i else None) →
    or_else old (position_from (λ x. x == q) i (drop i xs)) ≡ all → or_else new (position_from (λ x. x == q) (i + 1) (drop (i + 1) xs)) ≡ all
place_more q k i xs old new all h e n w =
    ap (λ o. or_else o rest) n ∙ join old (k == q)
    ∙ ap (λ y. or_else old (if y == q then Some i else rest)) e
    ∙ ap (λ ys. or_else old (position_from (λ x. x == q) i ys)) (sym (drop_more xs i 0 h)) ∙ w
  where
    rest : Option ℕ
    rest = position_from (λ x. x == q) (i + 1) (drop (i + 1) xs)

    join : (o : Option ℕ) (b : Bool) → or_else (or_else o (if b then Some i else None)) rest ≡ or_else o (if b then Some i else rest)
    join None true = refl
    join None false = refl
    join (Some x) b = refl

or_else-none : (o : Option ℕ) → or_else o None ≡ o
or_else-none None = refl
or_else-none (Some x) = refl

pub place_all : (q i : ℕ) (xs : List ℕ) (found all : Option ℕ) → length xs ≤ i → or_else found (position_from (λ x. x == q) i (drop i xs)) ≡ all → found ≡ all
place_all q i xs found all h w = sym (or_else-none found) ∙ ap (λ ys. or_else found (position_from (λ x. x == q) i ys)) (sym (past i xs h)) ∙ w
  where
    past : (j : ℕ) (ys : List ℕ) → length ys ≤ j → drop j ys ≡ []
    past zero [] l = refl
    past zero (y ∷ ys) l = absurd (omega arith)
    past (suc j) [] l = refl
    past (suc j) (y ∷ ys) l = past j ys (omega arith)

pub position-from : (q : ℕ) (xs : List ℕ) → position_from (λ x. x == q) 0 xs ≡ position (λ x. x == q) xs
position-from q xs = sym (position_from-zero (λ x. x == q) xs)

-- what a map has at a number after another was put in it
pub put_new : (k q i : ℕ) (old new : ℕ → Option ℕ) → old k ≡ None → new q ≡ cond (is_eq (nat_cmp k q)) (Some i) (old q) → new q ≡ or_else (old q) (if k == q then Some i else None)
put_new k q i old new h e = e ∙ ap (λ b. cond b (Some i) (old q)) (same k q) ∙ go (k == q) refl
  where
    same : (x y : ℕ) → is_eq (nat_cmp x y) ≡ (x == y)
    same x y = grind (arith, common_steps)

    go : (b : Bool) → (k == q) ≡ b → cond b (Some i) (old q) ≡ or_else (old q) (if b then Some i else None)
    go true t = sym (ap (λ o. or_else o (Some i)) (ap old (sym (eqb-true k q t)) ∙ h))
    go false t = sym (or_else-none (old q))

pub put_old : (k q i p : ℕ) (old : ℕ → Option ℕ) → old k ≡ Some p → old q ≡ or_else (old q) (if k == q then Some i else None)
put_old k q i p old h = go (k == q) refl
  where
    go : (b : Bool) → (k == q) ≡ b → old q ≡ or_else (old q) (if b then Some i else None)
    go true t = let e : old q ≡ Some p = ap old (sym (eqb-true k q t)) ∙ h in e ∙ sym (ap (λ o. or_else o (Some i)) e)
    go false t = sym (or_else-none (old q))
