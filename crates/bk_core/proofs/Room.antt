-- One cell of each area is free.
use Rattle.std.proofs.Common.{◌≡◌, ◌≢◌, ◌⊎◌, inl, inr, ⊎_elim, ℕ, zero, suc, ◌+◌, ◌<◌, ◌≤◌, ◌||◌, Bool, true, false, List, [], ◌∷◌, length, refl, sym, ap, ◌∙◌, subst, arith, ne_eqb, nat_eq}
use Rattle.std.specs.List.{Contains, IsDistinct, AllByRecursion, list_any}
use Rattle.std.specs.Set.{is_member}
use Rattle.std.proofs.lemmas.Map.Made.{length-le_from_is_member}
use Rattle.std.proofs.lemmas.Map.Views.{list_any-from_Contains}
use Rattle.std.proofs.lemmas.Cmp.{nat_eq_equiv}
use mathlib.Core.Logic.{dite}
use native.Mathlib.Decide.{ℕ_discrete}
use Rattle.bk_core.specs.Rule.{Sight, worker, IsFilled, keys_of, cells_of, Rule}

values : (ℕ → ℕ) → ℕ → List ℕ
values f zero = []
values f (suc n) = f n ∷ values f n

module _ (f : ℕ → ℕ) where
  length-values : (n : ℕ) → length (values f n) ≡ n
  unfolding values
  length-values zero = refl
  length-values (suc n) = ap suc (length-values n)

  all_apart : (x m : ℕ) → ((i : ℕ) → i < m → x ≢ f i) → AllByRecursion (λ y. nat_eq x y ≡ false) (values f m)
  unfolding values
  all_apart x zero h = tt
  all_apart x (suc m) h = (ne_eqb x (f m) (h m (omega arith)), all_apart x m (λ i lt. h i (omega arith)))

  distinct : (n : ℕ) → ((i j : ℕ) → i < n → j < n → f i ≡ f j → i ≡ j) → IsDistinct nat_eq (values f n)
  unfolding values IsDistinct
  distinct zero h = tt
  distinct (suc n) h = (all_apart (f n) n (λ i lt e. let same : n ≡ i = h n i (omega arith) (omega arith) e in absurd (omega arith)), distinct n (λ i j li lj e. h i j (omega arith) (omega arith) e))

  members : (keys : List ℕ) (n : ℕ) → ((i : ℕ) → i < n → Contains keys (f i)) → (q : ℕ) → is_member nat_eq (values f n) q ≡ true → is_member nat_eq keys q ≡ true
  unfolding values
  members keys zero h q is = absurd (cc)
  members keys (suc n) h q is = dite (ℕ_discrete q (f n))
      (λ e. list_any-from_Contains nat_eq_equiv q keys (subst (λ (x : ℕ). Contains keys x) (sym e) (h n (omega arith))))
      (λ ne. members keys n (λ i lt. h i (omega arith)) q (subst (λ (b : Bool). (b || list_any (nat_eq q) (values f n)) ≡ true) (ne_eqb q (f n) ne) is))

  pub pigeons : (keys : List ℕ) (n : ℕ) → ((i : ℕ) → i < n → Contains keys (f i)) → ((i j : ℕ) → i < n → j < n → f i ≡ f j → i ≡ j) → n ≤ length keys
  pigeons keys n h one = let le = length-le_from_is_member nat_eq_equiv (values f n) keys (distinct n one) (members keys n h) in let l = length-values n in omega arith

-- not every cell is full
pub room : (keys : List ℕ) (at : ℕ → ℕ) → IsFilled keys at → ¬ ((c : ℕ) → c < length keys + 1 → at c ≢ 0)
room keys at f full = let le = pigeons at keys (length keys + 1) (λ i lt. (f.held i lt (full i lt)).announced) (λ i j li lj e. f.alone j i lj li (full j lj) e) in absurd (omega arith)

-- a cell below n is free, or none is
free_or_full : (at : ℕ → ℕ) (n : ℕ) → ((c : ℕ) × (c < n) × (at c ≡ 0)) ⊎ ((c : ℕ) → c < n → at c ≢ 0)
free_or_full at zero = inr (λ c lt. absurd (omega arith))
free_or_full at (suc n) = dite (ℕ_discrete (at n) 0)
    (λ free. inl (n, omega arith, free))
    (λ full. ⊎_elim
    (λ (found : (c : ℕ) × (c < n) × (at c ≡ 0)). inl (found.0, let lt = found.1 in omega arith, found.2))
    (λ (none : (c : ℕ) → c < n → at c ≢ 0). inr (λ c lt. dite (ℕ_discrete c n) (λ e z. full (sym (ap at e) ∙ z)) (λ ne. none c (omega arith))))
    (free_or_full at n))

pub free_cell : (keys : List ℕ) (at : ℕ → ℕ) → IsFilled keys at → (c : ℕ) × (c < length keys + 1) × (at c ≡ 0)
free_cell keys at f = ⊎_elim (λ found. found) (λ full. absurd (room keys at f full)) (free_or_full at (length keys + 1))

-- two known pairs of one key name one cell
pub one_cell : (announced : List (List ℕ)) (parts claims : ℕ) (at : ℕ → ℕ → ℕ) (vs : List Sight) → Rule announced parts claims at vs → (v w a c d k : ℕ) → Contains (worker vs v).known (a, c, k) → Contains (worker vs w).known (a, d, k) → c ≡ d
one_cell announced parts claims at vs r v w a c d k one two =
    let x = r.right v (a, c, k) one in let y = r.right w (a, d, k) two in
    sym ((r.filled a x.area).alone c d x.cell y.cell (λ z. x.full (sym x.is ∙ z)) (y.is ∙ sym x.is))

-- a worker does not know each cell
pub has_room : (announced : List (List ℕ)) (parts claims : ℕ) (at : ℕ → ℕ → ℕ) (vs : List Sight) → Rule announced parts claims at vs → (w a : ℕ) → a < 3 → ¬ ((c : ℕ) → c < cells_of announced a → (word : ℕ) × Contains (worker vs w).known (a, c, word))
has_room announced parts claims at vs r w a h all = room (keys_of announced a) (at a) (r.filled a h) (λ c lt z. let k = all c lt in let q = r.right w (a, c, k.0) k.1 in q.full (sym q.is ∙ z))
