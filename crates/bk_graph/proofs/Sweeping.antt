-- Looks at one thing after the other, of which none changes anything.
use Rattle.std.proofs.Common.{◌≡◌, ◌∙◌, sym, refl, subst, ℕ, ◌+◌, ◌<◌, ◌≤◌, ◌||◌, Bool, true, false, arith, ◌⊎◌, inl, inr}
use Rattle.std.proofs.lemmas.Bool.{cases_lt}

pub neither : (s t : Bool) → (s || t) ≡ false → (s ≡ false) × (t ≡ false)
neither true t e = let x : true ≡ false = e in absurd cc
neither false t e = (refl, e)

pub swept : {A B : Type 0} (P : B → A → ℕ → Type 0) (t u : B) (start now next : A) (i : ℕ) (changed more after : Bool) → u ≡ t
    → (changed ≡ false → (now ≡ start) × ((b : ℕ) → b < i → P t start b)) → (more ≡ false → (next ≡ now) × P u now i) → after ≡ (changed || more)
    → after ≡ false → (next ≡ start) × ((b : ℕ) → b < i + 1 → P t start b)
swept {A} {B} P t u start now next i changed more after same before step is e =
    let n = neither changed more (sym is ∙ e) in
    let x = before n.0 in
    let y = step n.1 in
    (y.0 ∙ x.0, λ b l. go b l (cases_lt b i))
  where
    go : (b : ℕ) → b < i + 1 → (b < i) ⊎ (i ≤ b) → P t start b
    go b l (inl g) = let n = neither changed more (sym is ∙ e) in (before n.0).1 b g
    go b l (inr g) =
        let n = neither changed more (sym is ∙ e) in
        let z : i ≡ b = omega (arith, l, g) in
        let Q : A → Type 0 = λ a. P u a i in
        let R : B → Type 0 = λ c. P c start i in
        let S : ℕ → Type 0 = λ k. P t start k in
        subst S z (subst R same (subst Q (before n.0).0 (step n.1).1))
