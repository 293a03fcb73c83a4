-- Two programs whose blocks do the same, unless the first is wild there, do the same.
use Rattle.std.proofs.Common.{◌≡◌, ℕ, zero, suc, refl, subst, ◌⊎◌, inl, inr, List}
use Rattle.bk_func.specs.Meaning.{Outcome, wild, World, Run, gives, stops, bind, Activation, Entries, run, one_entry}
use Rattle.bk_func.specs.Numbers.{Program}

abbrev pub IsWildOutcome : Outcome → Type 0
IsWildOutcome (wild a) = Unit {0}
IsWildOutcome _ = ⊥

abbrev pub IsWild : {A : Type 0} → Run A → Type 0
IsWild (gives a w) = ⊥
IsWild (stops o d) = IsWildOutcome o

-- both end alike, or give related values and leave the same
abbrev pub Both : {A B : Type 0} → (A → B → Type 0) → Run A → Run B → Type 0
Both R (gives a w) (gives b v) = R a b × (w ≡ v)
Both R (gives a w) (stops u c) = ⊥
Both R (stops o d) (gives b v) = ⊥
Both R (stops o d) (stops u c) = (o ≡ u) × (d ≡ c)

-- the same, unless the first is wild
abbrev pub Keeps : {A B : Type 0} → (A → B → Type 0) → Run A → Run B → Type 0
Keeps R r q = IsWild r ⊎ Both R r q

pub keeps_bind : {A B C D : Type 0} (R : A → B → Type 0) (S : C → D → Type 0) (r : Run A) (q : Run B) (go : A → World → Run C) (ho : B → World → Run D) →
    Keeps R r q → ((a : A) (b : B) (w : World) → R a b → Keeps S (go a w) (ho b w)) → Keeps S (bind r go) (bind q ho)
keeps_bind R S (gives a w) q go ho (inl h) k = elim h [ ]
keeps_bind R S (gives a w) (gives b v) go ho (inr (x, e)) k = subst (λ y. Keeps S (go a w) (ho b y)) e (k a b w x)
keeps_bind R S (gives a w) (stops u c) go ho (inr h) k = elim h [ ]
keeps_bind R S (stops o d) q go ho (inl h) k = inl h
keeps_bind R S (stops o d) (gives b v) go ho (inr h) k = elim h [ ]
keeps_bind R S (stops o d) (stops u c) go ho (inr e) k = inr e

abbrev pub Same : List ℕ → List ℕ → Type 0
Same xs ys = xs ≡ ys

pub keeps_refl : (r : Run (List ℕ)) → Keeps Same r r
keeps_refl (gives xs w) = inr (refl, refl)
keeps_refl (stops o d) = inr (refl, refl)

-- entries of related blocks by related edges, in related calls, are kept
abbrev pub Points : Type 1
Points = ℕ → Activation → Activation → ℕ → ℕ → ℕ → Type 0

abbrev pub EntriesKept : Points → Entries → Entries → Type 0
EntriesKept R enter enter' = (i : ℕ) (a b : Activation) (id place place' : ℕ) (w : World) → R i a b id place place' → Keeps Same (enter i a id place w) (enter' i b id place' w)

pub run_kept : (R : Points) (p q : Program) → ((enter enter' : Entries) → EntriesKept R enter enter' → EntriesKept R (one_entry enter p) (one_entry enter' q)) → (k : ℕ) → EntriesKept R (run k p) (run k q)
unfolding run
run_kept R p q step zero i a b id place place' w h = inr (refl, refl)
run_kept R p q step (suc k) i a b id place place' w h = step (run k p) (run k q) (run_kept R p q step k) i a b id place place' w h
