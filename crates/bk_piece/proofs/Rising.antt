-- Numbers in rising order are told by what is among them.
use Rattle.std.proofs.Common.{◌≡◌, ◌≢◌, ◌⊎◌, inl, inr, ⊎_elim, ℕ, zero, suc, ◌<◌, ◌≤◌, ◌==◌, Bool, true, false, if◌then◌else◌, List, [], ◌∷◌, length, refl, sym, ap, ◌∙◌, subst, arith}
use Rattle.std.specs.Prelude.{nat_lt}
use Rattle.std.specs.List.{All, AllPairs, Contains}
use Rattle.std.proofs.lemmas.Bool.Decides.{nat_tests}
use Rattle.std.proofs.lemmas.List.Elements.{All-nil, All-cons, All-head, All-tail, All-contains, All-weaker}
use Rattle.std.proofs.lemmas.List.Kept.{AllPairs-cons}
use Rattle.bk_piece.specs.Rising.{put, rising, Rise}
use Rattle.bk_piece.proofs.Elements.{has_here, has_there, has_cases, has_none}

-- the three ways to put a number before others
put_ways : (P : List ℕ → Type 0) (x y : ℕ) (ys : List ℕ) → (x < y → P (x ∷ (y ∷ ys))) → (x ≡ y → P (y ∷ ys)) → (y < x → P (y ∷ put x ys)) → P (put x (y ∷ ys))
put_ways P x y ys before at behind = by (nat_lt x y) refl (x == y) refl
  where
    by : (b : Bool) → nat_lt x y ≡ b → (c : Bool) → (x == y) ≡ c → P (if b then x ∷ (y ∷ ys) else (if c then y ∷ ys else y ∷ put x ys))
    by true e c d = let h : x < y = grind (arith, nat_tests) in before h
    by false e true d = let h : x ≡ y = grind (arith, nat_tests) in at h
    by false e false d = let h : y < x = grind (arith, nat_tests) in behind h

put_here : (x : ℕ) (ys : List ℕ) → Contains (put x ys) x
put_here x [] = has_here x []
put_here x (y ∷ ys) = put_ways (λ l. Contains l x) x y ys
    (λ _. has_here x (y ∷ ys))
    (λ e. subst (λ z. Contains (z ∷ ys) x) e (has_here x ys))
    (λ _. has_there y (put x ys) x (put_here x ys))

put_there : (x : ℕ) (ys : List ℕ) (q : ℕ) → Contains ys q → Contains (put x ys) q
put_there x [] q h = absurd (has_none q h)
put_there x (y ∷ ys) q h = put_ways (λ l. Contains l q) x y ys
    (λ _. has_there x (y ∷ ys) q h)
    (λ _. h)
    (λ _. ⊎_elim (λ e. subst (λ z. Contains (z ∷ put x ys) q) (sym e) (has_here q (put x ys))) (λ r. has_there y (put x ys) q (put_there x ys q r)) (has_cases y ys q h))

from_put : (x : ℕ) (ys : List ℕ) (q : ℕ) → Contains (put x ys) q → (x ≡ q) ⊎ Contains ys q
from_put x [] q h = has_cases x [] q h
from_put x (y ∷ ys) q h = put_ways (λ l. Contains l q → (x ≡ q) ⊎ Contains (y ∷ ys) q) x y ys
    (λ _. has_cases x (y ∷ ys) q)
    (λ _ h. inr h)
    (λ _ h. ⊎_elim (λ e. inr (subst (λ z. Contains (z ∷ ys) q) (sym e) (has_here q ys))) (λ r. ⊎_elim (λ e. inl e) (λ s. inr (has_there y ys q s)) (from_put x ys q r)) (has_cases y (put x ys) q h))
    h

pub head_of : (x : ℕ) (xs : List ℕ) → Rise (x ∷ xs) → All (λ y. x < y) xs
head_of x xs h k d within = h 0 (suc k) d (omega arith) (omega (arith, within))

pub tail_of : (x : ℕ) (xs : List ℕ) → Rise (x ∷ xs) → Rise xs
tail_of x xs h i j d lt within = h (suc i) (suc j) d (omega (arith, lt)) (omega (arith, within))

pub none_rises : Rise []
none_rises i j d lt within = absurd (omega (arith, within))

put_above : (low x : ℕ) (ys : List ℕ) → low < x → All (λ y. low < y) ys → All (λ y. low < y) (put x ys)
put_above low x [] l h = All-cons (λ y. low < y) x [] l h
put_above low x (y ∷ ys) l h = put_ways (All (λ y. low < y)) x y ys
    (λ _. All-cons (λ y. low < y) x (y ∷ ys) l h)
    (λ _. h)
    (λ _. All-cons (λ y. low < y) y (put x ys) (All-head (λ y. low < y) y ys h) (put_above low x ys l (All-tail (λ y. low < y) y ys h)))

put_rises : (x : ℕ) (ys : List ℕ) → Rise ys → Rise (put x ys)
put_rises x [] h = AllPairs-cons (λ a b. a < b) x [] (All-nil (λ b. x < b)) h
put_rises x (y ∷ ys) h = put_ways Rise x y ys
    (λ l. AllPairs-cons (λ a b. a < b) x (y ∷ ys) (All-cons (λ b. x < b) y ys l (All-weaker (λ b. y < b) (λ b. x < b) (λ b m. omega (arith, l, m)) ys (head_of y ys h))) h)
    (λ _. h)
    (λ l. AllPairs-cons (λ a b. a < b) y (put x ys) (put_above y x ys l (head_of y ys h)) (put_rises x ys (tail_of y ys h)))

pub rising_rises : (xs : List ℕ) → Rise (rising xs)
unfolding rising
rising_rises [] = none_rises
rising_rises (x ∷ xs) = put_rises x (rising xs) (rising_rises xs)

pub in_rising : (xs : List ℕ) (q : ℕ) → Contains xs q → Contains (rising xs) q
unfolding rising
in_rising [] q h = h
in_rising (x ∷ xs) q h = ⊎_elim (λ e. subst (Contains (put x (rising xs))) e (put_here x (rising xs))) (λ r. put_there x (rising xs) q (in_rising xs q r)) (has_cases x xs q h)

pub from_rising : (xs : List ℕ) (q : ℕ) → Contains (rising xs) q → Contains xs q
unfolding rising
from_rising [] q h = h
from_rising (x ∷ xs) q h = ⊎_elim (λ e. subst (Contains (x ∷ xs)) e (has_here x xs)) (λ r. has_there x xs q (from_rising xs q r)) (from_put x (rising xs) q h)

least : (x : ℕ) (xs : List ℕ) → Rise (x ∷ xs) → (q : ℕ) → Contains (x ∷ xs) q → x ≤ q
least x xs h q c = ⊎_elim (λ e. omega (arith, e)) (λ r. let l : x < q = All-contains (λ y. x < y) xs q (head_of x xs h) r in omega arith) (has_cases x xs q c)

-- what rises is told by what is among it
pub same_risen : (xs ys : List ℕ) → Rise xs → Rise ys → ((q : ℕ) → Contains xs q → Contains ys q) → ((q : ℕ) → Contains ys q → Contains xs q) → xs ≡ ys
same_risen [] [] hx hy to from = refl
same_risen [] (y ∷ ys) hx hy to from = absurd (has_none y (from y (has_here y ys)))
same_risen (x ∷ xs) [] hx hy to from = absurd (has_none x (to x (has_here x xs)))
same_risen (x ∷ xs) (y ∷ ys) hx hy to from =
    let a = least y ys hy x (to x (has_here x xs)) in
    let b = least x xs hx y (from y (has_here y ys)) in
    let same : x ≡ y = omega arith in
    let rest = same_risen xs ys (tail_of x xs hx) (tail_of y ys hy)
    (λ q h. ⊎_elim (λ (e : y ≡ q). let l : x < q = All-contains (λ z. x < z) xs q (head_of x xs hx) h in absurd (omega arith)) (λ r. r) (has_cases y ys q (to q (has_there x xs q h))))
    (λ q h. ⊎_elim (λ (e : x ≡ q). let l : y < q = All-contains (λ z. y < z) ys q (head_of y ys hy) h in absurd (omega arith)) (λ r. r) (has_cases x xs q (from q (has_there y ys q h)))) in
    λ i. same i ∷ rest i

pub rising_is : (xs ys : List ℕ) → Rise ys → ((q : ℕ) → Contains xs q → Contains ys q) → ((q : ℕ) → Contains ys q → Contains xs q) → ys ≡ rising xs
rising_is xs ys h to from = same_risen ys (rising xs) h (rising_rises xs) (λ q c. in_rising xs q (from q c)) (λ q c. to q (from_rising xs q c))

pub same_rising : (xs ys : List ℕ) → ((q : ℕ) → Contains xs q → Contains ys q) → ((q : ℕ) → Contains ys q → Contains xs q) → rising xs ≡ rising ys
same_rising xs ys to from = rising_is ys (rising xs) (rising_rises xs) (λ q c. in_rising xs q (from q c)) (λ q c. to q (from_rising xs q c))

put_length : (x : ℕ) (ys : List ℕ) → ¬ (Contains ys x) → length (put x ys) ≡ suc (length ys)
put_length x [] h = refl
put_length x (y ∷ ys) h = put_ways (λ l. length l ≡ suc (length (y ∷ ys))) x y ys
    (λ _. refl)
    (λ e. absurd (h (subst (λ z. Contains (z ∷ ys) x) e (has_here x ys))))
    (λ _. ap suc (put_length x ys (λ c. h (has_there y ys x c))))

-- none is left out where all differ
pub rising_length : (xs : List ℕ) → AllPairs (λ x y. x ≢ y) xs → length (rising xs) ≡ length xs
unfolding rising
rising_length [] h = refl
rising_length (x ∷ xs) h =
    let own : All (λ y. x ≢ y) xs = λ k d within. h 0 (suc k) d (omega arith) (omega (arith, within)) in
    put_length x (rising xs) (λ c. All-contains (λ y. x ≢ y) xs x own (from_rising xs x c) refl)
    ∙ ap suc (rising_length xs (λ i j d lt within. h (suc i) (suc j) d (omega (arith, lt)) (omega (arith, within))))
