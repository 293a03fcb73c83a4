-- A line has one list of tokens.
use Rattle.std.proofs.Common.{◌≡◌, ◌≤◌, ◌<◌, ℕ, zero, suc, false, List, [], ◌∷◌, All, AllPairs, Any, ap, arith, get_or, inl, inr, length, refl, subst, sym, ◌∙◌}
use Rattle.std.proofs.lemmas.Bool.{cases_lt}
use Rattle.bk_text.proofs.Found.{never}
use Rattle.bk_text.specs.Tokens.{AreTokens, Covers, IsRun, is_blank}
use Rattle.bk_text.specs.declared.Token.{Token}

-- all the maximal runs of a line from a place on
record From (line : List ℕ) (place : ℕ) (tokens : List Token) : Type 0 where
  runs : All (IsRun line) tokens
  after : All (λ token. place ≤ token.start) tokens
  rising : AllPairs (λ one later. one.end ≤ later.start) tokens
  complete : (k : ℕ) → place ≤ k → k < length line → is_blank (get_or line k 0) ≡ false → Any (Covers k) tokens

-- what holds of some token, but not of the first, holds of a later one
any_tail : (P : Token → Type 0) (x : Token) (xs : List Token) → Any P (x ∷ xs) → (P x → ⊥) → Any P xs
any_tail P x xs (zero, t, l, e, p) fails = absurd (fails (subst P (sym e) p))
any_tail P x xs (suc i, t, l, e, p) fails = (i, t, omega arith, e, p)

-- the first token is a run
first_run : (line : List ℕ) (place : ℕ) (x : Token) (xs : List Token) → From line place (x ∷ xs) → IsRun line x
first_run line place x xs f = f.runs 0 x (omega arith)

-- the tokens after the first
rest_from : (line : List ℕ) (place next : ℕ) (x : Token) (xs : List Token) → next ≡ x.end → From line place (x ∷ xs) → From line next xs
rest_from line place next x xs same f =
    let run = first_run line place x xs f in
    let starts : place ≤ x.start = f.after 0 x (omega arith) in
    record {
      runs = λ k d h. f.runs (suc k) d (omega arith);
      after = λ k d h. let later : x.end ≤ (get_or xs k d).start = f.rising 0 (suc k) d (omega arith) (omega arith) in omega arith;
      rising = λ i j d h l. f.rising (suc i) (suc j) d (omega arith) (omega arith);
      complete = λ k p l e. any_tail (Covers k) x xs (f.complete k (omega (arith, run.some)) l e) (λ c. omega (arith, c.1));
    }

-- no place before the first token is covered
covered_after : (line : List ℕ) (place k : ℕ) (x : Token) (xs : List Token) → From line place (x ∷ xs) → Any (Covers k) (x ∷ xs) → x.start ≤ k
covered_after line place k x xs f (zero, t, l, e, c) = let covers : Covers k x = subst (Covers k) (sym e) c in covers.0
covered_after line place k x xs f (suc i, t, l, e, c) =
    let run = first_run line place x xs f in
    let later : x.end ≤ (get_or xs i t).start = f.rising 0 (suc i) t (omega arith) (omega arith) in
    let covers : Covers k (get_or xs i t) = subst (Covers k) (sym e) c in
    omega (arith, run.some, covers.0)

-- the first byte of the first token is covered
first_covered : (line : List ℕ) (place : ℕ) (x : Token) (xs ys : List Token) → From line place (x ∷ xs) → From line place ys → Any (Covers x.start) ys
first_covered line place x xs ys f g =
    let run = first_run line place x xs f in
    g.complete x.start (f.after 0 x (omega arith)) (omega (arith, run.some, run.within)) (run.solid x.start (omega arith) run.some)

nothing_covers : (k : ℕ) → Any (Covers k) [] → ⊥
nothing_covers k (i, t, l, e, c) = omega arith

-- a run ends where one ends that begins there
ends_by : (line : List ℕ) (x y : Token) → x.start ≡ y.start → IsRun line x → IsRun line y → x.end ≤ y.end
ends_by line x y same run other = elim (cases_lt y.end x.end) [
  | inl h ↦ absurd (never (is_blank (get_or line y.end 0)) (other.ended (omega (arith, run.within))) (run.solid y.end (omega (arith, other.some)) h))
  | inr h ↦ h
]

same_token : (x y : Token) → x.start ≡ y.start → x.end ≡ y.end → x ≡ y
same_token x y s e =
    let make : ℕ → ℕ → Token = λ (start : ℕ) (end : ℕ). record { start = start; end = end } in
    let one : make x.start x.end ≡ make y.start x.end = ap (λ n. make n x.end) s in
    let two : make y.start x.end ≡ make y.start y.end = ap (λ n. make y.start n) e in
    one ∙ two

one_from : (line : List ℕ) (place : ℕ) (xs ys : List Token) → From line place xs → From line place ys → xs ≡ ys
one_from line place [] [] f g = refl
one_from line place [] (y ∷ ys) f g = absurd (nothing_covers y.start (first_covered line place y ys [] g f))
one_from line place (x ∷ xs) [] f g = absurd (nothing_covers x.start (first_covered line place x xs [] f g))
one_from line place (x ∷ xs) (y ∷ ys) f g =
    let run = first_run line place x xs f in
    let other = first_run line place y ys g in
    let low : x.start ≤ y.start = covered_after line place y.start x xs f (first_covered line place y ys (x ∷ xs) g f) in
    let high : y.start ≤ x.start = covered_after line place x.start y ys g (first_covered line place x xs (y ∷ ys) f g) in
    let starts : x.start ≡ y.start = omega arith in
    let short : x.end ≤ y.end = ends_by line x y starts run other in
    let long : y.end ≤ x.end = ends_by line y x (sym starts) other run in
    let ends : x.end ≡ y.end = omega arith in
    let same : x ≡ y = same_token x y starts ends in
    let rest : xs ≡ ys = one_from line x.end xs ys (rest_from line place x.end x xs refl f) (rest_from line place x.end y ys ends g) in
    ap (λ t. t ∷ xs) same ∙ ap (λ ts. y ∷ ts) rest

-- a line has one list of tokens
pub one_list_of : (line : List ℕ) (these those : List Token) → AreTokens line these → AreTokens line those → these ≡ those
one_list_of line these those f g = one_from line 0 these those (start these f) (start those g) where
  start : (tokens : List Token) → AreTokens line tokens → From line 0 tokens
  start tokens h = record { runs = h.runs; after = λ k d l. omega arith; rising = h.rising; complete = λ k p l e. h.complete k l e }
