-- A list that is gone through, one element further at a time.
use Rattle.std.proofs.Common.{◌≡◌, ℕ, List, [], ◌∷◌, ◌++◌, length, ap, ◌∙◌, sym, refl, append_assoc, append-nil, arith, subst}
use Rattle.std.specs.Prelude.{Result, Ok, Err, string_bytes}
use Rattle.std.specs.Result.{IsErrAnd}
use Rattle.bk_dump.specs.declared.read.errors.ReferenceError.{ReferenceError}
use Rattle.bk_dump.specs.declared.read.errors.ReferenceError.TheVariants as reference_error
use Rattle.bk_dump.specs.Views.{Finds}
use Rattle.bk_dump.specs.Resolved.{◌>>=◌, each}

-- these before those of the rest
abbrev pub before : {B : Type 0} → List B → Result (List B) (List ℕ) → Result (List B) (List ℕ)
before front more = more >>= λ ys. Ok (front ++ ys)

regrouped : {B : Type 0} (front : List B) (y : B) (r : Result (List B) (List ℕ)) → before (front ++ y ∷ []) r ≡ before front (r >>= λ ys. Ok (y ∷ ys))
regrouped front y (Ok ys) = ap Ok (append_assoc front (y ∷ []) ys)
regrouped front y (Err e) = refl

pub each_goes_on : {A B : Type 0} (f : A → Result B (List ℕ)) (front more : List B) (x : A) (xs : List A) (y : B) → f x ≡ Ok y → more ≡ front ++ y ∷ [] → before more (each f xs) ≡ before front (each f (x ∷ xs))
unfolding each
each_goes_on f front more x xs y e g =
    ap (λ m. before m (each f xs)) g
    ∙ regrouped front y (each f xs)
    ∙ ap (λ r. before front (r >>= λ y. each f xs >>= λ ys. Ok (y ∷ ys))) (sym e)

pub each_fails : {A B : Type 0} (f : A → Result B (List ℕ)) (front : List B) (x : A) (xs : List A) (e : List ℕ) → f x ≡ Err e → before front (each f (x ∷ xs)) ≡ Err e
unfolding each
each_fails f front x xs e h = ap (λ r. before front (r >>= λ y. each f xs >>= λ ys. Ok (y ∷ ys))) h

pub each_ends : {A B : Type 0} (f : A → Result B (List ℕ)) (front : List B) → before front (each f []) ≡ Ok front
unfolding each
each_ends f front = ap Ok (append-nil front)

pub each_starts : {B : Type 0} (r : Result (List B) (List ℕ)) → before [] r ≡ r
each_starts (Ok ys) = refl
each_starts (Err e) = refl

pub nothing_left : {A : Type 0} (xs : List A) → length xs ≡ 0 → xs ≡ []
nothing_left [] h = refl
nothing_left (x ∷ xs) h = absurd (omega arith)

-- a loop over what is left of the list
pub loop_starts : {A B : Type 0} (f : A → Result B (List ℕ)) (front : List B) (left xs : List A) → front ≡ [] → left ≡ xs → before front (each f left) ≡ each f xs
loop_starts f front left xs e h = ap (λ ys. before ys (each f left)) e ∙ each_starts (each f left) ∙ ap (each f) h

pub loop_goes_on : {A B : Type 0} (f : A → Result B (List ℕ)) (front more : List B) (x : A) (xs left : List A) (y : B) (all : Result (List B) (List ℕ)) → f x ≡ Ok y → more ≡ front ++ y ∷ [] → left ≡ x ∷ xs → before front (each f left) ≡ all → before more (each f xs) ≡ all
loop_goes_on f front more x xs left y all e g l h = each_goes_on f front more x xs y e g ∙ ap (λ ls. before front (each f ls)) (sym l) ∙ h

loop_fails : {A B : Type 0} (f : A → Result B (List ℕ)) (front : List B) (x : A) (xs left : List A) (name : List ℕ) (all : Result (List B) (List ℕ)) → f x ≡ Err name → left ≡ x ∷ xs → before front (each f left) ≡ all → all ≡ Err name
loop_fails f front x xs left name all e l h = sym h ∙ ap (λ ls. before front (each f ls)) l ∙ each_fails f front x xs name e

pub loop_ends : {A B : Type 0} (f : A → Result B (List ℕ)) (front : List B) (left : List A) (all : Result (List B) (List ℕ)) → left ≡ [] → before front (each f left) ≡ all → all ≡ Ok front
loop_ends f front left all l h = sym h ∙ ap (λ ls. before front (each f ls)) l ∙ each_ends f front

refused : {A B X : Type 0} (view : X → List B) (error : ReferenceError) (f : A → Result B (List ℕ)) (front : List B) (x : A) (xs left : List A) (all : Result (List B) (List ℕ)) → Finds {X = B} {Y = B} (λ y. y) (Err error) (f x) → left ≡ x ∷ xs → before front (each f left) ≡ all → Finds {X = X} {Y = List B} view (Err error) all
refused view reference_error.Memory f front x xs left all e l h = tt
refused view (reference_error.Undefined name) f front x xs left all e l h = loop_fails f front x xs left (string_bytes name) all e l h

pub loop_refused : {A B X : Type 0} (r : Result X ReferenceError) (view : X → List B) (error : ReferenceError) (f : A → Result B (List ℕ)) (front : List B) (x : A) (xs left : List A) (all : Result (List B) (List ℕ)) → IsErrAnd r (λ e. e ≡ error) → Finds {X = B} {Y = B} (λ y. y) (Err error) (f x) → left ≡ x ∷ xs → before front (each f left) ≡ all → Finds {X = X} {Y = List B} view r all
loop_refused (Ok v) view error f front x xs left all o e l h = absurd o
loop_refused {A} {B} {X} (Err d) view error f front x xs left all o e l h = subst (λ d. Finds {X = X} {Y = List B} view (Err d) all) (sym o) (refused view error f front x xs left all e l h)
