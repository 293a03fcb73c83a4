-- Moves that are put under their places and counted, one after the other.
use Rattle.std.proofs.Common.{◌≡◌, ℕ, ◌+◌, ◌<◌, ◌≤◌, refl, ap, sym, ◌∙◌, subst, arith, ◌⊎◌, inl, inr, List, [], length, take, get_or, Option, Some, None, Bool, true, false, cond}
use Rattle.std.specs.Prelude.{IsSome}
use Rattle.std.specs.List.{All, AllByRecursion, fold, list_any}
use Rattle.std.specs.List.Sorted.{IsStrictlySortedBy}
use Rattle.std.specs.Map.{keys_of, lookup, count_at}
use Rattle.std.specs.Option.{unwrap_or}
use Rattle.std.specs.Ordering.{nat_cmp}
use Rattle.std.specs.BTreeMap.{BTreeMap, IsOrdered, get, is_at, insert_entry}
use Rattle.std.specs.BTreeSet.{BTreeSet, contains}
use Rattle.std.proofs.lemmas.Bool.{cases_eq}
use Rattle.std.proofs.lemmas.List.{take_all}
use Rattle.std.proofs.lemmas.List.Elements.{All-get_or}
use Rattle.std.proofs.lemmas.List.Sums.{fold_more}
use Rattle.bk_func.specs.declared.parts.Loc.TheVariants.{Swap}
use Rattle.bk_shuffle.specs.Sequence.{Move, place_of, with_move, by_place}
use Rattle.bk_shuffle.specs.Left.{GoesToAPlace, IsAtItsPlace, AreLeft, taker, AreFree}
use Rattle.bk_shuffle.proofs.Entries.{put_placed, hit_same, hit_other}
use Rattle.bk_shuffle.proofs.Takers.{taker_same, taker_other}
use Rattle.bk_shuffle.proofs.Freed.{free_without}

-- nothing yet

pub left_none : (left : BTreeMap ℕ Move) → left.entries ≡ [] → AreLeft left
unfolding IsStrictlySortedBy
left_none left e =
    let P : List (ℕ × Move) → Type 0 = λ es. IsStrictlySortedBy nat_cmp (keys_of es) in
    let Q : List (ℕ × Move) → Type 0 = λ es. AllByRecursion IsAtItsPlace es in
    record { ordered = subst P (sym e) tt; placed = subst Q (sym e) tt }

pub none_there : (left : BTreeMap ℕ Move) (p : ℕ) → left.entries ≡ [] → ¬ IsSome (get nat_cmp left p)
none_there left p e s =
    let P : List (ℕ × Move) → Type 0 = λ es. IsSome (lookup (is_at (nat_cmp p)) es) in
    let t : IsSome {T = Move} None = subst P e s in
    absurd cc

pub none_in : (free : BTreeSet ℕ) (p : ℕ) → free.keys ≡ [] → ¬ (contains nat_cmp free p ≡ true)
none_in free p e s =
    let P : List ℕ → Type 0 = λ ks. list_any (is_at (nat_cmp p)) ks ≡ true in
    let t : false ≡ true = subst P e s in
    absurd cc

pub free_none : (free : BTreeSet ℕ) (left : BTreeMap ℕ Move) (n : ℕ → ℕ) → free.keys ≡ [] → left.entries ≡ [] → AreFree free left n
free_none free left n e f = record { each = λ p. (λ h. absurd (none_in free p e h), λ q. absurd (none_there left p f q.0)) }

-- one move more

pub entries_more : (moves : List Move) (i : ℕ) (d : Move) (old new : List (ℕ × Move)) (place : ℕ) → i < length moves → old ≡ fold with_move [] (take i moves) → place ≡ place_of (get_or moves i d).1 →
    new ≡ insert_entry nat_cmp old place (get_or moves i d) → new ≡ fold with_move [] (take (i + 1) moves)
entries_more moves i d old new place l h p e =
    let x = get_or moves i d in
    e ∙ (ap (λ k. insert_entry nat_cmp old k (get_or moves i d)) p ∙ (ap (λ es. with_move es (get_or moves i d)) h ∙ sym (fold_more with_move [] moves i d l)))

pub left_more : (moves : List Move) (i : ℕ) (d : Move) (old new : BTreeMap ℕ Move) (place : ℕ) → i < length moves → All GoesToAPlace moves → AreLeft old → place ≡ place_of (get_or moves i d).1 → IsOrdered nat_cmp new →
    new.entries ≡ insert_entry nat_cmp old.entries place (get_or moves i d) → AreLeft new
left_more moves i d old new place l g a p o e =
    let Q : List (ℕ × Move) → Type 0 = λ es. AllByRecursion IsAtItsPlace es in
    let n : ¬ (place_of (get_or moves i d).1 ≡ place_of Swap) = All-get_or GoesToAPlace moves i d l g in
    record {
      ordered = o;
      placed = subst Q (sym e) (put_placed place (get_or moves i d) old.entries (sym p, λ q. n (sym p ∙ q)) a.placed);
    }

there_step : (b : Bool) (x : Move) (o : Option Move) (c : Bool) → (c ≡ true → IsSome o) → cond b true c ≡ true → IsSome (cond b (Some x) o)
there_step true x o c f h = refl
there_step false x o c f h = f h

in_step : (b : Bool) (x : Move) (o : Option Move) (c : Bool) → (IsSome o → c ≡ true) → IsSome (cond b (Some x) o) → cond b true c ≡ true
in_step true x o c f h = refl
in_step false x o c f h = f h

pub free_more : (free now : BTreeSet ℕ) (old new : BTreeMap ℕ Move) (place : ℕ) (x : Move) → AreFree free old (λ p. 0) → ((p : ℕ) → contains nat_cmp now p ≡ cond (is_at (nat_cmp place) p) true (contains nat_cmp free p)) →
    ((p : ℕ) → get nat_cmp new p ≡ cond (is_at (nat_cmp place) p) (Some x) (get nat_cmp old p)) → AreFree now new (λ p. 0)
free_more free now old new place x a put with' = record { each = λ p. (λ h. (forward p h, refl), λ q. back p q.0) }
  where
    forward : (p : ℕ) → contains nat_cmp now p ≡ true → IsSome (get nat_cmp new p)
    forward p h = subst (λ (o : Option Move). IsSome o) (sym (with' p)) (there_step (is_at (nat_cmp place) p) x (get nat_cmp old p) (contains nat_cmp free p) (λ s. ((a.each p).0 s).0) (sym (put p) ∙ h))

    back : (p : ℕ) → IsSome (get nat_cmp new p) → contains nat_cmp now p ≡ true
    back p s = put p ∙ in_step (is_at (nat_cmp place) p) x (get nat_cmp old p) (contains nat_cmp free p) (λ s. (a.each p).1 (s, refl)) (subst (λ (o : Option Move). IsSome o) (with' p) s)

-- all moves

pub entries_all : (moves : List Move) (i : ℕ) (es : List (ℕ × Move)) → length moves ≤ i → es ≡ fold with_move [] (take i moves) → es ≡ by_place moves
unfolding by_place
entries_all moves i es l h = h ∙ ap (fold with_move []) (take_all i moves l)

-- a move is counted

pub count_more : (counts new : BTreeMap ℕ ℕ) (m : Move) (p n from : ℕ) → from ≡ place_of m.0 → ¬ (place_of m.0 ≡ place_of m.1) → n ≡ count_at (get nat_cmp counts) from + 1 →
    ((q : ℕ) → get nat_cmp new q ≡ cond (is_at (nat_cmp from) q) (Some n) (get nat_cmp counts q)) → count_at (get nat_cmp new) p ≡ count_at (get nat_cmp counts) p + taker m p
count_more counts new m p n from f apart e g = go (cases_eq p from)
  where
    go : (p ≡ from) ⊎ (p ≡ from → ⊥) → count_at (get nat_cmp new) p ≡ count_at (get nat_cmp counts) p + taker m p
    go (inl q) =
        let x : count_at (get nat_cmp new) p ≡ n = ap (λ o. unwrap_or o 0) (g p ∙ ap (λ b. cond b (Some n) (get nat_cmp counts p)) (hit_same from p q)) in
        let y : taker m p ≡ 1 = ap (taker m) (q ∙ f) ∙ taker_same m apart in
        let z : count_at (get nat_cmp counts) from ≡ count_at (get nat_cmp counts) p = ap (count_at (get nat_cmp counts)) (sym q) in
        omega (arith, x, y, z, e)
    go (inr q) =
        let x : count_at (get nat_cmp new) p ≡ count_at (get nat_cmp counts) p = ap (λ o. unwrap_or o 0) (g p ∙ ap (λ b. cond b (Some n) (get nat_cmp counts p)) (hit_other from p q)) in
        let y : taker m p ≡ 0 = taker_other m p (λ r. q (r ∙ sym f)) in
        omega (arith, x, y)

pub free_counted : (free now : BTreeSet ℕ) (left : BTreeMap ℕ Move) (counts new : BTreeMap ℕ ℕ) (m : Move) (n from : ℕ) → from ≡ place_of m.0 → ¬ (place_of m.0 ≡ place_of m.1) → n ≡ count_at (get nat_cmp counts) from + 1 →
    ((q : ℕ) → get nat_cmp new q ≡ cond (is_at (nat_cmp from) q) (Some n) (get nat_cmp counts q)) → AreFree free left (count_at (get nat_cmp counts)) →
    ((q : ℕ) → contains nat_cmp now q ≡ cond (is_at (nat_cmp from) q) false (contains nat_cmp free q)) → AreFree now left (count_at (get nat_cmp new))
free_counted free now left counts new m n from f apart e g a out =
    free_without free now left (count_at (get nat_cmp counts)) (count_at (get nat_cmp new)) from a out
    (let x = count_more counts new m from n from f apart e g in let y : taker m from ≡ 1 = ap (taker m) f ∙ taker_same m apart in omega (arith, x, y))
    (λ p q. let x = count_more counts new m p n from f apart e g in let y : taker m p ≡ 0 = taker_other m p (λ r. q (r ∙ sym f)) in omega (arith, x, y))
