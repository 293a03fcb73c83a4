-- Rows to which live values are added.
use Rattle.std.proofs.Common.{◌≡◌, ◌∙◌, sym, refl, ap, subst, ℕ, ◌+◌, ◌<◌, ◌≤◌, ◌⊎◌, List, [], ◌∷◌, ◌++◌, length, get_or, set, take, replicate, Option, None, Some, ⊎_elim, arith}
use Rattle.std.specs.List.{AllPairs, Contains}
use Rattle.std.proofs.lemmas.Bool.{cases_eq, cases_lt}
use Rattle.std.proofs.lemmas.List.{get_or_past, get_or-replicate, get_or-set_other, get_or-set_same, get_or_append_left, get_or_default, get_or_push, get_or-take, length-take-le, length-replicate, length-set, length_push, take_more, take_all}
use Rattle.std.proofs.lemmas.List.Elements.{Contains-append_left, Contains-push, Contains-push_cases, Contains-get_or}
use Rattle.std.proofs.lemmas.Option.{none-some, same_Some}
use Rattle.bk_live.specs.declared.rows.LiveValue.{LiveValue}
use Rattle.bk_live.specs.declared.search.Search.{Search}
use Rattle.bk_live.specs.declared.search.Start.{Start}
use Rattle.bk_live.specs.Rows.{AddsFound, HasLiveUpTo, HasRows, IsRising, live_value, with_live}
use Rattle.bk_live.specs.Search.{Finds, Found, IsClear, IsReady, Marks, distance}
use Rattle.bk_live.proofs.Searching.{marks_none}

-- the rows at these places have the value
pub record AddsAt (n : ℕ) (s : Search) (places : List ℕ) (rows more : List (List LiveValue)) : Type 0 where
  pub size : length more ≡ length rows
  pub same : (i : ℕ) → ¬ Contains places i → get_or more i [] ≡ get_or rows i []
  pub longer : (i d : ℕ) → i < length rows → Contains places i → distance s i ≡ Some d → get_or more i [] ≡ get_or rows i [] ++ live_value n d ∷ []

pub adds_first : (n : ℕ) (s : Search) (places : List ℕ) (rows : List (List LiveValue)) → AddsAt n s (take 0 places) rows rows
adds_first n s places rows = record { size = refl; same = λ i a. refl; longer = λ i d l (k, b, e). absurd (omega arith) }

pub adds_next : (n : ℕ) (s : Search) (places : List ℕ) (k : ℕ) (rows more most : List (List LiveValue)) → AllPairs (λ p q. p ≡ q → ⊥) places → k < length places
    → most ≡ with_live more (get_or places k 0) n (distance s (get_or places k 0)) → AddsAt n s (take k places) rows more → AddsAt n s (take (k + 1) places) rows most
adds_next n s places k rows more most apart inside is a = go (distance s x) refl is
  where
    x : ℕ
    x = get_or places k 0

    last : Contains (take (k + 1) places) x
    last = subst (λ (us : List ℕ). Contains us x) (sym (take_more places k 0 inside)) (Contains-push (take k places) x)

    earlier : (i : ℕ) → Contains (take k places) i → Contains (take (k + 1) places) i
    earlier i c = subst (λ (us : List ℕ). Contains us i) (sym (take_more places k 0 inside)) (Contains-append_left (take k places) (x ∷ []) i c)

    cases : (i : ℕ) → Contains (take (k + 1) places) i → Contains (take k places) i ⊎ (x ≡ i)
    cases i c = Contains-push_cases (take k places) x i (subst (λ (us : List ℕ). Contains us i) (take_more places k 0 inside) c)

    new : ¬ Contains (take k places) x
    new (j, l, e) =
        let short : length (take k places) ≡ k = length-take-le k places (omega arith) in
        let low : j < k = omega arith in
        apart j k x low inside (sym (get_or-take k places j x low) ∙ (e ∙ get_or_default places k 0 x inside))

    go : (o : Option ℕ) → distance s x ≡ o → most ≡ with_live more x n o → AddsAt n s (take (k + 1) places) rows most
    go None none same = subst (λ (rs : List (List LiveValue)). AddsAt n s (take (k + 1) places) rows rs) (sym same) (record {
      size = a.size;
      same = λ i out. a.same i (λ c. out (earlier i c));
      longer = λ i d l c e. ⊎_elim
          (λ old. a.longer i d l old e)
          (λ (here : x ≡ i). absurd (none-some d (sym none ∙ (ap (distance s) here ∙ e))))
          (cases i c);
    })
    go (Some w) at same = subst (λ (rs : List (List LiveValue)). AddsAt n s (take (k + 1) places) rows rs) (sym same) (record {
      size = length-set more x row ∙ a.size;
      same = λ i out.
          let other : i ≡ x → ⊥ = λ e. out (subst (λ (j : ℕ). Contains (take (k + 1) places) j) (sym e) last) in
          get_or-set_other more x i row [] other ∙ a.same i (λ c. out (earlier i c));
      longer = λ i d l c e. ⊎_elim
          (λ (here : i ≡ x).
          let both : w ≡ d = same_Some w d (sym at ∙ (ap (distance s) (sym here) ∙ e)) in
          ap (λ j. get_or (set more x row) j []) here
          ∙ (get_or-set_same more x row [] (omega (arith, a.size))
          ∙ (ap (λ us. us ++ live_value n w ∷ []) (a.same x new)
          ∙ (ap (λ j. get_or rows j [] ++ live_value n w ∷ []) (sym here) ∙ ap (λ v. get_or rows i [] ++ live_value n v ∷ []) both))))
          (λ (other : i ≡ x → ⊥).
          get_or-set_other more x i row [] other ∙ ⊎_elim
          (λ old. a.longer i d l old e)
          (λ (same_one : x ≡ i). absurd (other (sym same_one)))
          (cases i c))
          (cases_eq i x);
    })
      where
        row : List LiveValue
        row = get_or more x [] ++ live_value n w ∷ []

pub adds_all : (n : ℕ) (s : Search) (places : List ℕ) (k : ℕ) (rows more : List (List LiveValue)) → length places ≤ k → Marks s.distances.items places → AddsAt n s (take k places) rows more
    → AddsFound n s rows more
adds_all n s places k rows more over marks a = record {
  size = a.size;
  same = λ i none. a.same i (λ c. let (d, e) = (marks.listed i).0 (whole i c) in none-some d (sym none ∙ e));
  longer = λ i d l e. a.longer i d l (subst (λ (us : List ℕ). Contains us i) (sym (take_all k places over)) ((marks.listed i).1 (d, e))) e;
}
  where
    whole : (i : ℕ) → Contains (take k places) i → Contains places i
    whole i c = subst (λ (us : List ℕ). Contains us i) (take_all k places over) c

nothing : (n p : ℕ) → get_or {A = List LiveValue} (replicate n []) p [] ≡ []
nothing n p = ⊎_elim (λ (b : p < n). get_or-replicate n p [] [] b) (λ a. get_or_past (replicate n []) p [] (rw length-replicate a)) (cases_lt p n)

none_in : {A : Type 0} (x : A) → Contains [] x → ⊥
none_in x (k, l, e) = absurd (omega arith)

-- no values
pub has_none : (F : ℕ → ℕ → ℕ → Type 0) (count : ℕ) (rows : List (List LiveValue)) → rows ≡ replicate count [] → HasRows F count [] rows
has_none F count rows none = record {
  size = ap length none ∙ length-replicate count [];
  sound = λ i l b c. absurd (none_in l (subst (λ (us : List LiveValue). Contains us l) (at i) c));
  least = λ i n d b c found. absurd (none_in n c);
  rising = λ i. subst (λ (us : List LiveValue). IsRising us) (sym (at i)) (λ j k d l h. absurd (omega arith));
}
  where
    at : (i : ℕ) → get_or rows i [] ≡ []
    at i = ap (λ us. get_or us i []) none ∙ nothing count i

-- a greater number behind rising ones
rising_push : (xs : List LiveValue) (x : LiveValue) → ((l : LiveValue) → Contains xs l → l.value < x.value) → IsRising xs → IsRising (xs ++ x ∷ [])
rising_push xs x above rising i j d low high = ⊎_elim
    (λ (early : j < length xs).
    let a : get_or (xs ++ x ∷ []) i d ≡ get_or xs i d = get_or_append_left xs (x ∷ []) d i (omega arith) in
    let b : get_or (xs ++ x ∷ []) j d ≡ get_or xs j d = get_or_append_left xs (x ∷ []) d j early in
    rw (a, b) (rising i j d low early))
    (λ (late : length xs ≤ j).
    let last : j ≡ length xs = omega (arith, length_push xs x) in
    let front : i < length xs = omega arith in
    let a : get_or (xs ++ x ∷ []) i d ≡ get_or xs i d = get_or_append_left xs (x ∷ []) d i front in
    let b : get_or (xs ++ x ∷ []) j d ≡ x = get_or_push xs x d j (sym last) in
    rw (a, b) (above (get_or xs i d) (Contains-get_or xs i d front)))
    (cases_lt j (length xs))

-- one more value, of a greater number, where the search has found it
pub has_more : (F : ℕ → ℕ → ℕ → Type 0) (count : ℕ) (ns : List ℕ) (n : ℕ) (s : Search) (rows more : List (List LiveValue)) → HasRows F count ns rows → ((m : ℕ) → Contains ns m → m < n)
    → Finds (F n) count s → AddsFound n s rows more → HasRows F count (ns ++ n ∷ []) more
has_more F count ns n s rows more h above finds a = record {
  size = a.size ∙ h.size;
  sound = λ i l b c. sound i l b (distance s i) refl c;
  least = λ i m d b c found. ⊎_elim
      (λ old. still i m d b (distance s i) refl (h.least i m d b old found))
      (λ (new : n ≡ m).
      let (e, has, low) = finds.least i d (subst (λ (k : ℕ). F k i d) (sym new) found) in
      (e, subst (λ (k : ℕ). Contains (get_or more i []) (live_value k e)) new (there i e b has), low))
      (Contains-push_cases ns n m c);
  rising = λ i. ⊎_elim
      (λ (b : i < count). rises i b (distance s i) refl)
      (λ (past : count ≤ i). subst (λ (us : List LiveValue). IsRising us) (sym (get_or_past more i [] (omega (arith, a.size, h.size)))) (λ j k d l e. absurd (omega arith)))
      (cases_lt i count);
}
  where
    long : (i d : ℕ) → i < count → distance s i ≡ Some d → get_or more i [] ≡ get_or rows i [] ++ live_value n d ∷ []
    long i d b e = a.longer i d (omega (arith, h.size)) e

    there : (i d : ℕ) → i < count → distance s i ≡ Some d → Contains (get_or more i []) (live_value n d)
    there i d b e = subst (λ (us : List LiveValue). Contains us (live_value n d)) (sym (long i d b e)) (Contains-push (get_or rows i []) (live_value n d))

    sound : (i : ℕ) (l : LiveValue) → i < count → (o : Option ℕ) → distance s i ≡ o → Contains (get_or more i []) l → Contains (ns ++ n ∷ []) l.value × F l.value i l.distance
    sound i l b None e c =
        let (k, r) = h.sound i l b (subst (λ (us : List LiveValue). Contains us l) (a.same i e) c) in
        (Contains-append_left ns (n ∷ []) l.value k, r)
    sound i l b (Some d) e c = ⊎_elim
        (λ old. let (k, r) = h.sound i l b old in (Contains-append_left ns (n ∷ []) l.value k, r))
        (λ (new : live_value n d ≡ l). subst (λ (x : LiveValue). Contains (ns ++ n ∷ []) x.value × F x.value i x.distance) new (Contains-push ns n, finds.sound i d e))
        (Contains-push_cases (get_or rows i []) (live_value n d) l (subst (λ (us : List LiveValue). Contains us l) (long i d b e) c))

    still : (i m d : ℕ) → i < count → (o : Option ℕ) → distance s i ≡ o → HasLiveUpTo (get_or rows i []) m d → HasLiveUpTo (get_or more i []) m d
    still i m d b None e (w, c, low) = (w, subst (λ (us : List LiveValue). Contains us (live_value m w)) (sym (a.same i e)) c, low)
    still i m d b (Some g) e (w, c, low) =
        (w, subst (λ (us : List LiveValue). Contains us (live_value m w)) (sym (long i g b e)) (Contains-append_left (get_or rows i []) (live_value n g ∷ []) (live_value m w) c), low)

    rises : (i : ℕ) → i < count → (o : Option ℕ) → distance s i ≡ o → IsRising (get_or more i [])
    rises i b None e = subst (λ (us : List LiveValue). IsRising us) (sym (a.same i e)) (h.rising i)
    rises i b (Some d) e = subst (λ (us : List LiveValue). IsRising us) (sym (long i d b e)) (rising_push (get_or rows i []) (live_value n d) (λ l c. above l.value (h.sound i l b c).0) (h.rising i))

-- what is found along edges, said of the same edges
pub finds_as : (es : List (List ℕ)) (ws : List ℕ) (avoided : ℕ) (gs : List (List ℕ)) (vs : List ℕ) (a : ℕ) (starts : List Start) (s : Search) → gs ≡ es → vs ≡ ws → a ≡ avoided
    → Finds (Found gs vs a starts) (length gs) s → Finds (Found es ws avoided starts) (length es) s
finds_as es ws avoided gs vs a starts s edges lengths same finds =
    subst (λ (b : ℕ). Finds (Found es ws b starts) (length es) s) same
    (subst (λ (us : List ℕ). Finds (Found es us a starts) (length es) s) lengths (subst (λ (hs : List (List ℕ)). Finds (Found hs vs a starts) (length hs) s) edges finds))

-- a search that has not begun
pub clear_ready : (n : ℕ) (s : Search) → IsClear n s → IsReady n s
clear_ready n s clear = record {
  size = ap length clear.distances ∙ length-replicate n None;
  marks = subst (λ (xs : List ℕ). Marks s.distances.items xs) (sym clear.reached) (subst (λ (ls : List (Option ℕ)). Marks ls []) (sym clear.distances) (marks_none n));
  queue = clear.queue;
}
