-- Counts of scheduled places, entry by entry.
use Rattle.std.proofs.Common.{◌≡◌, ◌∙◌, sym, refl, ap, subst, ℕ, ◌+◌, ◌-◌, ◌<◌, ◌≤◌, List, [], ◌∷◌, ◌++◌, length, get_or, map, take, Some, ⊎_elim, arith}
use Rattle.std.specs.List.{slice_get, sum_by}
use Rattle.std.proofs.lemmas.Bool.{cases_lt}
use Rattle.std.proofs.lemmas.List.{get_or_append_left, get_or-map, get_or_push, length-map, length_push, map-append, map_more, take-take}
use Rattle.std.proofs.lemmas.List.Sums.{sum_by_more, sum_by-take-le}
use Rattle.std.proofs.lemmas.Option.{slice_get_read, slice_get_within, get_or_from_slice_get}
use Rattle.bk_func.specs.Records.{FuncRecord}
use Rattle.bk_live.specs.Counts.{cost_of, IsCounted, AreCounts, last_of}
use Rattle.bk_live.specs.Live.{cost, order_at}

-- the counts of the fronts of up to i entries, the last of them being c
pub record CountsUpTo (f : FuncRecord) (order : List ℕ) (i c : ℕ) (row : List ℕ) : Type 0 where
  pub size : length row ≡ i + 1
  pub each : (k : ℕ) → k ≤ i → slice_get row k ≡ Some (cost_of f order k)
  pub last : c ≡ cost_of f order i

-- an element that was there is there still, and the new one stands at the end
pub get_left : {A : Type 0} (xs : List A) (y x : A) (k : ℕ) → slice_get xs k ≡ Some x → slice_get (xs ++ y ∷ []) k ≡ Some x
get_left xs y x k e =
    let inside : k < length xs = slice_get_within xs k x e in
    let at : x ≡ get_or (xs ++ y ∷ []) k x = sym (get_or_append_left xs (y ∷ []) x k inside ∙ get_or_from_slice_get xs k x x e) in
    slice_get_read (xs ++ y ∷ []) (length (xs ++ y ∷ [])) k x refl (omega (arith, length_push xs y)) at

pub get_last : {A : Type 0} (xs : List A) (y : A) (k : ℕ) → k ≡ length xs → slice_get (xs ++ y ∷ []) k ≡ Some y
get_last xs y k e = slice_get_read (xs ++ y ∷ []) (length (xs ++ y ∷ [])) k y refl (omega (arith, length_push xs y)) (sym (get_or_push xs y y k (sym e)))

pub counted_none : (f : FuncRecord) (order row : List ℕ) → row ≡ 0 ∷ [] → CountsUpTo f order 0 0 row
counted_none f order row e = record {
  size = ap length e;
  each = λ k l. let z : k ≡ 0 = omega arith in subst (λ (r : List ℕ). slice_get r k ≡ Some (cost_of f order k)) (sym e) (subst (λ (j : ℕ). slice_get (0 ∷ []) j ≡ Some (cost_of f order j)) (sym z) refl);
  last = refl;
}

pub counted_more : (f : FuncRecord) (order row more : List ℕ) (i c d : ℕ) → i < length order → d ≡ c + cost f (get_or order i 0) → more ≡ row ++ d ∷ [] → CountsUpTo f order i c row
    → CountsUpTo f order (i + 1) d more
counted_more f order row more i c d inside sum is a = record {
  size = ap length is ∙ (length_push row d ∙ ap (λ k. k + 1) a.size);
  each = λ k l. subst (λ (r : List ℕ). slice_get r k ≡ Some (cost_of f order k)) (sym is) (⊎_elim
      (λ (low : k < i + 1). get_left row d (cost_of f order k) k (a.each k (omega arith)))
      (λ (high : i + 1 ≤ k).
      let last : k ≡ i + 1 = omega arith in
      get_last row d k (last ∙ sym a.size) ∙ ap Some (new ∙ ap (cost_of f order) (sym last)))
      (cases_lt k (i + 1)));
  last = new;
}
  where
    new : d ≡ cost_of f order (i + 1)
    new = sum ∙ (ap (λ n. n + cost f (get_or order i 0)) a.last ∙ sym (sum_by_more (cost f) order i 0 inside))

pub counted_all : (f : FuncRecord) (order row : List ℕ) (i c : ℕ) → i ≡ length order → CountsUpTo f order i c row → IsCounted f order row
counted_all f order row i c over a = record { size = a.size ∙ ap (λ k. k + 1) over; each = λ k l. a.each k (omega arith) }

-- the rows of the first orders
pub record RowsUpTo (f : FuncRecord) (os : List (List ℕ)) (i : ℕ) (rows : List (List ℕ)) : Type 0 where
  pub size : length rows ≡ i
  pub each : (j : ℕ) → j < i → IsCounted f (order_at os j) (get_or rows j [])

pub rows_more : (f : FuncRecord) (os rows more : List (List ℕ)) (i : ℕ) (row : List ℕ) → more ≡ rows ++ row ∷ [] → IsCounted f (order_at os i) row → RowsUpTo f os i rows → RowsUpTo f os (i + 1) more
rows_more f os rows more i row is one a = record {
  size = ap length is ∙ (length_push rows row ∙ ap (λ k. k + 1) a.size);
  each = λ j l. subst (λ (rs : List (List ℕ)). IsCounted f (order_at os j) (get_or rs j [])) (sym is) (⊎_elim
      (λ (low : j < i). subst (λ (r : List ℕ). IsCounted f (order_at os j) r) (sym (get_or_append_left rows (row ∷ []) [] j (omega (arith, a.size)))) (a.each j low))
      (λ (high : i ≤ j).
      let last : j ≡ i = omega arith in
      subst (λ (r : List ℕ). IsCounted f (order_at os j) r) (sym (get_or_push rows row [] j (sym (last ∙ sym a.size))))
      (subst (λ (k : ℕ). IsCounted f (order_at os k) row) (sym last) one))
      (cases_lt j i));
}

pub rows_all : (f : FuncRecord) (os rows : List (List ℕ)) (i : ℕ) → i ≡ length os → RowsUpTo f os i rows → AreCounts f os rows
rows_all f os rows i over a = record { size = a.size ∙ over; each = λ j l. a.each j (omega arith) }

-- what one more entry counts
pub cost_next : (f : FuncRecord) (order : List ℕ) (k x : ℕ) → slice_get order k ≡ Some x → cost_of f order (k + 1) ≡ cost_of f order k + cost f x
cost_next f order k x e =
    sum_by_more (cost f) order k x (slice_get_within order k x e) ∙ ap (λ y. cost_of f order k + cost f y) (get_or_from_slice_get order k x x e)

-- more entries count no less
pub cost_grows : (f : FuncRecord) (order : List ℕ) (k l : ℕ) → k ≤ l → cost_of f order k ≤ cost_of f order l
cost_grows f order k l low =
    let part : sum_by (cost f) (take k (take l order)) ≤ sum_by (cost f) (take l order) = sum_by-take-le (cost f) (take l order) k in
    let same : sum_by (cost f) (take k (take l order)) ≡ sum_by (cost f) (take k order) = ap (sum_by (cost f)) (take-take k l order low) in
    omega arith

-- the last count is that of the whole order
pub last_is : (f : FuncRecord) (order row : List ℕ) → IsCounted f order row → last_of row ≡ cost_of f order (length order)
last_is f order row a =
    let last : length row - 1 ≡ length order = omega (arith, a.size) in
    ap (λ k. get_or row k 0) last ∙ get_or_from_slice_get row (length order) (cost_of f order (length order)) 0 (a.each (length order) (omega arith))

-- lists of rows seen through a view: one more row
pub mapped_more : {A B C : Type 0} (h : A → B) (g : B → C) (xs : List A) (bs : List B) (cs ds : List C) (i : ℕ) (a : A) (e : C) → map h xs ≡ bs → i < length xs → a ≡ get_or xs i a → cs ≡ map g (take i bs)
    → e ≡ g (h a) → ds ≡ cs ++ e ∷ [] → ds ≡ map g (take (i + 1) bs)
mapped_more {A} {B} {C} h g xs bs cs ds i a e view inside at before one is =
    let here : h a ≡ get_or bs i (h a) = ap h at ∙ (sym (get_or-map h xs i a (h a) inside) ∙ ap (λ us. get_or us i (h a)) view) in
    let low : i < length bs = omega (arith, ap length view, length-map xs h) in
    is ∙ (ap (λ us. us ++ e ∷ []) before ∙ (ap (λ x. map g (take i bs) ++ x ∷ []) (one ∙ ap g here) ∙ sym (map_more g bs i (h a) low)))

-- the same where what is made is seen through a view too
pub mapped_both : {A B C D : Type 0} (h : A → B) (g : B → C) (k : D → C) (xs : List A) (bs : List B) (cs ds : List D) (i : ℕ) (a : A) (e : D) → map h xs ≡ bs → i < length xs → a ≡ get_or xs i a
    → map k cs ≡ map g (take i bs) → k e ≡ g (h a) → ds ≡ cs ++ e ∷ [] → map k ds ≡ map g (take (i + 1) bs)
mapped_both {A} {B} {C} {D} h g k xs bs cs ds i a e view inside at before one is =
    mapped_more h g xs bs (map k cs) (map k ds) i a (k e) view inside at before one (ap (map k) is ∙ map-append k cs (e ∷ []))
