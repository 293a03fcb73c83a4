-- Searches from the places of a list, one after the other, each with its index as the label.
use Rattle.std.proofs.Common.{◌≡◌, ◌∙◌, sym, refl, ap, subst, ℕ, ◌+◌, ◌<◌, ◌≤◌, List, length, get_or, replicate, Option, None, Some, ⊎_elim, arith}
use Rattle.std.proofs.lemmas.Bool.{cases_lt}
use Rattle.std.proofs.lemmas.List.{get_or_past, get_or-replicate, length-replicate}
use Rattle.std.proofs.lemmas.Option.{none-some, same_Some}
use Rattle.bk_places.specs.Order.{AreEnds, IsEnd, end_of}
use Rattle.bk_places.specs.Search.{Path, IsMarked, Marks, IsClosed, Grows}
use Rattle.bk_places.proofs.Marking.{marked_or, none_closed}

pub record Met (es : List (List ℕ)) (a : ℕ) (xs : List ℕ) (i : ℕ) (ls : List (Option ℕ)) (ys : List ℕ) : Type 0 where
  pub size : length ls ≡ length es
  pub marks : Marks ls ys
  pub closed : IsClosed es a ls
  pub some : (p l : ℕ) → get_or ls p None ≡ Some l → l < i × Path es a (get_or xs l 0) p × ((j : ℕ) → j < l → ¬ Path es a (get_or xs j 0) p)
  pub none : (p : ℕ) → get_or ls p None ≡ None → (k : ℕ) → k < i → ¬ Path es a (get_or xs k 0) p

pub met_first : (es : List (List ℕ)) (a : ℕ) (xs : List ℕ) (n : ℕ) (ls : List (Option ℕ)) (ys : List ℕ) → n ≡ length es → ls ≡ replicate n None → Marks ls ys → Met es a xs 0 ls ys
met_first es a xs n ls ys same free marks = record {
  size = ap length free ∙ (length-replicate n None ∙ same);
  marks = marks;
  closed = subst (λ (ms : List (Option ℕ)). IsClosed es a ms) (sym free) (none_closed es a n);
  some = λ p l e. absurd (none-some l (sym (ap (λ ms. get_or ms p None) free ∙ nothing p) ∙ e));
  none = λ p e k l. absurd (omega arith);
}
  where
    nothing : (p : ℕ) → get_or {A = Option ℕ} (replicate n None) p None ≡ None
    nothing p = ⊎_elim (λ (b : p < n). get_or-replicate n p None None b) (λ c. get_or_past (replicate n None) p None (rw length-replicate c)) (cases_lt p n)

pub met_more : (es : List (List ℕ)) (a : ℕ) (xs : List ℕ) (i : ℕ) (ls : List (Option ℕ)) (ys : List ℕ) (ms : List (Option ℕ)) (zs : List ℕ) → Met es a xs i ls ys → Marks ms zs → IsClosed es a ms
    → Grows (Path es a (get_or xs i 0)) i ls ys ms zs → ((p : ℕ) → Path es a (get_or xs i 0) p → IsMarked ms p) → Met es a xs (i + 1) ms zs
met_more es a xs i ls ys ms zs s marks closed grows found = record {
  size = grows.size ∙ s.size;
  marks = marks;
  closed = closed;
  some = λ p m e. ⊎_elim
      (λ (n, g).
      let same : n ≡ m = same_Some n m (sym (grows.kept p n g) ∙ e) in
      let (b, path, first) = s.some p n g in
      (omega arith, subst (λ (x : ℕ). Path es a (get_or xs x 0) p) same path, λ j l. first j (omega arith)))
      (λ g.
      let (same, path) = grows.fresh p m g e in
      (omega arith, subst (λ (x : ℕ). Path es a (get_or xs x 0) p) (sym same) path, λ j l. s.none p g j (omega arith)))
      (marked_or ls p);
  none = λ p e k b path. ⊎_elim
      (λ (below : k < i). s.none p (unmarked p e) k below path)
      (λ (above : i ≤ k).
      let same : k ≡ i = omega arith in
      let (m, marked) = found p (subst (λ (x : ℕ). Path es a (get_or xs x 0) p) same path) in
      none-some m (sym e ∙ marked))
      (cases_lt k i);
}
  where
    unmarked : (p : ℕ) → get_or ms p None ≡ None → get_or ls p None ≡ None
    unmarked p e = ⊎_elim (λ (n, g). absurd (none-some n (sym e ∙ grows.kept p n g))) (λ g. g) (marked_or ls p)

pub met_all : (es : List (List ℕ)) (xs : List ℕ) (i : ℕ) (ls : List (Option ℕ)) (ys : List ℕ) → i ≡ length xs → Met es (length es) xs i ls ys → AreEnds es xs ls
met_all es xs i ls ys all s = λ q. end q (get_or ls q None) refl
  where
    end : (q : ℕ) (o : Option ℕ) → get_or ls q None ≡ o → IsEnd es xs q (end_of o (length xs))
    end q None e = record { within = omega arith; free = λ j l. s.none q e j (omega arith); met = λ l. absurd (omega arith) }
    end q (Some n) e = let (b, path, first) = s.some q n e in record { within = omega arith; free = first; met = λ l. path }
