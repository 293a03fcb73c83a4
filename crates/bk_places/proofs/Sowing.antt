-- Searches from several starts, one after the other, each of which gives its place as the label.
use Rattle.std.proofs.Common.{◌≡◌, ◌∙◌, sym, ap, subst, ℕ, ◌+◌, ◌<◌, ◌≤◌, List, length, get_or, replicate, Option, None, Some, ⊎_elim, arith}
use Rattle.std.proofs.lemmas.Bool.{cases_lt}
use Rattle.std.proofs.lemmas.List.{get_or_past, get_or-replicate, length-replicate}
use Rattle.std.proofs.lemmas.Option.{none-some, same_Some}
use Rattle.bk_places.specs.Search.{Path, IsMarked, Marks, IsClosed, Grows}
use Rattle.bk_places.proofs.Marking.{marked_or, none_closed, marked_still}

-- the starts below the place are those of which the fact holds
pub record Sown (es : List (List ℕ)) (avoided : ℕ) (P : ℕ → Type 0) (i : ℕ) (ls : List (Option ℕ)) (xs : List ℕ) : Type 0 where
  pub size : length ls ≡ length es
  pub marks : Marks ls xs
  pub closed : IsClosed es avoided ls
  pub from : (p l : ℕ) → get_or ls p None ≡ Some l → l < i × P l × Path es avoided l p
  pub found : (l p : ℕ) → l < i → P l → Path es avoided l p → IsMarked ls p

pub sown_first : (es : List (List ℕ)) (avoided : ℕ) (P : ℕ → Type 0) (ls : List (Option ℕ)) (xs : List ℕ) → ls ≡ replicate (length es) None → Marks ls xs → Sown es avoided P 0 ls xs
sown_first es avoided P ls xs none marks = record {
  size = ap length none ∙ length-replicate (length es) None;
  marks = marks;
  closed = subst (λ (ms : List (Option ℕ)). IsClosed es avoided ms) (sym none) (none_closed es avoided (length es));
  from = λ p l e. absurd (none-some l (sym (ap (λ ms. get_or ms p None) none ∙ nothing p) ∙ e));
  found = λ l p b. absurd (omega arith);
}
  where
    nothing : (p : ℕ) → get_or {A = Option ℕ} (replicate (length es) None) p None ≡ None
    nothing p = ⊎_elim (λ (b : p < length es). get_or-replicate (length es) p None None b)
        (λ a. get_or_past (replicate (length es) None) p None (rw length-replicate a))
        (cases_lt p (length es))

-- one more start
pub sown_more : (es : List (List ℕ)) (avoided : ℕ) (P : ℕ → Type 0) (i : ℕ) (ls : List (Option ℕ)) (xs : List ℕ) (ms : List (Option ℕ)) (ys : List ℕ) → Sown es avoided P i ls xs → P i
    → Marks ms ys → IsClosed es avoided ms → Grows (Path es avoided i) i ls xs ms ys → ((p : ℕ) → Path es avoided i p → IsMarked ms p) → Sown es avoided P (i + 1) ms ys
sown_more es avoided P i ls xs ms ys s start marks closed grows found = record {
  size = grows.size ∙ s.size;
  marks = marks;
  closed = closed;
  from = λ p l e. ⊎_elim
      (λ (k, g).
      let same : k ≡ l = same_Some k l (sym (grows.kept p k g) ∙ e) in
      let (b, here', path) = s.from p k g in
      (omega arith, subst (λ (j : ℕ). P j) same here', subst (λ (j : ℕ). Path es avoided j p) same path))
      (λ g.
      let (same, path) = grows.fresh p l g e in
      (omega arith, subst (λ (j : ℕ). P j) (sym same) start, subst (λ (j : ℕ). Path es avoided j p) (sym same) path))
      (marked_or ls p);
  found = λ l p b here' path. ⊎_elim
      (λ (below : l < i). marked_still (Path es avoided i) grows p (s.found l p below here' path))
      (λ (above : i ≤ l). let last : l ≡ i = omega arith in found p (subst (λ (j : ℕ). Path es avoided j p) last path))
      (cases_lt l i);
}

-- and a place that is no start
pub sown_past : (es : List (List ℕ)) (avoided : ℕ) (P : ℕ → Type 0) (i : ℕ) (ls : List (Option ℕ)) (xs : List ℕ) → Sown es avoided P i ls xs → ¬ P i → Sown es avoided P (i + 1) ls xs
sown_past es avoided P i ls xs s other = record {
  size = s.size;
  marks = s.marks;
  closed = s.closed;
  from = λ p l e. let (b, here', path) = s.from p l e in (omega arith, here', path);
  found = λ l p b here' path. ⊎_elim
      (λ (below : l < i). s.found l p below here' path)
      (λ (above : i ≤ l). let last : l ≡ i = omega arith in absurd (other (subst (λ (j : ℕ). P j) last here')))
      (cases_lt l i);
}
