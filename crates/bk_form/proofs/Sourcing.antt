-- Searches from what edges lead to, one place after the other, each with the label that the place gives.
use Rattle.std.proofs.Common.{◌≡◌, ◌∙◌, sym, ap, subst, ℕ, ◌+◌, ◌<◌, ◌≤◌, Bool, false, List, [], length, get_or, replicate, Option, None, Some, ⊎_elim, arith}
use Rattle.std.specs.List.{Contains, slice_get}
use Rattle.std.proofs.lemmas.Bool.{cases_lt}
use Rattle.std.proofs.lemmas.List.{get_or_past, get_or-replicate, length-replicate}
use Rattle.std.proofs.lemmas.Option.{none-some, same_Some}
use Rattle.bk_places.proofs.Elements.{none_in}
use Rattle.bk_places.proofs.Marking.{marked_or, none_closed, marked_still}
use Rattle.bk_places.specs.Search.{PathFrom, IsMarked, Marks, IsClosed, Grows}
use Rattle.bk_form.specs.Carried.{AreIncoming, source_of}
use Rattle.bk_form.specs.declared.chains.Chain.{Chain}

pub record Sourced (es os : List (List ℕ)) (a : ℕ) (cs : List Chain) (rs : List Bool) (i : ℕ) (ls : List (Option ℕ)) (xs : List ℕ) : Type 0 where
  pub size : length ls ≡ length es
  pub marks : Marks ls xs
  pub closed : IsClosed os a ls
  pub from : (p l : ℕ) → get_or ls p None ≡ Some l → (x : ℕ) × (source_of (slice_get cs x) (get_or rs x false) ≡ Some l) × PathFrom os a (get_or es x []) p
  pub found : (x l p : ℕ) → x < i → source_of (slice_get cs x) (get_or rs x false) ≡ Some l → PathFrom os a (get_or es x []) p → IsMarked ls p

pub sourced_first : (es os : List (List ℕ)) (a : ℕ) (cs : List Chain) (rs : List Bool) (n : ℕ) (ls : List (Option ℕ)) (xs : List ℕ) → n ≡ length es → ls ≡ replicate n None → Marks ls xs
    → Sourced es os a cs rs 0 ls xs
sourced_first es os a cs rs n ls xs same none marks = record {
  size = ap length none ∙ (length-replicate n None ∙ same);
  marks = marks;
  closed = subst (λ (ms : List (Option ℕ)). IsClosed os a ms) (sym none) (none_closed os a n);
  from = λ p l e. absurd (none-some l (sym (ap (λ ms. get_or ms p None) none ∙ nothing p) ∙ e));
  found = λ x l p b. absurd (omega arith);
}
  where
    nothing : (p : ℕ) → get_or {A = Option ℕ} (replicate n None) p None ≡ None
    nothing p = ⊎_elim (λ (b : p < n). get_or-replicate n p None None b) (λ c. get_or_past (replicate n None) p None (rw length-replicate c)) (cases_lt p n)

pub sourced_more : (es os : List (List ℕ)) (a : ℕ) (cs : List Chain) (rs : List Bool) (i l : ℕ) (ls : List (Option ℕ)) (xs : List ℕ) (ms : List (Option ℕ)) (ys starts : List ℕ)
    → Sourced es os a cs rs i ls xs → source_of (slice_get cs i) (get_or rs i false) ≡ Some l → starts ≡ get_or es i [] → Marks ms ys → IsClosed os a ms → Grows (PathFrom os a starts) l ls xs ms ys
    → ((p : ℕ) → PathFrom os a starts p → IsMarked ms p) → Sourced es os a cs rs (i + 1) ms ys
sourced_more es os a cs rs i l ls xs ms ys starts s source same marks closed grows found = record {
  size = grows.size ∙ s.size;
  marks = marks;
  closed = closed;
  from = λ p k e. ⊎_elim
      (λ (j, g).
      let is : j ≡ k = same_Some j k (sym (grows.kept p j g) ∙ e) in
      let (x, there, path) = s.from p j g in
      (x, there ∙ ap Some is, path))
      (λ g. let (is, path) = grows.fresh p k g e in (i, source ∙ ap Some (sym is), subst (λ (us : List ℕ). PathFrom os a us p) same path))
      (marked_or ls p);
  found = λ x k p b there path. ⊎_elim
      (λ (low : x < i). marked_still (PathFrom os a starts) grows p (s.found x k p low there path))
      (λ (high : i ≤ x).
      let last : x ≡ i = omega arith in
      found p (subst (λ (us : List ℕ). PathFrom os a us p) (ap (λ j. get_or es j []) last ∙ sym same) path))
      (cases_lt x i);
}

pub sourced_past : (es os : List (List ℕ)) (a : ℕ) (cs : List Chain) (rs : List Bool) (i : ℕ) (ls : List (Option ℕ)) (xs : List ℕ) → Sourced es os a cs rs i ls xs
    → source_of (slice_get cs i) (get_or rs i false) ≡ None → Sourced es os a cs rs (i + 1) ls xs
sourced_past es os a cs rs i ls xs s none = record {
  size = s.size;
  marks = s.marks;
  closed = s.closed;
  from = s.from;
  found = λ x k p b there path. ⊎_elim
      (λ (low : x < i). s.found x k p low there path)
      (λ (high : i ≤ x).
      let last : x ≡ i = omega arith in
      absurd (none-some k (sym none ∙ (ap (λ j. source_of (slice_get cs j) (get_or rs j false)) (sym last) ∙ there))))
      (cases_lt x i);
}

pub sourced_all : (es os : List (List ℕ)) (cs : List Chain) (rs : List Bool) (i : ℕ) (ls : List (Option ℕ)) (xs : List ℕ) → Sourced es os (length es) cs rs i ls xs → length es ≤ i
    → AreIncoming es os cs rs ls
sourced_all es os cs rs i ls xs s over = record {
  from = s.from;
  found = λ x l p there (t, c, path). ⊎_elim
      (λ (low : x < i). s.found x l p low there (t, c, path))
      (λ (high : i ≤ x). absurd (none_in t (subst (λ (us : List ℕ). Contains us t) (get_or_past es x [] (omega arith)) c)))
      (cases_lt x i);
}
