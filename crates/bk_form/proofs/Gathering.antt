-- Places that are gathered, one after the other.
use Rattle.std.proofs.Common.{◌≡◌, ◌∙◌, sym, ap, subst, ℕ, ◌+◌, ◌<◌, ◌≤◌, ◌⊎◌, Bool, true, false, List, [], ◌∷◌, ◌++◌, length, get_or, Option, None, inl, inr, ⊎_elim, arith}
use Rattle.std.specs.List.{Contains, slice_get}
use Rattle.std.proofs.lemmas.Bool.{cases_lt, false≢true}
use Rattle.std.proofs.lemmas.List.{get_or_default, get_or_past}
use Rattle.std.proofs.lemmas.List.Elements.{Contains-append_left, Contains-get_or, Contains-push, Contains-push_cases}
use Rattle.bk_places.proofs.Elements.{none_in}
use Rattle.bk_form.specs.Carried.{AreDiffering, Differs, Gathers, out_of}
use Rattle.bk_form.specs.declared.chains.Chain.{Chain}

-- those below the index were looked at
pub record GathersUpTo (P : ℕ → Type 0) (ps old : List ℕ) (i : ℕ) (new : List ℕ) : Type 0 where
  pub kept : (y : ℕ) → Contains old y → Contains new y
  pub added : (k : ℕ) → k < i → P (get_or ps k 0) → Contains new (get_or ps k 0)
  pub only : (y : ℕ) → Contains new y → Contains old y ⊎ (Contains ps y × P y)

pub gathers_none : (P : ℕ → Type 0) (ps old : List ℕ) → GathersUpTo P ps old 0 old
gathers_none P ps old = record { kept = λ y c. c; added = λ k b. absurd (omega arith); only = λ y c. inl c }

pub gathers_past : {P : ℕ → Type 0} {ps old new : List ℕ} {i : ℕ} → GathersUpTo P ps old i new → ¬ P (get_or ps i 0) → GathersUpTo P ps old (i + 1) new
gathers_past {P} {ps} {old} {new} {i} g other = record {
  kept = g.kept;
  added = λ k b p. ⊎_elim
      (λ (low : k < i). g.added k low p)
      (λ (high : i ≤ k). let last : k ≡ i = omega arith in absurd (other (subst (λ (j : ℕ). P (get_or ps j 0)) last p)))
      (cases_lt k i);
  only = g.only;
}

pub gathers_more : {P : ℕ → Type 0} {ps old new : List ℕ} {i : ℕ} → GathersUpTo P ps old i new → i < length ps → P (get_or ps i 0) → (next : List ℕ) → next ≡ new ++ get_or ps i 0 ∷ []
    → GathersUpTo P ps old (i + 1) next
gathers_more {P} {ps} {old} {new} {i} g within here next more = record {
  kept = λ y c. in_next y (Contains-append_left new (get_or ps i 0 ∷ []) y (g.kept y c));
  added = λ k b p. ⊎_elim
      (λ (low : k < i). in_next (get_or ps k 0) (Contains-append_left new (get_or ps i 0 ∷ []) (get_or ps k 0) (g.added k low p)))
      (λ (high : i ≤ k).
      let last : i ≡ k = omega arith in
      in_next (get_or ps k 0) (subst (λ (j : ℕ). Contains (new ++ get_or ps i 0 ∷ []) (get_or ps j 0)) last (Contains-push new (get_or ps i 0))))
      (cases_lt k i);
  only = λ y c. ⊎_elim
      (λ before. g.only y before)
      (λ (same : get_or ps i 0 ≡ y). inr (subst (λ (j : ℕ). Contains ps j × P j) same (Contains-get_or ps i 0 within, here)))
      (Contains-push_cases new (get_or ps i 0) y (subst (λ (us : List ℕ). Contains us y) more c));
}
  where
    in_next : (y : ℕ) → Contains (new ++ get_or ps i 0 ∷ []) y → Contains next y
    in_next y c = subst (λ (us : List ℕ). Contains us y) (sym more) c

pub gathers_all : {P : ℕ → Type 0} {ps old new : List ℕ} {i : ℕ} → GathersUpTo P ps old i new → length ps ≤ i → Gathers P ps old new
gathers_all {P} {ps} {old} {new} {i} g over = record {
  kept = g.kept;
  added = λ y (k, b, at) p.
      let same : get_or ps k 0 ≡ y = get_or_default ps k 0 y b ∙ at in
      subst (λ (j : ℕ). Contains new j) same (g.added k (omega arith) (subst P (sym same) p));
  only = g.only;
}

-- the edges of the blocks below the index were looked at
pub record DiffersUpTo (es : List (List ℕ)) (cs : List Chain) (rs : List Bool) (ls : List (Option ℕ)) (i : ℕ) (ds : List ℕ) : Type 0 where
  pub start : Contains ds 0
  pub each : (x y : ℕ) → x < i → Differs es cs rs ls x y → Contains ds y
  pub only : (y : ℕ) → Contains ds y → (y ≡ 0) ⊎ ((x : ℕ) × Differs es cs rs ls x y)

pub differs_none : (es : List (List ℕ)) (cs : List Chain) (rs : List Bool) (ls : List (Option ℕ)) (none ds : List ℕ) → none ≡ [] → ds ≡ none ++ 0 ∷ [] → DiffersUpTo es cs rs ls 0 ds
differs_none es cs rs ls none ds empty one = record {
  start = subst (λ (us : List ℕ). Contains us 0) (sym one) (Contains-push none 0);
  each = λ x y b. absurd (omega arith);
  only = λ y c. ⊎_elim
      (λ before. absurd (none_in y (subst (λ (us : List ℕ). Contains us y) empty before)))
      (λ (same : 0 ≡ y). inl (sym same))
      (Contains-push_cases none 0 y (subst (λ (us : List ℕ). Contains us y) one c));
}

pub differs_past : (es : List (List ℕ)) (cs : List Chain) (rs : List Bool) (ls : List (Option ℕ)) (i : ℕ) (ds : List ℕ) → DiffersUpTo es cs rs ls i ds → get_or rs i false ≡ false
    → DiffersUpTo es cs rs ls (i + 1) ds
differs_past es cs rs ls i ds d free = record {
  start = d.start;
  each = λ x y b (reached, edge, apart). ⊎_elim
      (λ (low : x < i). d.each x y low (reached, edge, apart))
      (λ (high : i ≤ x). let last : x ≡ i = omega arith in absurd (false≢true (sym free ∙ (ap (λ j. get_or rs j false) (sym last) ∙ reached))))
      (cases_lt x i);
  only = d.only;
}

pub differs_more : (es : List (List ℕ)) (cs : List Chain) (rs : List Bool) (ls : List (Option ℕ)) (i : ℕ) (ds next ps : List ℕ) (state : Option ℕ) → DiffersUpTo es cs rs ls i ds
    → get_or rs i false ≡ true → ps ≡ get_or es i [] → state ≡ out_of (slice_get cs i) (get_or ls i None) → Gathers (λ y. ¬ (get_or ls y None ≡ state)) ps ds next
    → DiffersUpTo es cs rs ls (i + 1) next
differs_more es cs rs ls i ds next ps state d reached behind out g = record {
  start = g.kept 0 d.start;
  each = λ x y b (there, edge, apart). ⊎_elim
      (λ (low : x < i). g.kept y (d.each x y low (there, edge, apart)))
      (λ (high : i ≤ x).
      let last : x ≡ i = omega arith in
      g.added y (subst (λ (us : List ℕ). Contains us y) (ap (λ j. get_or es j []) last ∙ sym behind) edge)
      (λ e. apart (e ∙ (out ∙ ap (λ j. out_of (slice_get cs j) (get_or ls j None)) (sym last)))))
      (cases_lt x i);
  only = λ y c. ⊎_elim
      (λ before. d.only y before)
      (λ (m, apart). inr (i, (reached, subst (λ (us : List ℕ). Contains us y) behind m, λ e. apart (e ∙ sym out))))
      (g.only y c);
}

pub differs_all : (es : List (List ℕ)) (cs : List Chain) (rs : List Bool) (ls : List (Option ℕ)) (i : ℕ) (ds : List ℕ) → length es ≤ i → DiffersUpTo es cs rs ls i ds → AreDiffering es cs rs ls ds
differs_all es cs rs ls i ds over d = record {
  start = d.start;
  each = λ x y (reached, edge, apart). ⊎_elim
      (λ (low : x < i). d.each x y low (reached, edge, apart))
      (λ (high : i ≤ x). absurd (none_in y (subst (λ (us : List ℕ). Contains us y) (get_or_past es x [] (omega arith)) edge)))
      (cases_lt x i);
  only = d.only;
}
