-- Functions that are made ready, one after the other.
use Rattle.std.proofs.Common.{◌≡◌, ℕ, zero, suc, ◌+◌, ◌<◌, refl, ap, sym, ◌∙◌, subst, arith, ◌⊎◌, inl, inr, List, [], ◌∷◌, ◌++◌, length, length-append, Option, Some, None, true, false, get_or, set, length-set}
use Rattle.std.specs.Prelude.{is_some, slice_get, slice_set}
use Rattle.std.proofs.lemmas.Bool.{cases_eq}
use Rattle.bk_func.specs.Records.{FuncRecord, PackageRecord}
use Rattle.bk_mean.specs.declared.ready.Ready.{Ready}
use Rattle.bk_mean.specs.declared.symbols.Symbols.{Symbols}
use Rattle.bk_mean.specs.Symbols.{IsNaming}
use Rattle.bk_mean.specs.Ready.{IsReady}
use Rattle.bk_mean.specs.Running.{AreReady, MakesReady, NoneReady}
use Rattle.bk_places.proofs.Positions.{got_get_or}

-- one more that is not ready
pub none_more : (n : ℕ) (old new : List (Option Ready)) → NoneReady n old → new ≡ old ++ None ∷ [] → NoneReady (n + 1) new
none_more n old new h e = record { size = ap length e ∙ length-append old (None ∷ []) ∙ ap (λ k. k + 1) h.size; none = λ i r g. go old i r (λ j q k. h.none j q k) (sym (ap (λ rs. slice_get rs i) e) ∙ g) }
  where
    go : (rs : List (Option Ready)) (i : ℕ) (r : Ready) → ((j : ℕ) (q : Ready) → ¬ (slice_get rs j ≡ Some (Some q))) → ¬ (slice_get (rs ++ None ∷ []) i ≡ Some (Some r))
    go [] zero r k g = absurd cc
    go [] (suc i) r k g = absurd cc
    go (x ∷ rs) zero r k g = k 0 r g
    go (x ∷ rs) (suc i) r k g = go rs i r (λ j q z. k (suc j) q z) g

-- a list with one element set

pub got_set_same : {A : Type 0} (xs : List A) (i : ℕ) (y : A) → i < length xs → slice_get (set xs i y) i ≡ Some y
got_set_same [] i y l = absurd (omega (arith, l))
got_set_same (x ∷ xs) zero y l = refl
got_set_same (x ∷ xs) (suc i) y l = got_set_same xs i y (omega (arith, l))

pub got_set_other : {A : Type 0} (xs : List A) (i j : ℕ) (y : A) → ¬ (j ≡ i) → slice_get (set xs i y) j ≡ slice_get xs j
got_set_other [] i j y n = refl
got_set_other (x ∷ xs) zero zero y n = absurd (n refl)
got_set_other (x ∷ xs) zero (suc j) y n = refl
got_set_other (x ∷ xs) (suc i) zero y n = refl
got_set_other (x ∷ xs) (suc i) (suc j) y n = got_set_other xs i j y (λ e. n (ap suc e))

-- the function at a place is ready already, or there is no place for it
pub made_already : (s : Symbols) (f : FuncRecord) (place : ℕ) (readies : List (Option Ready)) → (place < length readies → (r : Ready) × (slice_get readies place ≡ Some (Some r))) → MakesReady s f place readies readies
made_already s f place readies h = record { grows = λ i r g. g; there = h; ready = λ p n g a. a }

pub made_now : (s : Symbols) (f : FuncRecord) (place : ℕ) (old : List (Option Ready)) (r : Ready) → place < length old → slice_get old place ≡ Some None → ((p : PackageRecord) → IsNaming p s → IsReady p f r) →
    MakesReady s f place old (slice_set old place (Some r))
made_now s f place old r l e ready = record {
  grows = λ i q g. grows i q g (cases_eq i place);
  there = λ k. (r, got_set_same old place (Some r) l);
  ready = λ p n g a. record { size = length-set old place (Some r) ∙ a.size; each = λ i h q k t. each p n g a i h q k t (cases_eq i place) };
}
  where
    grows : (i : ℕ) (q : Ready) → slice_get old i ≡ Some (Some q) → (i ≡ place) ⊎ (i ≡ place → ⊥) → slice_get (slice_set old place (Some r)) i ≡ Some (Some q)
    grows i q g (inl d) = let x = sym e ∙ ap (slice_get old) (sym d) ∙ g in absurd cc
    grows i q g (inr n) = got_set_other old place i (Some r) n ∙ g

    each : (p : PackageRecord) → IsNaming p s → slice_get p.funcs place ≡ Some f → AreReady p old → (i : ℕ) (h : FuncRecord) (q : Ready) → slice_get p.funcs i ≡ Some h → slice_get (slice_set old place (Some r)) i ≡ Some (Some q) →
        (i ≡ place) ⊎ (i ≡ place → ⊥) → IsReady p h q
    each p n g a i h q k t (inl d) =
        let x = sym (got_set_same old place (Some r) l) ∙ ap (slice_get (slice_set old place (Some r))) (sym d) ∙ t in
        let y = sym g ∙ ap (slice_get p.funcs) (sym d) ∙ k in
        let u : r ≡ q = cc in
        let w : f ≡ h = cc in
        let P : Ready → Type 0 = λ z. IsReady p f z in
        let Q : FuncRecord → Type 0 = λ z. IsReady p z q in
        subst Q w (subst P u (ready p n))
    each p n g a i h q k t (inr m) = a.each i h q k (sym (got_set_other old place i (Some r) m) ∙ t)

-- whether one stands at a place

pub none_at : (rs : List (Option Ready)) (k : ℕ) (x : Option Ready) → k < length rs → x ≡ get_or rs k x → is_some x ≡ false → slice_get rs k ≡ Some None
none_at rs k None l e n = got_get_or rs k None l ∙ ap Some (sym e)
none_at rs k (Some r) l e n = absurd cc

pub some_at : (rs : List (Option Ready)) (k : ℕ) (x : Option Ready) → k < length rs → x ≡ get_or rs k x → is_some x ≡ true → (r : Ready) × (slice_get rs k ≡ Some (Some r))
some_at rs k None l e n = absurd cc
some_at rs k (Some r) l e n = (r, got_get_or rs k (Some r) l ∙ ap Some (sym e))
