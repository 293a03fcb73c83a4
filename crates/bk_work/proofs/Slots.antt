-- What workers made comes to the places of the functions, one by one.
use Rattle.std.proofs.Common.{◌≡◌, ◌⊎◌, inl, inr, ⊎_elim, ℕ, zero, suc, ◌+◌, List, [], ◌∷◌, ◌++◌, length, set, refl, sym, ap, subst, arith, Option, None, Some, Result, Ok, Err}
use Rattle.std.specs.Prelude.{OnOk, slice_get}
use Rattle.std.proofs.lemmas.List.Elements.{Contains-append_left, Contains-push}
use Rattle.bk_piece.specs.Pieces.{PieceRecord}
use Rattle.bk_work.specs.declared.items.Done.{Done}
use Rattle.bk_work.specs.declared.items.Done.TheVariants as done
use Rattle.bk_work.specs.declared.refusals.Cause.{Cause}
use Rattle.bk_work.specs.declared.refusals.Refusal.{Refusal}
use Rattle.bk_work.specs.Package.{refusal}
use Rattle.bk_work.specs.Placed.{AreEnds, AreFirsts, ArePlaced, no_ends, no_firsts, lowered, ready, refused_end, stopped}
use Rattle.bk_work.specs.Rounds.{Entry, Item}

-- one item more
got_set : {X : Type 0} (xs : List X) (i j : ℕ) (x y : X) → slice_get (set xs i x) j ≡ Some y → ((j ≡ i) × (x ≡ y)) ⊎ (slice_get xs j ≡ Some y)
got_set [] i j x y e = inr e
got_set (z ∷ xs) zero zero x y e = inl (refl, cc)
got_set (z ∷ xs) zero (suc j) x y e = inr e
got_set (z ∷ xs) (suc i) zero x y e = inr e
got_set (z ∷ xs) (suc i) (suc j) x y e = ⊎_elim (λ h. inl (ap suc h.0, h.1)) (λ h. inr h) (got_set xs i j x y e)

pub placed_none : (before : List (Option Done)) → ArePlaced [] before before
placed_none before = λ f d e. inl e

pub placed_more : (items : List Item) (before slots : List (Option Done)) (claim f : ℕ) (d : Done) → ArePlaced items before slots → ArePlaced (items ++ (claim, f, d) ∷ []) before (set slots f (Some d))
placed_more items before slots claim f d all = λ g x e. ⊎_elim
    (λ h. inr ((claim, f, d), Contains-push items (claim, f, d), sym h.0, (let same : Some d ≡ Some x = h.1 in cc)))
    (λ h. ⊎_elim
    (λ old. inl old)
    (λ i. inr (i.0, Contains-append_left items ((claim, f, d) ∷ []) i.0 i.1, i.2, i.3))
    (all g x h))
    (got_set slots f g (Some d) (Some x) e)

-- one function more of the first round
pub one_lowered : (ds : List (Option Done)) (es : List Entry) (cs : List (Option Cause)) (e : Entry) → AreFirsts ds es cs → AreFirsts (ds ++ Some (done.Lowered e.0 e.1) ∷ []) (es ++ e ∷ []) (cs ++ None ∷ [])
one_lowered _ _ _ e no_firsts = lowered e [] [] [] no_firsts
one_lowered _ _ _ e (lowered x ds es cs rest) = lowered x (ds ++ Some (done.Lowered e.0 e.1) ∷ []) (es ++ e ∷ []) (cs ++ None ∷ []) (one_lowered ds es cs e rest)
one_lowered _ _ _ e (stopped cause ds es cs rest) = stopped cause (ds ++ Some (done.Lowered e.0 e.1) ∷ []) (es ++ e ∷ []) (cs ++ None ∷ []) (one_lowered ds es cs e rest)

pub more_lowered : {X E : Type 0} (r : Result X E) (ds : List (Option Done)) (es more_es : List Entry) (cs more_cs : List (Option Cause)) (slot : Option Done) (e : Entry) → slot ≡ Some (done.Lowered e.0 e.1) → AreFirsts ds es cs
    → OnOk r (more_es ≡ es ++ e ∷ []) → OnOk r (more_cs ≡ cs ++ None ∷ []) → OnOk r (AreFirsts (ds ++ slot ∷ []) more_es more_cs)
more_lowered (Ok x) ds es more_es cs more_cs slot e is made lows causes =
    subst (λ (l : List Entry). AreFirsts (ds ++ slot ∷ []) l more_cs) (sym lows)
    (subst (λ (l : List (Option Cause)). AreFirsts (ds ++ slot ∷ []) (es ++ e ∷ []) l) (sym causes)
    (subst (λ (d : Option Done). AreFirsts (ds ++ d ∷ []) (es ++ e ∷ []) (cs ++ None ∷ [])) (sym is) (one_lowered ds es cs e made)))
more_lowered (Err x) ds es more_es cs more_cs slot e is made lows causes = lows

pub one_stopped : (ds : List (Option Done)) (es : List Entry) (cs : List (Option Cause)) (cause : Cause) → AreFirsts ds es cs → AreFirsts (ds ++ Some (done.Refused cause) ∷ []) es (cs ++ Some cause ∷ [])
one_stopped _ _ _ cause no_firsts = stopped cause [] [] [] no_firsts
one_stopped _ _ _ cause (lowered x ds es cs rest) = lowered x (ds ++ Some (done.Refused cause) ∷ []) es (cs ++ Some cause ∷ []) (one_stopped ds es cs cause rest)
one_stopped _ _ _ cause (stopped why ds es cs rest) = stopped why (ds ++ Some (done.Refused cause) ∷ []) es (cs ++ Some cause ∷ []) (one_stopped ds es cs cause rest)

-- one function more of both rounds
pub one_ready : (n : ℕ) (ds : List (Option Done)) (ps : List PieceRecord) (rs : List Refusal) (p : PieceRecord) → AreEnds n ds ps rs → AreEnds n (ds ++ Some (done.Ready p) ∷ []) (ps ++ p ∷ []) rs
one_ready _ _ _ _ p (no_ends n) = ready n p [] [] [] (no_ends (n + 1))
one_ready _ _ _ _ p (ready n q ds ps rs rest) = ready n q (ds ++ Some (done.Ready p) ∷ []) (ps ++ p ∷ []) rs (one_ready (n + 1) ds ps rs p rest)
one_ready _ _ _ _ p (refused_end n cause ds ps rs rest) = refused_end n cause (ds ++ Some (done.Ready p) ∷ []) (ps ++ p ∷ []) rs (one_ready (n + 1) ds ps rs p rest)

pub one_refused : (n place : ℕ) (ds : List (Option Done)) (ps : List PieceRecord) (rs : List Refusal) (cause : Cause) → AreEnds n ds ps rs → place ≡ n + (length ps + length rs)
    → AreEnds n (ds ++ Some (done.Refused cause) ∷ []) ps (rs ++ refusal place cause ∷ [])
one_refused _ place _ _ _ cause (no_ends n) at =
    let here : n ≡ place = omega arith in
    subst (λ p. AreEnds n (Some (done.Refused cause) ∷ []) [] (refusal p cause ∷ [])) here (refused_end n cause [] [] [] (no_ends (n + 1)))
one_refused _ place _ _ _ cause (ready n q ds ps rs rest) at =
    ready n q (ds ++ Some (done.Refused cause) ∷ []) ps (rs ++ refusal place cause ∷ []) (one_refused (n + 1) place ds ps rs cause rest (omega arith))
one_refused _ place _ _ _ cause (refused_end n why ds ps rs rest) at =
    refused_end n why (ds ++ Some (done.Refused cause) ∷ []) ps (rs ++ refusal place cause ∷ []) (one_refused (n + 1) place ds ps rs cause rest (omega arith))
