-- What both rounds made of all functions.
use Rattle.std.proofs.Common.{◌≡◌, ℕ, zero, suc, ◌+◌, List, [], ◌∷◌, length, map, refl, sym, ap, ◌∙◌, subst, arith, Option, Some}
use Rattle.std.specs.Prelude.{slice_get}
use Rattle.std.specs.List.{Contains}
use Rattle.bk_core.specs.Events.{word_at}
use Rattle.bk_func.specs.Records.{FuncRecord, PackageRecord}
use Rattle.bk_ops.specs.declared.types.Target.{Target}
use Rattle.bk_fixup.specs.Keys as fixup
use Rattle.bk_graph.specs.Critical.{without_critical}
use Rattle.bk_piece.specs.declared.Handle.{Handle}
use Rattle.bk_piece.specs.declared.Key.{Key}
use Rattle.bk_piece.specs.Filled.{key_at, key_in}
use Rattle.bk_piece.specs.Pieces.{PieceRecord}
use Rattle.bk_piece.proofs.Elements.{has_here, has_there}
use Rattle.bk_work.specs.declared.items.Done.{Done}
use Rattle.bk_work.specs.declared.items.Done.TheVariants as done
use Rattle.bk_work.specs.declared.refusals.Refusal.{Refusal}
use Rattle.bk_work.specs.Each.{Each, none, more}
use Rattle.bk_work.specs.Framed.{FramedRecord, IsMade}
use Rattle.bk_work.specs.Package.{AreOutcomes, IsCode, none_left, in_frame, refused}
use Rattle.bk_work.specs.Placed.{AreEnds, no_ends, ready, refused_end}
use Rattle.bk_work.specs.Refused.{IsRefused, frame}
use Rattle.bk_work.specs.Rounds.{Entry, IsAt, IsEntry, IsHandle, IsSecond}
use Rattle.bk_work.specs.Rules.{RulesRecord}
use Rattle.bk_work.specs.Run.{in_words}

-- handles of keys whose cells hold them stand for the keys
pub handles_are : (words : List (List ℕ)) (keys : List Key) (handles : List Handle) → Each (IsHandle (in_words words)) keys handles → map (key_at words) handles ≡ keys
handles_are words _ _ none = refl
handles_are words _ _ (more k h keys handles r rest) =
    let one : key_at words h ≡ k = ap (λ (a : ℕ). key_in a (word_at words a h.cell)) r.0 ∙ ap (key_in k.area) r.1 in
    ap (λ (x : Key). x ∷ map (key_at words) handles) one ∙ ap (λ (xs : List Key). k ∷ xs) (handles_are words keys handles rest)

-- what both rounds made of the function g at the place f
abbrev pub IsEnd : PackageRecord → Target → RulesRecord → List (List ℕ) → List ℕ → List Entry → ℕ → FuncRecord → FramedRecord → PieceRecord → Type 0
IsEnd pkg t rules words places es f g it p = IsMade pkg t rules g it × IsCode t words it p × ((e : Entry) × IsAt places es f e × (fixup.keys_of it.func ≡ e.1.items))

abbrev pub IsEnded : PackageRecord → Target → RulesRecord → List (List ℕ) → List ℕ → List Entry → ℕ → FuncRecord → Done → Type 0
IsEnded pkg t rules words places es f g (done.Lowered h keys) = ⊥
IsEnded pkg t rules words places es f g (done.Ready p) = (it : FramedRecord) × IsEnd pkg t rules words places es f g it p
IsEnded pkg t rules words places es f g (done.Refused cause) = IsRefused pkg t rules g cause

-- the functions from the place k on
abbrev pub FromEnds : PackageRecord → Target → RulesRecord → List (List ℕ) → List ℕ → List Entry → ℕ → List FuncRecord → List (Option Done) → Type 0
FromEnds pkg t rules words places es k fs ds = (f : ℕ) (d : Done) (g : FuncRecord) → slice_get ds f ≡ Some (Some d) → slice_get fs f ≡ Some g → IsEnded pkg t rules words places es (k + f) g d

pub record Ended (pkg : PackageRecord) (t : Target) (rules : RulesRecord) (words : List (List ℕ)) (places : List ℕ) (es : List Entry) (k : ℕ) (fs : List FuncRecord) (ps : List PieceRecord) (rs : List Refusal) : Type 0 where
  pub framed : List FramedRecord
  pub outcomes : AreOutcomes pkg t rules k fs framed rs
  pub code : Each (IsCode t words) framed ps
  pub all : rs ≡ [] → (f : ℕ) (g : FuncRecord) → slice_get fs f ≡ Some g → (it : FramedRecord) × Contains framed it × ((e : Entry) × IsAt places es (k + f) e × (fixup.keys_of it.func ≡ e.1.items))

ends_next : (pkg : PackageRecord) (t : Target) (rules : RulesRecord) (words : List (List ℕ)) (places : List ℕ) (es : List Entry) (k : ℕ) (f : FuncRecord) (fs : List FuncRecord) (o : Option Done) (ds : List (Option Done))
    → FromEnds pkg t rules words places es k (f ∷ fs) (o ∷ ds) → FromEnds pkg t rules words places es (k + 1) fs ds
ends_next pkg t rules words places es k f fs o ds h = λ i d g e at.
    let same : k + suc i ≡ (k + 1) + i = omega arith in
    subst (λ n. IsEnded pkg t rules words places es n g d) same (h (suc i) d g e at)

ready_first : (pkg : PackageRecord) (t : Target) (rules : RulesRecord) (words : List (List ℕ)) (places : List ℕ) (es : List Entry) (k : ℕ) (g : FuncRecord) (fs : List FuncRecord) (p : PieceRecord) (ps : List PieceRecord) (rs : List Refusal)
    → IsEnded pkg t rules words places es (k + 0) g (done.Ready p) → Ended pkg t rules words places es (k + 1) fs ps rs → Ended pkg t rules words places es k (g ∷ fs) (p ∷ ps) rs
ready_first pkg t rules words places es k g fs p ps rs one rest = record {
  framed = one.0 ∷ rest.framed;
  outcomes = in_frame k g fs one.0 rest.framed rs one.1.0 rest.outcomes;
  code = more one.0 p rest.framed ps one.1.1 rest.code;
  all = by;
}
  where
    by : rs ≡ [] → (f : ℕ) (u : FuncRecord) → slice_get (g ∷ fs) f ≡ Some u
        → (it : FramedRecord) × Contains (one.0 ∷ rest.framed) it × ((e : Entry) × IsAt places es (k + f) e × (fixup.keys_of it.func ≡ e.1.items))
    by z zero u e = (one.0, has_here one.0 rest.framed, one.1.2)
    by z (suc f) u e =
        let i = rest.all z f u e in
        let same : (k + 1) + f ≡ k + suc f = omega arith in
        (i.0, has_there one.0 rest.framed i.0 i.1, (i.2.0, subst (λ n. IsAt places es n i.2.0) same i.2.1, i.2.2))

pub ended : (pkg : PackageRecord) (t : Target) (rules : RulesRecord) (words : List (List ℕ)) (places : List ℕ) (es : List Entry) (k : ℕ) (fs : List FuncRecord) (ds : List (Option Done)) (ps : List PieceRecord) (rs : List Refusal)
    → AreEnds k ds ps rs → length ds ≡ length fs → FromEnds pkg t rules words places es k fs ds → Ended pkg t rules words places es k fs ps rs
ended pkg t rules words places es _ [] _ _ _ (no_ends k) long h = record { framed = []; outcomes = none_left k; code = none; all = λ z f g e. absurd cc }
ended pkg t rules words places es _ (g ∷ fs) _ _ _ (no_ends k) long h = absurd (omega (arith, long))
ended pkg t rules words places es _ [] _ _ _ (ready k p ds ps rs rest) long h = absurd (omega (arith, long))
ended pkg t rules words places es _ [] _ _ _ (refused_end k cause ds ps rs rest) long h = absurd (omega (arith, long))
ended pkg t rules words places es _ (g ∷ fs) _ _ _ (ready k p ds ps rs rest) long h =
    ready_first pkg t rules words places es k g fs p ps rs (h 0 (done.Ready p) g refl refl)
    (ended pkg t rules words places es (k + 1) fs ds ps rs rest (omega (arith, long)) (ends_next pkg t rules words places es k g fs (Some (done.Ready p)) ds h))
ended pkg t rules words places es _ (g ∷ fs) _ _ _ (refused_end k cause ds ps rs rest) long h =
    let one = h 0 (done.Refused cause) g refl refl in
    let more_of = ended pkg t rules words places es (k + 1) fs ds ps rs rest (omega (arith, long)) (ends_next pkg t rules words places es k g fs (Some (done.Refused cause)) ds h) in
    record {
      framed = more_of.framed;
      outcomes = refused k g fs cause more_of.framed rs one more_of.outcomes;
      code = more_of.code;
      all = λ z. absurd cc;
    }

-- an end of a function is what the second round made of it
pub second_ends : (pkg : PackageRecord) (t : Target) (rules : RulesRecord) (words : List (List ℕ)) (places : List ℕ) (es : List Entry) (f : ℕ) (g : FuncRecord) (e : Entry) (d : Done)
    → ((h : FuncRecord) → fixup.keys_of (without_critical h) ≡ fixup.keys_of h) → IsEntry pkg t rules g e → IsAt places es f e → IsSecond pkg t (in_words words) e d → IsEnded pkg t rules words places es f g d
second_ends pkg t rules words places es f g e (done.Lowered h keys) split entry at s = s
second_ends pkg t rules words places es f g e (done.Ready p) split entry at s =
    let it = s.0 in
    let keys : fixup.keys_of it.func ≡ e.1.items = ap fixup.keys_of s.1.split ∙ (split e.0 ∙ sym entry.keys) in
    let code = s.2 in (
      it,
      (
        record { lowered = e.0; steps = entry.lowered; framed = s.1 },
        record { handles = code.handles; keys = handles_are words e.1.items code.handles code.each ∙ sym keys; code = code.code },
        (e, at, keys),
      ),
    )
second_ends pkg t rules words places es f g e (done.Refused cause) split entry at s = subst (IsRefused pkg t rules g) (sym s.2) (frame e.0 s.0 entry.lowered s.1)

-- elements that belong together at one place
pub each_at : {A B : Type 0} (R : A → B → Type 0) (xs : List A) (ys : List B) (j : ℕ) (x : A) (y : B) → Each R xs ys → slice_get xs j ≡ Some x → slice_get ys j ≡ Some y → R x y
each_at R _ _ j x y none e d = absurd cc
each_at R _ _ zero x y (more a b xs ys r rest) e d =
    let same : a ≡ x = cc in let also : b ≡ y = cc in
    subst (λ z. R z y) same (subst (λ z. R a z) also r)
each_at R _ _ (suc j) x y (more a b xs ys r rest) e d = each_at R xs ys j x y rest e d
