-- What workers made, at the places of the functions.
use Rattle.std.specs.Prelude.{◌≡◌, ◌⊎◌, ℕ, ◌+◌, Bool, true, false, List, [], ◌∷◌, map, slice_get, Option, None, Some, option_map}
use Rattle.std.specs.List.{Contains}
use Rattle.bk_piece.specs.Pieces.{PieceRecord}
use Rattle.bk_work.specs.declared.items.Done.{Done}
use Rattle.bk_work.specs.declared.items.Done.TheVariants.{Lowered, Ready, Refused}
use Rattle.bk_work.specs.declared.refusals.Cause.{Cause}
use Rattle.bk_work.specs.declared.refusals.Refusal.{Refusal}
use Rattle.bk_work.specs.Package.{refusal}
use Rattle.bk_work.specs.Rounds.{Entry, Item}

-- what is placed was there before, or is of an item of the function
abbrev pub ArePlaced : List Item → List (Option Done) → List (Option Done) → Type 0
ArePlaced items before after =
    (f : ℕ) (d : Done) → slice_get after f ≡ Some (Some d)
    → (slice_get before f ≡ Some (Some d)) ⊎ ((i : Item) × Contains items i × (i.1 ≡ f) × (i.2 ≡ d))

-- the refusals of functions in package order
abbrev pub refused_by : List (Option Cause) → List (Option Done)
refused_by causes = map (option_map Refused) causes

-- whether a cause tells that there is none
abbrev pub is_without : Option (Option Cause) → Bool
is_without (Some None) = true
is_without (Some (Some cause)) = false
is_without None = false

-- whether the function at a place is not refused
abbrev pub is_open : List (Option Cause) → ℕ → Bool
is_open causes f = is_without (slice_get causes f)

-- what the first round made of functions, in package order: the lowered ones with their keys, and why others are refused
pub data AreFirsts : List (Option Done) → List Entry → List (Option Cause) → Type 0 where
  no_firsts : AreFirsts [] [] []
  lowered : (e : Entry) (ds : List (Option Done)) (es : List Entry) (cs : List (Option Cause)) → AreFirsts ds es cs → AreFirsts (Some (Lowered e.0 e.1) ∷ ds) (e ∷ es) (None ∷ cs)
  stopped : (cause : Cause) (ds : List (Option Done)) (es : List Entry) (cs : List (Option Cause)) → AreFirsts ds es cs → AreFirsts (Some (Refused cause) ∷ ds) es (Some cause ∷ cs)

-- what both rounds made of functions, the first of which has this place: pieces and refusals, both in package order
pub data AreEnds : ℕ → List (Option Done) → List PieceRecord → List Refusal → Type 0 where
  no_ends : (place : ℕ) → AreEnds place [] [] []
  ready : (place : ℕ) (p : PieceRecord) (ds : List (Option Done)) (ps : List PieceRecord) (rs : List Refusal)
      → AreEnds (place + 1) ds ps rs → AreEnds place (Some (Ready p) ∷ ds) (p ∷ ps) rs
  refused_end : (place : ℕ) (cause : Cause) (ds : List (Option Done)) (ps : List PieceRecord) (rs : List Refusal)
      → AreEnds (place + 1) ds ps rs → AreEnds place (Some (Refused cause) ∷ ds) ps (refusal place cause ∷ rs)
