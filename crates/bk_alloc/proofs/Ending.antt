-- The moves at the end of each block, and the placed block with them.
use Rattle.std.proofs.Common.{◌≡◌, ◌∙◌, sym, ap, refl, ℕ, ◌+◌, ◌<◌, List, [], ◌∷◌, ◌++◌, length, map, take, get_or, Some, option_map}
use Rattle.std.specs.List.{slice_get}
use Rattle.std.proofs.lemmas.List.{map-append, take_more}
use Rattle.std.proofs.lemmas.Option.{same_Some, slice_get-map, slice_get_read}
use Rattle.bk_func.specs.Records.{PlacedBlockRecord}
use Rattle.bk_shuffle.specs.Sequence.{Move}
use Rattle.bk_alloc.specs.Blocks.{PartRecord, end_moves}
use Rattle.bk_alloc.specs.Placing.{placed_part, placed_with}

-- the moves that stand in the place of a block are those at its end
ends_at : (ps : List PartRecord) (ends : List (List Move)) (i : ℕ) (p : PartRecord) (ms : List Move) → ends ≡ map (end_moves ps) ps → i < length ps → p ≡ get_or ps i p
    → slice_get ends i ≡ Some ms → ms ≡ end_moves ps p
ends_at ps ends i p ms are l is at =
    let own : slice_get (map (end_moves ps) ps) i ≡ Some (end_moves ps p) = slice_get-map (end_moves ps) ps i ∙ ap (option_map (end_moves ps)) (slice_get_read ps (length ps) i p refl l is) in
    same_Some ms (end_moves ps p) (sym at ∙ (ap (λ (es : List (List Move)). slice_get es i) are ∙ own))

-- one block more is placed
pub placed_more : (number : ℕ → ℕ) (hs : List ℕ) (ps : List PartRecord) (ends : List (List Move)) (i : ℕ) (p : PartRecord) (ms : List Move) (b : PlacedBlockRecord)
    (old new : List PlacedBlockRecord) → ends ≡ map (end_moves ps) ps → i < length ps → p ≡ get_or ps i p → slice_get ends i ≡ Some ms → b ≡ placed_with number hs p ms
    → old ≡ map (placed_part number hs ps) (take i ps) → new ≡ old ++ b ∷ [] → new ≡ map (placed_part number hs ps) (take (i + 1) ps)
placed_more number hs ps ends i p ms b old new are l is at made before after =
    let f = placed_part number hs ps in
    let block : b ≡ f p = made ∙ ap (placed_with number hs p) (ends_at ps ends i p ms are l is at) in
    after ∙ (ap (λ xs. xs ++ b ∷ []) before ∙ (ap (λ x. map f (take i ps) ++ x ∷ []) block
    ∙ (sym (map-append f (take i ps) (p ∷ [])) ∙ ap (map f) (ap (λ x. take i ps ++ x ∷ []) is ∙ sym (take_more ps i p l)))))
