-- Values with other handles of their keys.
use Rattle.std.proofs.Common.{◌≡◌, ◌∙◌, refl, ap, ℕ, ◌==◌, Bool, true, false, cond, if◌then◌else◌, List, [], ◌∷◌, map, drop, Some, None}
use Rattle.std.specs.List.{slice_get}
use Rattle.std.specs.Option.{is_some, option_map}
use Rattle.std.proofs.lemmas.List.{drop-map}
use Rattle.std.proofs.lemmas.Option.{slice_get-map}
use Rattle.bk_func.specs.Records.{ValueRecord}
use Rattle.bk_piece.specs.declared.Handle.{Handle}
use Rattle.bk_fixup.specs.Keys.{key_of}
use Rattle.bk_emit.specs.Code.{left_by, handle_by, handed, left_behind, entry_of}
use Rattle.bk_emit.specs.Forms.{Entry}

-- a value with another handle in the place of its own
abbrev pub with_handle : (Handle → Handle) → Entry → Entry
with_handle r e = (e.0, option_map r e.1)

renamed_left : (r : Handle → Handle) (v : ValueRecord) (hs : List Handle) → left_by v (map r hs) ≡ map r (left_by v hs)
renamed_left r v hs = by (is_some (key_of v))
  where
    by : (b : Bool) → (if b then drop 1 (map r hs) else map r hs) ≡ map r (if b then drop 1 hs else hs)
    by true = drop-map r 1 hs
    by false = refl

renamed_handle : (r : Handle → Handle) (v : ValueRecord) (hs : List Handle) → handle_by v (map r hs) ≡ option_map r (handle_by v hs)
renamed_handle r v hs = by (is_some (key_of v))
  where
    by : (b : Bool) → (if b then slice_get (map r hs) 0 else None) ≡ option_map r (if b then slice_get hs 0 else None)
    by true = slice_get-map r hs 0
    by false = refl

pub renamed_handed : (r : Handle → Handle) (vs : List ValueRecord) (hs : List Handle) → handed vs (map r hs) ≡ map (with_handle r) (handed vs hs)
unfolding handed
renamed_handed r [] hs = refl
renamed_handed r (v ∷ vs) hs =
    ap (λ o. (v, o) ∷ handed vs (left_by v (map r hs))) (renamed_handle r v hs)
    ∙ ap (λ es. (v, option_map r (handle_by v hs)) ∷ es) (ap (handed vs) (renamed_left r v hs) ∙ renamed_handed r vs (left_by v hs))

pub renamed_behind : (r : Handle → Handle) (vs : List ValueRecord) (hs : List Handle) → left_behind vs (map r hs) ≡ map r (left_behind vs hs)
unfolding left_behind
renamed_behind r [] hs = refl
renamed_behind r (v ∷ vs) hs = ap (left_behind vs) (renamed_left r v hs) ∙ renamed_behind r vs (left_by v hs)

pub renamed_entry : (r : Handle → Handle) (es : List Entry) (id : ℕ) → entry_of (map (with_handle r) es) id ≡ option_map (with_handle r) (entry_of es id)
renamed_entry r [] id = refl
renamed_entry r (e ∷ es) id = by (e.0.id == id) (renamed_entry r es id)
  where
    by : (b : Bool) → entry_of (map (with_handle r) es) id ≡ option_map (with_handle r) (entry_of es id)
        → cond b (Some (with_handle r e)) (entry_of (map (with_handle r) es) id) ≡ option_map (with_handle r) (cond b (Some e) (entry_of es id))
    by true h = refl
    by false h = h
