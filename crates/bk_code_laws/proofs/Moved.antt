-- A piece with other handles, for machines whose code has only the handles of values.
use Rattle.std.proofs.Common.{◌≡◌, ◌∙◌, refl, sym, ap, subst, ℕ, List, map, Option}
use Rattle.std.proofs.Math.Path.{fun_ext}
use Rattle.std.proofs.lemmas.Simd.{map-map}
use Rattle.std.specs.Option.{option_map}
use Rattle.bk_func.specs.Records.{FuncRecord, PlacedRecord}
use Rattle.bk_piece.specs.declared.Handle.{Handle}
use Rattle.bk_piece.specs.declared.Key.{Key}
use Rattle.bk_piece.specs.Filled.{key_at, site_with, piece_with, filled}
use Rattle.bk_piece.specs.Pieces.{PieceOf, PieceRecord}
use Rattle.bk_fixup.specs.declared.sizes.Branch.{Branch}
use Rattle.bk_emit.specs.declared.lines.Line.{Line}
use Rattle.bk_emit.specs.Code.{handed, left_behind, values_of, entry_of, function_lines, start_of, branches_from, widths, words_from, waits_from, goal_in, frame_of, IsPiece}
use Rattle.bk_emit.specs.Forms.{Entry, Forms}
use Rattle.bk_code_laws.proofs.Blind.{IsBlind, renamed_function, same_starts}
use Rattle.bk_code_laws.proofs.Handed.{with_handle, renamed_handed, renamed_behind, renamed_entry}
use Rattle.bk_code_laws.proofs.Renamed.{renamed, same_branches, same_widths, same_words, renamed_waits}

-- the cell whose place is the word of a key
abbrev settled : Key → Handle
settled k = record { area = k.area; cell = k.key }

abbrev unsettled : Handle → Key
unsettled h = record { area = h.area; key = h.cell }

module _ {H J K : Type 0} (g : J → K) (f : H → J) where
  twice_with : (p : PieceOf H) → piece_with g (piece_with f p) ≡ piece_with (λ h. g (f h)) p
  twice_with p =
      ap (λ ss. record { code = p.code; handles = ss; types = map g (map f p.types); frame = p.frame }) (map-map (site_with g) (site_with f) p.handles)
      ∙ ap (λ ts. record { code = p.code; handles = map (site_with (λ h. g (f h))) p.handles; types = ts; frame = p.frame }) (map-map g f p.types)

-- the words of lines of so many words each
abbrev code_by : Forms → (ℕ → ℕ) → List ℕ → List Line → List ℕ
code_by m s ws ls = words_from m (goal_in s ws) 0 ws ls

module _ (m : Forms) (is : IsBlind m) (f : FuncRecord) (p : PlacedRecord) (bytes : ℕ) where
  abbrev entries : List Handle → ℕ → Option Entry
  entries hs = entry_of (handed (values_of f) hs)

  abbrev lines : List Handle → List Line
  lines hs = function_lines m (frame_of p bytes) (entries hs) p.blocks

  abbrev starts : List Handle → ℕ → ℕ
  starts hs = start_of m (frame_of p bytes) (entries hs) p.blocks

  abbrev branches : List Handle → List Branch
  branches hs = branches_from (starts hs) 0 (lines hs)

  -- the piece whose branches have these sizes
  abbrev made : List ℕ → List Handle → PieceRecord
  made zs hs = record {
    code = code_by m (starts hs) (widths zs (lines hs)) (lines hs);
    handles = waits_from 0 (widths zs (lines hs)) (lines hs);
    types = left_behind (values_of f) hs;
    frame = bytes;
  }

  is_made : (zs : List ℕ) (hs : List Handle) → m.sized (branches hs) zs → IsPiece m f p bytes hs (made zs hs)
  is_made zs hs h = record {
    written = record { sizes = zs; sized = h; words = refl; waiting = refl };
    types = refl;
    frame = refl;
  }

  made_is : (hs : List Handle) (piece : PieceRecord) (h : IsPiece m f p bytes hs piece) → piece ≡ made h.written.sizes hs
  made_is hs piece h = λ i. record {
    code = h.written.words i;
    handles = h.written.waiting i;
    types = h.types i;
    frame = h.frame i;
  }

  module _ (r : Handle → Handle) (hs : List Handle) where
    same_entries : entries (map r hs) ≡ (λ id. option_map (with_handle r) (entries hs id))
    same_entries = fun_ext (λ id. ap (λ es. entry_of es id) (renamed_handed r (values_of f) hs) ∙ renamed_entry r (handed (values_of f) hs) id)

    renamed_lines : lines (map r hs) ≡ map (renamed r) (lines hs)
    renamed_lines =
        ap (λ es. function_lines m (frame_of p bytes) es p.blocks) same_entries ∙ renamed_function m is r (frame_of p bytes) (entries hs) p.blocks

    starts_same : starts (map r hs) ≡ starts hs
    starts_same =
        ap (λ es. start_of m (frame_of p bytes) es p.blocks) same_entries ∙ fun_ext (same_starts m is r (frame_of p bytes) (entries hs) p.blocks)

    branches_same : branches (map r hs) ≡ branches hs
    branches_same =
        ap (λ s. branches_from s 0 (lines (map r hs))) starts_same
        ∙ (ap (branches_from (starts hs) 0) renamed_lines ∙ same_branches r (starts hs) 0 (lines hs))

    widths_same : (zs : List ℕ) → widths zs (lines (map r hs)) ≡ widths zs (lines hs)
    widths_same zs = ap (widths zs) renamed_lines ∙ same_widths r zs (lines hs)

    code_same : (zs : List ℕ) → (made zs (map r hs)).code ≡ (made zs hs).code
    code_same zs =
        ap (λ s. code_by m s (widths zs (lines (map r hs))) (lines (map r hs))) starts_same
        ∙ (ap (λ ws. code_by m (starts hs) ws (lines (map r hs))) (widths_same zs)
        ∙ (ap (code_by m (starts hs) (widths zs (lines hs))) renamed_lines
        ∙ same_words r m (goal_in (starts hs) (widths zs (lines hs))) 0 (widths zs (lines hs)) (lines hs)))

    handles_renamed : (zs : List ℕ) → (made zs (map r hs)).handles ≡ map (site_with r) (made zs hs).handles
    handles_renamed zs =
        ap (λ ws. waits_from 0 ws (lines (map r hs))) (widths_same zs)
        ∙ (ap (waits_from 0 (widths zs (lines hs))) renamed_lines ∙ renamed_waits r 0 (widths zs (lines hs)) (lines hs))

    made_renamed : (zs : List ℕ) → made zs (map r hs) ≡ piece_with r (made zs hs)
    made_renamed zs = λ i. record {
      code = code_same zs i;
      handles = handles_renamed zs i;
      types = renamed_behind r (values_of f) hs i;
      frame = bytes;
    }

  -- the keys of cells as cells
  abbrev keyed : List (List ℕ) → Handle → Handle
  keyed w h = settled (key_at w h)

  filled_made : (w : List (List ℕ)) (zs : List ℕ) (hs : List Handle) → filled w (made zs hs) ≡ piece_with unsettled (made zs (map settled (map (key_at w) hs)))
  filled_made w zs hs =
      sym (twice_with unsettled (keyed w) (made zs hs))
      ∙ ap (piece_with unsettled) (sym (made_renamed (keyed w) hs zs) ∙ ap (made zs) (sym (map-map settled (key_at w) hs)))

  branches_keyed : (w : List (List ℕ)) (hs : List Handle) → branches (map settled (map (key_at w) hs)) ≡ branches hs
  branches_keyed w hs = ap branches (map-map settled (key_at w) hs) ∙ branches_same (keyed w) hs

  pub piece_moves : (w x : List (List ℕ)) (hs js : List Handle) (piece : PieceRecord) → map (key_at w) hs ≡ map (key_at x) js → IsPiece m f p bytes hs piece
      → (other : PieceRecord) × IsPiece m f p bytes js other × (filled w piece ≡ filled x other)
  piece_moves w x hs js piece e h =
      let zs = h.written.sizes in
      let same : branches hs ≡ branches js = sym (branches_keyed w hs) ∙ (ap (λ ks. branches (map settled ks)) e ∙ branches_keyed x js) in (
        made zs js,
        is_made zs js (subst (λ bs. m.sized bs zs) same h.written.sized),
        ap (filled w) (made_is hs piece h)
            ∙ (filled_made w zs hs ∙ (ap (λ ks. piece_with unsettled (made zs (map settled ks))) e ∙ sym (filled_made x zs js))),
      )
