-- A placed function has one piece with given handles.
use Rattle.std.proofs.Common.{◌≡◌, ◌∙◌, sym, ap, ℕ, ◌<◌, ◌≤◌, List, Option, length, map, arith}
use Rattle.std.specs.Prelude.{slice_index}
use Rattle.std.proofs.lemmas.List.{get_or_default, same_lists}
use Rattle.bk_arm_emit.specs.Code.{arm}
use Rattle.bk_rv_emit.specs.Code.{riscv64}
use Rattle.bk_code_laws.proofs.Arm.{arm_is_blind}
use Rattle.bk_code_laws.proofs.Blind.{IsBlind}
use Rattle.bk_code_laws.proofs.Moved.{piece_moves}
use Rattle.bk_code_laws.proofs.Rv.{riscv64_is_blind}
use Rattle.bk_emit.specs.declared.lines.Line.{Line}
use Rattle.bk_emit.specs.Code.{IsPiece, branches_from, entry_of, frame_of, function_lines, goal_in, handed, start_of, values_of, waits_from, widths, words_from}
use Rattle.bk_emit.specs.Forms.{Entry, Forms}
use Rattle.bk_fixup.specs.declared.sizes.Branch.{Branch}
use Rattle.bk_func.specs.Records.{FuncRecord, PlacedRecord}
use Rattle.bk_ops.specs.declared.types.Target.{Target}
use Rattle.bk_ops.specs.declared.types.Target.TheVariants.{Arm, Riscv64}
use Rattle.bk_piece.specs.declared.Handle.{Handle}
use Rattle.bk_piece.specs.Filled.{filled, key_at}
use Rattle.bk_piece.specs.Pieces.{PieceRecord}
use Rattle.bk_work.specs.Framed.{FramedRecord}
use Rattle.bk_work.specs.Package.{IsCode}

-- branches have one choice of sizes
abbrev HasOneChoice : Forms → Type 0
HasOneChoice m = (bs : List Branch) (zs ys : List ℕ) → m.sized bs zs → m.sized bs ys → zs ≡ ys

arm_choice : HasOneChoice arm
arm_choice bs zs ys h k = h ∙ sym k

riscv64_choice : HasOneChoice riscv64
riscv64_choice bs zs ys h k =
    let long = h.sizes.long in
    let also = k.sizes.long in
    same_lists zs ys (long ∙ sym also) (λ i d lt.
    let within : i < length bs = omega (arith, long, lt) in
    let here : i < length ys = omega (arith, also, within) in
    let low : slice_index zs i ≤ slice_index ys i = (h.least ys k.sizes k.reach).each i within in
    let high : slice_index ys i ≤ slice_index zs i = (k.least zs h.sizes h.reach).each i within in
    let same : slice_index zs i ≡ slice_index ys i = omega (arith, low, high) in
    get_or_default zs i d 0 lt ∙ (same ∙ get_or_default ys i 0 d here))

module _ (m : Forms) (blind : IsBlind m) (choice : HasOneChoice m) (f : FuncRecord) (p : PlacedRecord) (bytes : ℕ) where
  abbrev entries : List Handle → ℕ → Option Entry
  entries hs = entry_of (handed (values_of f) hs)

  abbrev starts : List Handle → ℕ → ℕ
  starts hs = start_of m (frame_of p bytes) (entries hs) p.blocks

  abbrev lines : List Handle → List Line
  lines hs = function_lines m (frame_of p bytes) (entries hs) p.blocks

  one_piece : (hs : List Handle) (a b : PieceRecord) → IsPiece m f p bytes hs a → IsPiece m f p bytes hs b → a ≡ b
  one_piece hs a b h k = λ i. record { code = code i; handles = waiting i; types = (h.types ∙ sym k.types) i; frame = (h.frame ∙ sym k.frame) i }
    where
      sizes : h.written.sizes ≡ k.written.sizes
      sizes = choice (branches_from (starts hs) 0 (lines hs)) h.written.sizes k.written.sizes h.written.sized k.written.sized

      code : a.code ≡ b.code
      code =
          h.written.words
          ∙ (ap (λ (zs : List ℕ). words_from m (goal_in (starts hs) (widths zs (lines hs))) 0 (widths zs (lines hs)) (lines hs)) sizes ∙ sym k.written.words)

      waiting : a.handles ≡ b.handles
      waiting = h.written.waiting ∙ (ap (λ (zs : List ℕ). waits_from 0 (widths zs (lines hs)) (lines hs)) sizes ∙ sym k.written.waiting)

  -- pieces with handles for the same keys are one once keys stand for handles
  one_filled : (w x : List (List ℕ)) (hs js : List Handle) (a b : PieceRecord) → map (key_at w) hs ≡ map (key_at x) js → IsPiece m f p bytes hs a → IsPiece m f p bytes js b → filled w a ≡ filled x b
  one_filled w x hs js a b same h k =
      let moved = piece_moves m blind f p bytes w x hs js a same h in
      moved.2 ∙ ap (filled x) (one_piece js moved.0 b moved.1 k)

pub one_code : (t : Target) (w x : List (List ℕ)) (it : FramedRecord) (a b : PieceRecord) → IsCode t w it a → IsCode t x it b → filled w a ≡ filled x b
one_code Arm w x it a b c d = one_filled arm arm_is_blind arm_choice it.func it.placed it.frame w x c.handles d.handles a b (c.keys ∙ sym d.keys) c.code d.code
one_code Riscv64 w x it a b c d = one_filled riscv64 riscv64_is_blind riscv64_choice it.func it.placed it.frame w x c.handles d.handles a b (c.keys ∙ sym d.keys) c.code d.code
