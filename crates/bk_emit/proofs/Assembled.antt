-- The parts of a piece make the piece.
use Rattle.std.proofs.Common.{◌≡◌, ◌∙◌, ap, subst, ℕ, List, Option}
use Rattle.std.proofs.Math.Path.{fun_ext}
use Rattle.std.specs.Prelude.{slice_index}
use Rattle.bk_func.specs.Records.{FuncRecord, PlacedRecord}
use Rattle.bk_piece.specs.declared.Handle.{Handle}
use Rattle.bk_piece.specs.declared.Patch.{Patch}
use Rattle.bk_piece.specs.Pieces.{PieceRecord}
use Rattle.bk_emit.specs.declared.lines.Line.{Line}
use Rattle.bk_emit.specs.Forms.{Entry, Forms}
use Rattle.bk_emit.specs.Code.{branches_from, widths, places_from, words_from, waits_from, AreWritten, values_of, handed, left_behind, entry_of, frame_of, function_lines, start_of, IsPiece}

-- the words of lines, as they are written with lists of widths and places
pub written_is : (m : Forms) (s : ℕ → ℕ) (ls : List Line) (zs ws ps code : List ℕ) (handles : List (ℕ × Patch × Handle)) → m.sized (branches_from s 0 ls) zs → ws ≡ widths zs ls → ps ≡ places_from 0 ws → code ≡ words_from m (λ n. slice_index ps (s n)) 0 ws ls → handles ≡ waits_from 0 ws ls → AreWritten m s ls code handles
written_is m s ls zs ws ps code handles l w p c h = record {
  sizes = zs;
  sized = l;
  words =
      c ∙ (ap (λ x. words_from m (λ n. slice_index x (s n)) 0 ws ls) p ∙ ap (λ x. words_from m (λ n. slice_index (places_from 0 x) (s n)) 0 x ls) w);
  waiting = h ∙ ap (λ x. waits_from 0 x ls) w;
}

pub piece_is : (m : Forms) (f : FuncRecord) (p : PlacedRecord) (bytes : ℕ) (keys : List Handle) (piece : PieceRecord) (look : ℕ → Option Entry) (s : ℕ → ℕ) (ls : List Line) → ((id : ℕ) → look id ≡ entry_of (handed (values_of f) keys) id) → ls ≡ function_lines m (frame_of p bytes) look p.blocks → ((n : ℕ) → s n ≡ start_of m (frame_of p bytes) look p.blocks n) → AreWritten m s ls piece.code piece.handles → piece.types ≡ left_behind (values_of f) keys → piece.frame ≡ bytes → IsPiece m f p bytes keys piece
piece_is m f p bytes keys piece look s ls h l b w t r =
    let lines = subst (λ x. AreWritten m s x piece.code piece.handles) l w in
    let starts = subst (λ x. AreWritten m x (function_lines m (frame_of p bytes) look p.blocks) piece.code piece.handles) (fun_ext b) lines in
    record {
      written = subst (λ e. AreWritten m (start_of m (frame_of p bytes) e p.blocks) (function_lines m (frame_of p bytes) e p.blocks) piece.code piece.handles) (fun_ext h) starts;
      types = t;
      frame = r;
    }
