-- The object of a package's pieces, and what is told where there is none.
use Rattle.std.proofs.Common.{◌≡◌, ◌≤◌, ℕ, List, ap, ◌∙◌, subst, Result, Ok, Err}
use Rattle.std.specs.Prelude.{IfErr, IfOk}
use Rattle.bk_ops.specs.declared.types.Target.{Target}
use Rattle.bk_func.specs.Limits.{most_text}
use Rattle.bk_func.specs.Records.{PackageRecord}
use Rattle.bk_rule.specs.declared.trees.Rule.{Rule}
use Rattle.bk_piece.specs.Pieces.{PieceRecord}
use Rattle.bk_elf.specs.File.{file_of}
use Rattle.bk_work.specs.declared.refusals.PackageError.{PackageError}
use Rattle.bk_work.specs.declared.refusals.PackageError.TheVariants.{Functions, Text, Memory}
use Rattle.bk_work.specs.Package.{IsCompiled, IsError, IsLinkError, IsObjectOf}
use Rattle.bk_work.specs.Rules.{rules_of}
use Rattle.bk_work.proofs.Moving.{IsSerial}

pub compiled : {V E : Type 0} (items : V → List ℕ) (r : Result V E) (pkg : PackageRecord) (t : Target) (extra : List Rule) (pieces : List PieceRecord) (words : List (List ℕ))
    → IsSerial pkg t (rules_of t extra) pieces words → IfOk r (λ bytes. IsObjectOf pkg t pieces words (items bytes)) → IfOk r (λ bytes. IsCompiled pkg t extra (items bytes))
compiled items (Ok bytes) pkg t extra pieces words serial linked = record { pieces = serial.pieces; words = serial.cells; made = serial.made; linked = object }
  where
    object : IsObjectOf pkg t serial.pieces serial.cells (items bytes)
    object = record { file = linked.file ∙ ap file_of serial.object; within = subst (λ (n : ℕ). n ≤ most_text) serial.size linked.within }
compiled items (Err error) pkg t extra pieces words serial linked = linked

error_is : (error : PackageError) (pkg : PackageRecord) (t : Target) (extra : List Rule) (pieces : List PieceRecord) (words : List (List ℕ))
    → IsSerial pkg t (rules_of t extra) pieces words → IsLinkError pieces words error → IsError pkg t extra error
error_is (Functions refusals) pkg t extra pieces words serial h = absurd h
error_is (Text bytes) pkg t extra pieces words serial h = record { pieces = serial.pieces; words = serial.cells; made = serial.made; size = h.0 ∙ serial.size; over = h.1 }
error_is Memory pkg t extra pieces words serial h = tt

pub link_fails : {V : Type 0} (r : Result V PackageError) (pkg : PackageRecord) (t : Target) (extra : List Rule) (pieces : List PieceRecord) (words : List (List ℕ))
    → IsSerial pkg t (rules_of t extra) pieces words → IfErr r (IsLinkError pieces words) → IfErr r (IsError pkg t extra)
link_fails (Ok bytes) pkg t extra pieces words serial h = h
link_fails (Err error) pkg t extra pieces words serial h = error_is error pkg t extra pieces words serial h
