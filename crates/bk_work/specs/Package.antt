-- What is made of a package: each function alone, in package order.
use Rattle.std.specs.Prelude.{◌≡◌, ℕ, ◌+◌, ◌<◌, ◌≤◌, ◌==◌, List, [], ◌∷◌, map, filter, flat_map}
use Rattle.bk_ops.specs.declared.types.Target.{Target}
use Rattle.bk_ops.specs.declared.types.Target.TheVariants.{Arm, Riscv64}
use Rattle.bk_func.specs.Limits.{most_text}
use Rattle.bk_func.specs.Records.{FuncRecord, PackageRecord, PlacedRecord}
use Rattle.bk_rule.specs.declared.trees.Rule.{Rule}
use Rattle.bk_piece.specs.declared.Handle.{Handle}
use Rattle.bk_piece.specs.declared.Key.{Key}
use Rattle.bk_piece.specs.Filled.{area, key_at}
use Rattle.bk_piece.specs.Pieces.{PieceRecord}
use Rattle.bk_piece.specs.Rising.{keys_in, rising}
use Rattle.bk_fixup.specs.Keys.{keys_of}
use Rattle.bk_arm_emit.specs.Code as arm
use Rattle.bk_rv_emit.specs.Code as rv
use Rattle.bk_elf.specs.File.{file_of}
use Rattle.bk_link.specs.Linked.{code_size, gathered}
use Rattle.bk_work.specs.declared.refusals.Cause.{Cause}
use Rattle.bk_work.specs.declared.refusals.Refusal.{Refusal}
use Rattle.bk_work.specs.declared.refusals.PackageError.{PackageError}
use Rattle.bk_work.specs.declared.refusals.PackageError.TheVariants.{Functions, Text, Memory}
use Rattle.bk_work.specs.Each.{Each}
use Rattle.bk_work.specs.Framed.{FramedRecord, IsMade}
use Rattle.bk_work.specs.Refused.{IsRefused}
use Rattle.bk_work.specs.Rules.{RulesRecord, rules_of}

abbrev pub refusal : ℕ → Cause → Refusal
refusal place cause = record { func = place; cause = cause }

-- functions of the package, the first of which has this place: each is in its frame, or it is refused with its cause; both
-- in order
pub data AreOutcomes (pkg : PackageRecord) (t : Target) (rules : RulesRecord) : ℕ → List FuncRecord → List FramedRecord → List Refusal → Type 0 where
  none_left : (place : ℕ) → AreOutcomes pkg t rules place [] [] []
  in_frame : (place : ℕ) (f : FuncRecord) (fs : List FuncRecord) (it : FramedRecord) (its : List FramedRecord) (rs : List Refusal)
      → IsMade pkg t rules f it → AreOutcomes pkg t rules (place + 1) fs its rs → AreOutcomes pkg t rules place (f ∷ fs) (it ∷ its) rs
  refused : (place : ℕ) (f : FuncRecord) (fs : List FuncRecord) (cause : Cause) (its : List FramedRecord) (rs : List Refusal)
      → IsRefused pkg t rules f cause → AreOutcomes pkg t rules (place + 1) fs its rs → AreOutcomes pkg t rules place (f ∷ fs) its (refusal place cause ∷ rs)

-- all functions of the package are in their frames
abbrev pub AreFramed : PackageRecord → Target → RulesRecord → List FramedRecord → Type 0
AreFramed pkg t rules framed = AreOutcomes pkg t rules 0 pkg.funcs framed []

-- the frames of the package's functions, without extra rules
pub record AreFrames (pkg : PackageRecord) (t : Target) (frames : List ℕ) : Type 0 where
  pub framed : List FramedRecord
  pub made : AreFramed pkg t (rules_of t []) framed
  pub bytes : frames ≡ map (λ it. it.frame) framed

-- the keys of an area
abbrev pub in_area : ℕ → List Key → List ℕ
in_area a keys = map (λ k. k.key) (filter (λ k. k.area == a) keys)

-- the distinct ones of the keys of several functions in rising order
abbrev pub distinct_in : ℕ → List (List Key) → List ℕ
distinct_in a keys = rising (flat_map (in_area a) keys)

-- the words of the cells of the three areas
abbrev pub words_of : List (List Key) → List (List ℕ)
words_of keys = distinct_in 0 keys ∷ distinct_in 1 keys ∷ distinct_in 2 keys ∷ []

-- the code of a placed function for the target
abbrev pub IsPiece : Target → FuncRecord → PlacedRecord → ℕ → List Handle → PieceRecord → Type 0
IsPiece Arm f placed frame keys piece = arm.IsPiece f placed frame keys piece
IsPiece Riscv64 f placed frame keys piece = rv.IsPiece f placed frame keys piece

-- the code of a function, with a handle for each of its keys, whose cell holds that key
pub record IsCode (t : Target) (words : List (List ℕ)) (it : FramedRecord) (piece : PieceRecord) : Type 0 where
  pub handles : List Handle
  pub keys : map (key_at words) handles ≡ keys_of it.func
  pub code : IsPiece t it.func it.placed it.frame handles piece

-- the code of all functions of the package, and the words of the cells of their keys
pub record ArePieces (pkg : PackageRecord) (t : Target) (rules : RulesRecord) (pieces : List PieceRecord) (words : List (List ℕ)) : Type 0 where
  pub framed : List FramedRecord
  pub made : AreFramed pkg t rules framed
  pub cells : words ≡ words_of (map (λ it. keys_of it.func) framed)
  pub code : Each (IsCode t words) framed pieces

-- the bytes are the object of these pieces, whose text and pool are not too long
pub record IsObjectOf (pkg : PackageRecord) (t : Target) (pieces : List PieceRecord) (words : List (List ℕ)) (bytes : List ℕ) : Type 0 where
  pub file : bytes ≡ file_of (gathered pkg t pieces words)
  pub within : code_size pieces (keys_in (area words 2)) ≤ most_text

-- the bytes are the object of the package
pub record IsCompiled (pkg : PackageRecord) (t : Target) (extra : List Rule) (bytes : List ℕ) : Type 0 where
  pub pieces : List PieceRecord
  pub words : List (List ℕ)
  pub made : ArePieces pkg t (rules_of t extra) pieces words
  pub linked : IsObjectOf pkg t pieces words bytes

-- text and pool of the package would have so many bytes, which are more than they may
pub record IsTooLong (pkg : PackageRecord) (t : Target) (extra : List Rule) (bytes : ℕ) : Type 0 where
  pub pieces : List PieceRecord
  pub words : List (List ℕ)
  pub made : ArePieces pkg t (rules_of t extra) pieces words
  pub size : bytes ≡ code_size pieces (keys_in (area words 2))
  pub over : most_text < bytes

-- why pieces have no object: text and pool would have so many bytes
abbrev pub IsLinkError : List PieceRecord → List (List ℕ) → PackageError → Type 0
IsLinkError pieces words (Functions refusals) = ⊥
IsLinkError pieces words (Text bytes) = (bytes ≡ code_size pieces (keys_in (area words 2))) × (most_text < bytes)
IsLinkError pieces words Memory = Unit {0}

-- the refused functions of the package with their causes, at least one
pub record AreRefused (pkg : PackageRecord) (t : Target) (extra : List Rule) (refusals : List Refusal) : Type 0 where
  pub framed : List FramedRecord
  pub outcomes : AreOutcomes pkg t (rules_of t extra) 0 pkg.funcs framed refusals
  pub some : refusals ≡ [] → ⊥

-- why a package is not compiled
abbrev pub IsError : PackageRecord → Target → List Rule → PackageError → Type 0
IsError pkg t extra (Functions refusals) = AreRefused pkg t extra refusals.items
IsError pkg t extra (Text bytes) = IsTooLong pkg t extra bytes
IsError pkg t extra Memory = Unit {0}
