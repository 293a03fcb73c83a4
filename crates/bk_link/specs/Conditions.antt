-- What a package, its pieces and the words of the areas are such that they have an object.
use Rattle.std.specs.Prelude.{◌≡◌, ◌≢◌, ℕ, ◌+◌, ◌^◌, ◌<◌, ◌≤◌, ◌==◌, if◌then◌else◌, List, [], ◌∷◌, length, map, sum_by, ⊤}
use Rattle.std.specs.List.{All, AllPairs, Contains}
use Rattle.bk_ops.specs.declared.types.Target.{Target}
use Rattle.bk_func.specs.Records.{FuncRecord, VarRecord, PackageRecord}
use Rattle.bk_piece.specs.declared.Handle.{Handle}
use Rattle.bk_piece.specs.declared.Patch.{Patch}
use Rattle.bk_piece.specs.declared.Patch.TheVariants.{Call, Addr, Pool}
use Rattle.bk_piece.specs.Filled.{area, word_of}
use Rattle.bk_piece.specs.Pieces.{PieceRecord}
use Rattle.bk_piece.specs.Rising.{Rise, full}
use Rattle.bk_fixup.specs.Patches.{patched_words}
use Rattle.bk_elf.specs.Layout.{aligned}
use Rattle.bk_link.specs.declared.cells.Addresses.{Addresses}
use Rattle.bk_link.specs.declared.sites.Site.{Site}

-- the area of what a patch waits for
abbrev pub area_of : Patch → ℕ
area_of Call = 0
area_of Addr = 0
area_of Pool = 2

-- a handle of the area whose cell holds a key
abbrev pub IsHandle : List (List ℕ) → ℕ → Handle → Type 0
IsHandle words a h = (h.area ≡ a) × (word_of words h ≢ 0)

-- a patch in code of so many words
pub record IsPatch (t : Target) (words : List (List ℕ)) (size : ℕ) (h : ℕ × Patch × Handle) : Type 0 where
  pub key : IsHandle words (area_of h.1) h.2
  pub whole : h.0 + patched_words t h.1 ≤ size

-- code whose patches lie in it
pub record HasPatches (t : Target) (words : List (List ℕ)) (p : PieceRecord) : Type 0 where
  pub some : 0 < length p.code
  pub patches : All (IsPatch t words (length p.code)) p.handles

-- a type for each of at most 64 arguments and results
pub record IsTyped (words : List (List ℕ)) (f : FuncRecord) (p : PieceRecord) : Type 0 where
  pub few : length f.sig.args + length f.sig.results ≤ 64
  pub long : length p.types ≡ length f.sig.args + length f.sig.results
  pub keys : All (IsHandle words 1) p.types

-- a piece with types for each function
abbrev pub AreTyped : List (List ℕ) → List FuncRecord → List PieceRecord → Type 0
AreTyped words [] [] = ⊤
AreTyped words [] (p ∷ ps) = ⊥
AreTyped words (f ∷ fs) [] = ⊥
AreTyped words (f ∷ fs) (p ∷ ps) = IsTyped words f p × AreTyped words fs ps

-- the numbers of the names of functions and of variables
abbrev pub func_places : PackageRecord → List ℕ
func_places pkg = map (λ f. f.name) pkg.funcs

abbrev pub var_places : PackageRecord → List ℕ
var_places pkg = map (λ v. v.name) pkg.vars

-- each name is that of one function or variable, in package order; the names differ, hold no 0 and are not long
pub record IsNamed (pkg : PackageRecord) : Type 0 where
  pub few_funcs : length pkg.funcs ≤ 4096
  pub few_vars : length pkg.vars ≤ 4096
  pub counted : length pkg.funcs + length pkg.vars ≡ length pkg.names
  pub funcs_rise : Rise (func_places pkg)
  pub vars_rise : Rise (var_places pkg)
  pub funcs_within : All (λ n. n < length pkg.names) (func_places pkg)
  pub vars_within : All (λ n. n < length pkg.names) (var_places pkg)
  pub apart : All (λ n. Contains (var_places pkg) n → ⊥) (func_places pkg)
  pub differ : AllPairs (λ x y. x ≢ y) pkg.names
  pub clean : All (λ n. Contains n 0 → ⊥) pkg.names
  pub short : sum_by (λ n. length n) pkg.names ≤ 16777216

-- the given bytes of a variable are among its bytes
abbrev pub IsVar : VarRecord → Type 0
IsVar v = length v.bytes ≤ v.size

-- the words of the cells: no two that hold a key hold the same, a symbol's key names something, and a type's is a code
pub record AreCells (names : ℕ) (words : List (List ℕ)) : Type 0 where
  pub areas : length words ≡ 3
  pub symbols : All (λ w. w ≤ names) (area words 0)
  pub codes : All (λ w. w ≤ 13) (area words 1)
  pub differ : All (λ ws. AllPairs (λ x y. x ≢ y) (full ws)) words

-- a package with a piece for each function, and the words of three areas
pub record IsLinkable (pkg : PackageRecord) (t : Target) (ps : List PieceRecord) (words : List (List ℕ)) : Type 0 where
  pub named : IsNamed pkg
  pub vars : All IsVar pkg.vars
  pub window : sum_by (λ v. aligned v.size) pkg.vars ≤ 1048576
  pub cells : AreCells (length pkg.names) words
  pub pieces : All (HasPatches t words) ps
  pub typed : AreTyped words pkg.funcs ps

-- addresses below 2 ^ 31
abbrev pub AreLow : List ℕ → Type 0
AreLow addresses = All (λ a. a < 2 ^ 31) addresses

abbrev pub IsLow : Site → Type 0
IsLow s = s.address < 2 ^ 31

-- tables with low addresses
abbrev pub AreTables : Addresses → Type 0
AreTables a = AreLow a.symbols.items × AreLow a.constants.items

-- a patch in code of so many words, whose handle has a place in the tables
pub record CanPatch (t : Target) (a : Addresses) (size : ℕ) (h : ℕ × Patch × Handle) : Type 0 where
  pub cell : h.2.cell < (if h.2.area == 2 then length a.constants.items else length a.symbols.items)
  pub whole : h.0 + patched_words t h.1 ≤ size

abbrev pub CanPatchAll : Target → Addresses → PieceRecord → Type 0
CanPatchAll t a p = All (CanPatch t a (length p.code)) p.handles
