-- The object of a package whose code is made.
use Rattle.std.specs.Prelude.{ℕ, ◌+◌, ◌*◌, ◌-◌, List, [], ◌∷◌, ◌++◌, length, take, drop, map, flat_map, replicate, sum_by, unwrap_or}
use Rattle.bk_num.specs.Memory.{data_base}
use Rattle.bk_ops.specs.declared.types.Target.{Target}
use Rattle.bk_ops.specs.declared.types.Ty.{Ty}
use Rattle.bk_ops.specs.declared.types.Ty.TheVariants.{Mem}
use Rattle.bk_func.specs.Records.{SigRecord, FuncRecord, VarRecord, PackageRecord}
use Rattle.bk_piece.specs.declared.Key.{Key}
use Rattle.bk_piece.specs.Filled.{area, filled}
use Rattle.bk_piece.specs.Pieces.{PieceOf, PieceRecord}
use Rattle.bk_piece.specs.Rising.{keys_in}
use Rattle.bk_elf.specs.Layout.{aligned}
use Rattle.bk_elf.specs.Loading.{type_of_code}
use Rattle.bk_elf.specs.Records.{ObjectRecord}
use Rattle.bk_link.specs.declared.sites.Site.{Site}
use Rattle.bk_link.specs.Addresses.{address_of}
use Rattle.bk_link.specs.Sites.{text_base, func_sites, var_sites, by_name, symbols_of}
use Rattle.bk_link.specs.Texts.{text_of}

-- the bytes of a variable, and zeros up to a multiple of 8
abbrev pub var_bytes : VarRecord → List ℕ
var_bytes v = v.bytes ++ replicate (aligned v.size - length v.bytes) 0

abbrev pub window_of : List VarRecord → List ℕ
window_of vs = flat_map var_bytes vs

-- the type whose code a key is
abbrev pub type_of : Key → Ty
type_of k = unwrap_or (type_of_code k.key) Mem

-- the signature that a piece's keys spell, the first of them those of arguments
abbrev pub sig_of : FuncRecord → PieceOf Key → SigRecord
sig_of f p = record {
  args = map type_of (take (length f.sig.args) p.types);
  results = map type_of (drop (length f.sig.args) p.types);
}

abbrev pub sigs_of : List FuncRecord → List (PieceOf Key) → List SigRecord
sigs_of fs [] = []
sigs_of [] (p ∷ ps) = []
sigs_of (f ∷ fs) (p ∷ ps) = sig_of f p ∷ sigs_of fs ps

-- functions and variables in order of names
abbrev pub sites_of : {H : Type 0} → PackageRecord → List (PieceOf H) → List Site
sites_of pkg ps = by_name (func_sites text_base pkg.funcs ps) (var_sites data_base pkg.vars)

-- the bytes of text and pool
abbrev pub code_size : {H : Type 0} → List (PieceOf H) → List ℕ → ℕ
code_size ps pool = 4 * sum_by (λ p. length p.code) ps + 8 * length pool

-- the object of a package, the pieces of its functions and the keys of the three areas in rising order
unfoldable pub object_of : PackageRecord → Target → List (PieceOf Key) → List (List ℕ) → ObjectRecord
object_of pkg t ps keys = record {
  target = t;
  text = text_of t (address_of (sites_of pkg ps) (area keys 2)) text_base ps;
  pool = area keys 2;
  window = window_of pkg.vars;
  types = area keys 1;
  sigs = sigs_of pkg.funcs ps;
  symbols = symbols_of pkg.names (area keys 0) (sites_of pkg ps);
}

-- the same from pieces with handles and the words of the areas' cells: each handle stands for the word of its cell
abbrev pub gathered : PackageRecord → Target → List PieceRecord → List (List ℕ) → ObjectRecord
gathered pkg t ps words = object_of pkg t (map (filled words) ps) (map keys_in words)
