-- Pieces whose handles are replaced by keys, and the addresses that cells' tables tell.
use Rattle.std.proofs.Common.{◌≡◌, ◌∙◌, ◌≢◌, ap, sym, subst, refl, ℕ, ◌+◌, ◌*◌, ◌<◌, ◌≤◌, ◌==◌, if◌then◌else◌, true, List, [], ◌∷◌, ◌++◌, length, map, take, drop, get_or, sum_by, arith, ⊎_elim, ◌⊎◌, inl, inr}
use Rattle.std.specs.List.{All}
use Rattle.std.proofs.lemmas.Bool.{cases_lt}
use Rattle.std.proofs.lemmas.List.{length-map, get_or-map, get_or_past}
use Rattle.std.proofs.lemmas.List.Elements.{All-head, All-tail, All-map, All-weaker}
use Rattle.std.proofs.lemmas.List.Sums.{sum_by-cons}
use Rattle.bk_ops.specs.declared.types.Target.{Target}
use Rattle.bk_func.specs.Records.{FuncRecord, PackageRecord}
use Rattle.bk_num.specs.Memory.{data_base}
use Rattle.bk_piece.specs.declared.Handle.{Handle}
use Rattle.bk_piece.specs.declared.Key.{Key}
use Rattle.bk_piece.specs.declared.Patch.{Patch}
use Rattle.bk_piece.specs.declared.Patch.TheVariants.{Call, Addr, Pool}
use Rattle.bk_piece.specs.Filled.{area, word_of, key_at, site_with, piece_with, filled}
use Rattle.bk_piece.specs.Pieces.{PieceOf, PieceRecord}
use Rattle.bk_fixup.specs.Patches.{patched}
use Rattle.bk_link.specs.declared.cells.Addresses.{Addresses}
use Rattle.bk_link.specs.declared.sites.Site.{Site}
use Rattle.bk_link.specs.Addresses.{symbol_address, constant_address, address_of, find_in}
use Rattle.bk_link.specs.Conditions.{area_of, IsHandle, IsPatch, HasPatches, CanPatch, CanPatchAll}
use Rattle.bk_link.specs.Linked.{sites_of}
use Rattle.bk_link.specs.Sites.{text_base, func_sites, var_sites, by_name}
use Rattle.bk_link.specs.Texts.{patched_at, patched_code, text_of}
use Rattle.bk_link.proofs.Signed.{in_cells, cell_within}
use Rattle.bk_link.proofs.Texting.{Begins, IsWhole}

-- a handle whose cell holds a key is of an area, and its cell is there
pub within_areas : (words : List (List ℕ)) (h : Handle) → word_of words h ≢ 0 → (h.area < length words) × (h.cell < length (area words h.area))
within_areas words h ne = (by (cases_lt h.area (length words)), in_cells (area words h.area) h.cell ne)
  where
    by : (h.area < length words) ⊎ (length words ≤ h.area) → h.area < length words
    by l = ⊎_elim (λ lt. lt) (λ le. absurd (ne (ap (λ ws. get_or ws h.cell 0) (get_or_past words h.area [] le)))) l

-- sites and sizes go by the words alone
funcs_filled : {H K : Type 0} (f : H → K) (a : ℕ) (fs : List FuncRecord) (ps : List (PieceOf H)) → func_sites a fs (map (piece_with f) ps) ≡ func_sites a fs ps
funcs_filled f a fs [] = refl
funcs_filled f a [] (p ∷ ps) = refl
funcs_filled f a (g ∷ fs) (p ∷ ps) =
    let s : Site = record { name = g.name; func = true; address = a; size = 4 * length p.code } in
    ap (λ ss. s ∷ ss) (funcs_filled f (a + 4 * length p.code) fs ps)

pub sites_filled : (words : List (List ℕ)) (pkg : PackageRecord) (ps : List PieceRecord) → sites_of pkg (map (filled words) ps) ≡ sites_of pkg ps
sites_filled words pkg ps = ap (λ fs. by_name fs (var_sites data_base pkg.vars)) (funcs_filled (key_at words) text_base pkg.funcs ps)

pub size_filled : (words : List (List ℕ)) (ps : List PieceRecord) → sum_by (λ p. length p.code) (map (filled words) ps) ≡ sum_by (λ p. length p.code) ps
size_filled words [] = refl
size_filled words (p ∷ ps) =
    omega (arith, size_filled words ps, sum_by-cons (λ (p : PieceOf Key). length p.code) (filled words p) (map (filled words) ps), sum_by-cons (λ (p : PieceRecord). length p.code) p ps)

whole : (t : Target) (words : List (List ℕ)) (p : PieceRecord) → HasPatches t words p → IsWhole (filled words p)
whole t words p h = record {
  some = h.some;
  begun = All-map (Begins (length p.code)) (site_with (key_at words)) p.handles (All-weaker (IsPatch t words (length p.code)) (λ s. s.0 ≤ length p.code) (λ s i. omega (arith, i.whole)) p.handles h.patches);
}

pub all_whole : (t : Target) (words : List (List ℕ)) (ps : List PieceRecord) → All (HasPatches t words) ps → All IsWhole (map (filled words) ps)
all_whole t words ps h = All-map IsWhole (filled words) ps (All-weaker (HasPatches t words) (λ p. IsWhole (filled words p)) (λ p i. whole t words p i) ps h)

-- code is patched alike where the addresses are the same
module _ {H K : Type 0} (t : Target) (f : H → ℕ) (g : K → ℕ) (k : H → K) where
  abbrev Same : ℕ × Patch × H → Type 0
  Same s = f s.2 ≡ g (k s.2)

  same_code : (a : ℕ) (code : List ℕ) (hs : List (ℕ × Patch × H)) → All Same hs → patched_code t f a code hs ≡ patched_code t g a code (map (site_with k) hs)
  unfolding patched_code
  same_code a code [] h = refl
  same_code a code (s ∷ hs) h =
      let e : f s.2 ≡ g (k s.2) = All-head Same s hs h in
      ap (λ n. patched_code t f a (take s.0 code ++ patched t s.1 (drop s.0 code) n (a + 4 * s.0)) hs) e
      ∙ same_code a (patched_at t g a code (site_with k s)) hs (All-tail Same s hs h)

  pub same_text : (a : ℕ) (ps : List (PieceOf H)) → All (λ p. All Same p.handles) ps → text_of t f a ps ≡ text_of t g a (map (piece_with k) ps)
  unfolding text_of
  same_text a [] h = refl
  same_text a (p ∷ ps) h =
      let first = same_code a p.code p.handles (All-head (λ (p : PieceOf H). All Same p.handles) p ps h) in
      let rest = same_text (a + 4 * length p.code) ps (All-tail (λ (p : PieceOf H). All Same p.handles) p ps h) in
      λ i. first i ++ rest i

-- the tables tell the addresses of the keys in the cells
module _ (t : Target) (words : List (List ℕ)) (sites : List Site) (pool : List ℕ) (a : Addresses) (symbols : a.symbols.items ≡ map (symbol_address sites) (area words 0)) (constants : a.constants.items ≡ map (constant_address pool) (area words 2)) where
  of_symbol : (h : Handle) → IsHandle words 0 h → find_in a h ≡ address_of sites pool (key_at words h)
  of_symbol h is = by h.area is.0 refl
    where
      lt : h.cell < length (area words 0)
      lt = cell_within words 0 h is

      by : (x : ℕ) → x ≡ 0 → h.area ≡ x
          → (if x == 2 then get_or a.constants.items h.cell 0 else get_or a.symbols.items h.cell 0) ≡ (if x == 2 then constant_address pool (get_or (area words x) h.cell 0) else symbol_address sites (get_or (area words x) h.cell 0))
      by x e q = subst (λ y. (if y == 2 then get_or a.constants.items h.cell 0 else get_or a.symbols.items h.cell 0) ≡ (if y == 2 then constant_address pool (get_or (area words y) h.cell 0) else symbol_address sites (get_or (area words y) h.cell 0))) (sym e)
          (ap (λ l. get_or l h.cell 0) symbols ∙ get_or-map (symbol_address sites) (area words 0) h.cell 0 0 lt)

  of_constant : (h : Handle) → IsHandle words 2 h → find_in a h ≡ address_of sites pool (key_at words h)
  of_constant h is = by h.area is.0
    where
      lt : h.cell < length (area words 2)
      lt = cell_within words 2 h is

      by : (x : ℕ) → x ≡ 2
          → (if x == 2 then get_or a.constants.items h.cell 0 else get_or a.symbols.items h.cell 0) ≡ (if x == 2 then constant_address pool (get_or (area words x) h.cell 0) else symbol_address sites (get_or (area words x) h.cell 0))
      by x e = subst (λ y. (if y == 2 then get_or a.constants.items h.cell 0 else get_or a.symbols.items h.cell 0) ≡ (if y == 2 then constant_address pool (get_or (area words y) h.cell 0) else symbol_address sites (get_or (area words y) h.cell 0))) (sym e)
          (ap (λ l. get_or l h.cell 0) constants ∙ get_or-map (constant_address pool) (area words 2) h.cell 0 0 lt)

  told : (p : Patch) (h : Handle) → IsHandle words (area_of p) h → find_in a h ≡ address_of sites pool (key_at words h)
  told Call h is = of_symbol h is
  told Addr h is = of_symbol h is
  told Pool h is = of_constant h is

  pub text_filled : (address : ℕ) (ps : List PieceRecord) → All (HasPatches t words) ps → text_of t (find_in a) address ps ≡ text_of t (address_of sites pool) address (map (filled words) ps)
  text_filled address ps h =
      let one : ℕ × Patch × Handle → Type 0 = λ s. find_in a s.2 ≡ address_of sites pool (key_at words s.2) in
      same_text t (find_in a) (address_of sites pool) (key_at words) address ps
      (All-weaker (HasPatches t words) (λ (p : PieceRecord). All one p.handles) (λ p i. All-weaker (IsPatch t words (length p.code)) one (λ s j. told s.1 s.2 j.key) p.handles i.patches) ps h)

  room_at : (x b : ℕ) (h : Handle) → h.area ≡ x → x ≡ b → h.cell < length (area words b) → (b ≡ 0) ⊎ (b ≡ 2) → h.cell < (if x == 2 then length a.constants.items else length a.symbols.items)
  room_at x b h q e l way = ⊎_elim
      (λ z. subst (λ y. h.cell < (if y == 2 then length a.constants.items else length a.symbols.items)) (sym (e ∙ z))
      (subst (λ n. h.cell < n) (sym (ap length symbols ∙ length-map (area words 0) (symbol_address sites))) (subst (λ y. h.cell < length (area words y)) z l)))
      (λ z. subst (λ y. h.cell < (if y == 2 then length a.constants.items else length a.symbols.items)) (sym (e ∙ z))
      (subst (λ n. h.cell < n) (sym (ap length constants ∙ length-map (area words 2) (constant_address pool))) (subst (λ y. h.cell < length (area words y)) z l)))
      way

  room_for : (p : Patch) (h : Handle) → IsHandle words (area_of p) h → h.cell < (if h.area == 2 then length a.constants.items else length a.symbols.items)
  room_for Call h is = room_at h.area 0 h refl is.0 (cell_within words 0 h is) (inl refl)
  room_for Addr h is = room_at h.area 0 h refl is.0 (cell_within words 0 h is) (inl refl)
  room_for Pool h is = room_at h.area 2 h refl is.0 (cell_within words 2 h is) (inr refl)

  pub can_patch : (ps : List PieceRecord) → All (HasPatches t words) ps → All (CanPatchAll t a) ps
  can_patch ps h =
      All-weaker (HasPatches t words) (CanPatchAll t a) (λ p i. All-weaker (IsPatch t words (length p.code)) (CanPatch t a (length p.code)) (λ s j. record { cell = room_for s.1 s.2 j.key; whole = j.whole }) p.handles i.patches) ps h
