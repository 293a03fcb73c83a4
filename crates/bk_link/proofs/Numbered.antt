-- The names of functions and variables together are the numbers of all names.
use Rattle.std.proofs.Common.{◌≡◌, ◌≢◌, ◌∙◌, sym, ap, subst, refl, ℕ, ◌+◌, ◌*◌, ◌<◌, ◌≤◌, List, [], ◌∷◌, length, map, false, arith}
use Rattle.std.specs.List.{All, Contains, range_with_len}
use Rattle.std.proofs.lemmas.List.{length-map, get_or-map}
use Rattle.std.proofs.lemmas.List.Elements.{All-head, All-tail, All-weaker, All-map}
use Rattle.bk_func.specs.Records.{FuncRecord, VarRecord, PackageRecord}
use Rattle.bk_piece.specs.Pieces.{PieceOf}
use Rattle.bk_piece.specs.Rising.{Rise}
use Rattle.bk_piece.proofs.Rising.{head_of, tail_of}
use Rattle.bk_num.specs.Memory.{data_base}
use Rattle.bk_elf.specs.Layout.{aligned}
use Rattle.bk_link.specs.declared.sites.Site.{Site}
use Rattle.bk_link.specs.Sites.{text_base, func_sites, var_sites, by_name}
use Rattle.bk_link.specs.Linked.{sites_of}
use Rattle.bk_link.specs.Conditions.{func_places, var_places, IsNamed}
use Rattle.bk_link.proofs.Merging.{AreInOrder, in_order, all_by_name, length_by_name}

abbrev pub names : List Site → List ℕ
names ss = map (λ s. s.name) ss

pub func_names : {H : Type 0} (a : ℕ) (fs : List FuncRecord) (ps : List (PieceOf H)) → length ps ≡ length fs → names (func_sites a fs ps) ≡ map (λ f. f.name) fs
func_names a [] [] e = refl
func_names a [] (p ∷ ps) e = absurd (omega arith)
func_names a (f ∷ fs) [] e = absurd (omega arith)
func_names a (f ∷ fs) (p ∷ ps) e = ap (λ ns. f.name ∷ ns) (func_names (a + 4 * length p.code) fs ps (omega arith))

pub var_names : (a : ℕ) (vs : List VarRecord) → names (var_sites a vs) ≡ map (λ v. v.name) vs
var_names a [] = refl
var_names a (v ∷ vs) = ap (λ ns. v.name ∷ ns) (var_names (a + aligned v.size) vs)

-- numbers that rise from above x on, all below b, leave room
pub room : (x b : ℕ) (xs : List ℕ) → Rise xs → All (λ y. x < y) xs → All (λ y. y < b) xs → x < b → x + length xs < b
room x b [] r a u l = omega arith
room x b (y ∷ ys) r a u l =
    let h : x < y = All-head (λ y. x < y) y ys a in
    let t = room y b ys (tail_of y ys r) (head_of y ys r) (All-tail (λ y. y < b) y ys u) (All-head (λ y. y < b) y ys u) in
    omega arith

-- as many numbers as there are from low on, in rising order
is_range : (low : ℕ) (xs : List ℕ) → Rise xs → All (λ x. low ≤ x) xs → All (λ x. x < low + length xs) xs → xs ≡ range_with_len low (length xs)
is_range low [] r a u = refl
is_range low (x ∷ xs) r a u =
    let ge : low ≤ x = All-head (λ y. low ≤ y) x xs a in
    let top = low + length (x ∷ xs) in
    let far : x + length xs < top = room x top xs (tail_of x xs r) (head_of x xs r) (All-tail (λ y. y < top) x xs u) (All-head (λ y. y < top) x xs u) in
    let e : x ≡ low = omega arith in
    let rest = is_range (low + 1) xs (tail_of x xs r)
    (All-weaker (λ y. x < y) (λ y. low + 1 ≤ y) (λ y l. omega (arith, l, ge)) xs (head_of x xs r))
    (All-weaker (λ y. y < top) (λ y. y < low + 1 + length xs) (λ y l. omega (arith, l)) xs (All-tail (λ y. y < top) x xs u)) in
    λ i. e i ∷ rest i

ordered : (ss : List Site) → Rise (names ss) → AreInOrder ss
ordered ss r i j d l m =
    let len = length-map ss (λ (s : Site). s.name) in
    let a = get_or-map (λ (s : Site). s.name) ss i d 0 (omega (arith, l, m)) in
    let b = get_or-map (λ (s : Site). s.name) ss j d 0 m in
    omega (arith, r i j 0 l (omega (arith, m, len)), a, b)

rises : (ss : List Site) → AreInOrder ss → Rise (names ss)
rises ss o i j d l m =
    let none : Site = record { name = 0; func = false; address = 0; size = 0 } in
    let len = length-map ss (λ (s : Site). s.name) in
    let a = get_or-map (λ (s : Site). s.name) ss i none d (omega (arith, l, m, len)) in
    let b = get_or-map (λ (s : Site). s.name) ss j none d (omega (arith, m, len)) in
    omega (arith, o i j none l (omega (arith, m, len)), a, b)

all_names : (P : ℕ → Type 0) (ss : List Site) → All P (names ss) → All (λ s. P s.name) ss
all_names P ss h i d l = subst P (get_or-map (λ (s : Site). s.name) ss i d 0 l) (h i 0 (omega (arith, l, length-map ss (λ (s : Site). s.name))))

not_in : (n : ℕ) (vs : List Site) → (Contains (names vs) n → ⊥) → All (λ v. n ≢ v.name) vs
not_in n vs h i d l e = h (i, omega (arith, l, length-map vs (λ (s : Site). s.name)), get_or-map (λ (s : Site). s.name) vs i d n l ∙ sym e)

pub numbered : {H : Type 0} (pkg : PackageRecord) (ps : List (PieceOf H)) → IsNamed pkg → length ps ≡ length pkg.funcs → names (sites_of pkg ps) ≡ range_with_len 0 (length pkg.names)
numbered pkg ps h long =
    let fs = func_sites text_base pkg.funcs ps in
    let vs = var_sites data_base pkg.vars in
    let n = length pkg.names in
    let own : names fs ≡ func_places pkg = func_names text_base pkg.funcs ps long in
    let others : names vs ≡ var_places pkg = var_names data_base pkg.vars in
    let low : ℕ → Type 0 = λ k. k < n in
    let apart = all_names (λ k. All (λ v. k ≢ v.name) vs) fs
    (All-weaker (λ k. Contains (var_places pkg) k → ⊥) (λ k. All (λ v. k ≢ v.name) vs) (λ k q. not_in k vs (λ c. q (subst (λ l. Contains l k) others c))) (names fs) (subst (All (λ k. Contains (var_places pkg) k → ⊥)) (sym own) h.apart)) in
    let order = in_order fs vs (ordered fs (subst Rise (sym own) h.funcs_rise)) (ordered vs (subst Rise (sym others) h.vars_rise)) apart in
    let below = all_by_name (λ s. s.name < n) fs vs (all_names low fs (subst (All low) (sym own) h.funcs_within)) (all_names low vs (subst (All low) (sym others) h.vars_within)) in
    let ss = by_name fs vs in
    let some : length (names ss) ≡ n =
    omega (arith, length-map ss (λ (s : Site). s.name), length_by_name fs vs, length-map fs (λ (s : Site). s.name), length-map vs (λ (s : Site). s.name), ap length own, ap length others, length-map pkg.funcs (λ (f : FuncRecord). f.name), length-map pkg.vars (λ (v : VarRecord). v.name), h.counted) in
    let within = All-map low (λ (s : Site). s.name) ss below in
    is_range 0 (names ss) (rises ss order) (λ i d l. omega arith) (All-weaker low (λ k. k < 0 + length (names ss)) (λ k l. omega (arith, l, some)) (names ss) within) ∙ ap (range_with_len 0) some
