-- The names of a package that a text reads as.
use Rattle.std.proofs.Common.{◌≡◌, ◌≢◌, ℕ, zero, suc, ◌+◌, ◌-◌, ◌<◌, ◌≤◌, List, [], ◌∷◌, ◌++◌, length, take, map, ap, ◌∙◌, sym, refl, subst, arith, get_or, append_assoc, Bool, true, false, cond}
use Rattle.std.specs.Prelude.{Result, Ok, Err, not, nat_lt, All, Contains, codes, slice_index, slice_index_or, ◌==◌, ◌&&◌}
use Rattle.std.specs.List.{AllZip, AllPairs, AllByRecursion, sum_by, slice_split, onto_first}
use Rattle.std.specs.Str.{IsUtf8}
use Rattle.std.proofs.lemmas.List.{length-append, length-map, length-take}
use Rattle.std.proofs.lemmas.List.Elements.{All-nil, All-cons, All-head, All-tail, All-weaker, All-from_recursion, All-contains}
use Rattle.std.proofs.lemmas.List.Kept.{AllPairs-cons}
use Rattle.std.proofs.lemmas.List.Sums.{sum_by-cons, sum_by-append}
use Rattle.std.proofs.lemmas.Str.{IsUtf8-from_is_utf8}
use Rattle.bk_func.specs.Records.{BlockRecord, SigRecord, FuncRecord, VarRecord, PackageRecord}
use Rattle.bk_dump.specs.Trees.{ValueTree, EndTree, ParameterTree, HeaderTree, BlockTree, FuncTree}
use Rattle.bk_dump.specs.Words.{is_name_byte}
use Rattle.bk_dump.specs.Parts.{Part, word, bytes_of, Lays, IsName}
use Rattle.bk_dump.specs.Resolved.{◌>>=◌, each, func_of, block_of, scope_of, package_of}
use Rattle.bk_dump.specs.Texts.{is_skipped, without_cr, lines_of, lines, reading}
use Rattle.bk_dump_laws.specs.Declarations.{Line, var_line, func_line, block_line, value_line, end_line, SpellsLine, Declaration, variable, function, lines_of_block, lines_of_blocks, lines_of_all, names_of_all, declared_func, funcs_from, vars_from, SpellsAll}
use Rattle.bk_dump_laws.specs.Limits.{KeepsFunction, Keeps, func_count, var_count, KeepsLimits}
use Rattle.bk_dump_laws.specs.Naming.{func_places, var_places, func_names, Differ, names_size, HasNames}
use Rattle.bk_dump.proofs.TextLines.{is_lf}
use Rattle.bk_dump.proofs.Packages.{made_package}
use Rattle.bk_dump_laws.proofs.Expecting.{kept}
use Rattle.bk_dump_laws.proofs.Running.{Declared, text_declares}
use Rattle.bk_dump_laws.proofs.Keeping.{run_keeps}

-- Names are no longer than their lines.

abbrev parts_size : List Part → ℕ
parts_size [] = 0
parts_size (part ∷ more) = length (bytes_of part) + parts_size more

parts_fit : (parts : List Part) (line : List ℕ) → Lays parts line → parts_size parts ≤ length line
parts_fit [] line l = omega arith
parts_fit (part ∷ more) line (gap, rest, e, b, a, l) =
    omega (arith, parts_fit more rest l, ap length e, length-append gap (bytes_of part ++ rest), length-append (bytes_of part) rest)

named_fit : (parts more : List Part) (line : List ℕ) (one other : List ℕ) → Lays parts line → parts ≡ word one ∷ (word other ∷ more) → length one + length other ≤ length line
named_fit parts more line one other l e = omega (arith, parts_fit (word one ∷ (word other ∷ more)) line (subst (λ ps. Lays ps line) e l))

-- the bytes of the name that a line declares, and one
abbrev name_size : Line → ℕ
name_size (var_line v) = length v.name + 1
name_size (func_line h) = length h.name + 1
name_size (block_line b) = 0
name_size (value_line v) = 0
name_size (end_line e) = 0

name_fits : (text : List ℕ) (l : Line) → SpellsLine text l → name_size l ≤ length text
name_fits text (var_line v) s =
    let x = s.spelled in
    omega (arith, named_fit x.0 (word x.2.0 ∷ x.2.1) text (codes "var") v.name x.1 x.2.4)
name_fits text (func_line h) s =
    let x = s.spelled in
    omega (arith, named_fit x.0 _ text h.name (codes "func") x.1 x.2.5)
name_fits text (block_line b) s = omega arith
name_fits text (value_line v) s = omega arith
name_fits text (end_line e) s = omega arith

names_fit : (texts : List (List ℕ)) (ls : List Line) → AllZip SpellsLine texts ls → sum_by name_size ls ≤ sum_by length texts
names_fit [] [] z = omega arith
names_fit [] (l ∷ ls) z = absurd z
names_fit (text ∷ texts) [] z = absurd z
names_fit (text ∷ texts) (l ∷ ls) z = omega (arith, name_fits text l z.0, names_fit texts ls z.1, sum_by-cons name_size l ls, sum_by-cons length text texts)

-- the lines of declarations

values_nameless : (vs : List ValueTree) (e : EndTree) → sum_by name_size (map value_line vs ++ end_line e ∷ []) ≡ 0
values_nameless [] e = refl
values_nameless (v ∷ vs) e = omega (arith, sum_by-cons name_size (value_line v) (map value_line vs ++ end_line e ∷ []), values_nameless vs e)

blocks_nameless : (bs : List BlockTree) → sum_by name_size (lines_of_blocks bs) ≡ 0
blocks_nameless [] = refl
blocks_nameless (b ∷ bs) =
    let values = map value_line b.values ++ end_line b.end ∷ [] in
    omega (arith, sum_by-append name_size (lines_of_block b) (lines_of_blocks bs), sum_by-cons name_size (block_line b.label) values, values_nameless b.values b.end, blocks_nameless bs)

abbrev size_of : List ℕ → ℕ
size_of n = length n + 1

names_counted : (ds : List Declaration) → sum_by name_size (lines_of_all ds) ≡ names_size (names_of_all ds)
names_counted [] = refl
names_counted ((variable v) ∷ ds) = omega (arith, sum_by-cons name_size (var_line v) (lines_of_all ds), sum_by-cons size_of v.name (names_of_all ds), names_counted ds)
names_counted ((function h bs) ∷ ds) =
    omega (arith, sum_by-cons name_size (func_line h) (lines_of_blocks bs ++ lines_of_all ds), sum_by-append name_size (lines_of_blocks bs) (lines_of_all ds), blocks_nameless bs, sum_by-cons size_of h.name (names_of_all ds), names_counted ds)

-- the lines of a text

kept_case : (b : Bool) (line : List ℕ) (more : List (List ℕ)) (n : ℕ) → sum_by length more ≤ n → sum_by length (cond b (line ∷ more) more) ≤ length line + n
kept_case true line more n h = omega (arith, sum_by-cons length line more)
kept_case false line more n h = omega arith

kept_fit : (texts : List (List ℕ)) → sum_by length (kept texts) ≤ sum_by length texts
kept_fit [] = omega arith
kept_fit (line ∷ more) = omega (arith, kept_case (not (is_skipped line)) line (kept more) (sum_by length more) (kept_fit more), sum_by-cons length line more)

cut_case : (b : Bool) (line : List ℕ) → length (cond b (take (length line - 1) line) line) ≤ length line
cut_case true line = omega (arith, length-take (length line - 1) line)
cut_case false line = omega arith

uncut : (line : List ℕ) → length (without_cr line) ≤ length line
unfolding without_cr
uncut line = cut_case (nat_lt 0 (length line) && slice_index line (length line - 1) == 13) line

last_case : (b : Bool) (last : List ℕ) → sum_by length (cond b [] (last ∷ [])) ≤ sum_by length (last ∷ [])
last_case true last = omega arith
last_case false last = omega arith

lines_fit : (parts : List (List ℕ)) → sum_by length (lines_of parts) ≤ sum_by length parts
unfolding lines_of
lines_fit [] = omega arith
lines_fit (last ∷ []) = last_case (length last == 0) last
lines_fit (line ∷ next ∷ more) =
    omega (arith, uncut line, lines_fit (next ∷ more), sum_by-cons length (without_cr line) (lines_of (next ∷ more)), sum_by-cons length line (next ∷ more))

first_fits : (x : ℕ) (parts : List (List ℕ)) → sum_by length (onto_first x parts) ≤ 1 + sum_by length parts
first_fits x [] = omega arith
first_fits x (part ∷ parts) = omega (arith, sum_by-cons length (x ∷ part) parts, sum_by-cons length part parts)

split_case : (b : Bool) (x : ℕ) (parts : List (List ℕ)) (n : ℕ) → sum_by length parts ≤ n → sum_by length (cond b ([] ∷ parts) (onto_first x parts)) ≤ suc n
split_case true x parts n h = omega (arith, sum_by-cons length [] parts)
split_case false x parts n h = omega (arith, first_fits x parts)

split_fits : (text : List ℕ) → sum_by length (slice_split is_lf text) ≤ length text
split_fits [] = omega arith
split_fits (c ∷ text) = split_case (is_lf c) c (slice_split is_lf text) (length text) (split_fits text)

text_holds : (text : List ℕ) → sum_by length (lines text) ≤ length text
unfolding lines
text_holds text = omega (arith, lines_fit (slice_split is_lf text), split_fits text)

pub text_names : (text : List ℕ) (ds : List Declaration) → SpellsAll text ds → names_size (names_of_all ds) ≤ length text
text_names text ds s =
    omega (arith, names_counted ds, names_fit (kept (lines text)) (lines_of_all ds) s.lines, kept_fit (lines text), text_holds text)

-- Each line's name is a name.

abbrev Named : Line → Type 0
Named (var_line v) = IsName v.name
Named (func_line h) = IsName h.name
Named (block_line b) = Unit {0}
Named (value_line v) = Unit {0}
Named (end_line e) = Unit {0}

is_named : (text : List ℕ) (l : Line) → SpellsLine text l → Named l
is_named text (var_line v) s = s.spelled.2.2
is_named text (func_line h) s = s.spelled.2.2
is_named text (block_line b) s = tt
is_named text (value_line v) s = tt
is_named text (end_line e) s = tt

all_named : (texts : List (List ℕ)) (ls : List Line) → AllZip SpellsLine texts ls → AllByRecursion Named ls
all_named [] [] z = tt
all_named [] (l ∷ ls) z = absurd z
all_named (text ∷ texts) [] z = absurd z
all_named (text ∷ texts) (l ∷ ls) z = (is_named text l z.0, all_named texts ls z.1)

behind : (P : Line → Type 0) (xs ys : List Line) → AllByRecursion P (xs ++ ys) → AllByRecursion P ys
behind P [] ys h = h
behind P (x ∷ xs) ys h = behind P xs ys h.1

names_are : (ds : List Declaration) → AllByRecursion Named (lines_of_all ds) → All IsName (names_of_all ds)
names_are [] h = All-nil IsName
names_are ((variable v) ∷ ds) h = All-cons IsName v.name (names_of_all ds) h.0 (names_are ds h.1)
names_are ((function g bs) ∷ ds) h = All-cons IsName g.name (names_of_all ds) h.0 (names_are ds (behind Named (lines_of_blocks bs) (lines_of_all ds) h.1))

-- The places of names.

abbrev pub func_spots : ℕ → List Declaration → List ℕ
func_spots n [] = []
func_spots n ((variable v) ∷ ds) = func_spots (suc n) ds
func_spots n ((function h bs) ∷ ds) = n ∷ func_spots (suc n) ds

abbrev pub var_spots : ℕ → List Declaration → List ℕ
var_spots n [] = []
var_spots n ((variable v) ∷ ds) = n ∷ var_spots (suc n) ds
var_spots n ((function h bs) ∷ ds) = var_spots (suc n) ds

funcs_spots : (n : ℕ) (ds : List Declaration) → map (λ f. f.name) (funcs_from n ds) ≡ func_spots n ds
funcs_spots n [] = refl
funcs_spots n ((variable v) ∷ ds) = funcs_spots (suc n) ds
funcs_spots n ((function h bs) ∷ ds) = ap (λ ns. n ∷ ns) (funcs_spots (suc n) ds)

vars_spots : (n : ℕ) (ds : List Declaration) → map (λ v. v.name) (vars_from n ds) ≡ var_spots n ds
vars_spots n [] = refl
vars_spots n ((variable v) ∷ ds) = ap (λ ns. n ∷ ns) (vars_spots (suc n) ds)
vars_spots n ((function h bs) ∷ ds) = vars_spots (suc n) ds

-- from a number on, and below another one
abbrev Lies : ℕ → ℕ → ℕ → Type 0
Lies low high k = (low ≤ k) × (k < high)

lower : (low high : ℕ) (ns : List ℕ) → All (Lies (suc low) high) ns → All (Lies low high) ns
lower low high ns h = All-weaker (Lies (suc low) high) (Lies low high) (λ k l. (omega (arith, l.0), l.1)) ns h

further : (n m : ℕ) → suc n + m ≡ n + suc m
further n m = omega arith

funcs_lie : (n : ℕ) (ds : List Declaration) → All (Lies n (n + length (names_of_all ds))) (func_spots n ds)
funcs_lie n [] = All-nil (Lies n (n + 0))
funcs_lie n ((variable v) ∷ ds) = subst (λ m. All (Lies n m) (func_spots (suc n) ds)) (further n (length (names_of_all ds))) (lower n (suc n + length (names_of_all ds)) (func_spots (suc n) ds) (funcs_lie (suc n) ds))
funcs_lie n ((function h bs) ∷ ds) =
    All-cons (Lies n (n + suc (length (names_of_all ds)))) n (func_spots (suc n) ds) (omega arith, omega arith)
    (subst (λ m. All (Lies n m) (func_spots (suc n) ds)) (further n (length (names_of_all ds))) (lower n (suc n + length (names_of_all ds)) (func_spots (suc n) ds) (funcs_lie (suc n) ds)))

vars_lie : (n : ℕ) (ds : List Declaration) → All (Lies n (n + length (names_of_all ds))) (var_spots n ds)
vars_lie n [] = All-nil (Lies n (n + 0))
vars_lie n ((function h bs) ∷ ds) = subst (λ m. All (Lies n m) (var_spots (suc n) ds)) (further n (length (names_of_all ds))) (lower n (suc n + length (names_of_all ds)) (var_spots (suc n) ds) (vars_lie (suc n) ds))
vars_lie n ((variable v) ∷ ds) =
    All-cons (Lies n (n + suc (length (names_of_all ds)))) n (var_spots (suc n) ds) (omega arith, omega arith)
    (subst (λ m. All (Lies n m) (var_spots (suc n) ds)) (further n (length (names_of_all ds))) (lower n (suc n + length (names_of_all ds)) (var_spots (suc n) ds) (vars_lie (suc n) ds)))

funcs_rise : (n : ℕ) (ds : List Declaration) → AllPairs (λ a b. a < b) (func_spots n ds)
funcs_rise n [] = λ i j d l m. absurd (omega arith)
funcs_rise n ((variable v) ∷ ds) = funcs_rise (suc n) ds
funcs_rise n ((function h bs) ∷ ds) =
    AllPairs-cons (λ a b. a < b) n (func_spots (suc n) ds) (All-weaker (Lies (suc n) (suc n + length (names_of_all ds))) (λ b. n < b) (λ k l. omega (arith, l.0)) (func_spots (suc n) ds) (funcs_lie (suc n) ds)) (funcs_rise (suc n) ds)

vars_rise : (n : ℕ) (ds : List Declaration) → AllPairs (λ a b. a < b) (var_spots n ds)
vars_rise n [] = λ i j d l m. absurd (omega arith)
vars_rise n ((function h bs) ∷ ds) = vars_rise (suc n) ds
vars_rise n ((variable v) ∷ ds) =
    AllPairs-cons (λ a b. a < b) n (var_spots (suc n) ds) (All-weaker (Lies (suc n) (suc n + length (names_of_all ds))) (λ b. n < b) (λ k l. omega (arith, l.0)) (var_spots (suc n) ds) (vars_lie (suc n) ds)) (vars_rise (suc n) ds)

-- a number below all those of a list is not in it
not_in : (n high : ℕ) (ns : List ℕ) → All (Lies (suc n) high) ns → Contains ns n → ⊥
not_in n high ns h c = let l = All-contains (Lies (suc n) high) ns n h c in absurd (omega (arith, l.0))

-- nor is it that of the list with a number in front, unless it is this
other_in : (n k : ℕ) (ns : List ℕ) → suc n ≤ k → Contains (n ∷ ns) k → Contains ns k
other_in n k ns l (zero, m, e) = absurd (omega (arith, e))
other_in n k ns l ((suc i), m, e) = (i, omega (arith, m), e)

apart : (n : ℕ) (ds : List Declaration) → All (λ k. Contains (var_spots n ds) k → ⊥) (func_spots n ds)
apart n [] = All-nil (λ k. Contains [] k → ⊥)
apart n ((variable v) ∷ ds) = λ i d l.
    let k = get_or (func_spots (suc n) ds) i d in
    let lies = funcs_lie (suc n) ds i d l in
    λ c. apart (suc n) ds i d l (other_in n k (var_spots (suc n) ds) lies.0 c)
apart n ((function h bs) ∷ ds) =
    All-cons (λ k. Contains (var_spots (suc n) ds) k → ⊥) n (func_spots (suc n) ds) (not_in n (suc n + length (names_of_all ds)) (var_spots (suc n) ds) (vars_lie (suc n) ds)) (apart (suc n) ds)

spots_counted : (n : ℕ) (ds : List Declaration) → length (func_spots n ds) + length (var_spots n ds) ≡ length (names_of_all ds)
spots_counted n [] = refl
spots_counted n ((variable v) ∷ ds) = omega (arith, spots_counted (suc n) ds)
spots_counted n ((function h bs) ∷ ds) = omega (arith, spots_counted (suc n) ds)

-- The names of functions.

abbrev pub headings : List Declaration → List (List ℕ)
headings [] = []
headings ((variable v) ∷ ds) = headings ds
headings ((function h bs) ∷ ds) = h.name ∷ headings ds

pub at_front : (pre post : List (List ℕ)) (name d : List ℕ) → slice_index_or (pre ++ name ∷ post) (length pre) d ≡ name
at_front [] post name d = refl
at_front (n ∷ pre) post name d = at_front pre post name d

called : (pre : List (List ℕ)) (ds : List Declaration) (n : ℕ) → n ≡ length pre → map (λ k. slice_index_or (pre ++ names_of_all ds) k []) (func_spots n ds) ≡ headings ds
called pre [] n e = refl
called pre ((variable v) ∷ ds) n e =
    ap (λ ns. map (λ k. slice_index_or ns k []) (func_spots (suc n) ds)) (sym (append_assoc pre (v.name ∷ []) (names_of_all ds)))
    ∙ called (pre ++ v.name ∷ []) ds (suc n) (omega (arith, e, length-append pre (v.name ∷ [])))
called pre ((function h bs) ∷ ds) n e =
    ap (λ k. slice_index_or (pre ++ h.name ∷ names_of_all ds) k [] ∷ map (λ k. slice_index_or (pre ++ h.name ∷ names_of_all ds) k []) (func_spots (suc n) ds)) e
    ∙ ap (λ x. x ∷ map (λ k. slice_index_or (pre ++ h.name ∷ names_of_all ds) k []) (func_spots (suc n) ds)) (at_front pre (names_of_all ds) h.name [])
    ∙ ap (λ xs. h.name ∷ xs)
    (ap (λ ns. map (λ k. slice_index_or ns k []) (func_spots (suc n) ds)) (sym (append_assoc pre (h.name ∷ []) (names_of_all ds))) ∙ called (pre ++ h.name ∷ []) ds (suc n) (omega (arith, e, length-append pre (h.name ∷ []))))

headings_are : (P : List ℕ → Type 0) (ds : List Declaration) → All P (names_of_all ds) → All P (headings ds)
headings_are P [] h = All-nil P
headings_are P ((variable v) ∷ ds) h = headings_are P ds (All-tail P v.name (names_of_all ds) h)
headings_are P ((function g bs) ∷ ds) h = All-cons P g.name (headings ds) (All-head P g.name (names_of_all ds) h) (headings_are P ds (All-tail P g.name (names_of_all ds) h))

-- pairs of a list without its first element, and of the first one with each other
pairs_tail : (x : List ℕ) (xs : List (List ℕ)) → Differ (x ∷ xs) → Differ xs
pairs_tail x xs h = λ i j d l m. h (suc i) (suc j) d (omega arith) (omega arith)

pairs_head : (x : List ℕ) (xs : List (List ℕ)) → Differ (x ∷ xs) → All (λ y. x ≢ y) xs
pairs_head x xs h = λ k d l. h 0 (suc k) d (omega arith) (omega arith)

headings_differ : (ds : List Declaration) → Differ (names_of_all ds) → Differ (headings ds)
headings_differ [] h = λ i j d l m. absurd (omega arith)
headings_differ ((variable v) ∷ ds) h = headings_differ ds (pairs_tail v.name (names_of_all ds) h)
headings_differ ((function g bs) ∷ ds) h =
    AllPairs-cons (λ a b. a ≢ b) g.name (headings ds) (headings_are (λ y. g.name ≢ y) ds (pairs_head g.name (names_of_all ds) h)) (headings_differ ds (pairs_tail g.name (names_of_all ds) h))

headings_short : (ds : List Declaration) → names_size (headings ds) ≤ names_size (names_of_all ds)
headings_short [] = omega arith
headings_short ((variable v) ∷ ds) = omega (arith, headings_short ds, sum_by-cons size_of v.name (names_of_all ds))
headings_short ((function h bs) ∷ ds) = omega (arith, headings_short ds, sum_by-cons size_of h.name (names_of_all ds), sum_by-cons size_of h.name (headings ds))

-- The package.

pub ok_is : {A E : Type 0} (x y : A) → ◌≡◌ {A = Result A E} (Ok x) (Ok y) → x ≡ y
ok_is x y h = cc

abbrev made_func : FuncTree → List BlockRecord → FuncRecord
made_func f bs = record { name = f.name; sig = f.sig; blocks = bs; given = length f.value_ids }

pub bound : {A B : Type 0} (r : Result A (List ℕ)) (f : A → Result B (List ℕ)) (y : B) → (r >>= f) ≡ Ok y → (x : A) × (r ≡ Ok x) × (f x ≡ Ok y)
bound (Ok x) f y h = (x, refl, h)
bound (Err e) f y h = absurd (cc)

-- the function of a tree
pub record IsFunc (names : List (List ℕ)) (f : FuncTree) (g : FuncRecord) : Type 0 where
  pub name : g.name ≡ f.name
  pub sig : g.sig ≡ f.sig
  pub given : g.given ≡ length f.value_ids
  pub blocks : each (block_of (scope_of names f)) f.blocks ≡ Ok g.blocks

pub func_is : (names : List (List ℕ)) (f : FuncTree) (g : FuncRecord) → func_of names f ≡ Ok g → IsFunc names f g
unfolding func_of
func_is names f g h =
    let bs = bound (each (block_of (scope_of names f)) f.blocks) (λ bs. Ok (made_func f bs)) g h in
    let same = ok_is (made_func f bs.0) g bs.2 in
    record {
      name = sym (ap (λ (x : FuncRecord). x.name) same);
      sig = sym (ap (λ (x : FuncRecord). x.sig) same);
      given = sym (ap (λ (x : FuncRecord). x.given) same);
      blocks = bs.1 ∙ ap Ok (ap (λ (x : FuncRecord). x.blocks) same);
    }

-- each in order
pub each_is : {A B : Type 0} (f : A → Result B (List ℕ)) (xs : List A) (ys : List B) → each f xs ≡ Ok ys → AllZip (λ x y. f x ≡ Ok y) xs ys
unfolding each
each_is {A} {B} f [] ys h = subst (λ (zs : List B). AllZip (λ x y. f x ≡ Ok y) [] zs) (ok_is [] ys h) tt
each_is {A} {B} f (x ∷ xs) ys h =
    let y = bound (f x) (λ y. each f xs >>= λ ys. Ok (y ∷ ys)) ys h in
    let more = bound (each f xs) (λ ys. Ok (y.0 ∷ ys)) ys y.2 in
    subst (λ (zs : List B). AllZip (λ x y. f x ≡ Ok y) (x ∷ xs) zs) (ok_is (y.0 ∷ more.0) ys more.2) (y.1, each_is f xs more.0 more.1)

-- what is so of each goes over to what is made of it
pub zip_all : {A B : Type 0} (R : A → B → Type 0) (P : A → Type 0) (Q : B → Type 0) (xs : List A) (ys : List B) → ((x : A) (y : B) → R x y → P x → Q y) → AllZip R xs ys → All P xs → All Q ys
zip_all R P Q [] [] f z h = All-nil Q
zip_all R P Q [] (y ∷ ys) f z h = absurd z
zip_all R P Q (x ∷ xs) [] f z h = absurd z
zip_all R P Q (x ∷ xs) (y ∷ ys) f z h = All-cons Q y ys (f x y z.0 (All-head P x xs h)) (zip_all R P Q xs ys f z.1 (All-tail P x xs h))

abbrev name_of : FuncRecord → ℕ
name_of f = f.name

funcs_named : (names : List (List ℕ)) (fs : List FuncTree) (gs : List FuncRecord) → each (func_of names) fs ≡ Ok gs → map name_of gs ≡ map (λ f. f.name) fs
unfolding each
funcs_named names [] gs h = ap (map name_of) (sym (ok_is [] gs h))
funcs_named names (f ∷ fs) gs h =
    let g = bound (func_of names f) (λ y. each (func_of names) fs >>= λ ys. Ok (y ∷ ys)) gs h in
    let more = bound (each (func_of names) fs) (λ ys. Ok (g.0 ∷ ys)) gs g.2 in
    ap (map name_of) (sym (ok_is (g.0 ∷ more.0) gs more.2)) ∙ ap (λ n. n ∷ map name_of more.0) (func_is names f g.0 g.1).name ∙ ap (λ ns. f.name ∷ ns) (funcs_named names fs more.0 more.1)

-- what a package is made of
pub record IsMade (ns : List (List ℕ)) (fs : List FuncTree) (vs : List VarRecord) (p : PackageRecord) : Type 0 where
  pub names : p.names ≡ ns
  pub vars : p.vars ≡ vs
  pub funcs : each (func_of ns) fs ≡ Ok p.funcs

pub package_made : (names : List (List ℕ)) (funcs : List FuncTree) (vars : List VarRecord) (p : PackageRecord) → package_of names funcs vars ≡ Ok p → IsMade names funcs vars p
unfolding package_of
package_made names funcs vars p h =
    let fs = bound (each (func_of names) funcs) (λ fs. Ok (made_package names vars fs)) p h in
    let same = ok_is (made_package names vars fs.0) p fs.2 in
    record {
      names = sym (ap (λ (x : PackageRecord). x.names) same);
      vars = sym (ap (λ (x : PackageRecord). x.vars) same);
      funcs = fs.1 ∙ ap Ok (ap (λ (x : PackageRecord). x.funcs) same);
    }

-- the record from what the declarations have
pub record Places (p : PackageRecord) (ds : List Declaration) : Type 0 where
  pub names : p.names ≡ names_of_all ds
  pub funcs : func_places p ≡ func_spots 0 ds
  pub vars : var_places p ≡ var_spots 0 ds
  pub called : func_names p ≡ headings ds

maps_meet : (names : List (List ℕ)) (fs : List FuncRecord) → map (λ f. slice_index_or names f.name []) fs ≡ map (λ k. slice_index_or names k []) (map name_of fs)
maps_meet names [] = refl
maps_meet names (f ∷ fs) = ap (λ xs. slice_index_or names f.name [] ∷ xs) (maps_meet names fs)

pub package_places : (text : List ℕ) (p : PackageRecord) → (d : Declared text p) → Places p d.all
package_places text p d =
    let made = package_made d.last.names d.last.funcs d.last.vars p d.found in
    let names : p.names ≡ names_of_all d.all = made.names ∙ d.names in
    let funcs : map name_of p.funcs ≡ func_spots 0 d.all = funcs_named d.last.names d.last.funcs p.funcs made.funcs ∙ ap (map (λ f. f.name)) d.funcs ∙ funcs_spots 0 d.all in
    record {
      names = names;
      funcs = funcs;
      vars = ap (map (λ v. v.name)) (made.vars ∙ d.vars) ∙ vars_spots 0 d.all;
      called =
          maps_meet p.names p.funcs
          ∙ ap (map (λ k. slice_index_or p.names k [])) funcs
          ∙ ap (λ ns. map (λ k. slice_index_or ns k []) (func_spots 0 d.all)) names
          ∙ called [] d.all 0 refl;
    }

within : (ns : List ℕ) (high : ℕ) → All (Lies 0 (0 + high)) ns → All (λ n. n < high) ns
within ns high h = All-weaker (Lies 0 (0 + high)) (λ n. n < high) (λ k l. omega (arith, l.1)) ns h

limits : (text : List ℕ) (p : PackageRecord) → (d : Declared text p) → KeepsLimits d.all
limits text p d = run_keeps d.last d.all d.spelled.whole d.goes

funcs_counted : (n : ℕ) (ds : List Declaration) → length (func_spots n ds) ≡ func_count ds
funcs_counted n [] = refl
funcs_counted n ((variable v) ∷ ds) = funcs_counted (suc n) ds
funcs_counted n ((function h bs) ∷ ds) = omega (arith, funcs_counted (suc n) ds)

vars_counted : (n : ℕ) (ds : List Declaration) → length (var_spots n ds) ≡ var_count ds
vars_counted n [] = refl
vars_counted n ((variable v) ∷ ds) = omega (arith, vars_counted (suc n) ds)
vars_counted n ((function h bs) ∷ ds) = vars_counted (suc n) ds

pub named : (text : List ℕ) (p : PackageRecord) → (d : Declared text p) → HasNames text p
named text p d =
    let keeps = limits text p d in
    let places = package_places text p d in
    let size : length p.names ≡ length (names_of_all d.all) = ap length places.names in
    let are : All IsName (names_of_all d.all) = names_are d.all (all_named (kept (lines text)) (lines_of_all d.all) d.spelled.lines) in
    let funcs = ap length places.funcs in
    let vars = ap length places.vars in
    let func_names = length-map p.funcs (λ f. f.name) in
    let var_names = length-map p.vars (λ v. v.name) in
    let fits : names_size (names_of_all d.all) ≤ length text = text_names text d.all d.spelled in
    record {
      few_funcs = omega (arith, keeps.few_funcs, funcs_counted 0 d.all, funcs, func_names);
      few_vars = omega (arith, keeps.few_vars, vars_counted 0 d.all, vars, var_names);
      counted = omega (arith, size, spots_counted 0 d.all, funcs, vars, func_names, var_names);
      funcs_rise = subst (λ ns. AllPairs (λ a b. a < b) ns) (sym places.funcs) (funcs_rise 0 d.all);
      vars_rise = subst (λ ns. AllPairs (λ a b. a < b) ns) (sym places.vars) (vars_rise 0 d.all);
      funcs_within = subst (λ ns. All (λ n. n < length p.names) ns) (sym places.funcs) (subst (λ m. All (λ n. n < m) (func_spots 0 d.all)) (sym size) (within (func_spots 0 d.all) (length (names_of_all d.all)) (funcs_lie 0 d.all)));
      vars_within = subst (λ ns. All (λ n. n < length p.names) ns) (sym places.vars) (subst (λ m. All (λ n. n < m) (var_spots 0 d.all)) (sym size) (within (var_spots 0 d.all) (length (names_of_all d.all)) (vars_lie 0 d.all)));
      apart = subst (λ ns. All (λ n. Contains ns n → ⊥) (func_places p)) (sym places.vars) (subst (λ ns. All (λ n. Contains (var_spots 0 d.all) n → ⊥) ns) (sym places.funcs) (apart 0 d.all));
      named = subst (All IsName) (sym places.names) are;
      differ = subst Differ (sym places.names) keeps.differ;
      short = subst (λ ns. names_size ns ≤ length text) (sym places.names) fits;
      funcs_named = subst (All IsName) (sym places.called) (headings_are IsName d.all are);
      funcs_differ = subst Differ (sym places.called) (headings_differ d.all keeps.differ);
      funcs_short = subst (λ ns. names_size ns ≤ length text) (sym places.called) (omega (arith, headings_short d.all, fits));
    }

pub text_is_named : (text : List ℕ) (p : PackageRecord) → reading text ≡ Ok p → HasNames text p
text_is_named text p h = named text p (text_declares text p h)

-- Signatures.

-- a signature has at most 64 places
abbrev pub IsShort : FuncTree → Type 0
IsShort f = length f.sig.args + length f.sig.results ≤ 64

short_heading : (h : HeaderTree) (bs : List BlockTree) (n : ℕ) → KeepsFunction h bs → IsShort (declared_func n h bs)
short_heading h bs n k = omega (arith, k.places, length-map h.parameters (λ (p : ParameterTree). p.ty))

pub all_short : (n : ℕ) (ds : List Declaration) → All Keeps ds → All IsShort (funcs_from n ds)
all_short n [] h = All-nil IsShort
all_short n ((variable v) ∷ ds) h = all_short (suc n) ds (All-tail Keeps (variable v) ds h)
all_short n ((function g bs) ∷ ds) h =
    All-cons IsShort (declared_func n g bs) (funcs_from (suc n) ds) (short_heading g bs n (All-head Keeps (function g bs) ds h)) (all_short (suc n) ds (All-tail Keeps (function g bs) ds h))

pub declared_short : (text : List ℕ) (p : PackageRecord) → (d : Declared text p) → All IsShort (funcs_from 0 d.all)
declared_short text p d = all_short 0 d.all (limits text p d).each

abbrev pub IsShortFunc : FuncRecord → Type 0
IsShortFunc f = length f.sig.args + length f.sig.results ≤ 64

short_func : (names : List (List ℕ)) (f : FuncTree) (g : FuncRecord) → func_of names f ≡ Ok g → IsShort f → IsShortFunc g
short_func names f g h s = let same = (func_is names f g h).sig in subst (λ (x : SigRecord). length x.args + length x.results ≤ 64) (sym same) s

pub text_is_short : (text : List ℕ) (p : PackageRecord) → reading text ≡ Ok p → All IsShortFunc p.funcs
text_is_short text p h =
    let d = text_declares text p h in
    let made = package_made d.last.names d.last.funcs d.last.vars p d.found in
    zip_all (λ f g. func_of d.last.names f ≡ Ok g) IsShort IsShortFunc d.last.funcs p.funcs (short_func d.last.names) (each_is (func_of d.last.names) d.last.funcs p.funcs made.funcs) (subst (All IsShort) (sym d.funcs) (declared_short text p d))

-- Names in objects.

no_zero : is_name_byte 0 ≡ true → ⊥
unfolding is_name_byte
no_zero h = absurd (cc)

pub name_is_clean : (name : List ℕ) → IsName name → Contains name 0 → ⊥
name_is_clean name n c = no_zero (All-contains (λ c. is_name_byte c ≡ true) name 0 (All-from_recursion (λ c. is_name_byte c ≡ true) name n.bytes) c)

pub name_is_utf8 : (name : List ℕ) → IsName name → IsUtf8 name
name_is_utf8 name n = IsUtf8-from_is_utf8 name n.utf8
