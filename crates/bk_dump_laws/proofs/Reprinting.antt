-- The declarations that are printed of a package, beside those that it was read from.
use Rattle.std.proofs.Common.{◌≡◌, ℕ, suc, ◌+◌, ◌-◌, ◌*◌, ◌<◌, ◌≤◌, ◌^◌, List, [], ◌∷◌, ◌++◌, length, take, drop, map, replicate, ap, ◌∙◌, sym, refl, subst, arith, append_assoc, append-nil, Bool, true, false, cond, Some, None}
use Rattle.std.specs.Prelude.{Ok, All, not, nat_lt, slice_index_or}
use Rattle.std.specs.Char.{digit_value}
use Rattle.std.specs.List.{AllZip, AllByRecursion, position_or_len}
use Rattle.std.specs.Option.{unwrap_or}
use Rattle.std.proofs.lemmas.Bool.Decides.{nat_tests}
use Rattle.std.proofs.lemmas.List.{length-append, length-map, length-take, length-replicate, take_all}
use Rattle.std.proofs.lemmas.List.Elements.{All-nil, All-cons, All-append, All-take, All-replicate, All-from_recursion, recursion_from_All}
use Rattle.bk_func.specs.Records.{ValueRecord, BlockRecord, SigRecord, FuncRecord, VarRecord}
use Rattle.bk_dump.specs.declared.read.beside.Braces.{Braces}
use Rattle.bk_dump.specs.declared.read.beside.Braces.TheVariants as braces
use Rattle.bk_dump.specs.Trees.{MentionTree, ValueTree, EndTree, VarTree, HeaderTree, BlockTree, FuncTree}
use Rattle.bk_dump.specs.Drafts.{hex_value, pairs, padded}
use Rattle.bk_dump.specs.Parts.{Part}
use Rattle.bk_dump_laws.specs.Lines.{IsBraces, IsValueLine}
use Rattle.bk_dump.specs.Print.{symbol, hex_to, before}
use Rattle.bk_dump_laws.specs.Printed.{value_tree, label_tree, end_tree, block_tree, header_tree, var_tree, var_declaration, func_declaration, declarations_in}
use Rattle.bk_dump.specs.Values.{braces_of}
use Rattle.bk_dump.specs.Resolved.{Scope, scope_of, each, value_of, block_of, func_of}
use Rattle.bk_dump_laws.specs.Declarations.{Line, var_line, func_line, block_line, value_line, end_line, SpellsLine, Declaration, variable, function, lines_of_block, lines_of_blocks, lines_of_all, IsWhole, names_of_all, declared_func, declared_var, funcs_from, vars_from}
use Rattle.bk_dump_laws.proofs.WrittenVars.{AreBytes, pairs_again}
use Rattle.bk_dump_laws.proofs.Expecting.{whole_tail, whole_head}
use Rattle.bk_dump_laws.proofs.Naming.{IsShort, IsFunc, func_is, each_is, at_front}
use Rattle.bk_dump_laws.proofs.Following.{SameHeader, SameLine}
use Rattle.bk_dump_laws.proofs.References.{IsGiven, symbol_is, parameters_counted, arguments_fresh}
use Rattle.bk_dump_laws.proofs.Rereading.{Values, Blocks, AreGiven, AllGiven, value_is, block_is, func_again, both_more}

-- The bytes of variables.

digit_case : (b : Bool) (d : ℕ) → nat_lt d 16 ≡ b → cond b d 0 < 16
digit_case true d e = grind (arith, nat_tests)
digit_case false d e = omega arith

small_digit : (c : ℕ) → hex_value c < 16
small_digit c = digit_case (nat_lt (digit_value c) 16) (digit_value c) refl

pair_fits : (high low : ℕ) → high < 16 → low < 16 → high * 16 + low < 2 ^ 8
pair_fits high low h l = omega arith

pairs_are : (hex : List ℕ) → AreBytes (pairs hex)
unfolding pairs
pairs_are [] = tt
pairs_are (high ∷ []) = tt
pairs_are (high ∷ low ∷ more) = (pair_fits (hex_value high) (hex_value low) (small_digit high) (small_digit low), pairs_are more)

padded_are : (size : ℕ) (bytes : List ℕ) → AreBytes bytes → AreBytes (padded size bytes)
padded_are size bytes h =
    let P = λ (b : ℕ). b < 2 ^ 8 in
    recursion_from_All P (padded size bytes)
    (All-append P (take size bytes) (replicate (size - length bytes) 0) (All-take P size bytes (All-from_recursion P bytes h)) (All-replicate P (size - length bytes) 0 (omega arith)))

padded_long : (size : ℕ) (bytes : List ℕ) → length (padded size bytes) ≡ size
padded_long size bytes =
    omega (arith, length-append (take size bytes) (replicate (size - length bytes) 0), length-take size bytes, length-replicate {A = ℕ} (size - length bytes) 0)

padded_same : (size : ℕ) (bytes : List ℕ) → length bytes ≡ size → padded size bytes ≡ bytes
padded_same size bytes h =
    let none : size - length bytes ≡ 0 = omega (arith, h) in
    ap (λ n. take size bytes ++ replicate n 0) none ∙ append-nil (take size bytes) ∙ take_all size bytes (omega (arith, h))

bytes_again : (size : ℕ) (hex : List ℕ) → padded size (pairs (hex_to (padded size (pairs hex)) size)) ≡ padded size (pairs hex)
bytes_again size hex =
    let bytes = padded size (pairs hex) in
    let long = padded_long size (pairs hex) in
    ap (padded size) (pairs_again bytes size (padded_are size (pairs hex) (pairs_are hex)) (omega (arith, long)) ∙ take_all size bytes (omega (arith, long))) ∙ padded_same size bytes long

abbrev var_record : ℕ → ℕ → List ℕ → VarRecord
var_record name size bytes = record { name = name; size = size; bytes = bytes }

var_again : (names : List (List ℕ)) (n : ℕ) (v : VarTree) → declared_var n (var_tree names (declared_var n v)) ≡ declared_var n v
var_again names n v = ap (var_record n v.size) (bytes_again v.size v.hex)

-- The lines of a function.

zip_append : {A B : Type 0} (R : A → B → Type 0) (xs : List A) (ys : List B) (more : List A) (rest : List B) → AllZip R xs ys → AllZip R more rest → AllZip R (xs ++ more) (ys ++ rest)
zip_append R [] [] more rest z h = h
zip_append R [] (y ∷ ys) more rest z h = absurd z
zip_append R (x ∷ xs) [] more rest z h = absurd z
zip_append R (x ∷ xs) (y ∷ ys) more rest z h = (z.0, zip_append R xs ys more rest z.1 h)

values_same : (s : Scope) (names : List (List ℕ)) (vs : List ValueTree) (rs : List ValueRecord) → Values s vs rs → AllZip SameLine (map value_line vs) (map value_line (map (value_tree names) rs))
values_same s names [] [] z = tt
values_same s names [] (r ∷ rs) z = absurd z
values_same s names (v ∷ vs) [] z = absurd z
values_same s names (v ∷ vs) (r ∷ rs) z =
    let made = (value_is s v r z.0).made in
    ((value_tree names r, refl, sym (ap (λ (r : ValueRecord). r.id) made), sym (ap (λ (r : ValueRecord). r.args) made)), values_same s names vs rs z.1)

block_same : (s : Scope) (names : List (List ℕ)) (b : BlockTree) (r : BlockRecord) → block_of s b ≡ Ok r → AllZip SameLine (lines_of_block b) (lines_of_block (block_tree names r))
block_same s names b r h =
    let i = block_is s b r h in
    let values = values_same s names b.values r.values (each_is (value_of s) b.values r.values i.values) in (
      ap block_line (sym (ap label_tree i.made)),
      zip_append SameLine (map value_line b.values) (map value_line (map (value_tree names) r.values)) (end_line b.end ∷ []) (end_line (end_tree r) ∷ []) values (ap end_line (sym (ap end_tree i.made)), tt),
    )

blocks_same : (s : Scope) (names : List (List ℕ)) (bs : List BlockTree) (rs : List BlockRecord) → Blocks s bs rs → AllZip SameLine (lines_of_blocks bs) (lines_of_blocks (map (block_tree names) rs))
blocks_same s names [] [] z = tt
blocks_same s names [] (r ∷ rs) z = absurd z
blocks_same s names (b ∷ bs) [] z = absurd z
blocks_same s names (b ∷ bs) (r ∷ rs) z =
    zip_append SameLine (lines_of_block b) (lines_of_block (block_tree names r)) (lines_of_blocks bs) (lines_of_blocks (map (block_tree names) rs)) (block_same s names b r z.0) (blocks_same s names bs rs z.1)

zip_length : {A B : Type 0} (R : A → B → Type 0) (xs : List A) (ys : List B) → AllZip R xs ys → length xs ≡ length ys
zip_length R [] [] z = refl
zip_length R [] (y ∷ ys) z = absurd z
zip_length R (x ∷ xs) [] z = absurd z
zip_length R (x ∷ xs) (y ∷ ys) z = ap suc (zip_length R xs ys z.1)

-- The order of declarations.

unwrapped : (k l : ℕ) (b : Bool) → nat_lt k l ≡ b → k ≤ l → unwrap_or (cond b (Some k) None) l ≡ k
unwrapped k l true e h = refl
unwrapped k l false e h = let q : l ≤ k = grind (arith, nat_tests) in omega (arith, q, h)

longer_case : (b : Bool) (k l : ℕ) → k ≤ l → cond b (1 + k) 0 ≤ suc l
longer_case true k l h = omega (arith, h)
longer_case false k l h = omega arith

no_longer : (p : VarRecord → Bool) (vs : List VarRecord) → position_or_len p vs ≤ length vs
no_longer p [] = omega arith
no_longer p (v ∷ vs) = longer_case (not (p v)) (position_or_len p vs) (length vs) (no_longer p vs)

before_is : (n : ℕ) (vs : List VarRecord) → before n vs ≡ position_or_len (λ v. nat_lt n v.name) vs
before_is n vs =
    let k = position_or_len (λ (v : VarRecord). nat_lt n v.name) vs in
    unwrapped k (length vs) (nat_lt k (length vs)) refl (no_longer (λ v. nat_lt n v.name) vs)

passed : (n : ℕ) (v : VarRecord) (vs : List VarRecord) → nat_lt n v.name ≡ false → before n (v ∷ vs) ≡ suc (before n vs)
passed n v vs h =
    before_is n (v ∷ vs)
    ∙ ap (λ b. cond (not b) (1 + position_or_len (λ (v : VarRecord). nat_lt n v.name) vs) 0) h
    ∙ ap (λ k. 1 + k) (sym (before_is n vs))
    ∙ (let q : 1 + before n vs ≡ suc (before n vs) = omega arith in q)

stopped : (n : ℕ) (v : VarRecord) (vs : List VarRecord) → nat_lt n v.name ≡ true → before n (v ∷ vs) ≡ 0
stopped n v vs h = before_is n (v ∷ vs) ∙ ap (λ b. cond (not b) (1 + position_or_len (λ (v : VarRecord). nat_lt n v.name) vs) 0) h

none_before : (n m : ℕ) (ds : List Declaration) → n < m → before n (vars_from m ds) ≡ 0
none_before n m [] h = before_is n []
none_before n m ((variable v) ∷ ds) h = stopped n (declared_var m v) (vars_from (suc m) ds) (grind (arith, nat_tests))
none_before n m ((function g bs) ∷ ds) h = none_before n (suc m) ds (omega arith)

abbrev Found : List (List ℕ) → List FuncTree → List FuncRecord → Type 0
Found names fs gs = AllZip (λ f g. func_of names f ≡ Ok g) fs gs

first_behind : (names : List (List ℕ)) (m : ℕ) (ds : List Declaration) (g : FuncRecord) (gs : List FuncRecord) → Found names (funcs_from m ds) (g ∷ gs) → m ≤ g.name
first_behind names m [] g gs z = absurd z
first_behind names m ((variable v) ∷ ds) g gs z = omega (arith, first_behind names (suc m) ds g gs z)
first_behind names m ((function h bs) ∷ ds) g gs z = omega (arith, (func_is names (declared_func m h bs) g z.0).name)

var_first : (names : List (List ℕ)) (n : ℕ) (v : VarTree) (ds : List Declaration) (gs : List FuncRecord) (ws : List VarRecord) → Found names (funcs_from (suc n) ds) gs
    → declarations_in names gs (declared_var n v ∷ ws) ≡ var_declaration names (declared_var n v) ∷ declarations_in names gs ws
var_first names n v ds [] ws z = refl
var_first names n v ds (g ∷ gs) ws z =
    let w = declared_var n v in
    let behind = first_behind names (suc n) ds g gs z in
    let late : nat_lt g.name n ≡ false = grind (arith, nat_tests) in
    ap (λ k. map (var_declaration names) (take k (w ∷ ws)) ++ (func_declaration names g ∷ declarations_in names gs (drop k (w ∷ ws)))) (passed g.name w ws late)

func_first : (names : List (List ℕ)) (g : FuncRecord) (gs : List FuncRecord) (ws : List VarRecord) → before g.name ws ≡ 0 → declarations_in names (g ∷ gs) ws ≡ func_declaration names g ∷ declarations_in names gs ws
func_first names g gs ws h = ap (λ k. map (var_declaration names) (take k ws) ++ (func_declaration names g ∷ declarations_in names gs (drop k ws))) h

-- What was read has what printing asks.

given_in_braces : (b : Braces) (parts : List Part) (m : MentionTree) → IsBraces b parts m → IsGiven m.aux
given_in_braces braces.Nothing parts m x = subst (λ (m : MentionTree). IsGiven m.aux) (sym x.1) tt
given_in_braces braces.Type parts m x = subst (λ (m : MentionTree). IsGiven m.aux) (sym x.4) tt
given_in_braces braces.Name parts m x = subst (λ (m : MentionTree). IsGiven m.aux) (sym x.3) tt
given_in_braces braces.Callee parts m x = subst (λ (m : MentionTree). IsGiven m.aux) (sym x.2) tt
given_in_braces braces.Ignored parts m x = subst (λ (m : MentionTree). IsGiven m.aux) (sym x.0) tt

abbrev GivenLine : Line → Type 0
GivenLine (var_line v) = Unit {0}
GivenLine (func_line h) = Unit {0}
GivenLine (block_line b) = Unit {0}
GivenLine (value_line v) = IsGiven v.mention.aux
GivenLine (end_line e) = Unit {0}

line_given : (text : List ℕ) (l : Line) → SpellsLine text l → GivenLine l
line_given text (var_line v) s = tt
line_given text (func_line h) s = tt
line_given text (block_line b) s = tt
line_given text (value_line v) s =
    let x : IsValueLine s.spelled.0 v = s.spelled.2 in
    given_in_braces (braces_of v.op.family) x.aux v.mention x.mentions
line_given text (end_line e) s = tt

lines_given : (texts : List (List ℕ)) (ls : List Line) → AllZip SpellsLine texts ls → AllByRecursion GivenLine ls
lines_given [] [] z = tt
lines_given [] (l ∷ ls) z = absurd z
lines_given (text ∷ texts) [] z = absurd z
lines_given (text ∷ texts) (l ∷ ls) z = (line_given text l z.0, lines_given texts ls z.1)

values_given : (vs : List ValueTree) (e : EndTree) (rest : List Line) → AllByRecursion GivenLine ((map value_line vs ++ end_line e ∷ []) ++ rest) → AreGiven vs × AllByRecursion GivenLine rest
values_given [] e rest h = (tt, h.1)
values_given (v ∷ vs) e rest h = let more = values_given vs e rest h.1 in ((h.0, more.0), more.1)

blocks_given : (bs : List BlockTree) (rest : List Line) → AllByRecursion GivenLine (lines_of_blocks bs ++ rest) → AllGiven bs × AllByRecursion GivenLine rest
blocks_given [] rest h = (tt, h)
blocks_given (b ∷ bs) rest h =
    let regroup : ((map value_line b.values ++ end_line b.end ∷ []) ++ lines_of_blocks bs) ++ rest ≡ (map value_line b.values ++ end_line b.end ∷ []) ++ (lines_of_blocks bs ++ rest) = append_assoc (map value_line b.values ++ end_line b.end ∷ []) (lines_of_blocks bs) rest in
    let values = values_given b.values b.end (lines_of_blocks bs ++ rest) (subst (AllByRecursion GivenLine) regroup h.1) in
    let more = blocks_given bs rest values.1 in
    ((values.0, more.0), more.1)

abbrev GivenFunc : FuncTree → Type 0
GivenFunc f = AllGiven f.blocks

pub funcs_given : (n : ℕ) (ds : List Declaration) → AllByRecursion GivenLine (lines_of_all ds) → AllByRecursion GivenFunc (funcs_from n ds)
funcs_given n [] h = tt
funcs_given n ((variable v) ∷ ds) h = funcs_given (suc n) ds h.1
funcs_given n ((function g bs) ∷ ds) h = let more = blocks_given bs (lines_of_all ds) h.1 in (more.0, funcs_given (suc n) ds more.1)

pub all_given : (n : ℕ) (texts : List (List ℕ)) (ds : List Declaration) → AllZip SpellsLine texts (lines_of_all ds) → AllByRecursion GivenFunc (funcs_from n ds)
all_given n texts ds z = funcs_given n ds (lines_given texts (lines_of_all ds) z)

-- What is printed.

pub record Reprinted (names : List (List ℕ)) (n : ℕ) (ds : List Declaration) (gs : List FuncRecord) (es : List Declaration) : Type 0 where
  pub named : names_of_all es ≡ names_of_all ds
  pub vars : vars_from n es ≡ vars_from n ds
  pub funcs : each (func_of names) (funcs_from n es) ≡ Ok gs
  pub lines : AllZip SameLine (lines_of_all ds) (lines_of_all es)
  pub whole : All IsWhole es

-- a name at its place
called : (names pre post : List (List ℕ)) (name : List ℕ) (n : ℕ) → names ≡ pre ++ name ∷ post → n ≡ length pre → length names < 4294967294 → symbol names n ≡ name
called names pre post name n e l few =
    let within : n < length names = omega (arith, l, ap length e, length-append pre (name ∷ post)) in
    symbol_is names n (omega arith)
    ∙ ap (λ ns. slice_index_or ns n []) e
    ∙ ap (λ k. slice_index_or (pre ++ name ∷ post) k []) l
    ∙ at_front pre post name []

var_reprinted : (names : List (List ℕ)) (n : ℕ) (v : VarTree) (ds : List Declaration) (gs : List FuncRecord) (es : List Declaration) → symbol names n ≡ v.name → Reprinted names (suc n) ds gs es
    → Reprinted names n (variable v ∷ ds) gs (var_declaration names (declared_var n v) ∷ es)
var_reprinted names n v ds gs es c r = record {
  named = ap (λ m. m ∷ names_of_all es) c ∙ ap (λ ms. v.name ∷ ms) r.named;
  vars = ap (λ w. w ∷ vars_from (suc n) es) (var_again names n v) ∙ ap (λ ws. declared_var n v ∷ ws) r.vars;
  funcs = r.funcs;
  lines = ((var_tree names (declared_var n v), refl, c, refl), r.lines);
  whole = All-cons IsWhole (var_declaration names (declared_var n v)) es tt r.whole;
}

header_same : (names : List (List ℕ)) (n : ℕ) (h : HeaderTree) (bs : List BlockTree) (g : FuncRecord) → IsFunc names (declared_func n h bs) g → symbol names n ≡ h.name → length h.parameters ≤ 64 → SameHeader h (header_tree names g)
header_same names n h bs g i c small =
    let args : length g.sig.args ≡ length h.parameters = ap (λ (s : SigRecord). length s.args) i.sig ∙ length-map h.parameters (λ p. p.ty) in
    record {
      name = ap (symbol names) i.name ∙ c;
      parameters = parameters_counted 0 g.sig.args ∙ args;
      results = ap (λ (s : SigRecord). length s.results) i.sig;
      fresh = arguments_fresh g.sig.args (omega (arith, args, small));
    }

func_reprinted : (names : List (List ℕ)) (n : ℕ) (h : HeaderTree) (bs : List BlockTree) (ds : List Declaration) (g : FuncRecord) (gs : List FuncRecord) (es : List Declaration) → length names < 4294967294 → symbol names n ≡ h.name → 0 < length bs
    → IsShort (declared_func n h bs) → AllGiven bs → func_of names (declared_func n h bs) ≡ Ok g → Reprinted names (suc n) ds gs es → Reprinted names n (function h bs ∷ ds) (g ∷ gs) (func_declaration names g ∷ es)
unfolding each
func_reprinted names n h bs ds g gs es few c some short given found r =
    let i = func_is names (declared_func n h bs) g found in
    let s = scope_of names (declared_func n h bs) in
    let zip = each_is (block_of s) bs g.blocks i.blocks in
    let small : length h.parameters ≤ 64 = omega (arith, short, length-map h.parameters (λ p. p.ty)) in
    let many : length (map (block_tree names) g.blocks) ≡ length bs = length-map g.blocks (block_tree names) ∙ sym (zip_length (λ b r. block_of s b ≡ Ok r) bs g.blocks zip) in
    let again : func_of names (declared_func n (header_tree names g) (map (block_tree names) g.blocks)) ≡ Ok g =
    ap (λ k. func_of names (declared_func k (header_tree names g) (map (block_tree names) g.blocks))) (sym i.name) ∙ func_again names n h bs g few small given i in
    record {
      named = ap (λ m. m ∷ names_of_all es) (ap (symbol names) i.name ∙ c) ∙ ap (λ ms. h.name ∷ ms) r.named;
      vars = r.vars;
      funcs = both_more (func_of names (declared_func n (header_tree names g) (map (block_tree names) g.blocks))) (each (func_of names) (funcs_from (suc n) es)) g gs again r.funcs;
      lines = (
        (header_tree names g, refl, header_same names n h bs g i c small),
        zip_append SameLine (lines_of_blocks bs) (lines_of_blocks (map (block_tree names) g.blocks)) (lines_of_all ds) (lines_of_all es) (blocks_same s names bs g.blocks zip) r.lines,
      );
      whole = All-cons IsWhole (func_declaration names g) es (omega (arith, many, some)) r.whole;
    }

one_more : (pre : List (List ℕ)) (name : List ℕ) (n : ℕ) → n ≡ length pre → suc n ≡ length (pre ++ name ∷ [])
one_more pre name n e = omega (arith, e, length-append pre (name ∷ []))

pub reprints : (names pre : List (List ℕ)) (n : ℕ) (ds : List Declaration) (gs : List FuncRecord) → names ≡ pre ++ names_of_all ds → n ≡ length pre → length names < 4294967294 → All IsWhole ds → AllByRecursion IsShort (funcs_from n ds)
    → AllByRecursion GivenFunc (funcs_from n ds) → Found names (funcs_from n ds) gs → Reprinted names n ds gs (declarations_in names gs (vars_from n ds))
unfolding each
reprints names pre n [] [] e l few w x g z = record { named = refl; vars = refl; funcs = refl; lines = tt; whole = All-nil IsWhole }
reprints names pre n [] (f ∷ gs) e l few w x g z = absurd z
reprints names pre n ((variable v) ∷ ds) gs e l few w x g z =
    let ws = vars_from (suc n) ds in
    let c = called names pre (names_of_all ds) v.name n e l few in
    let more = reprints names (pre ++ v.name ∷ []) (suc n) ds gs (e ∙ sym (append_assoc pre (v.name ∷ []) (names_of_all ds))) (one_more pre v.name n l) few (whole_tail (variable v) ds w) x g z in
    subst (Reprinted names n (variable v ∷ ds) gs) (sym (var_first names n v ds gs ws z)) (var_reprinted names n v ds gs (declarations_in names gs ws) c more)
reprints names pre n ((function h bs) ∷ ds) [] e l few w x g z = absurd z
reprints names pre n ((function h bs) ∷ ds) (f ∷ gs) e l few w x g z =
    let ws = vars_from (suc n) ds in
    let c = called names pre (names_of_all ds) h.name n e l few in
    let more = reprints names (pre ++ h.name ∷ []) (suc n) ds gs (e ∙ sym (append_assoc pre (h.name ∷ []) (names_of_all ds))) (one_more pre h.name n l) few (whole_tail (function h bs) ds w) x.1 g.1 z.1 in
    let first : before f.name ws ≡ 0 = ap (λ k. before k ws) (func_is names (declared_func n h bs) f z.0).name ∙ none_before n (suc n) ds (omega arith) in
    subst (Reprinted names n (function h bs ∷ ds) (f ∷ gs)) (sym (func_first names f gs ws first))
    (func_reprinted names n h bs ds f gs (declarations_in names gs ws) few c (whole_head h bs ds w) x.0 g.0 z.0 more)
