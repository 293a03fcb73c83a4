-- What the reader leaves of the declarations that it goes through.
use Rattle.std.proofs.Common.{◌≡◌, ℕ, suc, ◌<◌, List, [], ◌∷◌, ◌++◌, length, map, ap, ◌∙◌, sym, refl, subst, arith, append_assoc, append-nil, true, cond, Option, Some, None}
use Rattle.std.specs.Prelude.{Ok, Err, All, nat_lt}
use Rattle.std.proofs.lemmas.Bool.Decides.{nat_tests}
use Rattle.std.proofs.lemmas.List.{length-append}
use Rattle.bk_dump.specs.declared.read.errors.Fault.TheVariants.{Syntax}
use Rattle.bk_dump.specs.declared.read.draft.Stage.{Stage}
use Rattle.bk_dump.specs.declared.read.draft.Stage.TheVariants.{Between, Function, Block}
use Rattle.bk_dump.specs.Trees.{ValueTree, LabelTree, EndTree, HeaderTree, OpenTree, BlockTree, FuncTree}
use Rattle.bk_dump.specs.Drafts.{State, entered, value_fault, with_value, with_next, add_value, with_end, end_fault, end_block, with_var, var_fault, declare_var, opened, header_fault, with_func, declare_func, closed, has_block, block_fault, with_block, open_block, finished_at, finished, at_start}
use Rattle.bk_dump_laws.specs.Declarations.{Line, var_line, func_line, block_line, value_line, end_line, Declaration, variable, function, lines_of_blocks, lines_of_all, IsWhole, names_of_all, value_ids, block_ids, declared_func, declared_var, funcs_from, vars_from}
use Rattle.bk_dump_laws.proofs.Declaring.{unless_ok, then_ok, with_open, func_opened}
use Rattle.bk_dump_laws.proofs.Expecting.{whole_tail, whole_head}
use Rattle.bk_dump_laws.proofs.Running.{line_at, go_on, run}
use Rattle.bk_dump_laws.proofs.Steps.{fresh_block, went_on}

-- Blocks.

-- an open function and an open block with more values
abbrev pub values_to : FuncTree → List ValueTree → FuncTree
values_to f [] = f
values_to f (v ∷ vs) = values_to (with_value f v) vs

abbrev pub more_values : OpenTree → List ValueTree → OpenTree
more_values b [] = b
more_values b (v ∷ vs) = more_values (with_next b v) vs

-- an open function with more blocks
abbrev pub block_to : FuncTree → BlockTree → FuncTree
block_to f b = with_end (values_to (with_block f b.label) b.values) (more_values (fresh_block b.label) b.values) b.end

abbrev pub blocks_to : FuncTree → List BlockTree → FuncTree
blocks_to f [] = f
blocks_to f (b ∷ bs) = blocks_to (block_to f b) bs

pub values_run : (s t : State) (f : FuncTree) (b : OpenTree) (vs : List ValueTree) (rest : List Line) → run (entered s (Block f b)) (map value_line vs ++ rest) ≡ Ok t → run (entered s (Block (values_to f vs) (more_values b vs))) rest ≡ Ok t
unfolding run
values_run s t f b [] rest x = x
values_run s t f b (v ∷ vs) rest x =
    let next = entered s (Block (with_value f v) (with_next b v)) in
    let on = went_on (add_value (entered s (Block f b)) f b v) (λ u. run u (map value_line vs ++ rest)) t x in
    values_run s t (with_value f v) (with_next b v) vs rest (subst (λ u. run u (map value_line vs ++ rest) ≡ Ok t) (sym (unless_ok (value_fault f v) next on.0 on.1)) on.2)

pub label_run : (s t : State) (f : FuncTree) (l : LabelTree) (rest : List Line) → run (entered s (Function f)) (block_line l ∷ rest) ≡ Ok t → run (entered s (Block (with_block f l) (fresh_block l))) rest ≡ Ok t
unfolding run
label_run s t f l rest x =
    let next = entered s (Block (with_block f l) (fresh_block l)) in
    let on = went_on (open_block (entered s (Function f)) f l) (λ u. run u rest) t x in
    subst (λ u. run u rest ≡ Ok t) (sym (unless_ok (block_fault f l) next on.0 on.1)) on.2

pub end_run : (s t : State) (f : FuncTree) (b : OpenTree) (e : EndTree) (rest : List Line) → run (entered s (Block f b)) (end_line e ∷ rest) ≡ Ok t → run (entered s (Function (with_end f b e))) rest ≡ Ok t
unfolding run
end_run s t f b e rest x =
    let next = entered s (Function (with_end f b e)) in
    let on = went_on (end_block (entered s (Block f b)) f b e) (λ u. run u rest) t x in
    subst (λ u. run u rest ≡ Ok t) (sym (unless_ok (end_fault e) next on.0 on.1)) on.2

pub regrouped : (b : BlockTree) (ls rest : List Line) → ((map value_line b.values ++ end_line b.end ∷ []) ++ ls) ++ rest ≡ map value_line b.values ++ (end_line b.end ∷ (ls ++ rest))
regrouped b ls rest = simp append_assoc

pub blocks_run : (s t : State) (f : FuncTree) (bs : List BlockTree) (rest : List Line) → run (entered s (Function f)) (lines_of_blocks bs ++ rest) ≡ Ok t → run (entered s (Function (blocks_to f bs))) rest ≡ Ok t
blocks_run s t f [] rest x = x
blocks_run s t f (b ∷ bs) rest x =
    let tail = ((map value_line b.values ++ end_line b.end ∷ []) ++ lines_of_blocks bs) ++ rest in
    let inside = label_run s t f b.label tail x in
    let values = subst (λ ls. run (entered s (Block (with_block f b.label) (fresh_block b.label))) ls ≡ Ok t) (regrouped b (lines_of_blocks bs) rest) inside in
    let end = values_run s t (with_block f b.label) (fresh_block b.label) b.values (end_line b.end ∷ (lines_of_blocks bs ++ rest)) values in
    blocks_run s t (block_to f b) bs rest (end_run s t (values_to (with_block f b.label) b.values) (more_values (fresh_block b.label) b.values) b.end (lines_of_blocks bs ++ rest) end)

-- What the function is then.

abbrev set_values : FuncTree → List ℕ → FuncTree
set_values f ns = record f { value_ids = ns }

abbrev pub set_all : FuncTree → List BlockTree → List ℕ → List ℕ → FuncTree
set_all f bs vs ids = record f { blocks = bs; value_ids = vs; block_ids = ids }

abbrev pub id_of : ValueTree → ℕ
id_of v = v.id

abbrev open_with : OpenTree → List ValueTree → OpenTree
open_with b vs = record b { values = vs }

values_are : (f : FuncTree) (vs : List ValueTree) → values_to f vs ≡ set_values f (f.value_ids ++ map id_of vs)
values_are f [] = ap (set_values f) (sym (append-nil f.value_ids))
values_are f (v ∷ vs) = values_are (with_value f v) vs ∙ ap (set_values f) (append_assoc f.value_ids (v.id ∷ []) (map id_of vs))

more_are : (b : OpenTree) (vs : List ValueTree) → more_values b vs ≡ open_with b (b.values ++ vs)
more_are b [] = ap (open_with b) (sym (append-nil b.values))
more_are b (v ∷ vs) = more_are (with_next b v) vs ∙ ap (open_with b) (append_assoc b.values (v ∷ []) vs)

pub block_is : (f : FuncTree) (b : BlockTree) → block_to f b ≡ set_all f (f.blocks ++ b ∷ []) (f.value_ids ++ map id_of b.values) (f.block_ids ++ b.label.id ∷ [])
block_is f b =
    ap (λ g. with_end g (more_values (fresh_block b.label) b.values) b.end) (values_are (with_block f b.label) b.values)
    ∙ ap (λ c. with_end (set_values (with_block f b.label) (f.value_ids ++ map id_of b.values)) c b.end) (more_are (fresh_block b.label) b.values)

blocks_are : (f : FuncTree) (bs : List BlockTree) → blocks_to f bs ≡ set_all f (f.blocks ++ bs) (f.value_ids ++ value_ids bs) (f.block_ids ++ block_ids bs)
blocks_are f [] =
    ap (λ bs. set_all f bs f.value_ids f.block_ids) (sym (append-nil f.blocks))
    ∙ ap (λ vs. set_all f (f.blocks ++ []) vs f.block_ids) (sym (append-nil f.value_ids))
    ∙ ap (λ ids. set_all f (f.blocks ++ []) (f.value_ids ++ []) ids) (sym (append-nil f.block_ids))
blocks_are f (b ∷ bs) =
    let next = set_all f (f.blocks ++ b ∷ []) (f.value_ids ++ map id_of b.values) (f.block_ids ++ b.label.id ∷ []) in
    ap (λ g. blocks_to g bs) (block_is f b)
    ∙ blocks_are next bs
    ∙ ap (λ cs. set_all f cs ((f.value_ids ++ map id_of b.values) ++ value_ids bs) ((f.block_ids ++ b.label.id ∷ []) ++ block_ids bs)) (append_assoc f.blocks (b ∷ []) bs)
    ∙ ap (λ vs. set_all f (f.blocks ++ (b ∷ bs)) vs ((f.block_ids ++ b.label.id ∷ []) ++ block_ids bs)) (append_assoc f.value_ids (map id_of b.values) (value_ids bs))
    ∙ ap (λ ids. set_all f (f.blocks ++ (b ∷ bs)) (f.value_ids ++ (map id_of b.values ++ value_ids bs)) ids) (append_assoc f.block_ids (b.label.id ∷ []) (block_ids bs))

pub func_to : (n : ℕ) (h : HeaderTree) (bs : List BlockTree) → blocks_to (declared_func n h []) bs ≡ declared_func n h bs
func_to n h bs = blocks_are (declared_func n h []) bs

-- Declarations.

pub close_run : (s : State) (f : FuncTree) (ds : List Declaration) → has_block f ≡ true → run (entered s (Function f)) (lines_of_all ds) ≡ run (closed s f) (lines_of_all ds)
unfolding run finished
close_run s f [] h = ap (λ b. cond b (Ok (closed s f)) (Err Syntax)) h
close_run s f ((variable v) ∷ ds) h = ap (λ b. go_on (cond b (declare_var (closed s f) v) (Err Syntax)) (λ u. run u (lines_of_all ds))) h
close_run s f ((function g bs) ∷ ds) h = ap (λ b. go_on (cond b (declare_func (closed s f) g) (Err Syntax)) (λ u. run u (lines_of_blocks bs ++ lines_of_all ds))) h

-- a state with one more name
abbrev pub named : State → HeaderTree → State
named s h = record s { names = s.names ++ h.name ∷ [] }

abbrev pub closed_with : State → HeaderTree → List BlockTree → State
closed_with s h bs = closed (named s h) (declared_func (length s.names) h bs)

abbrev pub leaves : State → List Declaration → State
leaves s [] = s
leaves s ((variable v) ∷ ds) = leaves (with_var s v) ds
leaves s ((function h bs) ∷ ds) = leaves (closed_with s h bs) ds

pub opened_run : (s t : State) (h : HeaderTree) (o : Option FuncTree) → opened (length s.names) h ≡ o → with_func s h o ≡ Ok t → entered (named s h) (Function (declared_func (length s.names) h [])) ≡ t
opened_run s t h None e x = absurd (cc)
opened_run s t h (Some f) e x = let same : with_open s h f ≡ t = cc in ap (with_open s h) (func_opened (length s.names) h f e) ∙ same

pub some_blocks : (n : ℕ) → 0 < n → nat_lt 0 n ≡ true
some_blocks n h = grind (arith, nat_tests)

ended_run : (s t : State) (y : Stage) → y ≡ Between → finished_at s y ≡ Ok t → t ≡ s
ended_run s t Between e x = cc
ended_run s t (Function f) e x = absurd (cc)
ended_run s t (Block f b) e x = absurd (cc)

all_run : (s t : State) (ds : List Declaration) → s.stage ≡ Between → All IsWhole ds → run s (lines_of_all ds) ≡ Ok t → t ≡ leaves s ds
unfolding run finished
all_run s t [] e w x = ended_run s t s.stage e x
all_run s t ((variable v) ∷ ds) e w x =
    let on = went_on (line_at s s.stage (var_line v)) (λ u. run u (lines_of_all ds)) t x in
    let here = subst (λ y. line_at s y (var_line v) ≡ Ok on.0) e on.1 in
    let same = unless_ok (var_fault s v) (with_var s v) on.0 here in
    all_run (with_var s v) t ds e (whole_tail (variable v) ds w) (subst (λ u. run u (lines_of_all ds) ≡ Ok t) (sym same) on.2)
all_run s t ((function h bs) ∷ ds) e w x =
    let rest = lines_of_blocks bs ++ lines_of_all ds in
    let n = length s.names in
    let on = went_on (line_at s s.stage (func_line h)) (λ u. run u rest) t x in
    let here = subst (λ y. line_at s y (func_line h) ≡ Ok on.0) e on.1 in
    let same = opened_run s on.0 h (opened n h) refl (then_ok (header_fault s h) (with_func s h (opened n h)) on.0 here) in
    let opening = subst (λ u. run u rest ≡ Ok t) (sym same) on.2 in
    let behind = subst (λ f. run (entered (named s h) (Function f)) (lines_of_all ds) ≡ Ok t) (func_to n h bs) (blocks_run (named s h) t (declared_func n h []) bs (lines_of_all ds) opening) in
    let whole = some_blocks (length bs) (whole_head h bs ds w) in
    all_run (closed_with s h bs) t ds refl (whole_tail (function h bs) ds w) (sym (close_run (named s h) (declared_func n h bs) ds whole) ∙ behind)

-- What is declared in the end.

pub one_further : (names : List (List ℕ)) (name : List ℕ) → length (names ++ name ∷ []) ≡ suc (length names)
one_further names name = omega (arith, length-append names (name ∷ []))

pub leaves_names : (s : State) (ds : List Declaration) → (leaves s ds).names ≡ s.names ++ names_of_all ds
leaves_names s [] = sym (append-nil s.names)
leaves_names s ((variable v) ∷ ds) = leaves_names (with_var s v) ds ∙ append_assoc s.names (v.name ∷ []) (names_of_all ds)
leaves_names s ((function h bs) ∷ ds) = leaves_names (closed_with s h bs) ds ∙ append_assoc s.names (h.name ∷ []) (names_of_all ds)

leaves_funcs : (s : State) (ds : List Declaration) → (leaves s ds).funcs ≡ s.funcs ++ funcs_from (length s.names) ds
leaves_funcs s [] = sym (append-nil s.funcs)
leaves_funcs s ((variable v) ∷ ds) = leaves_funcs (with_var s v) ds ∙ ap (λ n. s.funcs ++ funcs_from n ds) (one_further s.names v.name)
leaves_funcs s ((function h bs) ∷ ds) =
    leaves_funcs (closed_with s h bs) ds
    ∙ ap (λ n. (s.funcs ++ declared_func (length s.names) h bs ∷ []) ++ funcs_from n ds) (one_further s.names h.name)
    ∙ append_assoc s.funcs (declared_func (length s.names) h bs ∷ []) (funcs_from (suc (length s.names)) ds)

leaves_vars : (s : State) (ds : List Declaration) → (leaves s ds).vars ≡ s.vars ++ vars_from (length s.names) ds
leaves_vars s [] = sym (append-nil s.vars)
leaves_vars s ((variable v) ∷ ds) =
    leaves_vars (with_var s v) ds
    ∙ ap (λ n. (s.vars ++ declared_var (length s.names) v ∷ []) ++ vars_from n ds) (one_further s.names v.name)
    ∙ append_assoc s.vars (declared_var (length s.names) v ∷ []) (vars_from (suc (length s.names)) ds)
leaves_vars s ((function h bs) ∷ ds) = leaves_vars (closed_with s h bs) ds ∙ ap (λ n. s.vars ++ vars_from n ds) (one_further s.names h.name)

-- what the reader leaves of declarations
pub record Left (ds : List Declaration) (t : State) : Type 0 where
  pub names : t.names ≡ names_of_all ds
  pub funcs : t.funcs ≡ funcs_from 0 ds
  pub vars : t.vars ≡ vars_from 0 ds

pub run_leaves : (t : State) (ds : List Declaration) → All IsWhole ds → run at_start (lines_of_all ds) ≡ Ok t → Left ds t
run_leaves t ds w x =
    let same = all_run at_start t ds refl w x in
    record {
      names = ap (λ (u : State). u.names) same ∙ leaves_names at_start ds;
      funcs = ap (λ (u : State). u.funcs) same ∙ leaves_funcs at_start ds;
      vars = ap (λ (u : State). u.vars) same ∙ leaves_vars at_start ds;
    }
