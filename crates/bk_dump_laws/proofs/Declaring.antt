-- What the lines of a text declare is what the declarations that they spell declare.
use Rattle.std.proofs.Common.{◌≡◌, ℕ, suc, ◌+◌, ◌<◌, List, [], ◌∷◌, ◌++◌, length, map, ap, ◌∙◌, sym, refl, subst, arith, append_assoc, append-nil, Bool, true, false, cond, Option, Some, None}
use Rattle.std.specs.Prelude.{Result, Ok, Err, not, nat_lt, filter, All}
use Rattle.std.specs.List.{AllZip}
use Rattle.std.specs.Option.{option_map_or}
use Rattle.std.proofs.lemmas.Bool.Decides.{nat_tests}
use Rattle.std.proofs.lemmas.List.{map-append}
use Rattle.std.proofs.lemmas.List.Elements.{All-push, All-nil}
use Rattle.bk_func.specs.Records.{VarRecord, PackageRecord}
use Rattle.bk_dump.specs.Resolved.{package_of}
use Rattle.bk_dump.specs.declared.read.errors.Fault.{Fault}
use Rattle.bk_dump.specs.declared.read.errors.Fault.TheVariants.{Syntax}
use Rattle.bk_dump.specs.declared.read.draft.Stage.{Stage}
use Rattle.bk_dump.specs.declared.read.draft.Stage.TheVariants.{Between, Function, Block}
use Rattle.bk_dump.specs.Trees.{ValueTree, LabelTree, EndTree, VarTree, HeaderTree, OpenTree, BlockTree, FuncTree}
use Rattle.bk_dump.specs.Values.{value_at}
use Rattle.bk_dump.specs.Blocks.{block_at, end_at}
use Rattle.bk_dump.specs.Headers.{var_at, header_at}
use Rattle.bk_dump.specs.Drafts.{State, entered, unless, unless_then, value_fault, with_value, with_next, add_value, with_end, end_fault, end_block, read_inside, with_var, var_fault, declare_var, are_fresh, parameter_names, opened, header_fault, with_func, declare_func, declare, closed, has_block, block_fault, with_block, open_block, read_behind, at_stage, has_control, read_line, finished_at, finished, at_start}
use Rattle.bk_dump.specs.Texts.{Refusal, at, ◌>>=◌, is_skipped, lines, read_next, read_lines, references, reading}
use Rattle.bk_dump_laws.specs.Declarations.{Line, var_line, func_line, block_line, value_line, end_line, SpellsLine, Declaration, variable, function, lines_of_block, lines_of_blocks, lines_of_all, IsWhole, names_of_all, value_ids, block_ids, declared_func, declared_var, funcs_from, vars_from}
use Rattle.bk_dump_laws.proofs.LaidVars.{var_lays}
use Rattle.bk_dump_laws.proofs.LaidHeaders.{func_lays}
use Rattle.bk_dump_laws.proofs.LaidBlocks.{block_lays}
use Rattle.bk_dump_laws.proofs.LaidEnds.{end_lays}
use Rattle.bk_dump_laws.proofs.LaidValues.{value_lays}

-- Lists with one more at the end.

zip_more : {A B : Type 0} (R : A → B → Type 0) (xs : List A) (ys : List B) (x : A) (y : B) → AllZip R xs ys → R x y → AllZip R (xs ++ x ∷ []) (ys ++ y ∷ [])
zip_more R [] [] x y h r = (r, tt)
zip_more R [] (z ∷ ys) x y h r = absurd h
zip_more R (z ∷ xs) [] x y h r = absurd h
zip_more R (z ∷ xs) (w ∷ ys) x y h r = (h.0, zip_more R xs ys x y h.1 r)

blocks_more : (bs : List BlockTree) (b : BlockTree) → lines_of_blocks (bs ++ b ∷ []) ≡ lines_of_blocks bs ++ lines_of_block b
blocks_more [] b = append-nil (lines_of_block b)
blocks_more (c ∷ bs) b = ap (λ ls. lines_of_block c ++ ls) (blocks_more bs b) ∙ sym (append_assoc (lines_of_block c) (lines_of_blocks bs) (lines_of_block b))

vars_lines : (ds : List Declaration) (v : VarTree) → lines_of_all (ds ++ variable v ∷ []) ≡ lines_of_all ds ++ var_line v ∷ []
vars_lines [] v = refl
vars_lines ((variable w) ∷ ds) v = ap (λ ls. var_line w ∷ ls) (vars_lines ds v)
vars_lines ((function h bs) ∷ ds) v =
    ap (λ ls. func_line h ∷ (lines_of_blocks bs ++ ls)) (vars_lines ds v) ∙ ap (λ ls. func_line h ∷ ls) (sym (append_assoc (lines_of_blocks bs) (lines_of_all ds) (var_line v ∷ [])))

funcs_lines : (ds : List Declaration) (h : HeaderTree) (bs : List BlockTree) → lines_of_all (ds ++ function h bs ∷ []) ≡ lines_of_all ds ++ (func_line h ∷ lines_of_blocks bs)
funcs_lines [] h bs = ap (λ ls. func_line h ∷ ls) (append-nil (lines_of_blocks bs))
funcs_lines ((variable w) ∷ ds) h bs = ap (λ ls. var_line w ∷ ls) (funcs_lines ds h bs)
funcs_lines ((function g cs) ∷ ds) h bs =
    ap (λ ls. func_line g ∷ (lines_of_blocks cs ++ ls)) (funcs_lines ds h bs) ∙ ap (λ ls. func_line g ∷ ls) (sym (append_assoc (lines_of_blocks cs) (lines_of_all ds) (func_line h ∷ lines_of_blocks bs)))

-- the name of one declaration
abbrev name_of : Declaration → List ℕ
name_of (variable v) = v.name
name_of (function h bs) = h.name

names_more : (ds : List Declaration) (d : Declaration) → names_of_all (ds ++ d ∷ []) ≡ names_of_all ds ++ name_of d ∷ []
names_more [] (variable v) = refl
names_more [] (function h bs) = refl
names_more ((variable w) ∷ ds) d = ap (λ ns. w.name ∷ ns) (names_more ds d)
names_more ((function h bs) ∷ ds) d = ap (λ ns. h.name ∷ ns) (names_more ds d)

-- what one declaration declares
abbrev funcs_one : ℕ → Declaration → List FuncTree
funcs_one n (variable v) = []
funcs_one n (function h bs) = declared_func n h bs ∷ []

abbrev vars_one : ℕ → Declaration → List VarRecord
vars_one n (variable v) = declared_var n v ∷ []
vars_one n (function h bs) = []

further : (n m : ℕ) → suc n + m ≡ n + suc m
further n m = omega arith

funcs_more : (n : ℕ) (ds : List Declaration) (d : Declaration) → funcs_from n (ds ++ d ∷ []) ≡ funcs_from n ds ++ funcs_one (n + length (names_of_all ds)) d
funcs_more n [] (variable v) = refl
funcs_more n [] (function h bs) = ap (λ k. declared_func k h bs ∷ []) (let q : n ≡ n + 0 = omega arith in q)
funcs_more n ((variable w) ∷ ds) d = funcs_more (suc n) ds d ∙ ap (λ k. funcs_from (suc n) ds ++ funcs_one k d) (further n (length (names_of_all ds)))
funcs_more n ((function h bs) ∷ ds) d =
    ap (λ fs. declared_func n h bs ∷ fs) (funcs_more (suc n) ds d) ∙ ap (λ k. declared_func n h bs ∷ (funcs_from (suc n) ds ++ funcs_one k d)) (further n (length (names_of_all ds)))

vars_more : (n : ℕ) (ds : List Declaration) (d : Declaration) → vars_from n (ds ++ d ∷ []) ≡ vars_from n ds ++ vars_one (n + length (names_of_all ds)) d
vars_more n [] (variable v) = ap (λ k. declared_var k v ∷ []) (let q : n ≡ n + 0 = omega arith in q)
vars_more n [] (function h bs) = refl
vars_more n ((variable w) ∷ ds) d =
    ap (λ vs. declared_var n w ∷ vs) (vars_more (suc n) ds d) ∙ ap (λ k. declared_var n w ∷ (vars_from (suc n) ds ++ vars_one k d)) (further n (length (names_of_all ds)))
vars_more n ((function h bs) ∷ ds) d = vars_more (suc n) ds d ∙ ap (λ k. vars_from (suc n) ds ++ vars_one k d) (further n (length (names_of_all ds)))

-- How far a text was read.

abbrev Spelled : List (List ℕ) → List Line → Type 0
Spelled texts ls = AllZip SpellsLine texts ls

-- between declarations
pub record Rests (s : State) (texts : List (List ℕ)) (ds : List Declaration) : Type 0 where
  pub whole : All IsWhole ds
  pub spelled : Spelled texts (lines_of_all ds)
  pub names : s.names ≡ names_of_all ds
  pub funcs : s.funcs ≡ funcs_from 0 ds
  pub vars : s.vars ≡ vars_from 0 ds

-- in a function, behind its first line or a block
pub record Runs (s : State) (f : FuncTree) (texts : List (List ℕ)) (ds : List Declaration) (h : HeaderTree) (bs : List BlockTree) : Type 0 where
  pub whole : All IsWhole ds
  pub spelled : Spelled texts (lines_of_all ds ++ (func_line h ∷ lines_of_blocks bs))
  pub names : s.names ≡ names_of_all ds ++ h.name ∷ []
  pub funcs : s.funcs ≡ funcs_from 0 ds
  pub vars : s.vars ≡ vars_from 0 ds
  pub func : f ≡ declared_func (length (names_of_all ds)) h bs

-- the function with a block that is open
abbrev open_func : ℕ → HeaderTree → List BlockTree → OpenTree → FuncTree
open_func n h bs b = record (declared_func n h bs) { value_ids = value_ids bs ++ map (λ v. v.id) b.values; block_ids = block_ids bs ++ b.label.id ∷ [] }

-- in a block
pub record Dwells (s : State) (f : FuncTree) (b : OpenTree) (texts : List (List ℕ)) (ds : List Declaration) (h : HeaderTree) (bs : List BlockTree) : Type 0 where
  pub whole : All IsWhole ds
  pub spelled : Spelled texts (lines_of_all ds ++ (func_line h ∷ (lines_of_blocks bs ++ (block_line b.label ∷ map value_line b.values))))
  pub names : s.names ≡ names_of_all ds ++ h.name ∷ []
  pub funcs : s.funcs ≡ funcs_from 0 ds
  pub vars : s.vars ≡ vars_from 0 ds
  pub func : f ≡ open_func (length (names_of_all ds)) h bs b

abbrev StandsAt : State → Stage → List (List ℕ) → Type 0
StandsAt s Between texts = (ds : List Declaration) × Rests s texts ds
StandsAt s (Function f) texts = (ds : List Declaration) × (h : HeaderTree) × (bs : List BlockTree) × Runs s f texts ds h bs
StandsAt s (Block f b) texts = (ds : List Declaration) × (h : HeaderTree) × (bs : List BlockTree) × Dwells s f b texts ds h bs

-- Steps that went through.

pub some_is : {A : Type 0} (x y : A) → Some x ≡ Some y → x ≡ y
some_is x y h = cc

pub unless_ok : {A : Type 0} (o : Option Fault) (x y : A) → unless o x ≡ Ok y → x ≡ y
unless_ok None x y h = cc
unless_ok (Some f) x y h = absurd (cc)

pub then_ok : {A : Type 0} (o : Option Fault) (r : Result A Fault) (y : A) → unless_then o r ≡ Ok y → r ≡ Ok y
then_ok None r y h = h
then_ok (Some f) r y h = absurd (cc)

opened_is : (b : Bool) (f g : FuncTree) → cond b (Some f) None ≡ Some g → f ≡ g
opened_is true f g h = cc
opened_is false f g h = absurd (cc)

pub func_opened : (n : ℕ) (h : HeaderTree) (f : FuncTree) → opened n h ≡ Some f → declared_func n h [] ≡ f
unfolding opened
func_opened n h f e = opened_is (are_fresh [] (parameter_names h)) (declared_func n h []) f e

-- a declaration

with_name : (s : State) (ds : List Declaration) (d : Declaration) (texts : List (List ℕ)) → Rests s texts ds → s.names ++ name_of d ∷ [] ≡ names_of_all (ds ++ d ∷ [])
with_name s ds d texts r = ap (λ ns. ns ++ name_of d ∷ []) r.names ∙ sym (names_more ds d)

from_zero : (n : ℕ) → n ≡ 0 + n
from_zero n = omega arith

var_rests : (s : State) (texts : List (List ℕ)) (ds : List Declaration) (line : List ℕ) (v : VarTree) → Rests s texts ds → SpellsLine line (var_line v) → Rests (with_var s v) (texts ++ line ∷ []) (ds ++ variable v ∷ [])
var_rests s texts ds line v r l = record {
  whole = All-push IsWhole ds (variable v) r.whole tt;
  spelled = subst (Spelled (texts ++ line ∷ [])) (sym (vars_lines ds v)) (zip_more SpellsLine texts (lines_of_all ds) line (var_line v) r.spelled l);
  names = with_name s ds (variable v) texts r;
  funcs = r.funcs ∙ sym (append-nil (funcs_from 0 ds)) ∙ sym (funcs_more 0 ds (variable v));
  vars =
      ap (λ vs. vs ++ declared_var (length s.names) v ∷ []) r.vars
      ∙ ap (λ n. vars_from 0 ds ++ declared_var n v ∷ []) (ap length r.names ∙ from_zero (length (names_of_all ds)))
      ∙ sym (vars_more 0 ds (variable v));
}

abbrev pub with_open : State → HeaderTree → FuncTree → State
with_open s h f = record s { names = s.names ++ h.name ∷ []; stage = Function f }

func_runs : (s : State) (texts : List (List ℕ)) (ds : List Declaration) (line : List ℕ) (h : HeaderTree) (f : FuncTree) → Rests s texts ds → SpellsLine line (func_line h) → declared_func (length s.names) h [] ≡ f
    → Runs (with_open s h f) f (texts ++ line ∷ []) ds h []
func_runs s texts ds line h f r l e = record {
  whole = r.whole;
  spelled = zip_more SpellsLine texts (lines_of_all ds) line (func_line h) r.spelled l;
  names = ap (λ ns. ns ++ h.name ∷ []) r.names;
  funcs = r.funcs;
  vars = r.vars;
  func = sym e ∙ ap (λ n. declared_func n h []) (ap length r.names);
}

func_step : (s t : State) (texts : List (List ℕ)) (ds : List Declaration) (line : List ℕ) (h : HeaderTree) (o : Option FuncTree) → opened (length s.names) h ≡ o → Rests s texts ds → SpellsLine line (func_line h) → with_func s h o ≡ Ok t → StandsAt t t.stage (texts ++ line ∷ [])
func_step s t texts ds line h None e r l g = absurd (cc)
func_step s t texts ds line h (Some f) e r l g =
    let same : with_open s h f ≡ t = cc in
    subst (λ u. StandsAt u u.stage (texts ++ line ∷ [])) same (ds, h, [], func_runs s texts ds line h f r l (func_opened (length s.names) h f e))

header_step : (s t : State) (texts : List (List ℕ)) (ds : List Declaration) (line : List ℕ) (o : Option HeaderTree) → header_at line ≡ o → Rests s texts ds → has_control line ≡ false → option_map_or (declare_func s) o (Err Syntax) ≡ Ok t → StandsAt t t.stage (texts ++ line ∷ [])
header_step s t texts ds line None e r c g = absurd (cc)
header_step s t texts ds line (Some h) e r c g =
    func_step s t texts ds line h (opened (length s.names) h) refl r (record { clean = c; spelled = func_lays line h e }) (then_ok (header_fault s h) (with_func s h (opened (length s.names) h)) t g)

declare_step : (s t : State) (texts : List (List ℕ)) (ds : List Declaration) (line : List ℕ) (o : Option VarTree) → var_at line ≡ o → s.stage ≡ Between → Rests s texts ds → has_control line ≡ false
    → option_map_or (declare_var s) o (option_map_or (declare_func s) (header_at line) (Err Syntax)) ≡ Ok t → StandsAt t t.stage (texts ++ line ∷ [])
declare_step s t texts ds line None e b r c g = header_step s t texts ds line (header_at line) refl r c g
declare_step s t texts ds line (Some v) e b r c g =
    let same = unless_ok (var_fault s v) (with_var s v) t g in
    let here : StandsAt (with_var s v) Between (texts ++ line ∷ []) = (ds ++ variable v ∷ [], var_rests s texts ds line v r (record { clean = c; spelled = var_lays line v e })) in
    subst (λ u. StandsAt u u.stage (texts ++ line ∷ [])) same (subst (λ x. StandsAt (with_var s v) x (texts ++ line ∷ [])) (sym b) here)

declared : (s t : State) (texts : List (List ℕ)) (ds : List Declaration) (line : List ℕ) → s.stage ≡ Between → Rests s texts ds → has_control line ≡ false → declare s line ≡ Ok t → StandsAt t t.stage (texts ++ line ∷ [])
unfolding declare
declared s t texts ds line b r c g = declare_step s t texts ds line (var_at line) refl b r c g

-- the end of a function

at_least : (n : ℕ) → nat_lt 0 n ≡ true → 0 < n
at_least n h = grind (arith, nat_tests)

closes : (s : State) (f : FuncTree) (texts : List (List ℕ)) (ds : List Declaration) (h : HeaderTree) (bs : List BlockTree) → Runs s f texts ds h bs → has_block f ≡ true → Rests (closed s f) texts (ds ++ function h bs ∷ [])
closes s f texts ds h bs r e =
    let some : 0 < length bs = at_least (length bs) (ap (λ (g : FuncTree). has_block g) (sym r.func) ∙ e) in
    record {
      whole = All-push IsWhole ds (function h bs) r.whole some;
      spelled = subst (Spelled texts) (sym (funcs_lines ds h bs)) r.spelled;
      names = r.names ∙ sym (names_more ds (function h bs));
      funcs =
          ap (λ fs. fs ++ f ∷ []) r.funcs
          ∙ ap (λ g. funcs_from 0 ds ++ g ∷ []) r.func
          ∙ ap (λ n. funcs_from 0 ds ++ declared_func n h bs ∷ []) (from_zero (length (names_of_all ds)))
          ∙ sym (funcs_more 0 ds (function h bs));
      vars = r.vars ∙ sym (append-nil (vars_from 0 ds)) ∙ sym (vars_more 0 ds (function h bs));
    }

-- the first line of a block

abbrev fresh_block : LabelTree → OpenTree
fresh_block b = record { label = b; values = [] }

abbrev with_ids : FuncTree → List ℕ → FuncTree
with_ids f ids = record f { value_ids = ids }

opens : (s : State) (f : FuncTree) (texts : List (List ℕ)) (ds : List Declaration) (h : HeaderTree) (bs : List BlockTree) (line : List ℕ) (b : LabelTree) → Runs s f texts ds h bs → SpellsLine line (block_line b)
    → Dwells (entered s (Block (with_block f b) (fresh_block b))) (with_block f b) (fresh_block b) (texts ++ line ∷ []) ds h bs
opens s f texts ds h bs line b r l = record {
  whole = r.whole;
  spelled =
      subst (Spelled (texts ++ line ∷ [])) (append_assoc (lines_of_all ds) (func_line h ∷ lines_of_blocks bs) (block_line b ∷ []))
      (zip_more SpellsLine texts (lines_of_all ds ++ (func_line h ∷ lines_of_blocks bs)) line (block_line b) r.spelled l);
  names = r.names;
  funcs = r.funcs;
  vars = r.vars;
  func = ap (λ g. with_block g b) r.func ∙ ap (with_ids (with_block (declared_func (length (names_of_all ds)) h bs) b)) (sym (append-nil (value_ids bs)));
}

label_step : (s t : State) (f : FuncTree) (texts : List (List ℕ)) (ds : List Declaration) (h : HeaderTree) (bs : List BlockTree) (line : List ℕ) (o : Option LabelTree) (rest : Result State Fault) → block_at line ≡ o → Runs s f texts ds h bs → has_control line ≡ false
    → (rest ≡ Ok t → StandsAt t t.stage (texts ++ line ∷ [])) → option_map_or (open_block s f) o rest ≡ Ok t → StandsAt t t.stage (texts ++ line ∷ [])
label_step s t f texts ds h bs line None rest e r c k g = k g
label_step s t f texts ds h bs line (Some b) rest e r c k g =
    let same = unless_ok (block_fault f b) (entered s (Block (with_block f b) (fresh_block b))) t g in
    subst (λ u. StandsAt u u.stage (texts ++ line ∷ [])) same (ds, h, bs, opens s f texts ds h bs line b r (record { clean = c; spelled = block_lays line b e }))

closed_step : (s t : State) (f : FuncTree) (texts : List (List ℕ)) (ds : List Declaration) (h : HeaderTree) (bs : List BlockTree) (line : List ℕ) (b : Bool) → has_block f ≡ b → Runs s f texts ds h bs → has_control line ≡ false
    → cond b (declare (closed s f) line) (Err Syntax) ≡ Ok t → StandsAt t t.stage (texts ++ line ∷ [])
closed_step s t f texts ds h bs line false e r c g = absurd (cc)
closed_step s t f texts ds h bs line true e r c g = declared (closed s f) t texts (ds ++ function h bs ∷ []) line refl (closes s f texts ds h bs r e) c g

behind_step : (s t : State) (f : FuncTree) (texts : List (List ℕ)) (ds : List Declaration) (h : HeaderTree) (bs : List BlockTree) (line : List ℕ) → Runs s f texts ds h bs → has_control line ≡ false → read_behind s f line ≡ Ok t → StandsAt t t.stage (texts ++ line ∷ [])
unfolding read_behind
behind_step s t f texts ds h bs line r c g =
    label_step s t f texts ds h bs line (block_at line) (cond (has_block f) (declare (closed s f) line) (Err Syntax)) refl r c (λ k. closed_step s t f texts ds h bs line (has_block f) refl r c k) g

-- in a block

ids_more : (bs : List BlockTree) (b : BlockTree) → value_ids (bs ++ b ∷ []) ≡ value_ids bs ++ map (λ v. v.id) b.values
ids_more [] b = append-nil (map (λ v. v.id) b.values)
ids_more (c ∷ bs) b = ap (λ ns. map (λ v. v.id) c.values ++ ns) (ids_more bs b) ∙ sym (append_assoc (map (λ v. v.id) c.values) (value_ids bs) (map (λ v. v.id) b.values))

abbrev before_values : List Declaration → HeaderTree → List BlockTree → OpenTree → List Line → List Line
before_values ds h bs b ls = lines_of_all ds ++ (func_line h ∷ (lines_of_blocks bs ++ (block_line b.label ∷ ls)))

one_line : (ds : List Declaration) (h : HeaderTree) (bs : List BlockTree) (b : OpenTree) (ls : List Line) (l : Line) → before_values ds h bs b ls ++ l ∷ [] ≡ before_values ds h bs b (ls ++ l ∷ [])
one_line ds h bs b ls l = simp append_assoc

values_more : (b : OpenTree) (v : ValueTree) → map value_line b.values ++ value_line v ∷ [] ≡ map value_line (b.values ++ v ∷ [])
values_more b v = sym (map-append value_line b.values (v ∷ []))

more_ids : (ns : List ℕ) (b : OpenTree) (v : ValueTree) → (ns ++ map (λ v. v.id) b.values) ++ v.id ∷ [] ≡ ns ++ map (λ v. v.id) (b.values ++ v ∷ [])
more_ids ns b v = append_assoc ns (map (λ v. v.id) b.values) (v.id ∷ []) ∙ ap (λ ms. ns ++ ms) (sym (map-append (λ (v : ValueTree). v.id) b.values (v ∷ [])))

dwells : (s : State) (f : FuncTree) (b : OpenTree) (texts : List (List ℕ)) (ds : List Declaration) (h : HeaderTree) (bs : List BlockTree) (line : List ℕ) (v : ValueTree) → Dwells s f b texts ds h bs → SpellsLine line (value_line v)
    → Dwells (entered s (Block (with_value f v) (with_next b v))) (with_value f v) (with_next b v) (texts ++ line ∷ []) ds h bs
dwells s f b texts ds h bs line v r l = record {
  whole = r.whole;
  spelled =
      subst (Spelled (texts ++ line ∷ [])) (one_line ds h bs b (map value_line b.values) (value_line v) ∙ ap (before_values ds h bs b) (values_more b v))
      (zip_more SpellsLine texts (before_values ds h bs b (map value_line b.values)) line (value_line v) r.spelled l);
  names = r.names;
  funcs = r.funcs;
  vars = r.vars;
  func = ap (λ g. with_value g v) r.func ∙ ap (with_ids (open_func (length (names_of_all ds)) h bs b)) (more_ids (value_ids bs) b v);
}

abbrev ended_block : OpenTree → EndTree → BlockTree
ended_block b e = record { label = b.label; values = b.values; end = e }

abbrev func_with : ℕ → HeaderTree → List BlockTree → List ℕ → List ℕ → FuncTree
func_with n h bs vs ids = record (declared_func n h bs) { value_ids = vs; block_ids = ids }

ends : (s : State) (f : FuncTree) (b : OpenTree) (texts : List (List ℕ)) (ds : List Declaration) (h : HeaderTree) (bs : List BlockTree) (line : List ℕ) (e : EndTree) → Dwells s f b texts ds h bs → SpellsLine line (end_line e)
    → Runs (entered s (Function (with_end f b e))) (with_end f b e) (texts ++ line ∷ []) ds h (bs ++ ended_block b e ∷ [])
ends s f b texts ds h bs line e r l =
    let n = length (names_of_all ds) in
    let all = bs ++ ended_block b e ∷ [] in
    record {
      whole = r.whole;
      spelled =
          subst (Spelled (texts ++ line ∷ [])) (one_line ds h bs b (map value_line b.values) (end_line e) ∙ ap (λ ls. lines_of_all ds ++ (func_line h ∷ ls)) (sym (blocks_more bs (ended_block b e))))
          (zip_more SpellsLine texts (before_values ds h bs b (map value_line b.values)) line (end_line e) r.spelled l);
      names = r.names;
      funcs = r.funcs;
      vars = r.vars;
      func =
          ap (λ g. with_end g b e) r.func
          ∙ ap (λ vs. func_with n h all vs (block_ids bs ++ b.label.id ∷ [])) (sym (ids_more bs (ended_block b e)))
          ∙ ap (λ ids. func_with n h all (value_ids all) ids) (sym (map-append (λ (c : BlockTree). c.label.id) bs (ended_block b e ∷ [])));
    }

end_step : (s t : State) (f : FuncTree) (b : OpenTree) (texts : List (List ℕ)) (ds : List Declaration) (h : HeaderTree) (bs : List BlockTree) (line : List ℕ) (o : Option EndTree) → end_at line ≡ o → Dwells s f b texts ds h bs → has_control line ≡ false
    → option_map_or (end_block s f b) o (Err Syntax) ≡ Ok t → StandsAt t t.stage (texts ++ line ∷ [])
end_step s t f b texts ds h bs line None e r c g = absurd (cc)
end_step s t f b texts ds h bs line (Some x) e r c g =
    let same = unless_ok (end_fault x) (entered s (Function (with_end f b x))) t g in
    subst (λ u. StandsAt u u.stage (texts ++ line ∷ [])) same (ds, h, bs ++ ended_block b x ∷ [], ends s f b texts ds h bs line x r (record { clean = c; spelled = end_lays line x e }))

value_step : (s t : State) (f : FuncTree) (b : OpenTree) (texts : List (List ℕ)) (ds : List Declaration) (h : HeaderTree) (bs : List BlockTree) (line : List ℕ) (o : Option ValueTree) → value_at line ≡ o → Dwells s f b texts ds h bs → has_control line ≡ false
    → option_map_or (add_value s f b) o (option_map_or (end_block s f b) (end_at line) (Err Syntax)) ≡ Ok t → StandsAt t t.stage (texts ++ line ∷ [])
value_step s t f b texts ds h bs line None e r c g = end_step s t f b texts ds h bs line (end_at line) refl r c g
value_step s t f b texts ds h bs line (Some v) e r c g =
    let same = unless_ok (value_fault f v) (entered s (Block (with_value f v) (with_next b v))) t g in
    subst (λ u. StandsAt u u.stage (texts ++ line ∷ [])) same (ds, h, bs, dwells s f b texts ds h bs line v r (record { clean = c; spelled = value_lays line v e }))

inside_step : (s t : State) (f : FuncTree) (b : OpenTree) (texts : List (List ℕ)) (ds : List Declaration) (h : HeaderTree) (bs : List BlockTree) (line : List ℕ) → Dwells s f b texts ds h bs → has_control line ≡ false → read_inside s f b line ≡ Ok t → StandsAt t t.stage (texts ++ line ∷ [])
unfolding read_inside
inside_step s t f b texts ds h bs line r c g = value_step s t f b texts ds h bs line (value_at line) refl r c g

-- A line.

stage_step : (s t : State) (x : Stage) (texts : List (List ℕ)) (line : List ℕ) → s.stage ≡ x → StandsAt s x texts → has_control line ≡ false → at_stage s x line ≡ Ok t → StandsAt t t.stage (texts ++ line ∷ [])
stage_step s t Between texts line e (ds, r) c g = declared s t texts ds line e r c g
stage_step s t (Function f) texts line e (ds, h, bs, r) c g = behind_step s t f texts ds h bs line r c g
stage_step s t (Block f b) texts line e (ds, h, bs, r) c g = inside_step s t f b texts ds h bs line r c g

clean_step : (s t : State) (texts : List (List ℕ)) (line : List ℕ) (b : Bool) → has_control line ≡ b → StandsAt s s.stage texts → cond b (Err Syntax) (at_stage s s.stage line) ≡ Ok t → StandsAt t t.stage (texts ++ line ∷ [])
clean_step s t texts line true e k g = absurd (cc)
clean_step s t texts line false e k g = stage_step s t s.stage texts line refl k e g

line_step : (s t : State) (texts : List (List ℕ)) (line : List ℕ) → StandsAt s s.stage texts → read_line s line ≡ Ok t → StandsAt t t.stage (texts ++ line ∷ [])
unfolding read_line
line_step s t texts line k g = clean_step s t texts line (has_control line) refl k g

-- The end of the text.

whole_step : (s t : State) (f : FuncTree) (texts : List (List ℕ)) (ds : List Declaration) (h : HeaderTree) (bs : List BlockTree) (b : Bool) → has_block f ≡ b → Runs s f texts ds h bs → cond b (Ok (closed s f)) (Err Syntax) ≡ Ok t → (es : List Declaration) × Rests t texts es
whole_step s t f texts ds h bs false e r g = absurd (cc)
whole_step s t f texts ds h bs true e r g = let same : closed s f ≡ t = cc in (ds ++ function h bs ∷ [], subst (λ u. Rests u texts (ds ++ function h bs ∷ [])) same (closes s f texts ds h bs r e))

finish_step : (s t : State) (x : Stage) (texts : List (List ℕ)) → StandsAt s x texts → finished_at s x ≡ Ok t → (ds : List Declaration) × Rests t texts ds
finish_step s t Between texts (ds, r) g = let same : s ≡ t = cc in (ds, subst (λ u. Rests u texts ds) same r)
finish_step s t (Function f) texts (ds, h, bs, r) g = whole_step s t f texts ds h bs (has_block f) refl r g
finish_step s t (Block f b) texts (ds, h, bs, r) g = absurd (cc)

end_of_text : (s t : State) (texts : List (List ℕ)) → StandsAt s s.stage texts → finished s ≡ Ok t → (ds : List Declaration) × Rests t texts ds
unfolding finished
end_of_text s t texts k g = finish_step s t s.stage texts k g

-- All lines.

pub at_ok : {A : Type 0} (n : ℕ) (r : Result A Fault) (x : A) → at n r ≡ Ok x → r ≡ Ok x
at_ok n (Ok y) x h = cc
at_ok n (Err f) x h = absurd (cc)

pub bind_ok : {A B : Type 0} (r : Result A Refusal) (f : A → Result B Refusal) (y : B) → (r >>= f) ≡ Ok y → (x : A) × (r ≡ Ok x) × (f x ≡ Ok y)
bind_ok (Ok x) f y h = (x, refl, h)
bind_ok (Err e) f y h = absurd (cc)

abbrev kept : List (List ℕ) → List (List ℕ)
kept texts = filter (λ line. not (is_skipped line)) texts

next_step : (n : ℕ) (s u : State) (seen : List (List ℕ)) (line : List ℕ) (more : List (List ℕ)) (b : Bool) → StandsAt s s.stage seen → cond b (Ok s) (at n (read_line s line)) ≡ Ok u
    → (k : List (List ℕ)) × StandsAt u u.stage k × (k ++ kept more ≡ seen ++ cond (not b) (line ∷ kept more) (kept more))
next_step n s u seen line more true k g = let same : s ≡ u = cc in (seen, subst (λ v. StandsAt v v.stage seen) same k, refl)
next_step n s u seen line more false k g = (seen ++ line ∷ [], line_step s u seen line k (at_ok n (read_line s line) u g), append_assoc seen (line ∷ []) (kept more))

all_lines : (n : ℕ) (s t : State) (seen texts : List (List ℕ)) → StandsAt s s.stage seen → read_lines n s texts ≡ Ok t → (ds : List Declaration) × Rests t (seen ++ kept texts) ds
unfolding read_lines read_next
all_lines n s t seen [] k g =
    let e = end_of_text s t seen k (at_ok n (finished s) t g) in
    (e.0, subst (λ texts. Rests t texts e.0) (sym (append-nil seen)) e.1)
all_lines n s t seen (line ∷ more) k g =
    let u = bind_ok (cond (is_skipped line) (Ok s) (at n (read_line s line))) (λ v. read_lines (n + 1) v more) t g in
    let next = next_step n s u.0 seen line more (is_skipped line) k u.1 in
    let rest = all_lines (n + 1) u.0 t next.0 more next.1 u.2 in
    (rest.0, subst (λ texts. Rests t texts rest.0) next.2 rest.1)

nothing_yet : Rests at_start [] []
nothing_yet = record { whole = All-nil IsWhole; spelled = tt; names = refl; funcs = refl; vars = refl }

pub references_ok : (r : Result PackageRecord (List ℕ)) (p : PackageRecord) → references r ≡ Ok p → r ≡ Ok p
references_ok (Ok q) p h = cc
references_ok (Err name) p h = absurd (cc)

-- what the lines of a text that reads as a package leave
pub record Leaves (text : List ℕ) (p : PackageRecord) : Type 0 where
  pub last : State
  pub all : List Declaration
  pub read : read_lines 1 at_start (lines text) ≡ Ok last
  pub found : package_of last.names last.funcs last.vars ≡ Ok p
  pub rests : Rests last (kept (lines text)) all

pub text_leaves : (text : List ℕ) (p : PackageRecord) → reading text ≡ Ok p → Leaves text p
unfolding reading
text_leaves text p h =
    let s = bind_ok (read_lines 1 at_start (lines text)) (λ s. references (package_of s.names s.funcs s.vars)) p h in
    let r = all_lines 1 at_start s.0 [] (lines text) ([], nothing_yet) s.1 in
    record {
      last = s.0;
      all = r.0;
      read = s.1;
      found = references_ok (package_of s.0.names s.0.funcs s.0.vars) p s.2;
      rests = r.1;
    }
