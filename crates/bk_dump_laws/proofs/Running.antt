-- The reader over lines that are read as trees: the texts of lines do what their trees do.
use Rattle.std.proofs.Common.{◌≡◌, ℕ, ◌+◌, ◌<◌, List, [], ◌∷◌, ◌++◌, length, map, ap, ◌∙◌, sym, refl, subst, Bool, true, false, cond, Option, Some, None}
use Rattle.std.specs.Prelude.{Result, Ok, Err, not}
use Rattle.std.specs.List.{AllZip}
use Rattle.bk_func.specs.Records.{PackageRecord}
use Rattle.bk_dump.specs.declared.read.errors.Fault.{Fault}
use Rattle.bk_dump.specs.declared.read.errors.Fault.TheVariants.{Syntax}
use Rattle.bk_dump.specs.declared.read.draft.Stage.{Stage}
use Rattle.bk_dump.specs.declared.read.draft.Stage.TheVariants.{Between, Function, Block}
use Rattle.bk_dump.specs.Trees.{ValueTree, EndTree, OpenTree, BlockTree, FuncTree}
use Rattle.bk_dump.specs.Values.{value_at}
use Rattle.bk_dump.specs.Blocks.{block_at}
use Rattle.bk_dump.specs.Headers.{var_at}
use Rattle.bk_dump.specs.Drafts.{State, add_value, end_block, read_inside, declare_var, declare_func, declare, closed, has_block, open_block, read_behind, at_stage, read_line, finished, at_start}
use Rattle.bk_dump.specs.Resolved.{package_of}
use Rattle.bk_dump.specs.Texts.{at, ◌>>=◌, is_skipped, lines, read_next, read_lines, references, reading}
use Rattle.bk_dump_laws.specs.Declarations.{Line, var_line, func_line, block_line, value_line, end_line, SpellsLine, Declaration, variable, function, lines_of_blocks, lines_of_all, names_of_all, funcs_from, vars_from, SpellsAll}
use Rattle.bk_dump_laws.proofs.LaidVars.{var_lays, var_reads}
use Rattle.bk_dump_laws.proofs.LaidHeaders.{func_reads}
use Rattle.bk_dump_laws.proofs.LaidBlocks.{block_reads}
use Rattle.bk_dump_laws.proofs.LaidEnds.{end_reads}
use Rattle.bk_dump_laws.proofs.LaidValues.{value_lays, value_reads}
use Rattle.bk_dump.proofs.Stages.{read_at}
use Rattle.bk_dump_laws.proofs.Forms.{var_no_func, value_no_end}
use Rattle.bk_dump_laws.proofs.Declaring.{text_leaves}
use Rattle.bk_dump_laws.proofs.Expecting.{Expects, Goes, kept, never, head_is, spells_as, as_var, as_func, not_block, as_block, as_next, some_block, as_value, as_end, line_goes}

-- What a line does.

abbrev pub declared_line : State → Line → Result State Fault
declared_line s (var_line v) = declare_var s v
declared_line s (func_line h) = declare_func s h
declared_line s (block_line b) = Err Syntax
declared_line s (value_line v) = Err Syntax
declared_line s (end_line e) = Err Syntax

abbrev pub behind_line : State → FuncTree → Line → Result State Fault
behind_line s f (block_line b) = open_block s f b
behind_line s f (var_line v) = cond (has_block f) (declare_var (closed s f) v) (Err Syntax)
behind_line s f (func_line h) = cond (has_block f) (declare_func (closed s f) h) (Err Syntax)
behind_line s f (value_line v) = Err Syntax
behind_line s f (end_line e) = Err Syntax

abbrev pub inside_line : State → FuncTree → OpenTree → Line → Result State Fault
inside_line s f b (value_line v) = add_value s f b v
inside_line s f b (end_line e) = end_block s f b e
inside_line s f b (var_line v) = Err Syntax
inside_line s f b (func_line h) = Err Syntax
inside_line s f b (block_line l) = Err Syntax

-- the line at a stage
abbrev pub line_at : State → Stage → Line → Result State Fault
line_at s Between l = declared_line s l
line_at s (Function f) l = behind_line s f l
line_at s (Block f b) l = inside_line s f b l

abbrev pub go_on : Result State Fault → (State → Result State Fault) → Result State Fault
go_on (Ok t) f = f t
go_on (Err x) f = Err x

-- all lines, and the end behind them
unfoldable pub run : State → List Line → Result State Fault
run s [] = finished s
run s (l ∷ ls) = go_on (line_at s s.stage l) (λ t. run t ls)

-- A line does what its tree does.

declare_is : (s : State) (line : List ℕ) (l : Line) (ls : List Line) (ds : List Declaration) → l ∷ ls ≡ lines_of_all ds → SpellsLine line l → declare s line ≡ declared_line s l
declare_is s line l ls [] e x = absurd (cc)
declare_is s line l ls ((variable v) ∷ ds) e x =
    let same = head_is l (var_line v) ls (lines_of_all ds) e in
    as_var s line v (var_reads line v (spells_as line l (var_line v) x same)) ∙ ap (declared_line s) (sym same)
declare_is s line l ls ((function h bs) ∷ ds) e x =
    let same = head_is l (func_line h) ls (lines_of_blocks bs ++ lines_of_all ds) e in
    let spelled = spells_as line l (func_line h) x same in
    let none = never (var_at line) (λ v g. var_no_func line v h (var_lays line v g) spelled) in
    as_func s line h none (func_reads line h spelled) ∙ ap (declared_line s) (sym same)

-- the line is one of those that stand between functions
abbrev Declares : Line → Type 0
Declares (var_line v) = Unit {0}
Declares (func_line h) = Unit {0}
Declares (block_line b) = ⊥
Declares (value_line v) = ⊥
Declares (end_line e) = ⊥

first_declares : (l : Line) (ls : List Line) (ds : List Declaration) → l ∷ ls ≡ lines_of_all ds → Declares l
first_declares l ls [] e = absurd (cc)
first_declares l ls ((variable v) ∷ ds) e = subst Declares (sym (head_is l (var_line v) ls (lines_of_all ds) e)) tt
first_declares l ls ((function h bs) ∷ ds) e = subst Declares (sym (head_is l (func_line h) ls (lines_of_blocks bs ++ lines_of_all ds) e)) tt

closed_is : (s : State) (f : FuncTree) (l : Line) → Declares l → has_block f ≡ true → declared_line (closed s f) l ≡ behind_line s f l
closed_is s f (var_line v) d h = sym (ap (λ b. cond b (declare_var (closed s f) v) (Err Syntax)) h)
closed_is s f (func_line g) d h = sym (ap (λ b. cond b (declare_func (closed s f) g) (Err Syntax)) h)
closed_is s f (block_line b) d h = absurd d
closed_is s f (value_line v) d h = absurd d
closed_is s f (end_line e) d h = absurd d

behind_is : (s : State) (f : FuncTree) (line : List ℕ) (l : Line) (ls : List Line) (bs : List BlockTree) (ds : List Declaration) → 0 < length f.blocks + length bs → l ∷ ls ≡ lines_of_blocks bs ++ lines_of_all ds → SpellsLine line l
    → read_behind s f line ≡ behind_line s f l
behind_is s f line l ls [] ds some e x =
    let none = never (block_at line) (not_block line l ls ds e x) in
    let has = some_block (length f.blocks) some in
    as_next s f line none has ∙ declare_is (closed s f) line l ls ds e x ∙ closed_is s f l (first_declares l ls ds e) has
behind_is s f line l ls (b ∷ bs) ds some e x =
    let rest = ((map value_line b.values ++ end_line b.end ∷ []) ++ lines_of_blocks bs) ++ lines_of_all ds in
    let same = head_is l (block_line b.label) ls rest e in
    as_block s f line b.label (block_reads line b.label (spells_as line l (block_line b.label) x same)) ∙ ap (behind_line s f) (sym same)

inside_is : (s : State) (f : FuncTree) (b : OpenTree) (line : List ℕ) (l : Line) (ls : List Line) (vs : List ValueTree) (e : EndTree) (more : List Line) → l ∷ ls ≡ map value_line vs ++ (end_line e ∷ more) → SpellsLine line l
    → read_inside s f b line ≡ inside_line s f b l
inside_is s f b line l ls (v ∷ vs) e more g x =
    let same = head_is l (value_line v) ls (map value_line vs ++ (end_line e ∷ more)) g in
    as_value s f b line v (value_reads line v (spells_as line l (value_line v) x same)) ∙ ap (inside_line s f b) (sym same)
inside_is s f b line l ls [] e more g x =
    let same = head_is l (end_line e) ls more g in
    let spelled = spells_as line l (end_line e) x same in
    let none = never (value_at line) (λ v k. value_no_end line v e (value_lays line v k) spelled) in
    as_end s f b line e none (end_reads line e spelled) ∙ ap (inside_line s f b) (sym same)

stage_is : (s : State) (x : Stage) (line : List ℕ) (l : Line) (ls : List Line) → Expects x (l ∷ ls) → SpellsLine line l → at_stage s x line ≡ line_at s x l
stage_is s Between line l ls (ds, w, e) x = declare_is s line l ls ds e x
stage_is s (Function f) line l ls (bs, ds, w, some, e) x = behind_is s f line l ls bs ds some e x
stage_is s (Block f b) line l ls (vs, end, bs, ds, w, e) x = inside_is s f b line l ls vs end (lines_of_blocks bs ++ lines_of_all ds) e x

line_is : (s : State) (line : List ℕ) (l : Line) (ls : List Line) → Expects s.stage (l ∷ ls) → SpellsLine line l → read_line s line ≡ line_at s s.stage l
line_is s line l ls k x = read_at s line s.stage x.clean refl ∙ stage_is s s.stage line l ls k x

-- All lines do what their trees do, whatever number a refusal has.

abbrev okay : {E : Type 0} → Result State E → Option State
okay (Ok t) = Some t
okay (Err e) = None

at_okay : (n : ℕ) (r : Result State Fault) → okay (at n r) ≡ okay r
at_okay n (Ok t) = refl
at_okay n (Err f) = refl

step_runs : (n : ℕ) (more : List (List ℕ)) (r : Result State Fault) (ls : List Line) → Goes r ls → ((t : State) → Expects t.stage ls → okay (read_lines (n + 1) t more) ≡ okay (run t ls)) → okay (at n r >>= λ t. read_lines (n + 1) t more) ≡ okay (go_on r (λ t. run t ls))
step_runs n more (Ok t) ls g k = k t g
step_runs n more (Err f) ls g k = refl

abbrev Runs : ℕ → List (List ℕ) → Type 0
Runs n more = (t : State) (ms : List Line) → Expects t.stage ms → AllZip SpellsLine (kept more) ms → okay (read_lines n t more) ≡ okay (run t ms)

skip_runs : (n : ℕ) (s : State) (line : List ℕ) (more : List (List ℕ)) (ls : List Line) (b : Bool) → Expects s.stage ls → AllZip SpellsLine (cond (not b) (line ∷ kept more) (kept more)) ls → Runs (n + 1) more
    → okay (cond b (Ok s) (at n (read_line s line)) >>= λ t. read_lines (n + 1) t more) ≡ okay (run s ls)
unfolding run
skip_runs n s line more ls true e z k = k s ls e z
skip_runs n s line more [] false e z k = absurd z
skip_runs n s line more (l ∷ ls) false e z k =
    step_runs n more (read_line s line) ls (line_goes s line l ls e z.0) (λ t g. k t ls g z.1) ∙ ap (λ r. okay (go_on r (λ t. run t ls))) (line_is s line l ls e z.0)

lines_run : (n : ℕ) (s : State) (texts : List (List ℕ)) (ls : List Line) → Expects s.stage ls → AllZip SpellsLine (kept texts) ls → okay (read_lines n s texts) ≡ okay (run s ls)
unfolding read_lines read_next run
lines_run n s [] [] e z = at_okay n (finished s)
lines_run n s [] (l ∷ ls) e z = absurd z
lines_run n s (line ∷ more) ls e z = skip_runs n s line more ls (is_skipped line) e z (λ t ms k y. lines_run (n + 1) t more ms k y)

okay_is : {E F : Type 0} (q : Result State E) (r : Result State F) (t : State) → okay q ≡ okay r → q ≡ Ok t → r ≡ Ok t
okay_is (Ok s) (Ok u) t e h = cc
okay_is (Ok s) (Err f) t e h = absurd (cc)
okay_is (Err e) r t g h = absurd (cc)

-- a text that reads as a package: its declarations, which the reader goes through
pub record Declared (text : List ℕ) (p : PackageRecord) : Type 0 where
  pub all : List Declaration
  pub spelled : SpellsAll text all
  pub last : State
  pub goes : run at_start (lines_of_all all) ≡ Ok last
  pub names : last.names ≡ names_of_all all
  pub funcs : last.funcs ≡ funcs_from 0 all
  pub vars : last.vars ≡ vars_from 0 all
  pub found : package_of last.names last.funcs last.vars ≡ Ok p

pub text_declares : (text : List ℕ) (p : PackageRecord) → reading text ≡ Ok p → Declared text p
text_declares text p h =
    let l = text_leaves text p h in
    let r = l.rests in
    let same = lines_run 1 at_start (lines text) (lines_of_all l.all) (l.all, r.whole, refl) r.spelled in
    record {
      all = l.all;
      spelled = record { whole = r.whole; lines = r.spelled };
      last = l.last;
      goes = okay_is (read_lines 1 at_start (lines text)) (run at_start (lines_of_all l.all)) l.last same l.read;
      names = r.names;
      funcs = r.funcs;
      vars = r.vars;
      found = l.found;
    }

-- a text that spells declarations which the reader goes through reads as their package
pub reads_declared : (text : List ℕ) (ds : List Declaration) (s : State) (p : PackageRecord) → SpellsAll text ds → run at_start (lines_of_all ds) ≡ Ok s → package_of s.names s.funcs s.vars ≡ Ok p → reading text ≡ Ok p
unfolding reading
reads_declared text ds s p x g h =
    let same = lines_run 1 at_start (lines text) (lines_of_all ds) (ds, x.whole, refl) x.lines in
    let read = okay_is (run at_start (lines_of_all ds)) (read_lines 1 at_start (lines text)) s (sym same) g in
    ap (λ r. r >>= λ s. references (package_of s.names s.funcs s.vars)) read ∙ ap references h
