-- A text that spells declarations is not refused for its syntax.
use Rattle.std.proofs.Common.{◌≡◌, ℕ, suc, ◌+◌, ◌<◌, List, [], ◌∷◌, ◌++◌, length, map, ap, ◌∙◌, sym, refl, subst, arith, append_assoc, Bool, true, false, cond, Option, Some, None}
use Rattle.std.specs.Prelude.{Result, Ok, Err, not, nat_lt, nat_le, filter, All, ◌&&◌}
use Rattle.std.specs.List.{AllZip}
use Rattle.std.specs.Option.{option_map_or}
use Rattle.std.proofs.lemmas.Bool.Decides.{nat_tests}
use Rattle.std.proofs.lemmas.List.{length-append}
use Rattle.bk_func.specs.Records.{PackageRecord}
use Rattle.bk_dump.specs.declared.read.errors.Which.{Which}
use Rattle.bk_dump.specs.declared.read.errors.Fault.{Fault}
use Rattle.bk_dump.specs.declared.read.errors.Fault.TheVariants.{Syntax, Limit, Duplicate}
use Rattle.bk_dump.specs.declared.read.draft.Stage.{Stage}
use Rattle.bk_dump.specs.declared.read.draft.Stage.TheVariants.{Between, Function, Block}
use Rattle.bk_dump.specs.Trees.{ValueTree, LabelTree, EndTree, VarTree, HeaderTree, OpenTree, BlockTree, FuncTree}
use Rattle.bk_dump.specs.Values.{value_at}
use Rattle.bk_dump.specs.Blocks.{block_at, end_at}
use Rattle.bk_dump.specs.Headers.{var_at, header_at}
use Rattle.bk_dump.specs.Parts.{Spells}
use Rattle.bk_dump.specs.Drafts.{State, is_number, are_numbers, declares, control_is_number, is_taken, entered, unless, unless_then, value_fault, with_value, with_next, add_value, with_end, end_fault, end_block, read_inside, with_var, var_fault, declare_var, opened, header_fault, with_func, declare_func, declare, closed, has_block, block_fault, with_block, open_block, read_behind, at_stage, read_line, finished_at, finished, at_start}
use Rattle.bk_dump.specs.Resolved.{package_of}
use Rattle.bk_dump.specs.Texts.{Refusal, at_line, at, ◌>>=◌, is_skipped, lines, read_next, read_lines, references, reading}
use Rattle.bk_dump_laws.specs.Declarations.{Line, IsLine, var_line, func_line, block_line, value_line, end_line, SpellsLine, Declaration, variable, function, lines_of_blocks, lines_of_all, IsWhole, SpellsAll}
use Rattle.bk_dump_laws.proofs.LaidVars.{var_lays, var_reads}
use Rattle.bk_dump_laws.proofs.LaidHeaders.{func_reads}
use Rattle.bk_dump_laws.proofs.LaidBlocks.{block_lays, block_reads}
use Rattle.bk_dump_laws.proofs.LaidEnds.{end_reads}
use Rattle.bk_dump_laws.proofs.LaidValues.{value_lays, value_reads}
use Rattle.bk_dump.proofs.Stages.{read_at}
use Rattle.bk_dump_laws.proofs.Forms.{var_no_func, block_no_var, block_no_func, value_no_end}

-- No test of limits or of names finds a fault of syntax.

three : (a b c : Bool) (w u : Which) → cond {A = Option Fault} a (Some (Limit w)) (cond {A = Option Fault} b (Some (Limit u)) (cond {A = Option Fault} c (Some Duplicate) None)) ≡ Some Syntax → ⊥
three true b c w u h = absurd (cc)
three false true c w u h = absurd (cc)
three false false true w u h = absurd (cc)
three false false false w u h = absurd (cc)

one : (b : Bool) (w : Which) → cond {A = Option Fault} b None (Some (Limit w)) ≡ Some Syntax → ⊥
one true w h = absurd (cc)
one false w h = absurd (cc)

value_calm : (f : FuncTree) (v : ValueTree) → value_fault f v ≡ Some Syntax → ⊥
unfolding value_fault
value_calm f v h = three (nat_le 16384 (length f.value_ids)) (not (is_number v.id && are_numbers v.args)) (declares f.value_ids v.id) _ _ h

block_calm : (f : FuncTree) (b : LabelTree) → block_fault f b ≡ Some Syntax → ⊥
unfolding block_fault
block_calm f b h = three (nat_le 4096 (length f.block_ids)) (not (is_number b.id && are_numbers b.preds)) (declares f.block_ids b.id) _ _ h

var_calm : (s : State) (v : VarTree) → var_fault s v ≡ Some Syntax → ⊥
unfolding var_fault
var_calm s v h = three (nat_le 4096 (length s.vars)) (nat_lt 1048576 (s.window + v.size)) (is_taken s.names v.name) _ _ h

header_calm : (s : State) (h : HeaderTree) → header_fault s h ≡ Some Syntax → ⊥
unfolding header_fault
header_calm s h e = three (nat_le 4096 (length s.funcs)) (nat_lt 64 (length h.parameters + length h.results)) (is_taken s.names h.name) _ _ e

end_calm : (e : EndTree) → end_fault e ≡ Some Syntax → ⊥
unfolding end_fault
end_calm e h = one (control_is_number e.control && are_numbers e.succs) _ h

-- The lines that may come at a stage.

abbrev pub Expects : Stage → List Line → Type 0
Expects Between ls = (ds : List Declaration) × All IsWhole ds × (ls ≡ lines_of_all ds)
Expects (Function f) ls = (bs : List BlockTree) × (ds : List Declaration) × All IsWhole ds × (0 < length f.blocks + length bs) × (ls ≡ lines_of_blocks bs ++ lines_of_all ds)
Expects (Block f b) ls =
    (vs : List ValueTree) × (e : EndTree) × (bs : List BlockTree) × (ds : List Declaration) × All IsWhole ds × (ls ≡ map value_line vs ++ (end_line e ∷ (lines_of_blocks bs ++ lines_of_all ds)))

-- a line is read, or is at fault for another cause
abbrev pub Goes : Result State Fault → List Line → Type 0
Goes (Ok t) ls = Expects t.stage ls
Goes (Err f) ls = f ≡ Syntax → ⊥

pub unless_goes : (o : Option Fault) (t : State) (ls : List Line) → (o ≡ Some Syntax → ⊥) → Expects t.stage ls → Goes (unless o t) ls
unless_goes None t ls h e = e
unless_goes (Some f) t ls h e = λ g. h (ap Some g)

pub never : {A : Type 0} (o : Option A) → ((x : A) → o ≡ Some x → ⊥) → o ≡ None
never None h = refl
never (Some x) h = absurd (h x refl)

pub whole_tail : (d : Declaration) (ds : List Declaration) → All IsWhole (d ∷ ds) → All IsWhole ds
whole_tail d ds h = λ k e l. h (suc k) e (omega arith)

pub whole_head : (h : HeaderTree) (bs : List BlockTree) (ds : List Declaration) → All IsWhole (function h bs ∷ ds) → 0 < length bs
whole_head h bs ds w = w 0 (function h bs) (omega arith)

pub head_is : {A : Type 0} (x y : A) (xs ys : List A) → x ∷ xs ≡ y ∷ ys → x ≡ y
head_is x y xs ys h = cc

pub tail_is : {A : Type 0} (x y : A) (xs ys : List A) → x ∷ xs ≡ y ∷ ys → xs ≡ ys
tail_is x y xs ys h = cc

pub spells_as : (line : List ℕ) (l m : Line) → SpellsLine line l → l ≡ m → Spells IsLine line m
spells_as line l m s e = subst (Spells IsLine line) e s.spelled

-- Declarations.

pub as_var : (s : State) (line : List ℕ) (v : VarTree) → var_at line ≡ Some v → declare s line ≡ declare_var s v
unfolding declare
as_var s line v e = ap (λ o. option_map_or (declare_var s) o (option_map_or (declare_func s) (header_at line) (Err Syntax))) e

pub as_func : (s : State) (line : List ℕ) (h : HeaderTree) → var_at line ≡ None → header_at line ≡ Some h → declare s line ≡ declare_func s h
unfolding declare
as_func s line h n e = ap (λ o. option_map_or (declare_var s) o (option_map_or (declare_func s) (header_at line) (Err Syntax))) n ∙ ap (λ o. option_map_or (declare_func s) o (Err Syntax)) e

opened_goes : (s : State) (h : HeaderTree) (o : Option FuncTree) (bs : List BlockTree) (ds : List Declaration) (ls : List Line) → All IsWhole ds → 0 < length bs → ls ≡ lines_of_blocks bs ++ lines_of_all ds → Goes (with_func s h o) ls
opened_goes s h None bs ds ls w some e = λ g. absurd (cc)
opened_goes s h (Some f) bs ds ls w some e = (bs, ds, w, omega arith, e)

func_goes : (s : State) (h : HeaderTree) (o : Option Fault) (bs : List BlockTree) (ds : List Declaration) (ls : List Line) → (o ≡ Some Syntax → ⊥) → All IsWhole ds → 0 < length bs → ls ≡ lines_of_blocks bs ++ lines_of_all ds → Goes (unless_then o (with_func s h (opened (length s.names) h))) ls
func_goes s h None bs ds ls c w some e = opened_goes s h (opened (length s.names) h) bs ds ls w some e
func_goes s h (Some f) bs ds ls c w some e = λ g. c (ap Some g)

declare_goes : (s : State) (line : List ℕ) (l : Line) (ls : List Line) (ds : List Declaration) → s.stage ≡ Between → All IsWhole ds → l ∷ ls ≡ lines_of_all ds → SpellsLine line l → Goes (declare s line) ls
declare_goes s line l ls [] b w e x = absurd (cc)
declare_goes s line l ls ((variable v) ∷ ds) b w e x =
    let found = var_reads line v (spells_as line l (var_line v) x (head_is l (var_line v) ls (lines_of_all ds) e)) in
    let here : Expects Between ls = (ds, whole_tail (variable v) ds w, tail_is l (var_line v) ls (lines_of_all ds) e) in
    subst (λ r. Goes r ls) (sym (as_var s line v found)) (unless_goes (var_fault s v) (with_var s v) ls (var_calm s v) (subst (λ y. Expects y ls) (sym b) here))
declare_goes s line l ls ((function h bs) ∷ ds) b w e x =
    let rest = lines_of_blocks bs ++ lines_of_all ds in
    let spelled = spells_as line l (func_line h) x (head_is l (func_line h) ls rest e) in
    let none = never (var_at line) (λ v g. var_no_func line v h (var_lays line v g) spelled) in
    subst (λ r. Goes r ls) (sym (as_func s line h none (func_reads line h spelled)))
    (func_goes s h (header_fault s h) bs ds ls (header_calm s h) (whole_tail (function h bs) ds w) (whole_head h bs ds w) (tail_is l (func_line h) ls rest e))

-- Behind a function's first line or a block.

pub not_block : (line : List ℕ) (l : Line) (ls : List Line) (ds : List Declaration) → l ∷ ls ≡ lines_of_all ds → SpellsLine line l → (b : LabelTree) → block_at line ≡ Some b → ⊥
not_block line l ls [] e x b g = absurd (cc)
not_block line l ls ((variable v) ∷ ds) e x b g = block_no_var line b v (block_lays line b g) (spells_as line l (var_line v) x (head_is l (var_line v) ls (lines_of_all ds) e))
not_block line l ls ((function h bs) ∷ ds) e x b g = block_no_func line b h (block_lays line b g) (spells_as line l (func_line h) x (head_is l (func_line h) ls (lines_of_blocks bs ++ lines_of_all ds) e))

pub as_block : (s : State) (f : FuncTree) (line : List ℕ) (b : LabelTree) → block_at line ≡ Some b → read_behind s f line ≡ open_block s f b
unfolding read_behind
as_block s f line b e = ap (λ o. option_map_or (open_block s f) o (cond (has_block f) (declare (closed s f) line) (Err Syntax))) e

pub as_next : (s : State) (f : FuncTree) (line : List ℕ) → block_at line ≡ None → has_block f ≡ true → read_behind s f line ≡ declare (closed s f) line
unfolding read_behind
as_next s f line e h = ap (λ o. option_map_or (open_block s f) o (cond (has_block f) (declare (closed s f) line) (Err Syntax))) e ∙ ap (λ b. cond b (declare (closed s f) line) (Err Syntax)) h

pub some_block : (n : ℕ) → 0 < n + 0 → nat_lt 0 n ≡ true
some_block n h = let l : 0 < n = omega arith in grind (arith, nat_tests)

behind_goes : (s : State) (f : FuncTree) (line : List ℕ) (l : Line) (ls : List Line) (bs : List BlockTree) (ds : List Declaration) → All IsWhole ds → 0 < length f.blocks + length bs → l ∷ ls ≡ lines_of_blocks bs ++ lines_of_all ds → SpellsLine line l → Goes (read_behind s f line) ls
behind_goes s f line l ls [] ds w some e x =
    let none = never (block_at line) (not_block line l ls ds e x) in
    subst (λ r. Goes r ls) (sym (as_next s f line none (some_block (length f.blocks) some))) (declare_goes (closed s f) line l ls ds refl w e x)
behind_goes s f line l ls (b ∷ bs) ds w some e x =
    let rest = ((map value_line b.values ++ end_line b.end ∷ []) ++ lines_of_blocks bs) ++ lines_of_all ds in
    let regrouped : rest ≡ map value_line b.values ++ (end_line b.end ∷ (lines_of_blocks bs ++ lines_of_all ds)) = simp append_assoc in
    let found = block_reads line b.label (spells_as line l (block_line b.label) x (head_is l (block_line b.label) ls rest e)) in
    subst (λ r. Goes r ls) (sym (as_block s f line b.label found))
    (unless_goes (block_fault f b.label) (entered s (Block (with_block f b.label) (record { label = b.label; values = [] }))) ls (block_calm f b.label)
    (b.values, b.end, bs, ds, w, tail_is l (block_line b.label) ls rest e ∙ regrouped))

-- In a block.

pub as_value : (s : State) (f : FuncTree) (b : OpenTree) (line : List ℕ) (v : ValueTree) → value_at line ≡ Some v → read_inside s f b line ≡ add_value s f b v
unfolding read_inside
as_value s f b line v e = ap (λ o. option_map_or (add_value s f b) o (option_map_or (end_block s f b) (end_at line) (Err Syntax))) e

pub as_end : (s : State) (f : FuncTree) (b : OpenTree) (line : List ℕ) (e : EndTree) → value_at line ≡ None → end_at line ≡ Some e → read_inside s f b line ≡ end_block s f b e
unfolding read_inside
as_end s f b line e n g = ap (λ o. option_map_or (add_value s f b) o (option_map_or (end_block s f b) (end_at line) (Err Syntax))) n ∙ ap (λ o. option_map_or (end_block s f b) o (Err Syntax)) g

one_more : (bs : List BlockTree) (b : BlockTree) (cs : List BlockTree) → 0 < length (bs ++ b ∷ []) + length cs
one_more bs b cs = omega (arith, length-append bs (b ∷ []))

inside_goes : (s : State) (f : FuncTree) (b : OpenTree) (line : List ℕ) (l : Line) (ls : List Line) (vs : List ValueTree) (e : EndTree) (bs : List BlockTree) (ds : List Declaration) → All IsWhole ds
    → l ∷ ls ≡ map value_line vs ++ (end_line e ∷ (lines_of_blocks bs ++ lines_of_all ds)) → SpellsLine line l → Goes (read_inside s f b line) ls
inside_goes s f b line l ls (v ∷ vs) e bs ds w g x =
    let rest = map value_line vs ++ (end_line e ∷ (lines_of_blocks bs ++ lines_of_all ds)) in
    let found = value_reads line v (spells_as line l (value_line v) x (head_is l (value_line v) ls rest g)) in
    subst (λ r. Goes r ls) (sym (as_value s f b line v found))
    (unless_goes (value_fault f v) (entered s (Block (with_value f v) (with_next b v))) ls (value_calm f v) (vs, e, bs, ds, w, tail_is l (value_line v) ls rest g))
inside_goes s f b line l ls [] e bs ds w g x =
    let rest = lines_of_blocks bs ++ lines_of_all ds in
    let spelled = spells_as line l (end_line e) x (head_is l (end_line e) ls rest g) in
    let none = never (value_at line) (λ v k. value_no_end line v e (value_lays line v k) spelled) in
    subst (λ r. Goes r ls) (sym (as_end s f b line e none (end_reads line e spelled)))
    (unless_goes (end_fault e) (entered s (Function (with_end f b e))) ls (end_calm e) (bs, ds, w, one_more f.blocks (record { label = b.label; values = b.values; end = e }) bs, tail_is l (end_line e) ls rest g))

-- A line.

stage_goes : (s : State) (stage : Stage) (line : List ℕ) (l : Line) (ls : List Line) → s.stage ≡ stage → Expects stage (l ∷ ls) → SpellsLine line l → Goes (at_stage s stage line) ls
stage_goes s Between line l ls e (ds, w, g) x = declare_goes s line l ls ds e w g x
stage_goes s (Function f) line l ls e (bs, ds, w, some, g) x = behind_goes s f line l ls bs ds w some g x
stage_goes s (Block f b) line l ls e (vs, end, bs, ds, w, g) x = inside_goes s f b line l ls vs end bs ds w g x

pub line_goes : (s : State) (line : List ℕ) (l : Line) (ls : List Line) → Expects s.stage (l ∷ ls) → SpellsLine line l → Goes (read_line s line) ls
line_goes s line l ls k x = subst (λ r. Goes r ls) (sym (read_at s line s.stage x.clean refl)) (stage_goes s s.stage line l ls refl k x)

-- The end of the text.

ended_calm : (s : State) (f : FuncTree) (b : Bool) (n m : ℕ) → has_block f ≡ b → b ≡ true → at n (cond b (Ok (closed s f)) (Err Syntax)) ≡ Err (at_line Syntax m) → ⊥
ended_calm s f true n m e t h = absurd (cc)
ended_calm s f false n m e t h = absurd (cc)

finish_calm : (s : State) (stage : Stage) (n m : ℕ) → Expects stage [] → at n (finished_at s stage) ≡ Err (at_line Syntax m) → ⊥
finish_calm s Between n m k h = absurd (cc)
finish_calm s (Function f) n m ([], ds, w, some, g) h = ended_calm s f (has_block f) n m refl (some_block (length f.blocks) some) h
finish_calm s (Function f) n m ((b ∷ bs), ds, w, some, g) h = absurd (cc)
finish_calm s (Block f b) n m ([], e, bs, ds, w, g) h = absurd (cc)
finish_calm s (Block f b) n m ((v ∷ vs), e, bs, ds, w, g) h = absurd (cc)

text_ends : (s : State) (n m : ℕ) → Expects s.stage [] → at n (finished s) ≡ Err (at_line Syntax m) → ⊥
unfolding finished
text_ends s n m k h = finish_calm s s.stage n m k h

-- All lines.

abbrev pub kept : List (List ℕ) → List (List ℕ)
kept texts = filter (λ line. not (is_skipped line)) texts

abbrev Calm : ℕ → State → List (List ℕ) → Type 0
Calm n s texts = (m : ℕ) → read_lines n s texts ≡ Err (at_line Syntax m) → ⊥

same_fault : (f g : Fault) (n m : ℕ) → ◌≡◌ {A = Result State Refusal} (Err (at_line f n)) (Err (at_line g m)) → f ≡ g
same_fault f g n m h = cc

read_step : (n : ℕ) (line : List ℕ) (more : List (List ℕ)) (r : Result State Fault) (ls : List Line) → Goes r ls → ((t : State) → Expects t.stage ls → Calm (n + 1) t more) → (m : ℕ) → (at n r >>= λ t. read_lines (n + 1) t more) ≡ Err (at_line Syntax m) → ⊥
read_step n line more (Ok t) ls g k m h = k t g m h
read_step n line more (Err f) ls g k m h = g (same_fault f Syntax n m h)

skip_step : (n : ℕ) (s : State) (line : List ℕ) (more : List (List ℕ)) (ls : List Line) (b : Bool) → Expects s.stage ls → AllZip SpellsLine (cond (not b) (line ∷ kept more) (kept more)) ls
    → ((t : State) (ms : List Line) → Expects t.stage ms → AllZip SpellsLine (kept more) ms → Calm (n + 1) t more) → (m : ℕ) → (cond b (Ok s) (at n (read_line s line)) >>= λ t. read_lines (n + 1) t more) ≡ Err (at_line Syntax m) → ⊥
skip_step n s line more ls true e z k m h = k s ls e z m h
skip_step n s line more [] false e z k m h = absurd z
skip_step n s line more (l ∷ ls) false e z k m h = read_step n line more (read_line s line) ls (line_goes s line l ls e z.0) (λ t g. k t ls g z.1) m h

lines_calm : (n : ℕ) (s : State) (texts : List (List ℕ)) (ls : List Line) → Expects s.stage ls → AllZip SpellsLine (kept texts) ls → Calm n s texts
unfolding read_lines read_next
lines_calm n s [] [] e z m h = text_ends s n m e h
lines_calm n s [] (l ∷ ls) e z m h = absurd z
lines_calm n s (line ∷ more) ls e z m h = skip_step n s line more ls (is_skipped line) e z (λ t ms k y. lines_calm (n + 1) t more ms k y) m h

looked_up : (r : Result PackageRecord (List ℕ)) (m : ℕ) → references r ≡ Err (at_line Syntax m) → ⊥
looked_up (Ok p) m h = absurd (cc)
looked_up (Err name) m h = absurd (cc)

same_refusal : (e d : Refusal) → ◌≡◌ {A = Result PackageRecord Refusal} (Err e) (Err d) → e ≡ d
same_refusal e d h = cc

whole_calm : (r : Result State Refusal) (m : ℕ) → (r ≡ Err (at_line Syntax m) → ⊥) → (r >>= λ s. references (package_of s.names s.funcs s.vars)) ≡ Err (at_line Syntax m) → ⊥
whole_calm (Ok s) m k h = looked_up (package_of s.names s.funcs s.vars) m h
whole_calm (Err e) m k h = k (ap Err (same_refusal e (at_line Syntax m) h))

pub no_syntax_fault : (text : List ℕ) (ds : List Declaration) (m : ℕ) → SpellsAll text ds → reading text ≡ Err (at_line Syntax m) → ⊥
unfolding reading
no_syntax_fault text ds m a h =
    whole_calm (read_lines 1 at_start (lines text)) m (lines_calm 1 at_start (lines text) (lines_of_all ds) (ds, a.whole, refl) a.lines m) h
