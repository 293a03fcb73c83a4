-- What a line without fault leaves.
use Rattle.std.proofs.Common.{◌≡◌, ℕ, List, [], ◌∷◌, ◌++◌, length, map, ap, ◌∙◌, sym, refl, true, false, cond, Some, None}
use Rattle.bk_dump.specs.declared.read.errors.Fault.TheVariants.{Syntax, Duplicate}
use Rattle.std.specs.Prelude.{Ok, Err}
use Rattle.bk_ops.specs.declared.types.Ty.{Ty}
use Rattle.bk_func.specs.Records.{SigRecord, VarRecord}
use Rattle.bk_dump.specs.declared.read.draft.Stage.{Stage}
use Rattle.bk_dump.specs.declared.read.draft.Stage.TheVariants.{Function, Block}
use Rattle.bk_dump.specs.Trees.{ValueTree, LabelTree, VarTree, HeaderTree, OpenTree, BlockTree, FuncTree}
use Rattle.bk_dump.specs.Drafts.{State, entered, unless, value_fault, with_value, with_next, add_value, block_fault, with_block, open_block, var_fault, with_var, declare_var, padded, pairs, next_window, unless_then, are_fresh, parameter_names, header_fault, opened, with_func, declare_func, has_control, at_stage, read_line, read_behind, read_inside}

pub value_added : (s : State) (f : FuncTree) (b : OpenTree) (v : ValueTree) (g : FuncTree) (c : OpenTree) → value_fault f v ≡ None → g ≡ with_value f v → c ≡ with_next b v → add_value s f b v ≡ Ok (entered s (Block g c))
value_added s f b v g c e ge ce =
    ap (λ o. unless o (entered s (Block (with_value f v) (with_next b v)))) e
    ∙ ap (λ g. Ok (entered s (Block g (with_next b v)))) (sym ge)
    ∙ ap (λ c. Ok (entered s (Block g c))) (sym ce)

abbrev pub opened_with : LabelTree → OpenTree
opened_with l = record { label = l; values = [] }

pub block_opened : (s : State) (f : FuncTree) (l : LabelTree) (g : FuncTree) (c : OpenTree) → block_fault f l ≡ None → g ≡ with_block f l → c ≡ opened_with l → open_block s f l ≡ Ok (entered s (Block g c))
block_opened s f l g c e ge ce =
    ap (λ o. unless o (entered s (Block (with_block f l) (opened_with l)))) e
    ∙ ap (λ g. Ok (entered s (Block g (opened_with l)))) (sym ge)
    ∙ ap (λ c. Ok (entered s (Block g c))) (sym ce)

abbrev pub declared_with : State → List (List ℕ) → List VarRecord → ℕ → State
declared_with s ns vs w = record s { names = ns; vars = vs; window = w }

abbrev pub var_of : State → VarTree → VarRecord
var_of s v = record { name = length s.names; size = v.size; bytes = padded v.size (pairs v.hex) }

pub var_declared : (s : State) (v : VarTree) (ns : List (List ℕ)) (vs : List VarRecord) (w : ℕ) → var_fault s v ≡ None → ns ≡ s.names ++ v.name ∷ [] → vs ≡ s.vars ++ var_of s v ∷ [] → w ≡ next_window s.window v.size → declare_var s v ≡ Ok (declared_with s ns vs w)
var_declared s v ns vs w e ne ve we =
    ap (λ o. unless o (with_var s v)) e
    ∙ ap (λ ns. Ok (declared_with s ns (s.vars ++ var_of s v ∷ []) (next_window s.window v.size))) (sym ne)
    ∙ ap (λ vs. Ok (declared_with s ns vs (next_window s.window v.size))) (sym ve)
    ∙ ap (λ w. Ok (declared_with s ns vs w)) (sym we)

-- what a function and a block are with one more value

abbrev pub func_tree : ℕ → List (List ℕ) → SigRecord → List BlockTree → List ℕ → List ℕ → FuncTree
func_tree name parameters sig blocks values ids = record { name = name; parameters = parameters; sig = sig; blocks = blocks; value_ids = values; block_ids = ids }

pub value_numbered : (f : FuncTree) (v : ValueTree) (name : ℕ) (parameters : List (List ℕ)) (sig : SigRecord) (blocks : List BlockTree) (values ids more : List ℕ) (id : ℕ) → func_tree name parameters sig blocks values ids ≡ f → more ≡ values ++ id ∷ [] → id ≡ v.id → func_tree name parameters sig blocks more ids ≡ with_value f v
value_numbered f v name parameters sig blocks values ids more id h e g =
    ap (λ ns. func_tree name parameters sig blocks ns ids) (e ∙ ap (λ n. values ++ n ∷ []) g) ∙ ap (λ (t : FuncTree). with_value t v) h

pub block_numbered : (f : FuncTree) (b : LabelTree) (name : ℕ) (parameters : List (List ℕ)) (sig : SigRecord) (blocks : List BlockTree) (values ids more : List ℕ) (id : ℕ) → func_tree name parameters sig blocks values ids ≡ f → more ≡ ids ++ id ∷ [] → id ≡ b.id → func_tree name parameters sig blocks values more ≡ with_block f b
block_numbered f b name parameters sig blocks values ids more id h e g =
    ap (λ ns. func_tree name parameters sig blocks values ns) (e ∙ ap (λ n. ids ++ n ∷ []) g) ∙ ap (λ (t : FuncTree). with_block t b) h

abbrev pub open_tree : LabelTree → List ValueTree → OpenTree
open_tree label values = record { label = label; values = values }

pub value_next : (b : OpenTree) (v : ValueTree) (label : LabelTree) (values more : List ValueTree) (w : ValueTree) → open_tree label values ≡ b → more ≡ values ++ w ∷ [] → w ≡ v → open_tree label more ≡ with_next b v
value_next b v label values more w h e g =
    ap (open_tree label) (e ∙ ap (λ x. values ++ x ∷ []) g) ∙ ap (λ (t : OpenTree). with_next t v) h

abbrev pub var_record : ℕ → ℕ → List ℕ → VarRecord
var_record name size bytes = record { name = name; size = size; bytes = bytes }

pub same_var : (s : State) (v : VarTree) (name size : ℕ) (bytes hex : List ℕ) → name ≡ length s.names → size ≡ v.size → bytes ≡ padded size (pairs hex) → hex ≡ v.hex → var_record name size bytes ≡ var_of s v
same_var s v name size bytes hex n z b h =
    ap (λ k. var_record k size bytes) n
    ∙ ap (λ bs. var_record (length s.names) size bs) (b ∙ ap (λ hs. padded size (pairs hs)) h)
    ∙ ap (λ k. var_record (length s.names) k (padded k (pairs v.hex))) z

-- a function's line, whose parameters differ or do not

abbrev pub named_with : State → List (List ℕ) → State
named_with s ns = record s { names = ns }

pub func_declared : (s : State) (h : HeaderTree) (f : FuncTree) (ns : List (List ℕ)) → header_fault s h ≡ None → opened (length s.names) h ≡ Some f → ns ≡ s.names ++ h.name ∷ [] → declare_func s h ≡ Ok (entered (named_with s ns) (Function f))
func_declared s h f ns e o n =
    ap (λ x. unless_then x (with_func s h (opened (length s.names) h))) e
    ∙ ap (with_func s h) o
    ∙ ap (λ ms. Ok (entered (named_with s ms) (Function f))) (sym n)

pub parameter_again : (s : State) (h : HeaderTree) → header_fault s h ≡ None → opened (length s.names) h ≡ None → declare_func s h ≡ Err Duplicate
parameter_again s h e o =
    ap (λ x. unless_then x (with_func s h (opened (length s.names) h))) e ∙ ap (with_func s h) o

-- the function that a line opens

pub opened_none : (n : ℕ) (h : HeaderTree) → are_fresh [] (parameter_names h) ≡ false → None ≡ opened n h
unfolding opened
opened_none n h e = sym (ap (λ b. cond b (Some (func_tree n (parameter_names h) (record { args = map (λ p. p.ty) h.parameters; results = h.results }) [] [] [])) None) e)

abbrev pub sig_record : List Ty → List Ty → SigRecord
sig_record args results = record { args = args; results = results }

pub opened_some : (n : ℕ) (h : HeaderTree) (names : List (List ℕ)) (args results : List Ty) (blocks : List BlockTree) (values ids : List ℕ)
    → are_fresh [] (parameter_names h) ≡ true → names ≡ parameter_names h → args ≡ map (λ p. p.ty) h.parameters → results ≡ h.results → blocks ≡ [] → values ≡ [] → ids ≡ []
    → Some (func_tree n names (sig_record args results) blocks values ids) ≡ opened n h
unfolding opened
opened_some n h names args results blocks values ids e ne ae re be ve ie =
    ap (λ ns. Some (func_tree n ns (sig_record args results) blocks values ids)) ne
    ∙ ap (λ ts. Some (func_tree n (parameter_names h) (sig_record ts results) blocks values ids)) ae
    ∙ ap (λ ts. Some (func_tree n (parameter_names h) (sig_record (map (λ p. p.ty) h.parameters) ts) blocks values ids)) re
    ∙ ap (λ bs. Some (func_tree n (parameter_names h) (sig_record (map (λ p. p.ty) h.parameters) h.results) bs values ids)) be
    ∙ ap (λ ns. Some (func_tree n (parameter_names h) (sig_record (map (λ p. p.ty) h.parameters) h.results) [] ns ids)) ve
    ∙ ap (λ ns. Some (func_tree n (parameter_names h) (sig_record (map (λ p. p.ty) h.parameters) h.results) [] [] ns)) ie
    ∙ sym (ap (λ b. cond b (Some (func_tree n (parameter_names h) (sig_record (map (λ p. p.ty) h.parameters) h.results) [] [] [])) None) e)

-- a line that is read at a stage, which it leaves

pub read_at : (s : State) (line : List ℕ) (stage : Stage) → has_control line ≡ false → s.stage ≡ stage → read_line s line ≡ at_stage s stage line
unfolding read_line
read_at s line stage h e = ap (λ b. cond b (Err Syntax) (at_stage s s.stage line)) h ∙ ap (λ x. at_stage s x line) e

pub behind_any : (s : State) (stage : Stage) (f : FuncTree) (line : List ℕ) → read_behind (entered s stage) f line ≡ read_behind s f line
unfolding read_behind
behind_any s stage f line = refl

pub inside_any : (s : State) (stage : Stage) (f : FuncTree) (b : OpenTree) (line : List ℕ) → read_inside (entered s stage) f b line ≡ read_inside s f b line
unfolding read_inside
inside_any s stage f b line = refl
