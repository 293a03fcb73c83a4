-- Lines that differ only in what no test looks at go through the reader alike.
use Rattle.std.proofs.Common.{◌≡◌, ℕ, ◌+◌, List, [], ◌∷◌, ◌++◌, length, ap, ◌∙◌, sym, refl, subst, Bool, true, false, cond, Option, Some, None}
use Rattle.std.specs.Prelude.{Result, Ok, Err, not, nat_lt, nat_le, ◌&&◌}
use Rattle.std.specs.List.{AllZip}
use Rattle.std.proofs.lemmas.List.{length-append}
use Rattle.bk_dump.specs.declared.read.errors.Which.TheVariants as which
use Rattle.bk_dump.specs.declared.read.errors.Fault.{Fault}
use Rattle.bk_dump.specs.declared.read.errors.Fault.TheVariants.{Syntax, Limit, Duplicate}
use Rattle.bk_dump.specs.declared.read.draft.Stage.{Stage}
use Rattle.bk_dump.specs.declared.read.draft.Stage.TheVariants.{Between, Function, Block}
use Rattle.bk_dump.specs.Trees.{ValueTree, LabelTree, EndTree, VarTree, HeaderTree, OpenTree, FuncTree}
use Rattle.bk_dump.specs.Drafts.{State, entered, is_number, are_numbers, declares, is_taken, next_window, unless, unless_then, value_fault, with_value, with_next, add_value, with_end, end_fault, end_block, with_var, var_fault, declare_var, are_fresh, parameter_names, opened, header_fault, with_func, declare_func, closed, has_block, block_fault, with_block, open_block, finished_at, finished, at_start}
use Rattle.bk_dump_laws.specs.Declarations.{Line, var_line, func_line, block_line, value_line, end_line, declared_func}
use Rattle.bk_dump_laws.proofs.Declaring.{unless_ok, then_ok, with_open, func_opened}
use Rattle.bk_dump_laws.proofs.Running.{declared_line, behind_line, inside_line, line_at, go_on, run}
use Rattle.bk_dump_laws.proofs.Steps.{unless_none, then_none, new_var, fresh_block, guarded, went_on}

-- what tests look at in an open function
pub record SameFunc (f g : FuncTree) : Type 0 where
  pub values : g.value_ids ≡ f.value_ids
  pub ids : g.block_ids ≡ f.block_ids
  pub count : length g.blocks ≡ length f.blocks

abbrev pub SameStage : Stage → Stage → Type 0
SameStage Between y = y ≡ Between
SameStage (Function f) y = (g : FuncTree) × (y ≡ Function g) × SameFunc f g
SameStage (Block f b) y = (g : FuncTree) × (c : OpenTree) × (y ≡ Block g c) × SameFunc f g

-- and in a state
pub record SameRest (s t : State) : Type 0 where
  pub names : t.names ≡ s.names
  pub funcs : length t.funcs ≡ length s.funcs
  pub vars : length t.vars ≡ length s.vars
  pub window : t.window ≡ s.window

pub record SameState (s t : State) : Type 0 where
  pub rest : SameRest s t
  pub stage : SameStage s.stage t.stage

-- and in a line
pub record SameHeader (h g : HeaderTree) : Type 0 where
  pub name : g.name ≡ h.name
  pub parameters : length g.parameters ≡ length h.parameters
  pub results : length g.results ≡ length h.results
  pub fresh : are_fresh [] (parameter_names g) ≡ true

abbrev pub SameLine : Line → Line → Type 0
SameLine (var_line v) m = (w : VarTree) × (m ≡ var_line w) × (w.name ≡ v.name) × (w.size ≡ v.size)
SameLine (func_line h) m = (g : HeaderTree) × (m ≡ func_line g) × SameHeader h g
SameLine (block_line b) m = m ≡ block_line b
SameLine (value_line v) m = (w : ValueTree) × (m ≡ value_line w) × (w.id ≡ v.id) × (w.args ≡ v.args)
SameLine (end_line e) m = m ≡ end_line e

-- the same step leaves the same
abbrev pub Follows : State → Result State Fault → Type 0
Follows u r = (w : State) × (r ≡ Ok w) × SameState u w

follows_as : (u v : State) (q r : Result State Fault) → u ≡ v → q ≡ r → Follows u q → Follows v r
follows_as u v q r e g f = subst (λ x. Follows x r) e (subst (Follows u) g f)

-- Tests that look at the same find the same.

abbrev three_tests : Bool → Bool → Bool → Fault → Fault → Option Fault
three_tests a b c x y = cond a (Some x) (cond b (Some y) (cond c (Some Duplicate) None))

var_tests : (s t : State) (v w : VarTree) → SameRest s t → w.name ≡ v.name → w.size ≡ v.size → var_fault t w ≡ var_fault s v
unfolding var_fault
var_tests s t v w k n z =
    ap (λ m. three_tests (nat_le 4096 m) (nat_lt 1048576 (t.window + w.size)) (is_taken t.names w.name) (Limit which.Variables) (Limit which.Window)) k.vars
    ∙ ap (λ m. three_tests (nat_le 4096 (length s.vars)) (nat_lt 1048576 m) (is_taken t.names w.name) (Limit which.Variables) (Limit which.Window)) (ap (λ m. m + w.size) k.window ∙ ap (λ m. s.window + m) z)
    ∙ ap (λ b. three_tests (nat_le 4096 (length s.vars)) (nat_lt 1048576 (s.window + v.size)) b (Limit which.Variables) (Limit which.Window)) (ap (λ ns. is_taken ns w.name) k.names ∙ ap (is_taken s.names) n)

header_tests : (s t : State) (h g : HeaderTree) → SameRest s t → SameHeader h g → header_fault t g ≡ header_fault s h
unfolding header_fault
header_tests s t h g k e =
    ap (λ m. three_tests (nat_le 4096 m) (nat_lt 64 (length g.parameters + length g.results)) (is_taken t.names g.name) (Limit which.Functions) (Limit which.Signature)) k.funcs
    ∙ ap (λ m. three_tests (nat_le 4096 (length s.funcs)) (nat_lt 64 m) (is_taken t.names g.name) (Limit which.Functions) (Limit which.Signature)) (ap (λ m. m + length g.results) e.parameters ∙ ap (λ m. length h.parameters + m) e.results)
    ∙ ap (λ b. three_tests (nat_le 4096 (length s.funcs)) (nat_lt 64 (length h.parameters + length h.results)) b (Limit which.Functions) (Limit which.Signature)) (ap (λ ns. is_taken ns g.name) k.names ∙ ap (is_taken s.names) e.name)

value_tests : (f g : FuncTree) (v w : ValueTree) → SameFunc f g → w.id ≡ v.id → w.args ≡ v.args → value_fault g w ≡ value_fault f v
unfolding value_fault
value_tests f g v w k i a =
    ap (λ ids. three_tests (nat_le 16384 (length ids)) (not (is_number w.id && are_numbers w.args)) (declares ids w.id) (Limit which.Values) (Limit which.Numbers)) k.values
    ∙ ap (λ n. three_tests (nat_le 16384 (length f.value_ids)) (not (is_number n && are_numbers w.args)) (declares f.value_ids n) (Limit which.Values) (Limit which.Numbers)) i
    ∙ ap (λ ns. three_tests (nat_le 16384 (length f.value_ids)) (not (is_number v.id && are_numbers ns)) (declares f.value_ids v.id) (Limit which.Values) (Limit which.Numbers)) a

block_tests : (f g : FuncTree) (b : LabelTree) → SameFunc f g → block_fault g b ≡ block_fault f b
unfolding block_fault
block_tests f g b k = ap (λ ids. three_tests (nat_le 4096 (length ids)) (not (is_number b.id && are_numbers b.preds)) (declares ids b.id) (Limit which.Blocks) (Limit which.Numbers)) k.ids

blocks_tests : (f g : FuncTree) → SameFunc f g → has_block g ≡ has_block f
blocks_tests f g k = ap (nat_lt 0) k.count

unless_goes : (o p : Option Fault) (x : State) → p ≡ o → o ≡ None → unless p x ≡ Ok x
unless_goes o p x e h = ap (λ q. unless q x) (e ∙ h)

-- Declarations.

var_rest : (s t : State) (v w : VarTree) → SameRest s t → w.name ≡ v.name → w.size ≡ v.size → SameRest (with_var s v) (with_var t w)
var_rest s t v w k n z = record {
  names = ap (λ ns. ns ++ w.name ∷ []) k.names ∙ ap (λ m. s.names ++ m ∷ []) n;
  funcs = k.funcs;
  vars = length-append t.vars (new_var t w ∷ []) ∙ ap (λ m. m + 1) k.vars ∙ sym (length-append s.vars (new_var s v ∷ []));
  window = ap (λ m. next_window m w.size) k.window ∙ ap (next_window s.window) z;
}

var_follows : (s t u : State) (v w : VarTree) → SameState s t → w.name ≡ v.name → w.size ≡ v.size → declare_var s v ≡ Ok u → Follows u (declare_var t w)
var_follows s t u v w k n z g =
    let none = unless_none (var_fault s v) (with_var s v) u g in
    let here : Follows (with_var s v) (declare_var t w) = (
      with_var t w,
      unless_goes (var_fault s v) (var_fault t w) (with_var t w) (var_tests s t v w k.rest n z) none,
      record { rest = var_rest s t v w k.rest n z; stage = k.stage },
    ) in
    subst (λ x. Follows x (declare_var t w)) (unless_ok (var_fault s v) (with_var s v) u g) here

opened_fresh : (n : ℕ) (h : HeaderTree) → are_fresh [] (parameter_names h) ≡ true → opened n h ≡ Some (declared_func n h [])
unfolding opened
opened_fresh n h e = ap (λ b. cond b (Some (declared_func n h [])) None) e

header_rest : (s t : State) (h g : HeaderTree) (x y : Stage) → SameRest s t → g.name ≡ h.name → SameRest (record s { names = s.names ++ h.name ∷ []; stage = x }) (record t { names = t.names ++ g.name ∷ []; stage = y })
header_rest s t h g x y k n = record {
  names = ap (λ ns. ns ++ g.name ∷ []) k.names ∙ ap (λ m. s.names ++ m ∷ []) n;
  funcs = k.funcs;
  vars = k.vars;
  window = k.window;
}

opens_same : (n m : ℕ) (h g : HeaderTree) (f : FuncTree) → declared_func n h [] ≡ f → SameFunc f (declared_func m g [])
opens_same n m h g f e = subst (λ x. SameFunc x (declared_func m g [])) e (record { values = refl; ids = refl; count = refl })

opened_follows : (s t u : State) (h g : HeaderTree) (o : Option FuncTree) → opened (length s.names) h ≡ o → SameRest s t → SameHeader h g → with_func s h o ≡ Ok u → Follows u (with_func t g (opened (length t.names) g))
opened_follows s t u h g None q k e x = absurd (cc)
opened_follows s t u h g (Some f) q k e x =
    let new = declared_func (length t.names) g [] in
    let same : with_open s h f ≡ u = cc in
    let here : Follows (with_open s h f) (with_func t g (opened (length t.names) g)) = (
      with_open t g new,
      ap (with_func t g) (opened_fresh (length t.names) g e.fresh),
      record { rest = header_rest s t h g (Function f) (Function new) k e.name; stage = (new, refl, opens_same (length s.names) (length t.names) h g f (func_opened (length s.names) h f q)) },
    ) in
    subst (λ y. Follows y (with_func t g (opened (length t.names) g))) same here

func_follows : (s t u : State) (h g : HeaderTree) → SameState s t → SameHeader h g → declare_func s h ≡ Ok u → Follows u (declare_func t g)
func_follows s t u h g k e x =
    let o = with_func s h (opened (length s.names) h) in
    let none = then_none (header_fault s h) o u x in
    let goes : declare_func t g ≡ with_func t g (opened (length t.names) g) = ap (λ p. unless_then p (with_func t g (opened (length t.names) g))) (header_tests s t h g k.rest e ∙ none) in
    subst (Follows u) (sym goes) (opened_follows s t u h g (opened (length s.names) h) refl k.rest e (then_ok (header_fault s h) o u x))

closed_same : (s t : State) (f g : FuncTree) → SameRest s t → SameState (closed s f) (closed t g)
closed_same s t f g k = record {
  rest = record {
    names = k.names;
    funcs = length-append t.funcs (g ∷ []) ∙ ap (λ m. m + 1) k.funcs ∙ sym (length-append s.funcs (f ∷ []));
    vars = k.vars;
    window = k.window;
  };
  stage = refl;
}

pub guard_holds : (b : Bool) (r : Result State Fault) (t : State) → cond b r (Err Syntax) ≡ Ok t → b ≡ true
guard_holds true r t h = refl
guard_holds false r t h = absurd (cc)

guard_follows : (u : State) (b : Bool) (r : Result State Fault) → b ≡ true → Follows u r → Follows u (cond b r (Err Syntax))
guard_follows u b r e f = subst (λ c. Follows u (cond c r (Err Syntax))) (sym e) f

-- Lines.

between_follows : (s t u : State) (l m : Line) → SameState s t → SameLine l m → declared_line s l ≡ Ok u → Follows u (declared_line t m)
between_follows s t u (var_line v) m k (w, e, n, z) x = subst (λ i. Follows u (declared_line t i)) (sym e) (var_follows s t u v w k n z x)
between_follows s t u (func_line h) m k (g, e, same) x = subst (λ i. Follows u (declared_line t i)) (sym e) (func_follows s t u h g k same x)
between_follows s t u (block_line b) m k e x = absurd (cc)
between_follows s t u (value_line v) m k e x = absurd (cc)
between_follows s t u (end_line d) m k e x = absurd (cc)

block_same : (s t : State) (f g : FuncTree) (b : LabelTree) → SameRest s t → SameFunc f g → SameState (entered s (Block (with_block f b) (fresh_block b))) (entered t (Block (with_block g b) (fresh_block b)))
block_same s t f g b k e = record {
  rest = record { names = k.names; funcs = k.funcs; vars = k.vars; window = k.window };
  stage = (with_block g b, fresh_block b, refl, record { values = e.values; ids = ap (λ ids. ids ++ b.id ∷ []) e.ids; count = e.count });
}

block_follows : (s t u : State) (f g : FuncTree) (b : LabelTree) → SameRest s t → SameFunc f g → open_block s f b ≡ Ok u → Follows u (open_block t g b)
block_follows s t u f g b k e x =
    let next = entered s (Block (with_block f b) (fresh_block b)) in
    let last = entered t (Block (with_block g b) (fresh_block b)) in
    let here : Follows next (open_block t g b) = (
      last,
      unless_goes (block_fault f b) (block_fault g b) last (block_tests f g b e) (unless_none (block_fault f b) next u x),
      block_same s t f g b k e,
    ) in
    subst (λ y. Follows y (open_block t g b)) (unless_ok (block_fault f b) next u x) here

behind_follows : (s t u : State) (f g : FuncTree) (l m : Line) → SameRest s t → SameFunc f g → SameLine l m → behind_line s f l ≡ Ok u → Follows u (behind_line t g m)
behind_follows s t u f g (block_line b) m k e i x = subst (λ j. Follows u (behind_line t g j)) (sym i) (block_follows s t u f g b k e x)
behind_follows s t u f g (var_line v) m k e (w, i, n, z) x =
    let r = declare_var (closed s f) v in
    let has = blocks_tests f g e ∙ guard_holds (has_block f) r u x in
    subst (λ j. Follows u (behind_line t g j)) (sym i)
    (guard_follows u (has_block g) (declare_var (closed t g) w) has (var_follows (closed s f) (closed t g) u v w (closed_same s t f g k) n z (guarded (has_block f) r u x)))
behind_follows s t u f g (func_line h) m k e (d, i, same) x =
    let r = declare_func (closed s f) h in
    let has = blocks_tests f g e ∙ guard_holds (has_block f) r u x in
    subst (λ j. Follows u (behind_line t g j)) (sym i)
    (guard_follows u (has_block g) (declare_func (closed t g) d) has (func_follows (closed s f) (closed t g) u h d (closed_same s t f g k) same (guarded (has_block f) r u x)))
behind_follows s t u f g (value_line v) m k e i x = absurd (cc)
behind_follows s t u f g (end_line d) m k e i x = absurd (cc)

value_follows : (s t u : State) (f g : FuncTree) (b c : OpenTree) (v w : ValueTree) → SameRest s t → SameFunc f g → w.id ≡ v.id → w.args ≡ v.args → add_value s f b v ≡ Ok u → Follows u (add_value t g c w)
value_follows s t u f g b c v w k e i a x =
    let next = entered s (Block (with_value f v) (with_next b v)) in
    let last = entered t (Block (with_value g w) (with_next c w)) in
    let ids : g.value_ids ++ w.id ∷ [] ≡ f.value_ids ++ v.id ∷ [] = ap (λ ids. ids ++ w.id ∷ []) e.values ∙ ap (λ n. f.value_ids ++ n ∷ []) i in
    let here : Follows next (add_value t g c w) = (
      last,
      unless_goes (value_fault f v) (value_fault g w) last (value_tests f g v w e i a) (unless_none (value_fault f v) next u x),
      record { rest = record { names = k.names; funcs = k.funcs; vars = k.vars; window = k.window }; stage = (with_value g w, with_next c w, refl, record { values = ids; ids = e.ids; count = e.count }) },
    ) in
    subst (λ y. Follows y (add_value t g c w)) (unless_ok (value_fault f v) next u x) here

one_more : (f g : FuncTree) (b c : OpenTree) (e : EndTree) → length g.blocks ≡ length f.blocks → length (with_end g c e).blocks ≡ length (with_end f b e).blocks
one_more f g b c e h =
    length-append g.blocks (record { label = c.label; values = c.values; end = e } ∷ []) ∙ ap (λ m. m + 1) h ∙ sym (length-append f.blocks (record { label = b.label; values = b.values; end = e } ∷ []))

end_follows : (s t u : State) (f g : FuncTree) (b c : OpenTree) (d : EndTree) → SameRest s t → SameFunc f g → end_block s f b d ≡ Ok u → Follows u (end_block t g c d)
end_follows s t u f g b c d k e x =
    let next = entered s (Function (with_end f b d)) in
    let last = entered t (Function (with_end g c d)) in
    let here : Follows next (end_block t g c d) = (
      last,
      unless_goes (end_fault d) (end_fault d) last refl (unless_none (end_fault d) next u x),
      record { rest = record { names = k.names; funcs = k.funcs; vars = k.vars; window = k.window }; stage = (with_end g c d, refl, record { values = e.values; ids = e.ids; count = one_more f g b c d e.count }) },
    ) in
    subst (λ y. Follows y (end_block t g c d)) (unless_ok (end_fault d) next u x) here

inside_follows : (s t u : State) (f g : FuncTree) (b c : OpenTree) (l m : Line) → SameRest s t → SameFunc f g → SameLine l m → inside_line s f b l ≡ Ok u → Follows u (inside_line t g c m)
inside_follows s t u f g b c (value_line v) m k e (w, i, n, a) x = subst (λ j. Follows u (inside_line t g c j)) (sym i) (value_follows s t u f g b c v w k e n a x)
inside_follows s t u f g b c (end_line d) m k e i x = subst (λ j. Follows u (inside_line t g c j)) (sym i) (end_follows s t u f g b c d k e x)
inside_follows s t u f g b c (var_line v) m k e i x = absurd (cc)
inside_follows s t u f g b c (func_line h) m k e i x = absurd (cc)
inside_follows s t u f g b c (block_line d) m k e i x = absurd (cc)

line_follows : (s t u : State) (y : Stage) (l m : Line) → s.stage ≡ y → SameState s t → SameLine l m → line_at s y l ≡ Ok u → Follows u (line_at t t.stage m)
line_follows s t u Between l m e k i x =
    let at = subst (λ z. SameStage z t.stage) e k.stage in
    subst (λ z. Follows u (line_at t z m)) (sym at) (between_follows s t u l m k i x)
line_follows s t u (Function f) l m e k i x =
    let at = subst (λ z. SameStage z t.stage) e k.stage in
    subst (λ z. Follows u (line_at t z m)) (sym at.1) (behind_follows s t u f at.0 l m k.rest at.2 i x)
line_follows s t u (Block f b) l m e k i x =
    let at = subst (λ z. SameStage z t.stage) e k.stage in
    subst (λ z. Follows u (line_at t z m)) (sym at.2) (inside_follows s t u f at.0 b at.1 l m k.rest at.3 i x)

-- All lines.

ended_follows : (s t u : State) (y : Stage) → s.stage ≡ y → SameState s t → finished_at s y ≡ Ok u → Follows u (finished_at t t.stage)
ended_follows s t u Between e k x =
    let at = subst (λ z. SameStage z t.stage) e k.stage in
    let same : s ≡ u = cc in
    subst (λ z. Follows u (finished_at t z)) (sym at) (subst (λ y. Follows y (Ok t)) same (t, refl, k))
ended_follows s t u (Function f) e k x =
    let at = subst (λ z. SameStage z t.stage) e k.stage in
    let has = blocks_tests f at.0 at.2 ∙ guard_holds (has_block f) (Ok (closed s f)) u x in
    let whole = guarded (has_block f) (Ok (closed s f)) u x in
    let same : closed s f ≡ u = cc in
    let here : Follows (closed s f) (Ok (closed t at.0)) = (closed t at.0, refl, closed_same s t f at.0 k.rest) in
    subst (λ z. Follows u (finished_at t z)) (sym at.1) (guard_follows u (has_block at.0) (Ok (closed t at.0)) has (subst (λ y. Follows y (Ok (closed t at.0))) same here))
ended_follows s t u (Block f b) e k x = absurd (cc)

step_follows : (u : State) (r : Result State Fault) (f : State → Result State Fault) → (w : State) → r ≡ Ok w → Follows u (f w) → Follows u (go_on r f)
step_follows u r f w e k = subst (λ q. Follows u (go_on q f)) (sym e) k

pub run_follows : (s t u : State) (ls ms : List Line) → SameState s t → AllZip SameLine ls ms → run s ls ≡ Ok u → Follows u (run t ms)
unfolding run finished
run_follows s t u [] [] k z x = ended_follows s t u s.stage refl k x
run_follows s t u [] (m ∷ ms) k z x = absurd z
run_follows s t u (l ∷ ls) [] k z x = absurd z
run_follows s t u (l ∷ ls) (m ∷ ms) k z x =
    let on = went_on (line_at s s.stage l) (λ v. run v ls) u x in
    let next = line_follows s t on.0 s.stage l m refl k z.0 on.1 in
    step_follows u (line_at t t.stage m) (λ v. run v ms) next.0 next.1 (run_follows on.0 next.0 u ls ms next.2 z.1 on.2)

pub same_start : SameState at_start at_start
same_start = record { rest = record { names = refl; funcs = refl; vars = refl; window = refl }; stage = refl }
