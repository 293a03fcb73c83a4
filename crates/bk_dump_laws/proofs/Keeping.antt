-- The reader goes through declarations exactly where they keep the limits of a text.
use Rattle.std.proofs.Common.{◌≡◌, ◌≢◌, ℕ, suc, ◌+◌, ◌<◌, ◌≤◌, List, [], ◌∷◌, ◌++◌, length, map, ap, ◌∙◌, sym, refl, subst, arith, append_assoc, append-nil, get_or, Bool, true, false, cond, Option, Some, None}
use Rattle.std.specs.Prelude.{Result, Ok, All, not, nat_lt, nat_le, ◌&&◌, ◌||◌, ◌==◌, IfSome}
use Rattle.std.specs.Bool.{Decides}
use Rattle.std.specs.List.{AllPairs, list_any}
use Rattle.std.specs.Str.{bytes_eq}
use Rattle.std.proofs.lemmas.Bool.{eqb-true, eq-eqb}
use Rattle.std.proofs.lemmas.Bool.Decides.{nat_tests}
use Rattle.std.proofs.lemmas.List.{length-append, get_or_append_left}
use Rattle.std.proofs.lemmas.List.Elements.{All-nil, All-cons, All-head, All-tail}
use Rattle.std.proofs.lemmas.List.Folds.{list_any_at, list_any_none}
use Rattle.std.proofs.lemmas.List.Quantifiers.{all_pairs_push}
use Rattle.std.proofs.lemmas.Slice.Eq.{bytes_eq-Decides}
use Rattle.bk_dump.specs.declared.read.errors.Which.TheVariants as which
use Rattle.bk_dump.specs.declared.read.errors.Fault.{Fault}
use Rattle.bk_dump.specs.declared.read.errors.Fault.TheVariants.{Limit}
use Rattle.bk_dump.specs.declared.read.draft.Stage.TheVariants.{Between, Function, Block}
use Rattle.bk_dump.specs.Trees.{ValueTree, LabelTree, EndTree, VarTree, HeaderTree, OpenTree, BlockTree, FuncTree}
use Rattle.bk_dump.specs.Drafts.{State, entered, is_number, are_numbers, declares, control_is_number, is_reserved, is_declared, is_taken, unless, unless_then, value_fault, with_value, with_next, add_value, with_end, end_fault, end_block, with_var, var_fault, are_fresh, parameter_names, opened, header_fault, with_func, declare_func, block_fault, with_block, open_block, finished_at, finished, at_start}
use Rattle.bk_func.specs.Records.{PackageRecord}
use Rattle.bk_dump.specs.Resolved.{package_of}
use Rattle.bk_dump.specs.Texts.{reading}
use Rattle.bk_dump_laws.specs.Declarations.{Line, var_line, func_line, block_line, value_line, end_line, Declaration, variable, function, lines_of_blocks, lines_of_all, IsWhole, names_of_all, value_ids, block_ids, declared_func, funcs_from, vars_from}
use Rattle.bk_dump_laws.specs.Limits.{IsNumber, AreNumbers, HasNumbers, KeepsFunction, Keeps, func_count, var_count, KeepsWindow, KeepsLimits, SpellsPackage}
use Rattle.bk_dump_laws.proofs.Declaring.{unless_ok, then_ok}
use Rattle.bk_dump_laws.proofs.Expecting.{whole_tail, whole_head}
use Rattle.bk_dump.proofs.Faults.{first, middle, third}
use Rattle.bk_dump_laws.proofs.Running.{line_at, go_on, run, text_declares, reads_declared}
use Rattle.bk_dump_laws.proofs.Steps.{unless_none, then_none, new_var, fresh_block, went_on}
use Rattle.bk_dump_laws.proofs.Leaving.{values_to, more_values, block_to, blocks_to, block_is, func_to, values_run, label_run, end_run, regrouped, blocks_run, close_run, named, closed_with, leaves, id_of, some_blocks, opened_run, Left, run_leaves}

-- Elements that are new.

-- none is one of those before it
abbrev New : {A : Type 0} → (A → A → Bool) → List A → List A → Type 0
New eq seen [] = Unit {0}
New eq seen (x ∷ xs) = (list_any (λ y. eq x y) seen ≡ false) × New eq (seen ++ x ∷ []) xs

abbrev Apart : {A : Type 0} → List A → Type 0
Apart {A} xs = AllPairs (λ (a b : A). a ≢ b) xs

abbrev Tells : {A : Type 0} → (A → A → Bool) → Type 0
Tells {A} eq = (a b : A) → Decides (eq a b) (a ≡ b)

new_apart : {A : Type 0} (eq : A → A → Bool) → Tells eq → (seen xs : List A) → Apart seen → New eq seen xs → Apart (seen ++ xs)
new_apart eq d seen [] h n = subst Apart (sym (append-nil seen)) h
new_apart {A} eq d seen (x ∷ xs) h n =
    let other : (k : ℕ) (e : A) → k < length seen → get_or seen k e ≢ x = λ k e l. λ same.
    let f = n.0 in
    let t = list_any_at (λ y. eq x y) seen k e l ((d x (get_or seen k e)).1 (sym same)) in cc in
    subst Apart (append_assoc seen (x ∷ []) xs) (new_apart eq d (seen ++ x ∷ []) xs (all_pairs_push (λ a b. a ≢ b) seen x h other) n.1)

not_true : (b : Bool) → (b ≡ true → ⊥) → b ≡ false
not_true true h = absurd (h refl)
not_true false h = refl

at_seam : {A : Type 0} (xs ys : List A) (y e : A) → get_or (xs ++ y ∷ ys) (length xs) e ≡ y
at_seam [] ys y e = refl
at_seam (x ∷ xs) ys y e = at_seam xs ys y e

apart_new : {A : Type 0} (eq : A → A → Bool) → Tells eq → (seen xs : List A) → Apart (seen ++ xs) → New eq seen xs
apart_new eq d seen [] h = tt
apart_new {A} eq d seen (x ∷ xs) h =
    let fails : All (λ y. eq x y ≡ false) seen = λ k e l. not_true (eq x (get_or seen k e)) (λ t.
    let same : x ≡ get_or seen k e = (d x (get_or seen k e)).0 t in
    h k (length seen) e l (omega (arith, length-append seen (x ∷ xs))) (get_or_append_left seen (x ∷ xs) e k l ∙ sym same ∙ sym (at_seam seen xs x e))) in
    (list_any_none (λ y. eq x y) seen fails, apart_new eq d (seen ++ x ∷ []) xs (subst Apart (sym (append_assoc seen (x ∷ []) xs)) h))

new_front : {A : Type 0} (eq : A → A → Bool) (seen xs ys : List A) → New eq seen xs → New eq (seen ++ xs) ys → New eq seen (xs ++ ys)
new_front eq seen [] ys h g = subst (λ s. New eq s ys) (append-nil seen) g
new_front eq seen (x ∷ xs) ys h g = (h.0, new_front eq (seen ++ x ∷ []) xs ys h.1 (subst (λ s. New eq s ys) (sym (append_assoc seen (x ∷ []) xs)) g))

new_parts : {A : Type 0} (eq : A → A → Bool) (seen xs ys : List A) → New eq seen (xs ++ ys) → New eq seen xs × New eq (seen ++ xs) ys
new_parts eq seen [] ys h = (tt, subst (λ s. New eq s ys) (sym (append-nil seen)) h)
new_parts eq seen (x ∷ xs) ys h =
    let more = new_parts eq (seen ++ x ∷ []) xs ys h.1 in
    ((h.0, more.0), subst (λ s. New eq s ys) (append_assoc seen (x ∷ []) xs) more.1)

abbrev same_number : ℕ → ℕ → Bool
same_number a b = a == b

numbers_tell : Tells same_number
numbers_tell a b = (eqb-true a b, eq-eqb a b)

abbrev NewNumbers : List ℕ → List ℕ → Type 0
NewNumbers seen ns = New same_number seen ns

abbrev NewNames : List (List ℕ) → List (List ℕ) → Type 0
NewNames seen ns = New bytes_eq seen ns

-- Tests.

numbered : (n : ℕ) → is_number n ≡ true → IsNumber n
numbered n h = (grind (arith, nat_tests), grind (arith, nat_tests))

is_numbered : (n : ℕ) → IsNumber n → is_number n ≡ true
is_numbered n h = let a = h.0 in let b = h.1 in grind (arith, nat_tests)

both : (a b : Bool) → (a && b) ≡ true → (a ≡ true) × (b ≡ true)
both true b h = (refl, h)
both false b h = absurd (cc)

all_numbered : (ns : List ℕ) → are_numbers ns ≡ true → AreNumbers ns
all_numbered [] h = All-nil IsNumber
all_numbered (n ∷ ns) h = let p = both (is_number n) (are_numbers ns) h in All-cons IsNumber n ns (numbered n p.0) (all_numbered ns p.1)

are_numbered : (ns : List ℕ) → AreNumbers ns → are_numbers ns ≡ true
are_numbered [] h = refl
are_numbered (n ∷ ns) h = ap (λ b. b && are_numbers ns) (is_numbered n (All-head IsNumber n ns h)) ∙ are_numbered ns (All-tail IsNumber n ns h)

under : (m n : ℕ) → nat_le m n ≡ false → n < m
under m n h = grind (arith, nat_tests)

is_under : (m n : ℕ) → n < m → nat_le m n ≡ false
is_under m n h = grind (arith, nat_tests)

within : (m n : ℕ) → nat_lt m n ≡ false → n ≤ m
within m n h = grind (arith, nat_tests)

is_within : (m n : ℕ) → n ≤ m → nat_lt m n ≡ false
is_within m n h = grind (arith, nat_tests)

not_false : (b : Bool) → not b ≡ false → b ≡ true
not_false true h = refl
not_false false h = absurd (cc)

either : (a b : Bool) → (a || b) ≡ false → (a ≡ false) × (b ≡ false)
either true b h = absurd (cc)
either false b h = (refl, h)

neither : (a b : Bool) → a ≡ false → b ≡ false → (a || b) ≡ false
neither a b h g = ap (λ x. x || b) h ∙ g

three_pass : (a b c : Bool) (x y z : Fault) → a ≡ false → b ≡ false → c ≡ false → cond a (Some x) (cond b (Some y) (cond c (Some z) None)) ≡ None
three_pass a b c x y z p q r = ap (λ a. cond a (Some x) (cond b (Some y) (cond c (Some z) None))) p ∙ ap (λ b. cond b (Some y) (cond c (Some z) None)) q ∙ ap (λ c. cond c (Some z) None) r

-- a value, beside the numbers of those before it
pub record NewValue (ids : List ℕ) (v : ValueTree) : Type 0 where
  pub few : length ids < 16384
  pub id : IsNumber v.id
  pub args : AreNumbers v.args
  pub fresh : declares ids v.id ≡ false

value_passes : (f : FuncTree) (v : ValueTree) → value_fault f v ≡ None → NewValue f.value_ids v
unfolding value_fault
value_passes f v h =
    let a = nat_le 16384 (length f.value_ids) in
    let b = not (is_number v.id && are_numbers v.args) in
    let c = declares f.value_ids v.id in
    let p = both (is_number v.id) (are_numbers v.args) (not_false (is_number v.id && are_numbers v.args) (middle a b c _ _ _ h)) in
    record { few = under 16384 (length f.value_ids) (first a b c _ _ _ h); id = numbered v.id p.0; args = all_numbered v.args p.1; fresh = third a b c _ _ _ h }

passes_value : (f : FuncTree) (v : ValueTree) → NewValue f.value_ids v → value_fault f v ≡ None
unfolding value_fault
passes_value f v n =
    let numbers : not (is_number v.id && are_numbers v.args) ≡ false = ap (λ b. not (b && are_numbers v.args)) (is_numbered v.id n.id) ∙ ap not (are_numbered v.args n.args) in
    three_pass (nat_le 16384 (length f.value_ids)) (not (is_number v.id && are_numbers v.args)) (declares f.value_ids v.id) _ _ _ (is_under 16384 (length f.value_ids) n.few) numbers n.fresh

pub record NewBlock (ids : List ℕ) (b : LabelTree) : Type 0 where
  pub few : length ids < 4096
  pub id : IsNumber b.id
  pub preds : AreNumbers b.preds
  pub fresh : declares ids b.id ≡ false

block_passes : (f : FuncTree) (b : LabelTree) → block_fault f b ≡ None → NewBlock f.block_ids b
unfolding block_fault
block_passes f b h =
    let x = nat_le 4096 (length f.block_ids) in
    let y = not (is_number b.id && are_numbers b.preds) in
    let z = declares f.block_ids b.id in
    let p = both (is_number b.id) (are_numbers b.preds) (not_false (is_number b.id && are_numbers b.preds) (middle x y z _ _ _ h)) in
    record { few = under 4096 (length f.block_ids) (first x y z _ _ _ h); id = numbered b.id p.0; preds = all_numbered b.preds p.1; fresh = third x y z _ _ _ h }

passes_block : (f : FuncTree) (b : LabelTree) → NewBlock f.block_ids b → block_fault f b ≡ None
unfolding block_fault
passes_block f b n =
    let numbers : not (is_number b.id && are_numbers b.preds) ≡ false = ap (λ c. not (c && are_numbers b.preds)) (is_numbered b.id n.id) ∙ ap not (are_numbered b.preds n.preds) in
    three_pass (nat_le 4096 (length f.block_ids)) (not (is_number b.id && are_numbers b.preds)) (declares f.block_ids b.id) _ _ _ (is_under 4096 (length f.block_ids) n.few) numbers n.fresh

pub record EndNumbers (e : EndTree) : Type 0 where
  pub control : IfSome e.control IsNumber
  pub succs : AreNumbers e.succs

control_numbered : (o : Option ℕ) → control_is_number o ≡ true → IfSome o IsNumber
control_numbered None h = tt
control_numbered (Some n) h = numbered n h

is_control_numbered : (o : Option ℕ) → IfSome o IsNumber → control_is_number o ≡ true
is_control_numbered None h = refl
is_control_numbered (Some n) h = is_numbered n h

chosen : (b : Bool) (f : Fault) → cond b None (Some f) ≡ None → b ≡ true
chosen true f h = refl
chosen false f h = absurd (cc)

end_passes : (e : EndTree) → end_fault e ≡ None → EndNumbers e
unfolding end_fault
end_passes e h =
    let p = both (control_is_number e.control) (are_numbers e.succs) (chosen (control_is_number e.control && are_numbers e.succs) _ h) in
    record { control = control_numbered e.control p.0; succs = all_numbered e.succs p.1 }

passes_end : (e : EndTree) → EndNumbers e → end_fault e ≡ None
unfolding end_fault
passes_end e n =
    ap (λ b. cond b None (Some (Limit which.Numbers))) (ap (λ b. b && are_numbers e.succs) (is_control_numbered e.control n.control) ∙ are_numbered e.succs n.succs)

pub record NewVar (s : State) (v : VarTree) : Type 0 where
  pub few : length s.vars < 4096
  pub window : s.window + v.size ≤ 1048576
  pub free : is_reserved v.name ≡ false
  pub fresh : is_declared s.names v.name ≡ false

var_passes : (s : State) (v : VarTree) → var_fault s v ≡ None → NewVar s v
unfolding var_fault is_taken
var_passes s v h =
    let a = nat_le 4096 (length s.vars) in
    let b = nat_lt 1048576 (s.window + v.size) in
    let c = is_reserved v.name || is_declared s.names v.name in
    let p = either (is_reserved v.name) (is_declared s.names v.name) (third a b c _ _ _ h) in
    record { few = under 4096 (length s.vars) (first a b c _ _ _ h); window = within 1048576 (s.window + v.size) (middle a b c _ _ _ h); free = p.0; fresh = p.1 }

passes_var : (s : State) (v : VarTree) → NewVar s v → var_fault s v ≡ None
unfolding var_fault is_taken
passes_var s v n =
    three_pass (nat_le 4096 (length s.vars)) (nat_lt 1048576 (s.window + v.size)) (is_reserved v.name || is_declared s.names v.name) _ _ _ (is_under 4096 (length s.vars) n.few) (is_within 1048576 (s.window + v.size) n.window)
    (neither (is_reserved v.name) (is_declared s.names v.name) n.free n.fresh)

pub record NewHeader (s : State) (h : HeaderTree) : Type 0 where
  pub few : length s.funcs < 4096
  pub places : length h.parameters + length h.results ≤ 64
  pub free : is_reserved h.name ≡ false
  pub fresh : is_declared s.names h.name ≡ false

header_passes : (s : State) (h : HeaderTree) → header_fault s h ≡ None → NewHeader s h
unfolding header_fault is_taken
header_passes s h e =
    let a = nat_le 4096 (length s.funcs) in
    let b = nat_lt 64 (length h.parameters + length h.results) in
    let c = is_reserved h.name || is_declared s.names h.name in
    let p = either (is_reserved h.name) (is_declared s.names h.name) (third a b c _ _ _ e) in
    record { few = under 4096 (length s.funcs) (first a b c _ _ _ e); places = within 64 (length h.parameters + length h.results) (middle a b c _ _ _ e); free = p.0; fresh = p.1 }

passes_header : (s : State) (h : HeaderTree) → NewHeader s h → header_fault s h ≡ None
unfolding header_fault is_taken
passes_header s h n =
    three_pass (nat_le 4096 (length s.funcs)) (nat_lt 64 (length h.parameters + length h.results)) (is_reserved h.name || is_declared s.names h.name) _ _ _ (is_under 4096 (length s.funcs) n.few) (is_within 64 (length h.parameters + length h.results) n.places)
    (neither (is_reserved h.name) (is_declared s.names h.name) n.free n.fresh)

not_is_true : (b : Bool) → not b ≡ true → b ≡ false
not_is_true true h = absurd (cc)
not_is_true false h = refl

-- parameters, none of which comes again
fresh_new : (seen names : List (List ℕ)) → are_fresh seen names ≡ true → NewNames seen names
fresh_new seen [] h = tt
fresh_new seen (n ∷ names) h =
    let p = both (not (is_declared seen n)) (are_fresh (seen ++ n ∷ []) names) h in
    (not_is_true (is_declared seen n) p.0, fresh_new (seen ++ n ∷ []) names p.1)

new_fresh : (seen names : List (List ℕ)) → NewNames seen names → are_fresh seen names ≡ true
new_fresh seen [] h = refl
new_fresh seen (n ∷ names) h = ap (λ b. not b && are_fresh (seen ++ n ∷ []) names) h.0 ∙ new_fresh (seen ++ n ∷ []) names h.1

-- What the reader asks of declarations, one after the other.

abbrev AsksValues : FuncTree → List ValueTree → Type 0
AsksValues f [] = Unit {0}
AsksValues f (v ∷ vs) = NewValue f.value_ids v × AsksValues (with_value f v) vs

abbrev AsksBlocks : FuncTree → List BlockTree → Type 0
AsksBlocks f [] = Unit {0}
AsksBlocks f (b ∷ bs) = NewBlock f.block_ids b.label × AsksValues (with_block f b.label) b.values × EndNumbers b.end × AsksBlocks (block_to f b) bs

abbrev Asks : State → List Declaration → Type 0
Asks s [] = Unit {0}
Asks s ((variable v) ∷ ds) = NewVar s v × Asks (with_var s v) ds
Asks s ((function h bs) ∷ ds) = NewHeader s h × NewNames [] (parameter_names h) × AsksBlocks (declared_func (length s.names) h []) bs × Asks (closed_with s h bs) ds

-- the reader goes through them where it asks this

unless_none_goes : (o : Option Fault) (u : State) (k : State → Result State Fault) → o ≡ None → go_on (unless o u) k ≡ k u
unless_none_goes o u k h = ap (λ p. go_on (unless p u) k) h

values_go : (s : State) (f : FuncTree) (b : OpenTree) (vs : List ValueTree) (rest : List Line) → AsksValues f vs → run (entered s (Block f b)) (map value_line vs ++ rest) ≡ run (entered s (Block (values_to f vs) (more_values b vs))) rest
unfolding run
values_go s f b [] rest a = refl
values_go s f b (v ∷ vs) rest a =
    unless_none_goes (value_fault f v) (entered s (Block (with_value f v) (with_next b v))) (λ u. run u (map value_line vs ++ rest)) (passes_value f v a.0)
    ∙ values_go s (with_value f v) (with_next b v) vs rest a.1

label_goes : (s : State) (f : FuncTree) (l : LabelTree) (rest : List Line) → NewBlock f.block_ids l → run (entered s (Function f)) (block_line l ∷ rest) ≡ run (entered s (Block (with_block f l) (fresh_block l))) rest
unfolding run
label_goes s f l rest n = unless_none_goes (block_fault f l) (entered s (Block (with_block f l) (fresh_block l))) (λ u. run u rest) (passes_block f l n)

end_goes : (s : State) (f : FuncTree) (b : OpenTree) (e : EndTree) (rest : List Line) → EndNumbers e → run (entered s (Block f b)) (end_line e ∷ rest) ≡ run (entered s (Function (with_end f b e))) rest
unfolding run
end_goes s f b e rest n = unless_none_goes (end_fault e) (entered s (Function (with_end f b e))) (λ u. run u rest) (passes_end e n)

blocks_go : (s : State) (f : FuncTree) (bs : List BlockTree) (rest : List Line) → AsksBlocks f bs → run (entered s (Function f)) (lines_of_blocks bs ++ rest) ≡ run (entered s (Function (blocks_to f bs))) rest
blocks_go s f [] rest a = refl
blocks_go s f (b ∷ bs) rest a =
    let g = with_block f b.label in
    let tail = ((map value_line b.values ++ end_line b.end ∷ []) ++ lines_of_blocks bs) ++ rest in
    let behind = end_line b.end ∷ (lines_of_blocks bs ++ rest) in
    label_goes s f b.label tail a.0
    ∙ ap (run (entered s (Block g (fresh_block b.label)))) (regrouped b (lines_of_blocks bs) rest)
    ∙ values_go s g (fresh_block b.label) b.values behind a.1
    ∙ end_goes s (values_to g b.values) (more_values (fresh_block b.label) b.values) b.end (lines_of_blocks bs ++ rest) a.2
    ∙ blocks_go s (block_to f b) bs rest a.3

header_goes : (s : State) (h : HeaderTree) → NewHeader s h → NewNames [] (parameter_names h) → declare_func s h ≡ Ok (entered (named s h) (Function (declared_func (length s.names) h [])))
unfolding opened
header_goes s h n p =
    ap (λ o. unless_then o (with_func s h (opened (length s.names) h))) (passes_header s h n)
    ∙ ap (λ b. with_func s h (cond b (Some (declared_func (length s.names) h [])) None)) (new_fresh [] (parameter_names h) p)

pub all_go : (s : State) (ds : List Declaration) → s.stage ≡ Between → All IsWhole ds → Asks s ds → run s (lines_of_all ds) ≡ Ok (leaves s ds)
unfolding run finished
all_go s [] e w a = ap (finished_at s) e
all_go s ((variable v) ∷ ds) e w a =
    let k = λ (u : State). run u (lines_of_all ds) in
    ap (λ y. go_on (line_at s y (var_line v)) k) e ∙ unless_none_goes (var_fault s v) (with_var s v) k (passes_var s v a.0) ∙ all_go (with_var s v) ds e (whole_tail (variable v) ds w) a.1
all_go s ((function h bs) ∷ ds) e w a =
    let n = length s.names in
    let k = λ (u : State). run u (lines_of_blocks bs ++ lines_of_all ds) in
    ap (λ y. go_on (line_at s y (func_line h)) k) e
    ∙ ap (λ r. go_on r k) (header_goes s h a.0 a.1)
    ∙ blocks_go (named s h) (declared_func n h []) bs (lines_of_all ds) a.2
    ∙ ap (λ f. run (entered (named s h) (Function f)) (lines_of_all ds)) (func_to n h bs)
    ∙ close_run (named s h) (declared_func n h bs) ds (some_blocks (length bs) (whole_head h bs ds w))
    ∙ all_go (closed_with s h bs) ds refl (whole_tail (function h bs) ds w) a.3

-- and asks this where it goes through them

values_asked : (s t : State) (f : FuncTree) (b : OpenTree) (vs : List ValueTree) (rest : List Line) → run (entered s (Block f b)) (map value_line vs ++ rest) ≡ Ok t → AsksValues f vs
unfolding run
values_asked s t f b [] rest x = tt
values_asked s t f b (v ∷ vs) rest x =
    let next = entered s (Block (with_value f v) (with_next b v)) in
    let on = went_on (add_value (entered s (Block f b)) f b v) (λ u. run u (map value_line vs ++ rest)) t x in (
      value_passes f v (unless_none (value_fault f v) next on.0 on.1),
      values_asked s t (with_value f v) (with_next b v) vs rest (subst (λ u. run u (map value_line vs ++ rest) ≡ Ok t) (sym (unless_ok (value_fault f v) next on.0 on.1)) on.2),
    )

label_asked : (s t : State) (f : FuncTree) (l : LabelTree) (rest : List Line) → run (entered s (Function f)) (block_line l ∷ rest) ≡ Ok t → NewBlock f.block_ids l
unfolding run
label_asked s t f l rest x =
    let on = went_on (open_block (entered s (Function f)) f l) (λ u. run u rest) t x in
    block_passes f l (unless_none (block_fault f l) (entered s (Block (with_block f l) (fresh_block l))) on.0 on.1)

end_asked : (s t : State) (f : FuncTree) (b : OpenTree) (e : EndTree) (rest : List Line) → run (entered s (Block f b)) (end_line e ∷ rest) ≡ Ok t → EndNumbers e
unfolding run
end_asked s t f b e rest x =
    let on = went_on (end_block (entered s (Block f b)) f b e) (λ u. run u rest) t x in
    end_passes e (unless_none (end_fault e) (entered s (Function (with_end f b e))) on.0 on.1)

blocks_asked : (s t : State) (f : FuncTree) (bs : List BlockTree) (rest : List Line) → run (entered s (Function f)) (lines_of_blocks bs ++ rest) ≡ Ok t → AsksBlocks f bs
blocks_asked s t f [] rest x = tt
blocks_asked s t f (b ∷ bs) rest x =
    let g = with_block f b.label in
    let tail = ((map value_line b.values ++ end_line b.end ∷ []) ++ lines_of_blocks bs) ++ rest in
    let behind = end_line b.end ∷ (lines_of_blocks bs ++ rest) in
    let values = subst (λ ls. run (entered s (Block g (fresh_block b.label))) ls ≡ Ok t) (regrouped b (lines_of_blocks bs) rest) (label_run s t f b.label tail x) in
    let last = values_run s t g (fresh_block b.label) b.values behind values in
    let ended = end_run s t (values_to g b.values) (more_values (fresh_block b.label) b.values) b.end (lines_of_blocks bs ++ rest) last in (
      label_asked s t f b.label tail x,
      values_asked s t g (fresh_block b.label) b.values behind values,
      end_asked s t (values_to g b.values) (more_values (fresh_block b.label) b.values) b.end (lines_of_blocks bs ++ rest) last,
      blocks_asked s t (block_to f b) bs rest ended,
    )

opened_asked : (n : ℕ) (h : HeaderTree) (s t : State) (b : Bool) → are_fresh [] (parameter_names h) ≡ b → with_func s h (cond b (Some (declared_func n h [])) None) ≡ Ok t → NewNames [] (parameter_names h)
opened_asked n h s t true e x = fresh_new [] (parameter_names h) e
opened_asked n h s t false e x = absurd (cc)

header_asked : (s t : State) (h : HeaderTree) → declare_func s h ≡ Ok t → NewHeader s h × NewNames [] (parameter_names h)
unfolding opened
header_asked s t h x =
    let o = with_func s h (opened (length s.names) h) in (
      header_passes s h (then_none (header_fault s h) o t x),
      opened_asked (length s.names) h s t (are_fresh [] (parameter_names h)) refl (then_ok (header_fault s h) o t x),
    )

pub all_asked : (s t : State) (ds : List Declaration) → s.stage ≡ Between → All IsWhole ds → run s (lines_of_all ds) ≡ Ok t → Asks s ds
unfolding run finished
all_asked s t [] e w x = tt
all_asked s t ((variable v) ∷ ds) e w x =
    let on = went_on (line_at s s.stage (var_line v)) (λ u. run u (lines_of_all ds)) t x in
    let here = subst (λ y. line_at s y (var_line v) ≡ Ok on.0) e on.1 in
    let same = unless_ok (var_fault s v) (with_var s v) on.0 here in (
      var_passes s v (unless_none (var_fault s v) (with_var s v) on.0 here),
      all_asked (with_var s v) t ds e (whole_tail (variable v) ds w) (subst (λ u. run u (lines_of_all ds) ≡ Ok t) (sym same) on.2),
    )
all_asked s t ((function h bs) ∷ ds) e w x =
    let rest = lines_of_blocks bs ++ lines_of_all ds in
    let n = length s.names in
    let on = went_on (line_at s s.stage (func_line h)) (λ u. run u rest) t x in
    let here = subst (λ y. line_at s y (func_line h) ≡ Ok on.0) e on.1 in
    let same = opened_run s on.0 h (opened n h) refl (then_ok (header_fault s h) (with_func s h (opened n h)) on.0 here) in
    let opening = subst (λ u. run u rest ≡ Ok t) (sym same) on.2 in
    let behind = subst (λ f. run (entered (named s h) (Function f)) (lines_of_all ds) ≡ Ok t) (func_to n h bs) (blocks_run (named s h) t (declared_func n h []) bs (lines_of_all ds) opening) in
    let whole = some_blocks (length bs) (whole_head h bs ds w) in
    let asked = header_asked s on.0 h here in (
      asked.0,
      asked.1,
      blocks_asked (named s h) t (declared_func n h []) bs (lines_of_all ds) opening,
      all_asked (closed_with s h bs) t ds refl (whole_tail (function h bs) ds w) (sym (close_run (named s h) (declared_func n h bs) ds whole) ∙ behind),
    )

-- What is asked of a function, whatever its order.

pub record ValuesFit (seen : List ℕ) (vs : List ValueTree) : Type 0 where
  pub new : NewNumbers seen (map id_of vs)
  pub few : length seen + length vs ≤ 16384
  pub numbers : All (λ (v : ValueTree). IsNumber v.id × AreNumbers v.args) vs

abbrev HasValueNumbers : ValueTree → Type 0
HasValueNumbers v = IsNumber v.id × AreNumbers v.args

values_fit : (f : FuncTree) (vs : List ValueTree) → length f.value_ids ≤ 16384 → AsksValues f vs → ValuesFit f.value_ids vs
values_fit f [] l a = record { new = tt; few = omega (arith, l); numbers = All-nil HasValueNumbers }
values_fit f (v ∷ vs) l a =
    let longer = length-append f.value_ids (v.id ∷ []) in
    let more = values_fit (with_value f v) vs (omega (arith, a.0.few, longer)) a.1 in
    record {
      new = (a.0.fresh, more.new);
      few = omega (arith, more.few, longer);
      numbers = All-cons HasValueNumbers v vs (a.0.id, a.0.args) more.numbers;
    }

fit_values : (f : FuncTree) (vs : List ValueTree) → ValuesFit f.value_ids vs → AsksValues f vs
fit_values f [] k = tt
fit_values f (v ∷ vs) k =
    let here = All-head HasValueNumbers v vs k.numbers in (
      record { few = omega (arith, k.few); id = here.0; args = here.1; fresh = k.new.0 },
      fit_values (with_value f v) vs (record { new = k.new.1; few = omega (arith, k.few, length-append f.value_ids (v.id ∷ [])); numbers = All-tail HasValueNumbers v vs k.numbers }),
    )

pub record BlocksFit (values ids : List ℕ) (bs : List BlockTree) : Type 0 where
  pub new_values : NewNumbers values (value_ids bs)
  pub new_ids : NewNumbers ids (block_ids bs)
  pub few_values : length values + length (value_ids bs) ≤ 16384
  pub few_blocks : length ids + length bs ≤ 4096
  pub numbers : All HasNumbers bs

next_values : (f : FuncTree) (b : BlockTree) → (block_to f b).value_ids ≡ f.value_ids ++ map id_of b.values
next_values f b = ap (λ (g : FuncTree). g.value_ids) (block_is f b)

next_ids : (f : FuncTree) (b : BlockTree) → (block_to f b).block_ids ≡ f.block_ids ++ b.label.id ∷ []
next_ids f b = ap (λ (g : FuncTree). g.block_ids) (block_is f b)

map_counted : (vs : List ValueTree) → length (map id_of vs) ≡ length vs
map_counted [] = refl
map_counted (v ∷ vs) = ap suc (map_counted vs)

blocks_fit : (f : FuncTree) (bs : List BlockTree) → length f.value_ids ≤ 16384 → length f.block_ids ≤ 4096 → AsksBlocks f bs → BlocksFit f.value_ids f.block_ids bs
blocks_fit f [] l m a = record { new_values = tt; new_ids = tt; few_values = omega (arith, l); few_blocks = omega (arith, m); numbers = All-nil HasNumbers }
blocks_fit f (b ∷ bs) l m a =
    let values = values_fit (with_block f b.label) b.values l a.1 in
    let ids : length (f.value_ids ++ map id_of b.values) ≡ length f.value_ids + length b.values = length-append f.value_ids (map id_of b.values) ∙ ap (λ n. length f.value_ids + n) (map_counted b.values) in
    let blocks = length-append f.block_ids (b.label.id ∷ []) in
    let behind = blocks_fit (block_to f b) bs (omega (arith, ap length (next_values f b), ids, values.few)) (omega (arith, ap length (next_ids f b), blocks, a.0.few)) a.3 in
    let more = subst (λ ns. BlocksFit ns (f.block_ids ++ b.label.id ∷ []) bs) (next_values f b) (subst (λ ns. BlocksFit (block_to f b).value_ids ns bs) (next_ids f b) behind) in
    record {
      new_values = new_front same_number f.value_ids (map id_of b.values) (value_ids bs) values.new more.new_values;
      new_ids = (a.0.fresh, more.new_ids);
      few_values = omega (arith, more.few_values, length-append f.value_ids (map id_of b.values), length-append (map id_of b.values) (value_ids bs));
      few_blocks = omega (arith, more.few_blocks, blocks);
      numbers = All-cons HasNumbers b bs (record { id = a.0.id; preds = a.0.preds; values = values.numbers; control = a.2.control; succs = a.2.succs }) more.numbers;
    }

fit_blocks : (f : FuncTree) (bs : List BlockTree) → BlocksFit f.value_ids f.block_ids bs → AsksBlocks f bs
fit_blocks f [] k = tt
fit_blocks f (b ∷ bs) k =
    let here = All-head HasNumbers b bs k.numbers in
    let parts = new_parts same_number f.value_ids (map id_of b.values) (value_ids bs) k.new_values in
    let all = length-append (map id_of b.values) (value_ids bs) in
    let more : BlocksFit (f.value_ids ++ map id_of b.values) (f.block_ids ++ b.label.id ∷ []) bs = record {
      new_values = parts.1;
      new_ids = k.new_ids.1;
      few_values = omega (arith, k.few_values, length-append f.value_ids (map id_of b.values), all);
      few_blocks = omega (arith, k.few_blocks, length-append f.block_ids (b.label.id ∷ []));
      numbers = All-tail HasNumbers b bs k.numbers;
    } in
    let behind = subst (λ ns. BlocksFit (block_to f b).value_ids ns bs) (sym (next_ids f b)) (subst (λ ns. BlocksFit ns (f.block_ids ++ b.label.id ∷ []) bs) (sym (next_values f b)) more) in (
      record { few = omega (arith, k.few_blocks); id = here.id; preds = here.preds; fresh = k.new_ids.0 },
      fit_values (with_block f b.label) b.values (record { new = parts.0; few = omega (arith, k.few_values, all, map_counted b.values); numbers = here.values }),
      record { control = here.control; succs = here.succs },
      fit_blocks (block_to f b) bs behind,
    )

none_apart : {A : Type 0} → Apart {A = A} []
none_apart {A} = λ i j d l m. absurd (omega arith)

keeps_function : (n : ℕ) (h : HeaderTree) (bs : List BlockTree) → length h.parameters + length h.results ≤ 64 → NewNames [] (parameter_names h) → AsksBlocks (declared_func n h []) bs → KeepsFunction h bs
keeps_function n h bs places p a =
    let fit = blocks_fit (declared_func n h []) bs (omega arith) (omega arith) a in
    record {
      places = places;
      parameters = new_apart bytes_eq bytes_eq-Decides [] (parameter_names h) none_apart p;
      few_values = omega (arith, fit.few_values);
      few_blocks = omega (arith, fit.few_blocks);
      values = new_apart same_number numbers_tell [] (value_ids bs) none_apart fit.new_values;
      blocks = new_apart same_number numbers_tell [] (block_ids bs) none_apart fit.new_ids;
      numbers = fit.numbers;
    }

function_blocks : (n : ℕ) (h : HeaderTree) (bs : List BlockTree) → KeepsFunction h bs → AsksBlocks (declared_func n h []) bs
function_blocks n h bs k = fit_blocks (declared_func n h []) bs (record {
  new_values = apart_new same_number numbers_tell [] (value_ids bs) k.values;
  new_ids = apart_new same_number numbers_tell [] (block_ids bs) k.blocks;
  few_values = omega (arith, k.few_values);
  few_blocks = omega (arith, k.few_blocks);
  numbers = k.numbers;
})

-- What is asked of all declarations.

pub record RestKeeps (s : State) (ds : List Declaration) : Type 0 where
  pub few_funcs : length s.funcs + func_count ds ≤ 4096
  pub few_vars : length s.vars + var_count ds ≤ 4096
  pub new : NewNames s.names (names_of_all ds)
  pub free : All (λ n. is_reserved n ≡ false) (names_of_all ds)
  pub window : KeepsWindow s.window ds
  pub each : All Keeps ds

abbrev IsFree : List ℕ → Type 0
IsFree n = is_reserved n ≡ false

asks_keeps : (s : State) (ds : List Declaration) → length s.funcs ≤ 4096 → length s.vars ≤ 4096 → Asks s ds → RestKeeps s ds
asks_keeps s [] l m a = record { few_funcs = omega (arith, l); few_vars = omega (arith, m); new = tt; free = All-nil IsFree; window = tt; each = All-nil Keeps }
asks_keeps s ((variable v) ∷ ds) l m a =
    let longer = length-append s.vars (new_var s v ∷ []) in
    let more = asks_keeps (with_var s v) ds l (omega (arith, a.0.few, longer)) a.1 in
    record {
      few_funcs = more.few_funcs;
      few_vars = omega (arith, more.few_vars, longer);
      new = (a.0.fresh, more.new);
      free = All-cons IsFree v.name (names_of_all ds) a.0.free more.free;
      window = (a.0.window, more.window);
      each = All-cons Keeps (variable v) ds tt more.each;
    }
asks_keeps s ((function h bs) ∷ ds) l m a =
    let longer = length-append s.funcs (declared_func (length s.names) h bs ∷ []) in
    let more = asks_keeps (closed_with s h bs) ds (omega (arith, a.0.few, longer)) m a.3 in
    record {
      few_funcs = omega (arith, more.few_funcs, longer);
      few_vars = more.few_vars;
      new = (a.0.fresh, more.new);
      free = All-cons IsFree h.name (names_of_all ds) a.0.free more.free;
      window = more.window;
      each = All-cons Keeps (function h bs) ds (keeps_function (length s.names) h bs a.0.places a.1 a.2) more.each;
    }

keeps_asks : (s : State) (ds : List Declaration) → RestKeeps s ds → Asks s ds
keeps_asks s [] k = tt
keeps_asks s ((variable v) ∷ ds) k = (
  record { few = omega (arith, k.few_vars); window = k.window.0; free = All-head IsFree v.name (names_of_all ds) k.free; fresh = k.new.0 },
  keeps_asks (with_var s v) ds (record {
    few_funcs = k.few_funcs;
    few_vars = omega (arith, k.few_vars, length-append s.vars (new_var s v ∷ []));
    new = k.new.1;
    free = All-tail IsFree v.name (names_of_all ds) k.free;
    window = k.window.1;
    each = All-tail Keeps (variable v) ds k.each;
  }),
)
keeps_asks s ((function h bs) ∷ ds) k =
    let here : KeepsFunction h bs = All-head Keeps (function h bs) ds k.each in (
      record { few = omega (arith, k.few_funcs); places = here.places; free = All-head IsFree h.name (names_of_all ds) k.free; fresh = k.new.0 },
      apart_new bytes_eq bytes_eq-Decides [] (parameter_names h) here.parameters,
      function_blocks (length s.names) h bs here,
      keeps_asks (closed_with s h bs) ds (record {
        few_funcs = omega (arith, k.few_funcs, length-append s.funcs (declared_func (length s.names) h bs ∷ []));
        few_vars = k.few_vars;
        new = k.new.1;
        free = All-tail IsFree h.name (names_of_all ds) k.free;
        window = k.window;
        each = All-tail Keeps (function h bs) ds k.each;
      }),
    )

-- The reader and the limits.

pub run_keeps : (t : State) (ds : List Declaration) → All IsWhole ds → run at_start (lines_of_all ds) ≡ Ok t → KeepsLimits ds
run_keeps t ds w x =
    let k = asks_keeps at_start ds (omega arith) (omega arith) (all_asked at_start t ds refl w x) in
    record {
      few_funcs = omega (arith, k.few_funcs);
      few_vars = omega (arith, k.few_vars);
      differ = new_apart bytes_eq bytes_eq-Decides [] (names_of_all ds) none_apart k.new;
      free = k.free;
      window = k.window;
      each = k.each;
    }

pub keeps_run : (ds : List Declaration) → All IsWhole ds → KeepsLimits ds → run at_start (lines_of_all ds) ≡ Ok (leaves at_start ds)
keeps_run ds w k = all_go at_start ds refl w (keeps_asks at_start ds (record {
  few_funcs = omega (arith, k.few_funcs);
  few_vars = omega (arith, k.few_vars);
  new = apart_new bytes_eq bytes_eq-Decides [] (names_of_all ds) k.differ;
  free = k.free;
  window = k.window;
  each = k.each;
}))

-- A text reads as a package exactly where it spells declarations that keep the limits, and the package is what they declare.

same_package : (ds : List Declaration) (t : State) → Left ds t → package_of t.names t.funcs t.vars ≡ package_of (names_of_all ds) (funcs_from 0 ds) (vars_from 0 ds)
same_package ds t l = ap (λ x. package_of x t.funcs t.vars) l.names ∙ ap (λ x. package_of (names_of_all ds) x t.vars) l.funcs ∙ ap (package_of (names_of_all ds) (funcs_from 0 ds)) l.vars

pub read_declares : (text : List ℕ) (p : PackageRecord) → reading text ≡ Ok p → (ds : List Declaration) × SpellsPackage text ds p
read_declares text p h =
    let d = text_declares text p h in
    let left = run_leaves d.last d.all d.spelled.whole d.goes in
    (d.all, record { spelled = d.spelled; limits = run_keeps d.last d.all d.spelled.whole d.goes; found = sym (same_package d.all d.last left) ∙ d.found })

pub declares_read : (text : List ℕ) (p : PackageRecord) (ds : List Declaration) → SpellsPackage text ds p → reading text ≡ Ok p
declares_read text p ds k =
    let t = leaves at_start ds in
    let goes = keeps_run ds k.spelled.whole k.limits in
    reads_declared text ds t p k.spelled goes (same_package ds t (run_leaves t ds k.spelled.whole goes) ∙ k.found)
